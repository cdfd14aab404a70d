use Rattle.std.proofs.Common.{ℕ, nat_le, rules}
use Rattle.std.proofs.lemmas.Map.Made.{filter_same_pairs}
use Rattle.pmg_dmodex.proofs.LevelLemmas.{not_below_are}
use Rattle.pmg_dmodex.proofs.levels.NodeLevels.drop_below.Goals as goal

pub returns : goal.returns
returns c =
    not_below_are c.self.inside.rows.entries c.args.self.now c.args.level c.self.view_is c.retain.ensures.was_ordered c.retain.new.self.entries
    (filter_same_pairs _ (λ (e : ℕ × ℕ). nat_le c.args.level e.1) _ (λ k v b w f' t. search rules) _ _ c.retain.ensures.filtered)
