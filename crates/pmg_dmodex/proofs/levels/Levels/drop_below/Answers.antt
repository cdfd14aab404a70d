use Rattle.std.proofs.Common.{ap, ◌∙◌}
use Rattle.pmg_value.specs.Rows.{map_of}
use Rattle.pmg_dmodex.specs.Levels.{not_below}
use Rattle.pmg_dmodex.proofs.InnerLemmas.{changed_found, changed_none}
use Rattle.pmg_dmodex.proofs.levels.Levels.drop_below.Goals as goal
use Rattle.pmg_dmodex.proofs.levels.Levels.drop_below.Goals.{in-Some, in_default}

pub returns : goal.returns
returns c = elim c.match-get_mut.branch [
  | in-Some w ↦ ap (λ a. map_of a.rows.entries) w.self-inside-is ∙ changed_found c.self.inside.rows.entries c.args.self.now c.args.proc.now c.self.view_is (not_below c.args.level) c.get_mut.result w.in-Some.levels w.drop_below.new.self (c.get_mut.follows.lender w.drop_below.new.self).entries w.in-Some.is c.get_mut.ensures.value w.drop_below.ensures (λ some. ((c.get_mut.follows.holds w.drop_below.new.self).3 some).0)
  | in_default w ↦ ap (λ a. map_of a.rows.entries) w.self-inside-is ∙ ap (λ a. map_of a.entries) c.get_mut.follows.holds-at-none ∙ changed_none c.self.inside.rows.entries c.args.self.now c.args.proc.now c.self.view_is (not_below c.args.level) w.in_default.ensures.value
]
