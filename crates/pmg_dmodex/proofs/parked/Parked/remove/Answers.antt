use Rattle.std.proofs.Common.{ap, ◌∙◌}
use Rattle.std.specs.FinMap as finite
use Rattle.pmg_value.specs.Rows.{map_of}
use Rattle.pmg_dmodex.specs.Parked.{Askers}
use Rattle.pmg_dmodex.proofs.InnerLemmas.{changed_found, changed_none}
use Rattle.pmg_dmodex.proofs.parked.Parked.remove.Goals as goal
use Rattle.pmg_dmodex.proofs.parked.Parked.remove.Goals.{in-Some, in_default}

pub returns : goal.returns
returns c = let left = λ (m : Askers). finite.remove m c.args.asker.now in elim c.match-get_mut.branch [
  | in-Some w ↦ ap (λ a. map_of a.rows.entries) w.self-inside-is ∙ changed_found c.self.inside.rows.entries c.args.self.now c.args.target.now c.self.view_is left c.get_mut.result w.in-Some.askers w.remove.new.self (c.get_mut.follows.lender w.remove.new.self).entries w.in-Some.is c.get_mut.ensures.value w.remove.ensures (λ some. ((c.get_mut.follows.holds w.remove.new.self).3 some).0)
  | in_default w ↦ ap (λ a. map_of a.rows.entries) w.self-inside-is ∙ ap (λ a. map_of a.entries) c.get_mut.follows.holds-at-none ∙ changed_none c.self.inside.rows.entries c.args.self.now c.args.target.now c.self.view_is left w.in_default.ensures.value
]
