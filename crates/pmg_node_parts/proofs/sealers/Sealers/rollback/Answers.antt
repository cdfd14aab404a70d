use Rattle.std.proofs.Common.{sym, ap, subst, ◌∙◌}
use Rattle.std.specs.FinMap as finite
use Rattle.std.specs.Option.{unwrap_or}
use Rattle.pmg_value.specs.Rows.{map_of}
use Rattle.pmg_value.proofs.ProcessOrder.{procs_total, exact_procs}
use Rattle.pmg_value.proofs.RowLemmas.{found_there}
use Rattle.pmg_commit.specs.Sealed.{Sealed, fresh}
use Rattle.pmg_commit.specs.TakenBack.{sealer_back, CanRollBack}
use Rattle.pmg_node_parts.proofs.SealerLemmas.{resealed, not_there}
use Rattle.pmg_node_parts.proofs.sealers.Sealers.rollback.Goals as goal
use Rattle.pmg_node_parts.proofs.sealers.Sealers.rollback.Goals.{in-Some, in_default}

pub rollback-requires : goal.rollback-requires
rollback-requires c =
    let there = found_there procs_total exact_procs c.self.inside.rows.entries c.args.self.now c.args.proc.now c.self.view_is c.get_mut.result c.in-Some.sealer c.in-Some.is c.get_mut.ensures.value in
    subst (λ (z : Sealed). CanRollBack z c.args.before) (ap (λ o. unwrap_or o (fresh c.args.proc.now)) there) c.requires.fits

pub returns : goal.returns
returns c = elim c.match-get_mut.branch [
  | in-Some w ↦
      let its = resealed c.self.inside.rows.entries c.args.self.now c.args.proc.now c.self.view_is c.get_mut.result w.in-Some.sealer w.in-Some.is c.get_mut.ensures.value
      (c.get_mut.follows.lender w.rollback.new.self).entries w.rollback.new.self (λ some. ((c.get_mut.follows.holds w.rollback.new.self).3 some).0) in
      ap (λ a. map_of a.rows.entries) w.self-inside-is
      ∙ its.put ∙ ap (finite.insert c.args.self.now c.args.proc.now) (w.rollback.ensures ∙ ap (λ (z : Sealed). sealer_back z c.args.before) (sym its.was_there))
  | in_default w ↦ not_there c.self.inside.rows.entries c.args.self.now c.args.proc.now c.self.view_is c.requires.own (sym w.in_default.ensures.value)
]
