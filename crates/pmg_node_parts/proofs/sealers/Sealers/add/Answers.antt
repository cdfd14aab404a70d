use Rattle.std.proofs.Common.{List, sym, subst, ◌∙◌}
use Rattle.std.specs.FinMap as finite
use Rattle.std.proofs.lemmas.Bool.{false≢true}
use Rattle.pmg_value.specs.Rows.{map_of}
use Rattle.pmg_value.specs.declared.process.Proc.{Proc}
use Rattle.pmg_value.proofs.ProcessOrder.{procs_total, exact_procs}
use Rattle.pmg_value.proofs.RowLemmas.{rows_with}
use Rattle.pmg_commit.specs.Sealed.{Sealed}
use Rattle.pmg_node_parts.specs.Sealers.{NoneEnded}
use Rattle.pmg_node_parts.proofs.SealerLemmas.{none_with}
use Rattle.pmg_node_parts.proofs.sealers.Sealers.add.Goals as goal
use Rattle.pmg_node_parts.proofs.sealers.Sealers.add.Goals.{then-self, else-self}

pub invariant_of-self-in_err-insert : goal.invariant_of-self-in_err-insert
invariant_of-self-in_err-insert c = λ e. elim c.if-self.branch [
  | then-self w ↦ absurd (false≢true (sym e ∙ w.self-is ∙ w.if-self.true))
  | else-self w ↦ subst (λ (rows : List (Proc × Sealed)). NoneEnded (map_of rows)) (sym c.in_err-insert.ensures.err) (c.self.invariant w.if-self.false)
]

pub invariant_of-self-2 : goal.invariant_of-self-2
invariant_of-self-2 c = λ e. elim c.if-self.branch [
  | then-self w ↦ absurd (false≢true (sym e ∙ w.self-is ∙ w.if-self.true))
  | else-self w ↦
      let old = c.self.inside.rows.entries in
      let p = c.in_ok-copy.field-0 in
      subst NoneEnded (sym (rows_with procs_total exact_procs (λ (z : Sealed). z) old c.insert.new.self.entries p c.args.sealer c.in_ok-insert.ensures.updates.0))
      (none_with (map_of old) p c.args.sealer (c.self.invariant w.if-self.false) (sym w.has_ended-self-inside.ensures ∙ sym w.self-is ∙ e))
]

pub returns-clause-ok : goal.returns-clause-ok
returns-clause-ok c =
    rows_with procs_total exact_procs (λ (z : Sealed). z) c.self.inside.rows.entries c.insert.new.self.entries c.in_ok-copy.field-0 c.args.sealer c.in_ok-insert.ensures.updates.0
    ∙ (λ i. finite.insert (c.self.view_is i) (c.in_ok-copy.ensures i) c.args.sealer)
