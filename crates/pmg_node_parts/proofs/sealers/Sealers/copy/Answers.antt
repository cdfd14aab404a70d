use Rattle.std.proofs.Common.{sym, subst, ◌∙◌}
use Rattle.pmg_value.proofs.ProcessOrder.{procs_total, exact_procs}
use Rattle.pmg_value.proofs.RowLemmas.{same_rows}
use Rattle.pmg_commit.specs.Sealed.{Sealed}
use Rattle.pmg_node_parts.specs.Sealers.{NoneEnded}
use Rattle.pmg_node_parts.proofs.sealers.Sealers.copy.Goals as goal

pub invariant_of-result : goal.invariant_of-result
invariant_of-result c = λ e.
    subst NoneEnded (sym (same_rows procs_total exact_procs (λ (z : Sealed). z) c.in_ok-copy_rows.field-0.entries c.self.inside.rows.entries c.in_ok-copy_rows.ensures)) (c.self.invariant e)

pub returns : goal.returns
returns c = same_rows procs_total exact_procs (λ (z : Sealed). z) c.in_ok-copy_rows.field-0.entries c.self.inside.rows.entries c.in_ok-copy_rows.ensures ∙ c.self.view_is
