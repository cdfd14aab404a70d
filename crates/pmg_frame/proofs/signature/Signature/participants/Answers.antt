use Rattle.std.proofs.Common.{sym, ◌∙◌, ap}
use Rattle.pmg_value.proofs.ProcessOrder.{procs_total, exact_procs}
use Rattle.pmg_value.specs.Signatures.{Signature}
use Rattle.pmg_value.specs.InOrder.{in_order}
use Rattle.pmg_value.proofs.SetOrder.{in_order-from_list}
use Rattle.pmg_frame.specs.Listed.{listed_in}
use Rattle.pmg_frame.proofs.signature.Signature.participants.Goals as goal

pub returns-clause-value : goal.returns-clause-value
returns-clause-value c =
    c.as_slice.ensures ∙ sym (in_order-from_list procs_total exact_procs (listed_in c.self.inside.participants) c.self.invariant.rising)
    ∙ ap (λ (s : Signature). in_order s.participants) c.self.view_is
