use Rattle.std.proofs.Common.{ap, ◌∙◌}
use Rattle.std.proofs.lemmas.Result.{IfOk-weaker}
use Rattle.pmg_node_parts.specs.Calls.{all_waited}
use Rattle.pmg_node_parts.specs.Codes.{Calls}
use Rattle.pmg_node_parts.proofs.CallIndex.{names_listed}
use Rattle.pmg_node_parts.proofs.calls.Calls.waited_fences.Goals as goal

pub returns : goal.returns
returns c = IfOk-weaker c.names.result _ _
    (λ names is. is ∙ names_listed _ c.self.inside.waiting c.self.invariant ∙ ap (λ (all : Calls). all_waited all) c.self.view_is) c.names.ensures
