use Rattle.std.proofs.Common.{ap, ◌∙◌}
use Rattle.std.proofs.lemmas.Result.{IfOk-weaker}
use Rattle.pmg_node_parts.specs.Calls.{all_parked_on}
use Rattle.pmg_node_parts.specs.Codes.{Calls}
use Rattle.pmg_node_parts.proofs.CallIndex.{gets_listed}
use Rattle.pmg_node_parts.proofs.calls.Calls.parked_on.Goals as goal

pub returns : goal.returns
returns c = IfOk-weaker c.on.result _ _
    (λ gets is. is ∙ gets_listed _ c.self.inside.waiting c.self.invariant c.args.target.now ∙ ap (λ (all : Calls). all_parked_on all c.args.target.now) c.self.view_is) c.on.ensures
