use Rattle.std.proofs.Common.{ap, ◌∙◌}
use Rattle.std.proofs.lemmas.Result.{IfOk-weaker}
use Rattle.pmg_node_parts.specs.Calls.{all_waiting_in}
use Rattle.pmg_node_parts.specs.Codes.{Calls}
use Rattle.pmg_node_parts.proofs.CallIndex.{procs_listed}
use Rattle.pmg_node_parts.proofs.calls.Calls.waiting_in.Goals as goal

pub returns : goal.returns
returns c = IfOk-weaker c.list.result _ _
    (λ procs is. is ∙ procs_listed _ c.self.inside.waiting c.self.invariant c.args.name.now ∙ ap (λ (all : Calls). all_waiting_in all c.args.name.now) c.self.view_is) c.list.ensures
