use Rattle.std.proofs.Common.{inr, subst}
use Rattle.pmg_value.specs.declared.process.Proc.{Proc}
use Rattle.pmg_node_model.specs.Acts.{Act, Request}
use Rattle.pmg_node.specs.Replies.{release_reply}
use Rattle.pmg_node.specs.Servers.{reply_in}
use Rattle.pmg_desk.specs.Clients.{Tells}
use Rattle.pmg_desk.proofs.client.Client.fence.Goals as goal

pub returns-clause-told : goal.returns-clause-told
returns-clause-told g c = λ event. inr (
  c.enter.new.self,
  c.in_ok-enter.field-0,
  c.in_ok-enter.ensures.told tt,
  subst (λ (q : Proc). Tells c.enter.new.self c.leave.new.self (Act.request (Request.leave q)) (reply_in release_reply c.leave.result)) c.enter.ensures.later.proc (c.leave.ensures.told event),
)
