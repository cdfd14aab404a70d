use Rattle.std.proofs.Common.{rules, ◌≡◌}
use Rattle.pmg_node_model.specs.Acts.{Act, Request}
use Rattle.pmg_node.specs.Acting.{reply_as}
use Rattle.pmg_node.specs.Replies.{release_reply}
use Rattle.pmg_desk.specs.Clients.{proc_of}
use Rattle.pmg_desk.proofs.ClientLemmas.{same_told}
use Rattle.pmg_desk.proofs.KindLemmas.{told_kind}
use Rattle.pmg_desk.proofs.ReadyLemmas.{ready_known}
use Rattle.pmg_desk.proofs.WaitLemmas.{leave_waited}
use Rattle.pmg_desk.proofs.client.Client.leave.Goals as goal

pub release_by-requires : goal.release_by-requires
release_by-requires g c = told_kind _ _ (Act.request (Request.leave _)) c.request.result c.request.ensures.told

pub returns-clause-ready : goal.returns-clause-ready
returns-clause-ready g c =
    let copy : c.in_ok-copy.field-0 ≡ proc_of c.args.self.now = search rules in
    ready_known c.args.self.now c.request.new.self c.in_ok-copy.field-0 c.release_by.result c.request.ensures.later copy
    (same_told release_reply reply_as _ _ (Act.request (Request.leave _)) c.release_by.result c.request.result c.release_by.ensures c.request.ensures.told)

pub returns-clause-waited : goal.returns-clause-waited
returns-clause-waited g c =
    let copy : c.in_ok-copy.field-0 ≡ proc_of c.args.self.now = search rules in
    leave_waited (proc_of c.args.self.now) c.in_ok-copy.field-0 copy c.release_by.result c.request.result c.release_by.ensures c.request.ensures.past
