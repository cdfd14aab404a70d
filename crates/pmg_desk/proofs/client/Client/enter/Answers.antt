use Rattle.pmg_node_model.specs.Acts.{Act, Reply, Request}
use Rattle.std.proofs.Common.{rules, ◌≡◌}
use Rattle.pmg_node.specs.Acting.{reply_as}
use Rattle.pmg_desk.specs.Clients.{proc_of}
use Rattle.pmg_desk.proofs.CallLemmas.{entered_known}
use Rattle.pmg_desk.proofs.ClientLemmas.{same_told}
use Rattle.pmg_desk.proofs.KindLemmas.{told_kind}
use Rattle.pmg_desk.proofs.client.Client.enter.Goals as goal

pub entered_by-requires : goal.entered_by-requires
entered_by-requires g c = told_kind _ _ (Act.request (Request.enter _ _ _)) c.request.result c.request.ensures.told

pub returns-clause-entered : goal.returns-clause-entered
returns-clause-entered g c =
    let p = c.in_ok-copy.field-0 in
    let copies = c.in_ok-copies_of.field-0.items in
    let copy : p ≡ proc_of c.args.self.now = search rules in
    entered_known c.args.self.now c.request.new.self p c.args.list.now copies c.args.collect c.entered_by.result c.request.ensures.later copy c.in_ok-copies_of.ensures
    (same_told Reply.entered reply_as _ _ (Act.request (Request.enter p copies c.args.collect)) c.entered_by.result c.request.result c.entered_by.ensures c.request.ensures.told)
