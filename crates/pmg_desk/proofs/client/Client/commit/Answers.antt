use Rattle.std.proofs.Common.{rules, ◌≡◌, subst}
use Rattle.pmg_node_model.specs.Acts.{Act, Reply}
use Rattle.pmg_node.specs.Acting.{reply_as}
use Rattle.pmg_node.specs.Servers.{reply_in}
use Rattle.pmg_desk.specs.Clients.{Tells, batch_of, proc_of}
use Rattle.pmg_desk.proofs.ClientLemmas.{same_told}
use Rattle.pmg_desk.proofs.KindLemmas.{told_kind}
use Rattle.pmg_desk.proofs.SeenLemmas.{commit_is_seen}
use Rattle.pmg_desk.proofs.client.Client.commit.Goals as goal

pub committed_by-requires : goal.committed_by-requires
committed_by-requires g c = told_kind _ _ (Act.commit _ _) c.call.result c.call.ensures.told

pub returns-clause-told : goal.returns-clause-told
returns-clause-told g c = λ event.
    let d = c.call.new.self in
    let p = c.in_ok-copy.field-0 in
    let b = c.in_ok-unsealed.field-0 in
    let proc : p ≡ proc_of c.args.self.now = search rules in
    let batch : b ≡ batch_of c.args.self.now = search rules in
    subst (λ (a : Act). Tells c.args.self.now d a (reply_in Reply.committed c.committed_by.result)) (λ i. Act.commit (proc i) (batch i))
    (same_told Reply.committed reply_as c.args.self.now d (Act.commit p b) c.committed_by.result c.call.result c.committed_by.ensures c.call.ensures.told event)

pub returns-clause-seen : goal.returns-clause-seen
returns-clause-seen g c =
    commit_is_seen c.args.self.now c.call.new.self (proc_of c.args.self.now) (batch_of c.args.self.now) c.committed_by.result (returns-clause-told g c)
