use Rattle.std.proofs.Common.{◌≡◌, inl, refl, sym, subst}
use Rattle.std.specs.Prelude.{IfOk}
use Rattle.std.proofs.lemmas.Result.{err_from_is_err_and}
use Rattle.pmg_node.specs.Acting.{act_of, acted_reply, commit_joins, joins_in}
use Rattle.pmg_node_model.specs.Acts.{Act}
use Rattle.pmg_node.specs.Joining.{joins}
use Rattle.pmg_node.specs.Replies.{committed_reply}
use Rattle.pmg_node.specs.Servers.{RepliesAct}
use Rattle.pmg_node.specs.declared.act.Act.{Act as AskedAct}
use Rattle.pmg_node.proofs.ReplyLemmas.{act_told, deliver_accepted, sealed_told}
use Rattle.pmg_node.proofs.server.Server.act_into.Goals as goal

pub returns-in_err-deliver_joined-in-Deliver-clause-reply : goal.returns-in_err-deliver_joined-in-Deliver-clause-reply
returns-in_err-deliver_joined-in-Deliver-clause-reply c =
    let s = c.args.self.now in
    let p = err_from_is_err_and c.from_residual.result c.from_residual.ensures.1 in
    subst (λ (a : AskedAct). RepliesAct acted_reply c.from_residual.result s (act_of a)) (sym c.in-Deliver.is)
    (rw (p.1, p.2) (inl (deliver_accepted s.jobs s.id s.holding c.in-Deliver.frame)))

pub returns-in-Commit-clause-reply : goal.returns-in-Commit-clause-reply
returns-in-Commit-clause-reply c =
    let s = c.args.self.now in
    let a : Act = Act.commit c.in-Commit.proc c.in-Commit.batch in
    subst (λ (x : AskedAct). RepliesAct acted_reply c.as_committed.result s (act_of x)) (sym c.in-Commit.is)
    (act_told committed_reply commit_joins c.commit_joined.result c.as_committed.result s a c.as_committed.ensures c.commit_joined.ensures.reply)

pub returns-in-Commit-clause-joined : goal.returns-in-Commit-clause-joined
returns-in-Commit-clause-joined c =
    let s = c.args.self.now in
    let a : Act = Act.commit c.in-Commit.proc c.in-Commit.batch in
    subst (λ (x : AskedAct). IfOk c.as_committed.result (λ acted. joins_in acted.joined ≡ joins s.jobs s.id s.holding (act_of x))) (sym c.in-Commit.is)
    (sealed_told committed_reply s a c.in-Commit.proc c.commit_joined.new.self (λ z. refl) (λ h. refl) c.commit_joined.result c.as_committed.result c.as_committed.ensures c.commit_joined.ensures.reply c.commit_joined.ensures.done
    c.commit_joined.ensures.near c.commit_joined.ensures.far)
