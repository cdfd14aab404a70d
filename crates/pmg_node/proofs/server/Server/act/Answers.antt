use Rattle.std.proofs.Common.{inl, sym, subst}
use Rattle.std.proofs.lemmas.Result.{err_from_is_err_and}
use Rattle.pmg_node.specs.Acting.{act_of, reply_as}
use Rattle.pmg_node.specs.Servers.{RepliesAct}
use Rattle.pmg_node.specs.declared.act.Act.{Act as AskedAct}
use Rattle.pmg_node.proofs.ReplyLemmas.{deliver_accepted}
use Rattle.pmg_node.proofs.server.Server.act.Goals as goal

pub returns-in_err-deliver-in-Deliver-clause-reply : goal.returns-in_err-deliver-in-Deliver-clause-reply
returns-in_err-deliver-in-Deliver-clause-reply c =
    let s = c.args.self.now in
    let p = err_from_is_err_and c.from_residual-in_err-deliver-in-Deliver.result c.from_residual-in_err-deliver-in-Deliver.ensures.1 in
    subst (λ (a : AskedAct). RepliesAct reply_as c.from_residual-in_err-deliver-in-Deliver.result s (act_of a)) (sym c.in-Deliver.is)
    (rw (p.1, p.2) (inl (deliver_accepted s.jobs s.id s.holding c.in-Deliver.frame)))
