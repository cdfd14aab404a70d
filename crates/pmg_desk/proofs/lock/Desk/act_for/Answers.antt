use Rattle.std.specs.Prelude.{IfOk}
use Rattle.std.proofs.Common.{Result, sym, subst}
use Rattle.pmg_value.specs.declared.refusal.Refusal.{Refusal}
use Rattle.pmg_node.specs.Acting.{act_of, reply_as}
use Rattle.pmg_node.specs.Servers.{reply_in}
use Rattle.pmg_journal.specs.declared.notes.AnswerCopies.{AnswerCopies}
use Rattle.pmg_desk.specs.Awaiting.{RepliesThere}
use Rattle.pmg_desk.proofs.WaitLemmas.{replies_there}
use Rattle.pmg_desk.proofs.lock.Desk.act_for.Goals as goal

pub returns-clause-there : goal.returns-clause-there
returns-clause-there g c =
    subst (λ (r : Result AnswerCopies Refusal). IfOk r (λ t. RepliesThere c.args.awaited.now (act_of c.args.act) (reply_in reply_as t.told))) (sym c.end_with.ensures)
    (replies_there c.args.awaited.now c.in-Some.held.state.node (act_of c.args.act) (λ (t : AnswerCopies). reply_in reply_as t.told) c.act_for-answer.result c.in-Some.ensures.there
    c.act_for-answer.ensures.step c.act_for-answer.ensures.shut)
