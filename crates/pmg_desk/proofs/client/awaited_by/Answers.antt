use Rattle.pmg_desk.proofs.WaitLemmas.{past_replies}
use Rattle.pmg_desk.proofs.client.awaited_by.Goals as goal

pub returns-in-Some : goal.returns-in-Some
returns-in-Some c = λ act reply replies. past_replies c.args.proc c.args.past c.in-Some.status c.in-Some.is act reply replies
