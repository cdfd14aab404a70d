use Rattle.std.proofs.Common.{Result, subst}
use Rattle.pmg_value.specs.declared.refusal.Refusal.{Refusal}
use Rattle.pmg_daemon.specs.Arguments.{ReadsArguments}
use Rattle.pmg_daemon.specs.Calls.{proc_call_of}
use Rattle.pmg_daemon.specs.declared.call.ProcCall.{ProcCall}
use Rattle.pmg_daemon.proofs.CallLemmas.{made_by, made_none}
use Rattle.pmg_daemon.proofs.daemon.Daemon.answer.Goals as goal

pub returns-in-Ok-clause-made : goal.returns-in-Ok-clause-made
returns-in-Ok-clause-made c = λ due reads.
    made_by (proc_call_of c.in-Ok.call) due c.args.self.now.link c.make.new.link c.make.result
    (subst (λ (k : Result ProcCall Refusal). ReadsArguments proc_call_of k due) c.in-Ok.is reads) c.make.ensures.reply c.make.ensures.after c.make.ensures.memory

pub returns-in-Err-clause-made : goal.returns-in-Err-clause-made
returns-in-Err-clause-made c = λ due reads.
    made_none c.in-Err.refusal due c.args.self.now.link (subst (λ (k : Result ProcCall Refusal). ReadsArguments proc_call_of k due) c.in-Err.is reads)
