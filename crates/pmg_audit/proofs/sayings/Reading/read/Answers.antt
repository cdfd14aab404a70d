use Rattle.std.proofs.Common.{◌≡◌, Bool, true, Result, Ok, Err, IfOk}
use Rattle.pmg_value.specs.Spelling.{spelling}
use Rattle.pmg_value.specs.declared.process.Proc.{Proc}
use Rattle.pmg_node_model.specs.Acts.{Reply}
use Rattle.pmg_journal.specs.Transcripts.{Calling, noted}
use Rattle.pmg_audit.specs.Reading.{ReadsCall}
use Rattle.pmg_audit.proofs.sayings.Reading.read.Goals as goal

at_proc : {X : Type 0} (r : Result Bool X) (P : Proc → Type 0) (p : Proc) → IfOk r (λ t. t ≡ true → (q : Proc) → P q) → IfOk r (λ t. t ≡ true → P p)
at_proc (Ok t) P p all = λ e. all e p
at_proc (Err x) P p all = tt

pub returns-in-Done-clause-reads : goal.returns-in-Done-clause-reads
returns-in-Done-clause-reads c =
    rw (c.in-Put.is, c.in-Ok.is, c.in-Done.is)
    (at_proc c.put.result (λ q. ReadsCall q c.args.self.now (noted (Calling.put c.in-Put.scope c.in-Put.key (spelling c.in-Put.value)) Reply.done) c.put.new.self) c.args.proc.now c.put.ensures.reads)

pub returns-in_ok-request-in-Request-clause-reads : goal.returns-in_ok-request-in-Request-clause-reads
returns-in_ok-request-in-Request-clause-reads c = λ e. rw c.in-Request.is (c.in_ok-request-in-Request.ensures c.args.proc.now)
