use Rattle.std.proofs.Common.{List, IfErr, subst}
use Rattle.pmg_journal.specs.declared.journal.Journal.{Journal}
use Rattle.pmg_audit.specs.Faults.{IsFault}
use Rattle.pmg_audit.proofs.auditing.audit.Goals as goal

pub returns-clause-refused : goal.returns-clause-refused
returns-clause-refused c =
    subst (λ (js : List Journal). IfErr c.audit_among.result (λ e. IsFault js c.args.transcripts.now e)) c.deref_mut.ensures.value c.audit_among.ensures.refused
