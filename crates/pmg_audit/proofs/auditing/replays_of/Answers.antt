use Rattle.pmg_audit.specs.Faults.{IsReplayFault}
use Rattle.pmg_audit.specs.Replaying.{AreWhole, EndsFor, EndsWell}
use Rattle.pmg_audit.proofs.AuditLemmas.{collision_by, err_on, fault_by, ok_on, whole_by}
use Rattle.pmg_audit.proofs.auditing.replays_of.Goals as goal

pub returns-in-Ok : goal.returns-in-Ok
returns-in-Ok c =
    let jobs = c.args.registry.now in
    let js = c.args.journals.now in
    let ts = c.args.transcripts.now in
    record {
      ok = ok_on c.replays_with.result (EndsWell jobs js c.in-Ok.sayings) (AreWhole jobs js ts) c.replays_with.ensures.ok
          (whole_by jobs c.requires.jobs js ts c.in-Ok.sayings c.in-Ok.ensures.said c.in-Ok.ensures.apart c.in-Ok.ensures.taken);
      refused = err_on c.replays_with.result (EndsFor jobs js c.in-Ok.sayings) (IsReplayFault jobs js ts) c.replays_with.ensures.refused
          (fault_by jobs c.requires.jobs js ts c.in-Ok.sayings c.in-Ok.ensures.said c.in-Ok.ensures.apart c.in-Ok.ensures.taken);
    }

pub returns-in-Err-clause-refused : goal.returns-in-Err-clause-refused
returns-in-Err-clause-refused c = collision_by c.args.registry.now c.args.journals.now c.args.transcripts.now c.in-Err.refusal c.in-Err.ensures.refused
