use Rattle.std.proofs.Common.{rules, ◌≡◌}
use Rattle.pmg_desk.specs.Clients.{proc_of}
use Rattle.pmg_desk.proofs.TakeLemmas.{told_taking}
use Rattle.pmg_desk.proofs.WaitLemmas.{take_waited}
use Rattle.pmg_desk.proofs.client.Client.take.Goals as goal

pub taking_by-requires : goal.taking_by-requires
taking_by-requires g c = told_taking _ _ _ c.request.result c.request.ensures.told

pub returns-clause-waited : goal.returns-clause-waited
returns-clause-waited g c =
    let copy : c.in_ok-copy.field-0 ≡ proc_of c.args.self.now = search rules in
    take_waited (proc_of c.args.self.now) c.in_ok-copy.field-0 copy c.taking_by.result c.request.result c.taking_by.ensures c.request.ensures.past
