use Rattle.std.proofs.Common.{◌≡◌, ◌≤◌, length, arith}
use Rattle.pmg_frame.specs.Fences.{participants_of}
use Rattle.pmg_frame.proofs.HeaderLaws.{header_count}
use Rattle.pmg_frame.proofs.header.Header.locals.Goals as goal

pub returns-clause-few : goal.returns-clause-few
returns-clause-few c =
    let few = header_count _ c.self.invariant in
    let is : c.participants-participants.result.now ≡ participants_of c.self.inside.name = rw c.signature.ensures at c.participants-participants.ensures.value in
    let most : length (participants_of c.self.inside.name) ≤ 4096 = rw is at c.participants-participants.ensures.few in
    rw c.deref.ensures.value (omega (arith, few, most))
