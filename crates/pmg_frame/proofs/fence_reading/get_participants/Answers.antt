use Rattle.std.proofs.Common.{◌≡◌, ◌∙◌, None}
use Rattle.std.specs.Option.{option_copied}
use Rattle.std.proofs.lemmas.Result.{err_from_is_err_and}
use Rattle.pmg_wire.specs.Many.{many}
use Rattle.pmg_wire.proofs.Counted.{is_done, last_of}
use Rattle.pmg_frame.specs.FenceReading.{read_participant}
use Rattle.pmg_frame.proofs.Lasts.{last_is, fails_behind, goes_behind}
use Rattle.pmg_frame.proofs.fence_reading.get_participants.Goals as goal

pub returns-in_err-process : goal.returns-in_err-process
returns-in_err-process c =
    let err = err_from_is_err_and c.from_residual.result c.from_residual.ensures.1 in
    let last : option_copied c.last.result ≡ last_of c.loop.participants.items = (rw c.deref.ensures.value at c.last.ensures.value) ∙ last_is c.loop.participants.items in
    rw (err.1, err.2) (fails_behind read_participant c.in_err-process.field-0.0 c.loop.participants.items (option_copied c.last.result) c.args.count c.loop.counter c.loop.at (many read_participant c.args.count None c.args.at.now) last
    c.loop-test.true c.in_err-process.ensures c.loop.invariant)

pub loop-preserved : goal.loop-preserved
loop-preserved c =
    let last : option_copied c.last.result ≡ last_of c.loop.participants.items = (rw c.deref.ensures.value at c.last.ensures.value) ∙ last_is c.loop.participants.items in
    goes_behind read_participant c.loop.participants.items c.push.new.self.items (option_copied c.last.result) c.args.count c.loop.counter c.loop.at c.in_ok-process.process c.get_participant.new.at (many read_participant c.args.count None c.args.at.now) last
    c.in_ok-push.ensures.items c.loop-test.true c.in_ok-process.ensures c.loop.invariant

pub returns : goal.returns
returns c = is_done read_participant c.loop.participants.items c.args.count c.loop.counter c.loop.at (many read_participant c.args.count None c.args.at.now) c.loop-test.false c.loop.invariant
