use Rattle.std.proofs.Common.{◌≡◌, ◌∙◌, None}
use Rattle.std.specs.Option.{option_copied}
use Rattle.std.proofs.lemmas.Result.{err_from_is_err_and}
use Rattle.pmg_wire.specs.Many.{many}
use Rattle.pmg_wire.proofs.Counted.{is_done, last_of}
use Rattle.pmg_frame.specs.FenceReading.{read_local}
use Rattle.pmg_frame.proofs.Lasts.{last_is, fails_behind, goes_behind}
use Rattle.pmg_frame.proofs.fence_reading.get_locals.Goals as goal

pub returns-in_err-local : goal.returns-in_err-local
returns-in_err-local c =
    let err = err_from_is_err_and c.from_residual.result c.from_residual.ensures.1 in
    let last : option_copied c.last.result ≡ last_of c.loop.locals.items = (rw c.deref.ensures.value at c.last.ensures.value) ∙ last_is c.loop.locals.items in
    rw (err.1, err.2) (fails_behind (read_local c.args.name.now) c.in_err-local.field-0.0 c.loop.locals.items (option_copied c.last.result) c.args.count c.loop.counter c.loop.at (many (read_local c.args.name.now) c.args.count None c.args.at.now) last
    c.loop-test.true c.in_err-local.ensures c.loop.invariant)

pub loop-preserved : goal.loop-preserved
loop-preserved c =
    let last : option_copied c.last.result ≡ last_of c.loop.locals.items = (rw c.deref.ensures.value at c.last.ensures.value) ∙ last_is c.loop.locals.items in
    goes_behind (read_local c.args.name.now) c.loop.locals.items c.push.new.self.items (option_copied c.last.result) c.args.count c.loop.counter c.loop.at c.in_ok-local.local c.get_local.new.at (many (read_local c.args.name.now) c.args.count None c.args.at.now) last
    c.in_ok-push.ensures.items c.loop-test.true c.in_ok-local.ensures c.loop.invariant

pub returns : goal.returns
returns c = is_done (read_local c.args.name.now) c.loop.locals.items c.args.count c.loop.counter c.loop.at (many (read_local c.args.name.now) c.args.count None c.args.at.now) c.loop-test.false c.loop.invariant
