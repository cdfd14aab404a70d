use Rattle.std.proofs.Common.{None}
use Rattle.std.proofs.lemmas.Result.{err_from_is_err_and}
use Rattle.pmg_wire.specs.Fields.{passed, read_plain}
use Rattle.pmg_wire.specs.Many.{many}
use Rattle.pmg_wire.proofs.Passing.{passes_on, passing_ends, passing_is_done}
use Rattle.pmg_wire.proofs.skip.skip_elements.Goals as goal

pub returns-in_err-skip_plain : goal.returns-in_err-skip_plain
returns-in_err-skip_plain c =
    let err = err_from_is_err_and c.from_residual.result c.from_residual.ensures.1 in
    let total = passed (many (λ _. read_plain c.args.tag) c.args.count None c.args.at.now) in
    rw (err.1, err.2) (passing_ends (read_plain c.args.tag) c.in_err-skip_plain.field-0.0 c.args.count c.loop.counter c.loop.at total c.loop-test.true c.in_err-skip_plain.ensures c.loop.invariant)

pub loop-preserved : goal.loop-preserved
loop-preserved c =
    let total = passed (many (λ _. read_plain c.args.tag) c.args.count None c.args.at.now) in
    passes_on (read_plain c.args.tag) c.args.count c.loop.counter c.loop.at _ c.skip_plain.new.at total c.loop-test.true c.in_ok-skip_plain.ensures c.loop.invariant

pub returns : goal.returns
returns c =
    let total = passed (many (λ _. read_plain c.args.tag) c.args.count None c.args.at.now) in
    passing_is_done (read_plain c.args.tag) c.args.count c.loop.counter c.loop.at total c.loop-test.false c.loop.invariant
