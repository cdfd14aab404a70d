use Rattle.std.proofs.Common.{arith}
use Rattle.std.proofs.lemmas.Result.{err_from_is_err_and}
use Rattle.pmg_wire.specs.Fields.{read_value}
use Rattle.pmg_wire.proofs.Windows.{passed_body, reaches, tag_len, has_passed, window_is, window_short, reads_whole, fails_whole}
use Rattle.pmg_wire.proofs.values.value_in_passes.Goals as goal

pub overflow_sub-offset : goal.overflow_sub-offset
overflow_sub-offset c =
    let p = passed_body _ _ _ _ _ c.fork-behind.ensures.place c.fork-behind.ensures.bytes c.in_ok-skip_body.ensures in
    let forward = (reaches _ _ _ p).forward in
    let len = tag_len _ _ _ c.in_ok-tag.ensures.read in
    omega (arith, c.offset-start.ensures.value, c.offset.ensures.value)

pub overflow_sub-len : goal.overflow_sub-len
overflow_sub-len c =
    let p = passed_body _ _ _ _ _ c.fork-behind.ensures.place c.fork-behind.ensures.bytes c.in_ok-skip_body.ensures in
    let forward = (reaches _ _ _ p).forward in
    omega (arith, c.offset-2.ensures.value, c.offset-3.ensures.value)

pub window-requires : goal.window-requires
window-requires c =
    let p = passed_body _ _ _ _ _ c.fork-behind.ensures.place c.fork-behind.ensures.bytes c.in_ok-skip_body.ensures in
    let within = (reaches _ _ _ p).within in
    omega (arith, c.offset-2.ensures.value, c.offset-3.ensures.value)

pub body_of-requires : goal.body_of-requires
body_of-requires c =
    let has = has_passed _ _ _ _ _ _ _ _ c.in_ok-tag.ensures.read (omega arith) (omega arith) c.fork-behind.ensures.place c.fork-behind.ensures.bytes c.in_ok-skip_body.ensures c.offset-start.ensures.value c.offset.ensures.value c.if-offset-start.false in
    let window = window_is c.get_u8.new.self c.skip_body.new.at _ _ _ c.offset-3.ensures.value c.offset-2.ensures.value c.window.ensures in
    rw window (window_short _ _ _ _ has)

pub returns-in_err-value : goal.returns-in_err-value
returns-in_err-value c =
    let has = has_passed _ _ _ _ _ _ _ _ c.in_ok-tag.ensures.read (omega arith) (omega arith) c.fork-behind.ensures.place c.fork-behind.ensures.bytes c.in_ok-skip_body.ensures c.offset-start.ensures.value c.offset.ensures.value c.if-offset-start.false in
    let window = window_is c.get_u8.new.self c.skip_body.new.at _ _ _ c.offset-3.ensures.value c.offset-2.ensures.value c.window.ensures in
    let err = err_from_is_err_and c.from_residual-in_err-value.result c.from_residual-in_err-value.ensures.1 in
    rw (err.1, err.2) (fails_whole _ _ _ _ c.in_err-value.field-0.0 (read_value c.args.at.now) has (rw window at c.in_err-value.ensures))

pub returns : goal.returns
returns c =
    let has = has_passed _ _ _ _ _ _ _ _ c.in_ok-tag.ensures.read (omega arith) (omega arith) c.fork-behind.ensures.place c.fork-behind.ensures.bytes c.in_ok-skip_body.ensures c.offset-start.ensures.value c.offset.ensures.value c.if-offset-start.false in
    let window = window_is c.get_u8.new.self c.skip_body.new.at _ _ _ c.offset-3.ensures.value c.offset-2.ensures.value c.window.ensures in
    reads_whole _ _ _ _ c.in_ok-value.value c.body_of.new.at has (rw window at c.in_ok-value.ensures)
