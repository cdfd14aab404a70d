use Rattle.std.proofs.Common.{◌-◌, drop, take, arith, length-take, length-drop}
use Rattle.pmg_commands.proofs.MergeLemmas.{fault_within}
use Rattle.pmg_commands.proofs.merge.decode_stream.Goals as goal

pub overflow_add-result : goal.overflow_add-result
overflow_add-result c =
    let text = c.args.text.now in
    let part = take (c.args.end - c.args.start) (drop c.args.start text) in
    let within = fault_within part c.in-Err-BadFrame.fault (rw c.in-Err-BadFrame.field-0-is at c.in-Err-BadFrame.ensures.fault) in
    let front = length-take (c.args.end - c.args.start) (drop c.args.start text) in
    let order = c.requires.order in
    let fits = c.ranges.end.fits in
    let back = length-drop c.args.start text in
    omega (arith, within, front, back, order, fits)
