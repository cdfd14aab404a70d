use Rattle.std.proofs.Common.{arith}
use Rattle.pmg_commands.specs.Merge.{spans_of, decoded_all}
use Rattle.pmg_commands.proofs.MergeLemmas.{all_lines_fit, decoded_at_start}
use Rattle.pmg_commands.proofs.merge.decode_streams.Goals as goal

pub loop-line-init : goal.loop-line-init
loop-line-init c =
    let lines = c.lines_with_terminator-line-items.ensures.value in
    rw (c.into_iter-line-iterator.ensures.into_iter_gives, lines, c.new-streams.ensures.items) (omega arith, all_lines_fit c.args.text.now, decoded_at_start (decoded_all c.args.text.now (spans_of c.args.text.now)))
