use Rattle.pmg_commands.proofs.LineLemmas.{Decoding}
use Rattle.pmg_commands.proofs.text.decode_lines.Given as goal

abbrev pub invariant-loop-line : goal.invariant-loop-line
invariant-loop-line l = Decoding l.fn.text l.line-iterator l.bytes.items
