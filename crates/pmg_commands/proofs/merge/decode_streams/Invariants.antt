use Rattle.std.proofs.Common.{◌≡◌, ◌≤◌, ◌+◌, length, map}
use Rattle.pmg_commands.specs.Merge.{spans_of, spans_from, decoded_all}
use Rattle.pmg_commands.proofs.MergeLemmas.{decoded_behind, total}
use Rattle.pmg_commands.proofs.merge.decode_streams.Given as goal

-- what was decoded, with what the other lines spell, is what all spell
abbrev pub invariant-loop-line : goal.invariant-loop-line
invariant-loop-line l =
    (l.start ≤ l.end)
    × (l.end + total l.line-iterator ≤ length l.text)
    × (decoded_behind (map (λ s. s.items) l.streams.items) (decoded_all l.text (spans_from l.start l.end l.line-iterator)) ≡ decoded_all l.text (spans_of l.text))
