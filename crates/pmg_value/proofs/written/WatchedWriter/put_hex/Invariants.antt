use Rattle.std.proofs.Common.{length}
use Rattle.pmg_value.specs.Hex.{hex_text}
use Rattle.pmg_value.proofs.WrittenParts.{WrittenSoFar}
use Rattle.pmg_value.proofs.written.WatchedWriter.put_hex.Given as goal

-- the digits of the first bytes were written, and those of the others are left
abbrev pub invariant-loop-rest : goal.invariant-loop-rest
invariant-loop-rest g l = WrittenSoFar (g.W.Write.contents l.fn.self.writer) (g.W.Write.contents l.self.writer) (hex_text l.rest) (hex_text l.fn.bytes)

abbrev pub decreases-loop-rest : goal.decreases-loop-rest
decreases-loop-rest g l = length l.rest
