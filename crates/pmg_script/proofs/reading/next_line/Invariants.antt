use Rattle.std.proofs.Common.{◌≡◌, ◌≢◌, ◌≤◌, ◌+◌, All, length}
use Rattle.std.specs.Io.KnownBytes.{Consumes}
use Rattle.pmg_store.specs.declared.input.TheConstants.{INPUT_LIMIT}
use Rattle.pmg_script.proofs.reading.next_line.Given as goal

-- what was read is the line so far, which no byte ended
abbrev pub invariant-loop : goal.invariant-loop
invariant-loop g l = record {
  failure : l.reader.failure ≡ l.fn.reader.failure;
  reads : l.reader.reads ≤ l.fn.reader.reads + length l.line.items;
  count : l.counter ≤ l.start + length l.line.items;
  within : l.start + length l.line.items ≤ INPUT_LIMIT;
  unended : All (λ x. x ≢ 10) l.line.items;
  read : Consumes (g.R.Read.remaining l.fn.reader.reader) (g.R.Read.remaining l.reader.reader) l.line.items;
}
