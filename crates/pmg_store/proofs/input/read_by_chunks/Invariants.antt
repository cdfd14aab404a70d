use Rattle.std.proofs.Common.{◌≡◌, ◌≤◌, ◌+◌, vec_len}
use Rattle.std.specs.Io.KnownBytes.{Consumes}
use Rattle.pmg_store.specs.declared.input.TheConstants.{INPUT_LIMIT}
use Rattle.pmg_store.proofs.input.read_by_chunks.Given as goal

-- what was read is the input so far, and each read gave a byte at least
abbrev pub invariant-loop : goal.invariant-loop
invariant-loop g l = record {
  reads : l.reader.reads ≤ l.initial.reader.reads + l.counter;
  failure : l.reader.failure ≡ l.initial.reader.failure;
  within : vec_len l.input ≤ INPUT_LIMIT;
  gave : l.counter ≤ vec_len l.input;
  read : Consumes (g.R.Read.remaining l.initial.reader.reader) (g.R.Read.remaining l.reader.reader) l.input.items;
}
