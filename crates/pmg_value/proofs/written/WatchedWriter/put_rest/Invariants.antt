use Rattle.std.proofs.Common.{◌≤◌, length, take}
use Rattle.std.specs.Prelude.{IsNone}
use Rattle.std.specs.Io.KnownBytes.{Appends}
use Rattle.pmg_value.proofs.written.WatchedWriter.put_rest.Given as goal

-- what was written so far is the text's first `done` bytes
abbrev pub invariant-loop : goal.invariant-loop
invariant-loop g l = record {
  within : l.done ≤ length l.fn.text;
  written : Appends (g.W.Write.contents l.initial.self.writer) (g.W.Write.contents l.self.writer) (take l.done l.fn.text);
  going : IsNone l.self.failure;
}
