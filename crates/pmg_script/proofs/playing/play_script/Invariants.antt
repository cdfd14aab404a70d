use Rattle.std.proofs.Common.{◌≤◌, ◌+◌}
use Rattle.std.specs.Prelude.{IfSome, IsSome}
use Rattle.pmg_store.specs.declared.input.TheConstants.{INPUT_LIMIT}
use Rattle.pmg_script.specs.Replays.{IsGoing}
use Rattle.pmg_script.proofs.playing.play_script.Given as goal

-- the lines so far were done, each of a byte at least
abbrev pub invariant-loop : goal.invariant-loop
invariant-loop g l = record {
  within : l.offset ≤ INPUT_LIMIT;
  gone : l.counter ≤ l.offset;
  failed : IsSome l.reader.failure → IsSome l.initial.reader.failure;
  reads : l.reader.reads ≤ l.initial.reader.reads + l.offset;
  going : IfSome (g.R.Read.remaining l.initial.reader.reader)
      (λ text. IsGoing g.P.Player.plays g.P.Player.stops g.P.Player.over l.initial.player text (g.R.Read.remaining l.reader.reader)
      (g.W.Write.contents l.initial.writer.writer) (g.W.Write.contents l.writer.writer) l.player l.offset);
}
