use Rattle.std.proofs.Common.{◌≡◌, ◌≤◌, ℕ}
use Rattle.pmg_audit.specs.Replaying.{AreOf, AreReplayed}
use Rattle.pmg_audit.specs.Runs.{journal_at}
use Rattle.pmg_audit.proofs.replaying.replay_all.Given as goal

-- so many nodes' journals are replayed, and those of the others, of the same group, still tell all
abbrev pub invariant-loop-index : goal.invariant-loop-index
invariant-loop-index l = record {
  replayed : AreReplayed l.registry l.fn.journals l.fn.sayings l.index l.all l.sayings;
  of : AreOf l.registry l.journals;
  left : (n : ℕ) → l.index ≤ n → journal_at l.journals n ≡ journal_at l.fn.journals n;
}
