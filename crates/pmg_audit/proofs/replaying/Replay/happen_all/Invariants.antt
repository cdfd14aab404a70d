use Rattle.std.proofs.Common.{◌≡◌, ◌++◌, map}
use Rattle.pmg_journal.specs.Journals.{happening_of}
use Rattle.pmg_audit.specs.Replaying.{HaveHappened}
use Rattle.pmg_audit.proofs.replaying.Replay.happen_all.Given as goal

-- some of the events have happened, and the others come after them
abbrev pub invariant-loop-event : goal.invariant-loop-event
invariant-loop-event l = record {
  done : HaveHappened l.fn.self.node l.fn.sayings (map happening_of l.yielded) l.self l.sayings;
  all : l.yielded ++ l.event-iterator.rest.items ≡ l.fn.events.items;
}
