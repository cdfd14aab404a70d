use Rattle.std.proofs.Common.{◌≡◌, ◌++◌, map}
use Rattle.pmg_node.specs.Opening.{new_server}
use Rattle.pmg_journal.specs.Journals.{happening_of}
use Rattle.pmg_journal.specs.Records.{AreSteps}
use Rattle.pmg_journal.specs.Replays.{IsReplay, after_all}
use Rattle.pmg_audit.specs.Replaying.{HaveFollowed}
use Rattle.pmg_audit.proofs.replaying.follow_all.Given as goal

-- some of the events are followed, and the others come after them, each with its step
abbrev pub invariant-loop-event : goal.invariant-loop-event
invariant-loop-event l = record {
  done : HaveFollowed (new_server l.registry l.node) l.fn.sayings (map happening_of l.yielded) l.lane l.sayings;
  all : l.yielded ++ l.event-iterator.rest.items ≡ l.fn.events.items;
  replay : IsReplay (after_all (new_server l.registry l.node) (map happening_of l.yielded)) (map happening_of l.event-iterator.rest.items);
  steps : AreSteps (after_all (new_server l.registry l.node) (map happening_of l.yielded)) (map happening_of l.event-iterator.rest.items) l.steps.rest.items;
}
