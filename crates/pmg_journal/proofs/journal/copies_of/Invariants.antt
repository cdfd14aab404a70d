use Rattle.std.proofs.Common.{◌≡◌, map, take}
use Rattle.pmg_journal.specs.Journals.{happening_of}
use Rattle.pmg_journal.proofs.journal.copies_of.Given as goal

abbrev pub invariant-loop-event : goal.invariant-loop-event
invariant-loop-event l = map happening_of l.copies.items ≡ map happening_of (take l.event-index l.events)
