use Rattle.std.proofs.Common.{◌≡◌, drop, map}
use Rattle.std.specs.List.{list_any}
use Rattle.pmg_journal.specs.Journals.{happening_of}
use Rattle.pmg_journal.specs.Calling.{is_by}
use Rattle.pmg_journal.proofs.journal.has_event_by.Given as goal

abbrev pub invariant-loop-event : goal.invariant-loop-event
invariant-loop-event l = list_any (λ e. is_by l.proc e.act) (map happening_of l.events) ≡ list_any (λ e. is_by l.proc e.act) (map happening_of (drop l.event-index l.events))
