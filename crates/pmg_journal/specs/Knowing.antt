-- The knowledge of a journal, from call to call.
use Rattle.std.specs.Prelude.{◌≡◌, false, List, ◌∷◌, ◌++◌, [], map}
use Rattle.std.specs.List.{list_any}
use Rattle.pmg_value.specs.declared.process.Proc.{Proc}
use Rattle.pmg_history.specs.Entries.{Entries}
use Rattle.pmg_journal.specs.Calling.{is_by}
use Rattle.pmg_journal.specs.Journals.{happening_of}
use Rattle.pmg_journal.specs.Replays.{Happening}
use Rattle.pmg_journal.specs.declared.journal.Event.{Event}

-- The process made no event of the list.
abbrev pub AreOfOthers : Proc → List Happening → Type 0
AreOfOthers p es = list_any (λ e. is_by p e.act) es ≡ false

-- The journal begins with the events that were known before, continues with events of others, and ends with this event.
pub record GoesOnBy (p : Proc) (old new : List Happening) (e : Happening) : Type 0 where
  pub others : List Happening
  pub list : new ≡ old ++ (others ++ e ∷ [])
  pub are_of_others : AreOfOthers p others

-- the known prefix of a journal, as happenings
abbrev pub happened_by : Entries Event → List Happening
happened_by known = map happening_of known.log
