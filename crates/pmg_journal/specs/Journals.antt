-- The meaning of the code's journals as lists of happenings.
use Rattle.std.specs.Prelude.{Bool, true, false, List, map, Result, Ok, Err}
use Rattle.pmg_value.specs.declared.refusal.Refusal.{Refusal}
use Rattle.pmg_value.specs.declared.refusal.Refusal.TheVariants as refusals
use Rattle.pmg_node.specs.Acting.{act_of, reply_as}
use Rattle.pmg_node.specs.Opening.{new_server}
use Rattle.pmg_node.specs.Servers.{Server, reply_in}
use Rattle.pmg_node.specs.declared.act.Act.{Act}
use Rattle.pmg_node.specs.declared.act.Reply.{Reply}
use Rattle.pmg_journal.specs.declared.journal.Event.{Event}
use Rattle.pmg_journal.specs.declared.journal.Journal.{Journal}
use Rattle.pmg_journal.specs.Replays.{Happening, IsReplay, happening}

-- an act and its answer, as a happening
abbrev pub happened : Act → Result Reply Refusal → Happening
happened act answer = happening (act_of act) (reply_in reply_as answer)

-- an event of a journal, as a happening
abbrev pub happening_of : Event → Happening
happening_of e = happened e.act e.answer

-- the happenings of the journal
abbrev pub happened_in : Journal → List Happening
happened_in j = map happening_of j.events.items

-- the node of the journal, before all its happenings
abbrev pub start_of : Journal → Server
start_of j = new_server j.registry j.node

-- the happenings of the journal are a replay
abbrev pub IsJournal : Journal → Type 0
IsJournal j = IsReplay (start_of j) (happened_in j)

-- an allocation failed
abbrev pub is_memory : Refusal → Bool
is_memory refusals.NoMemory = true
is_memory _ = false

-- the call is an event: none of its allocations failed, and its desk is not closed
abbrev pub IsEvent : {X : Type 0} → Result X Refusal → Type 0
IsEvent (Ok x) = Unit {0}
IsEvent (Err refusals.NoMemory) = ⊥
IsEvent (Err refusals.Closed) = ⊥
IsEvent (Err e) = Unit {0}
