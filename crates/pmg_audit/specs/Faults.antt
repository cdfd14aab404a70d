-- The faults of journals and transcripts that are no run.
use Rattle.std.specs.Prelude.{ℕ, ◌<◌, List, [], ◌∷◌, length}
use Rattle.pmg_value.specs.declared.refusal.Refusal.{Refusal}
use Rattle.pmg_value.specs.declared.refusal.Refusal.TheVariants as refusals
use Rattle.pmg_jobinfo.specs.Jobs.{Jobs}
use Rattle.pmg_node.specs.Opening.{new_server}
use Rattle.pmg_journal.specs.Replays.{IsReplay}
use Rattle.pmg_journal.specs.declared.journal.Journal.{Journal}
use Rattle.pmg_journal.specs.declared.transcript.Transcript.{Transcript}
use Rattle.pmg_audit.specs.Agreeing.{AreAgreed}
use Rattle.pmg_audit.specs.Moves.{Move}
use Rattle.pmg_audit.specs.Orders.{NoOrder}
use Rattle.pmg_audit.specs.Runs.{AreJournals, AreMoves, journal_at}

-- one journal for each node of one group
abbrev pub AreOne : List Journal → Type 0
AreOne [] = ⊥
AreOne (j ∷ js) = AreJournals j.registry (j ∷ js)

-- the reply of an event of some journal differs on replay
unfoldable pub AreStale : Jobs → List Journal → Type 0
AreStale jobs js = (n : ℕ) × (n < length jobs.nodes) × (IsReplay (new_server jobs n) (journal_at js n) → ⊥)

-- No order puts each delivered frame after its sending, among the frames that the nodes send when the journals are replayed.
pub record AreUnordered (jobs : Jobs) (js : List Journal) : Type 0 where
  pub all : List (List Move)
  pub moves : AreMoves jobs js all
  pub none : NoOrder all

-- Each refusal is for its fault, and only if no earlier fault applies. BadParam: there is not one journal for each node of one group.
-- Collision: the transcripts differ from the journals of one group. Stale: the transcripts agree, and a reply on replay differs.
-- Unordered: the replies agree too, and no order puts each delivered frame after its sending. NoMemory is left open. There is no other
-- refusal.
abbrev pub IsFault : List Journal → List Transcript → Refusal → Type 0
IsFault js ts refusals.NoMemory = Unit {0}
IsFault js ts refusals.BadParam = AreOne js → ⊥
IsFault js ts refusals.Collision = (jobs : Jobs) × AreJournals jobs js × (AreAgreed jobs js ts → ⊥)
IsFault js ts refusals.Stale = (jobs : Jobs) × AreJournals jobs js × AreAgreed jobs js ts × AreStale jobs js
IsFault js ts refusals.Unordered = (jobs : Jobs) × AreJournals jobs js × AreAgreed jobs js ts × AreUnordered jobs js
IsFault js ts e = ⊥

-- the refusals for journals of this group, as they are replayed
abbrev pub IsReplayFault : Jobs → List Journal → List Transcript → Refusal → Type 0
IsReplayFault jobs js ts refusals.NoMemory = Unit {0}
IsReplayFault jobs js ts refusals.Collision = AreAgreed jobs js ts → ⊥
IsReplayFault jobs js ts refusals.Stale = AreAgreed jobs js ts × AreStale jobs js
IsReplayFault jobs js ts e = ⊥
