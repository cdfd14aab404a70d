-- Runs of a small group, worked out by hand. They are witnesses that the laws of every run are not vacuous.
use Rattle.std.specs.Prelude.{ℕ, ◌≡◌, true, false, List, [], ◌∷◌, ◌++◌, Some, None, codes}
use Rattle.pmg_value.specs.Lists.{In}
use Rattle.pmg_value.specs.Signatures.{FenceName}
use Rattle.pmg_value.specs.declared.process.Proc.{Proc}
use Rattle.pmg_value.specs.declared.refusal.Refusal.TheVariants as refusals
use Rattle.pmg_scope.specs.declared.scope.Scope.TheVariants as scopes
use Rattle.pmg_frame.specs.Fences.{name_fields, fence_name, participants_of}
use Rattle.pmg_jobinfo.specs.Jobs.{Jobs, AreJobs, opened, registered}
use Rattle.pmg_fence.specs.Entering.{same_proc}
use Rattle.pmg_fence.specs.Tables.{has_name, is_old}
use Rattle.pmg_get.specs.Gets.{Outcome}
use Rattle.pmg_get.specs.declared.view.Mode.TheVariants as modes
use Rattle.pmg_node_model.specs.Acts.{Request, Reply}
use Rattle.pmg_node_model.specs.Fitting.{last_fence}
use Rattle.pmg_node_model.specs.Holdings.{Get}
use Rattle.pmg_node_model.specs.Sending.{WaitsIn}
use Rattle.pmg_group_model.specs.Worlds.{World, Event, Happened, Run, start}
use Rattle.pmg_group_model.specs.Laws.{Leaves, answer_as, answers, reply_outcome}
use Rattle.pmg_group_model.specs.Lawful.{asks_with, leaves_with, takes_with}
use Rattle.pmg_group_model.specs.Refreshes.{StaysIn, wanted_anew}

-- two nodes, and a process at each
abbrev pub two : Jobs
two = registered (opened (codes "n0" ∷ codes "n1" ∷ [])) (codes "j") (0 ∷ 1 ∷ [])

-- the process at node 0
abbrev pub j0 : Proc
j0 = record { nspace = codes "j"; rank = 0 }

-- the process at node 1
abbrev pub j1 : Proc
j1 = record { nspace = codes "j"; rank = 1 }

-- the first fence of both that collects data
abbrev pub meeting : FenceName
meeting = fence_name (name_fields true 1 (j0 ∷ j1 ∷ []))

-- a key of the process at node 0
abbrev pub its_key : Get
its_key = record { target = j0; key = codes "a" }

-- the value that the process puts there: one, as a `u8`, in canonical bytes
abbrev pub its_value : List ℕ
its_value = 9 ∷ 1 ∷ []

-- the first of the two nodes
abbrev pub first_node : ℕ
first_node = 0

-- the second of the two nodes
abbrev pub second_node : ℕ
second_node = 1

-- an event with its reply
abbrev pub happened_with : Event → Reply → Happened
happened_with event reply = record { event = event; reply = reply }

-- Three frames arrive, with the given numbers. Before the last one the second process asks again whether it is released, and still waits.
abbrev pub come_around : (first second last : ℕ) → List Happened
come_around first second last =
    happened_with (Event.deliver first) Reply.taken
    ∷ happened_with (Event.deliver second) Reply.taken
    ∷ happened_with (Event.request second_node (Request.leave j1)) Reply.waiting
    ∷ happened_with (Event.deliver last) Reply.taken
    ∷ []

-- One process ends; the other enters a fence of both that collects data. Its node's header reaches the other node, which sends its own
-- header in turn, and the commit of the end. The process waits for that header, then for the commit that the header names.
abbrev pub ends_and_meets : List Happened
ends_and_meets =
    happened_with (Event.request first_node (Request.terminate j0)) (Reply.ended 1)
    ∷ happened_with (Event.request second_node (Request.enter j1 (j0 ∷ j1 ∷ []) true)) (Reply.entered 1)
    ∷ happened_with (Event.request second_node (Request.leave j1)) Reply.waiting
    ∷ come_around 1 2 3

-- Both meet. The one process puts a value for all, commits it, and enters a fence of both that collects data; then the other one enters.
-- Each node's header reaches the other node. The second process waits for the first one's header, which was sent and not delivered, then
-- for the commit that the header names. The piece with this commit arrives last.
abbrev pub puts_and_meets : List Happened
puts_and_meets =
    happened_with (Event.put j0 scopes.Global its_key.key its_value) Reply.done
    ∷ happened_with (Event.commit first_node j0) (Reply.committed 1)
    ∷ happened_with (Event.request first_node (Request.enter j0 (j0 ∷ j1 ∷ []) true)) (Reply.entered 1)
    ∷ happened_with (Event.request second_node (Request.enter j1 (j0 ∷ j1 ∷ []) true)) (Reply.entered 1)
    ∷ happened_with (Event.request second_node (Request.leave j1)) Reply.waiting
    ∷ come_around 3 1 2

-- A run of these events exists, and its jobs satisfy `AreJobs`. At its end the second process is released from the fence that it entered
-- last, in which the first one takes part, with the gone participants. Then the second process gets the key of the first one with `Wait`,
-- and receives this answer. Therefore all hypotheses of the fence theorem are met.
abbrev pub IsReleased : List Happened → List Proc → Reply → Type 0
IsReleased xs gone answer =
    AreJobs two × (w : World) × Run two (start two) xs w
    × (v : World) × Leaves two w j1 1 gone v
    × (last_fence (w.scripts j1) ≡ Some meeting) × (meeting.signature.collect ≡ true)
    × In j0 (participants_of meeting) × (same_proc j1 j0 ≡ false)
    × (u : World) × Run two v (happened_with (Event.request second_node (Request.ask j1 its_key modes.Wait)) answer ∷ []) u

-- The first process ended, so its end is in the list of gone participants. The get is refused at once as `NotFound`: the process never put
-- a value, and its end is known.
unfoldable pub RunOfTwo : Type 0
RunOfTwo = IsReleased ends_and_meets (j0 ∷ []) (Reply.refused refusals.NotFound)

-- Both processes meet: no participant is gone, and the get finds the value.
unfoldable pub RunOfMeeting : Type 0
RunOfMeeting = IsReleased puts_and_meets [] (Reply.found its_value)

-- A get that waits. One process puts a value for all and commits it; then the other one gets its key and waits, because its own node knows
-- nothing of the first process. The node asks the home of the key's process, which sends the commit.
abbrev pub asks_and_waits : List Happened
asks_and_waits =
    happened_with (Event.put j0 scopes.Global its_key.key its_value) Reply.done
    ∷ happened_with (Event.commit first_node j0) (Reply.committed 1)
    ∷ happened_with (Event.request second_node (Request.ask j1 its_key modes.Wait)) Reply.parked
    ∷ happened_with (Event.deliver 1) Reply.taken
    ∷ happened_with (Event.deliver 2) Reply.taken
    ∷ []

-- then the process takes the answer
abbrev pub takes_the_value : Happened
takes_the_value = happened_with (Event.request second_node (Request.take j1)) (Reply.found its_value)

-- A run of these events exists, and at its end the process takes the answer. Therefore its get was answered exactly once, when it took the
-- answer.
unfoldable pub RunOfWaiting : Type 0
RunOfWaiting =
    (w : World) × Run two (start two) asks_and_waits w × (v : World) × Run two w (takes_the_value ∷ []) v
    × (answers j1 j0 None (asks_and_waits ++ takes_the_value ∷ []) ≡ answer_as its_key modes.Wait (Outcome.found its_value) ∷ [])

-- ---- a get that asks anew

-- the events before the get: one process puts a value for all and commits it
abbrev pub puts_it : List Happened
puts_it =
    happened_with (Event.put j0 scopes.Global its_key.key its_value) Reply.done
    ∷ happened_with (Event.commit first_node j0) (Reply.committed 1)
    ∷ []

-- the events while the get waits: the request reaches the home of the key's process, then the reply arrives
abbrev pub asked_and_replied : List Happened
asked_and_replied = happened_with (Event.deliver 1) Reply.taken ∷ happened_with (Event.deliver 2) Reply.taken ∷ []

-- The other process asks for the key anew and has to wait. After the reply it takes the answer.
abbrev pub asks_anew_and_takes : List Happened
asks_anew_and_takes = puts_it ++ asks_with second_node j1 its_key ∷ (asked_and_replied ++ takes_with second_node j1 (Reply.found its_value) ∷ [])

-- A run of these events exists. The process stays in its get until it takes the answer, which counts as an answer of mode `Now`. Therefore
-- all hypotheses of the refresh theorem are met.
unfoldable pub RunOfRefreshing : Type 0
RunOfRefreshing =
    (w : World) × Run two (start two) asks_anew_and_takes w × StaysIn j1 (wanted_anew its_key) asked_and_replied
    × (reply_outcome (Reply.found its_value) ≡ Some (Outcome.found its_value))
    × (answers j1 j0 None asks_anew_and_takes ≡ answer_as its_key modes.Now (Outcome.found its_value) ∷ [])

-- ---- a fence that is entered three times

-- one node, and both processes there
abbrev pub lone : Jobs
lone = registered (opened (codes "n0" ∷ [])) (codes "j") (0 ∷ 0 ∷ [])

-- the fence of that instance of both, without collected data
abbrev pub round : ℕ → FenceName
round k = fence_name (name_fields false k (j0 ∷ j1 ∷ []))

-- the process enters the fence of that instance
abbrev pub enters_round : ℕ → Proc → Happened
enters_round k p = happened_with (Event.request first_node (Request.enter p (j0 ∷ j1 ∷ []) false)) (Reply.entered k)

-- both enter the fence of that instance, and leave it
abbrev pub both_meet : ℕ → List Happened
both_meet k = enters_round k j0 ∷ enters_round k j1 ∷ leaves_with first_node j0 k [] ∷ leaves_with first_node j1 k [] ∷ []

-- Both meet twice. Then the first process enters a third time.
abbrev pub meet_twice_and_wait : List Happened
meet_twice_and_wait = both_meet 1 ++ (both_meet 2 ++ enters_round 3 j0 ∷ [])

-- A run of these events exists, and its jobs satisfy `AreJobs`. At its end the first process waits in the third fence, whose name the node
-- has. The first fence is old, and the node has forgotten it. Therefore a process can wait at a node that forgot a fence.
unfoldable pub RunOfThree : Type 0
RunOfThree =
    AreJobs lone × (w : World) × Run lone (start lone) meet_twice_and_wait w
    × WaitsIn lone first_node (w.nodes first_node) (round 3) j0 × (has_name (w.nodes first_node).table (round 3) ≡ true)
    × (is_old (w.nodes first_node).table (round 1) ≡ true) × (has_name (w.nodes first_node).table (round 1) ≡ false)
