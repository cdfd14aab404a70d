-- An order of the events at several nodes, and the events that it gives.
use Rattle.std.specs.Prelude.{◌≡◌, ℕ, ◌==◌, List, [], ◌∷◌, ◌++◌, map, Option, Some, None, slice_get, if◌then◌else◌}
use Rattle.pmg_value.specs.Lists.{In}
use Rattle.pmg_value.specs.declared.process.Proc.{Proc}
use Rattle.pmg_node_model.specs.Acts.{Act, Reply}
use Rattle.pmg_node_model.specs.Sending.{sent}
use Rattle.pmg_node_model.specs.declared.sent.Sent.{Sent}
use Rattle.pmg_group_model.specs.Worlds.{Event, Happened, numbered}
use Rattle.pmg_journal.specs.Calling.{caller_of}
use Rattle.pmg_audit.specs.Moves.{Move, Put}

-- a frame is delivered after it was sent to the node
abbrev pub MayGo : ℕ → Act → List Sent → Type 0
MayGo n (Act.deliver frame) frames = In (sent n frame) frames
MayGo n (Act.request r) frames = Unit {0}
MayGo n (Act.commit p b) frames = Unit {0}

-- the node has these remaining moves, and the others are unchanged
abbrev pub put_rest : (ℕ → List Move) → ℕ → List Move → ℕ → List Move
put_rest js n rest k = if k == n then rest else js k

-- The remaining moves can come in this order of their nodes, if these frames were sent before.
unfoldable pub Goes : (ℕ → List Move) → List Sent → List ℕ → Type 0
Goes js frames [] = (n : ℕ) → js n ≡ []
Goes js frames (n ∷ order) = (m : Move) × (rest : List Move) × (js n ≡ m ∷ rest) × MayGo n m.act frames × Goes (put_rest js n rest) (frames ++ m.frames) order

-- the moves; empty if there is no such node
abbrev pub list_or_none : Option (List Move) → List Move
list_or_none None = []
list_or_none (Some ms) = ms

-- the moves of a node
abbrev pub moves_at : List (List Move) → ℕ → List Move
moves_at all n = list_or_none (slice_get all n)

-- ---- the ordered events

-- the event with its reply
abbrev pub event_happened : Event → Reply → Happened
event_happened event reply = record { event = event; reply = reply }

-- the act of the node, as an event of the world, if these frames were sent before
abbrev pub IsEventOf : List Sent → ℕ → Act → Event → Type 0
IsEventOf frames n (Act.commit p b) e = e ≡ Event.commit n p
IsEventOf frames n (Act.request r) e = e ≡ Event.request n r
IsEventOf frames n (Act.deliver frame) e = (i : ℕ) × (e ≡ Event.deliver i) × (numbered frames i ≡ Some (sent n frame))

-- a put of the process, as an event with its reply
abbrev pub put_told : Proc → Put → Happened
put_told p x = event_happened (Event.put p x.scope x.key x.value) Reply.done

-- the puts of the calling process, as such events; empty if no process calls
abbrev pub puts_told : Option Proc → List Put → List Happened
puts_told None puts = []
puts_told (Some p) puts = map (put_told p) puts

-- The remaining moves, in this order of their nodes, give these events, each after the puts before it, and these frames were sent then.
unfoldable pub TellsMoves : (ℕ → List Move) → List Sent → List ℕ → List Happened → List Sent → Type 0
TellsMoves js frames [] xs all = ((n : ℕ) → js n ≡ []) × (xs ≡ []) × (all ≡ frames)
TellsMoves js frames (n ∷ order) xs all =
    (m : Move) × (rest : List Move) × (e : Event) × (others : List Happened) × (js n ≡ m ∷ rest) × IsEventOf frames n m.act e
    × (xs ≡ puts_told (caller_of m.act) m.puts ++ event_happened e m.reply ∷ others) × TellsMoves (put_rest js n rest) (frames ++ m.frames) order others all

-- all moves in some order give these events, in which these frames are sent
unfoldable pub AreTold : List (List Move) → List Happened → List Sent → Type 0
AreTold all told frames = (order : List ℕ) × TellsMoves (moves_at all) [] order told frames

-- no order puts each delivered frame after its sending
abbrev pub NoOrder : List (List Move) → Type 0
NoOrder all = (order : List ℕ) → Goes (moves_at all) [] order → ⊥
