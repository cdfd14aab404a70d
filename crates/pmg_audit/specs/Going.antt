-- The progress of an order of the moves of several nodes.
use Rattle.std.specs.Prelude.{◌≡◌, ℕ, suc, ◌+◌, List, [], ◌∷◌, ◌++◌, length, set}
use Rattle.std.specs.List.{flat_map}
use Rattle.pmg_value.specs.Lists.{In, Each}
use Rattle.pmg_node_model.specs.declared.sent.Sent.{Sent}
use Rattle.pmg_group_model.specs.Worlds.{Event, Happened}
use Rattle.pmg_audit.specs.Moves.{Move}
use Rattle.pmg_audit.specs.Orders.{AreTold, IsEventOf, MayGo, TellsMoves, moves_at}

-- the first of these moves of the node may come
abbrev pub MayGoNext : ℕ → List Move → List Sent → Type 0
MayGoNext n [] frames = ⊥
MayGoNext n (m ∷ ms) frames = MayGo n m.act frames

-- the node's next move may come, with these remaining moves
abbrev pub IsReady : List (List Move) → List Sent → ℕ → Type 0
IsReady rest frames n = MayGoNext n (moves_at rest n) frames

-- the event is the node's next move, and may come
pub record IsNext (rest : List (List Move)) (frames : List Sent) (n : ℕ) (e : Event) : Type 0 where
  pub next : Move
  pub later : List Move
  pub there : moves_at rest n ≡ next ∷ later
  pub event : IsEventOf frames n next.act e

-- the move is the node's next one, and these moves remain after it
pub record IsTaken (rest : List (List Move)) (n : ℕ) (m : Move) (rest2 : List (List Move)) : Type 0 where
  pub later : List Move
  pub there : moves_at rest n ≡ m ∷ later
  pub left : rest2 ≡ set rest n later

-- the node has remaining moves
abbrev pub IsOpen : List (List Move) → ℕ → Type 0
IsOpen rest n = moves_at rest n ≡ [] → ⊥

-- the sent frames of these moves
abbrev pub frames_of : List Move → List Sent
frames_of ms = flat_map (λ (m : Move). m.frames) ms

-- the moves before the remaining ones are done: these frames were sent
pub record AreDone (frames : List Sent) (ms rest : List Move) : Type 0 where
  pub done : List Move
  pub cut : ms ≡ done ++ rest
  pub sent : Each (λ s. In s frames) (frames_of done)

-- The progress of an order: these moves remain, and these frames were sent and these events ordered by then. An order of the remaining
-- moves, after these events, is an order of all moves.
pub record IsOrderGoing (all rest : List (List Move)) (frames : List Sent) (told : List Happened) : Type 0 where
  pub covered : (n : ℕ) → AreDone frames (moves_at all n) (moves_at rest n)
  pub sound : (order : List ℕ) (others : List Happened) (final : List Sent) → TellsMoves (moves_at rest) frames order others final → AreTold all (told ++ others) final

-- the number of these moves and of their sent frames
abbrev pub weight : List Move → ℕ
weight [] = 0
weight (m ∷ ms) = suc (length m.frames) + weight ms

-- the weight of all remaining moves
abbrev pub left : List (List Move) → ℕ
left [] = 0
left (ms ∷ rest) = weight ms + left rest

-- some node has remaining moves
abbrev pub SomeOpen : List (List Move) → Type 0
SomeOpen rest = (n : ℕ) × IsOpen rest n
