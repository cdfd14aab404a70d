-- The sent frames, each found by its label.
use Rattle.std.specs.Prelude.{◌≡◌, ℕ, List, [], Option, Some, None, slice_get}
use Rattle.std.specs.BTreeMap.{is_at}
use Rattle.std.specs.Global.{Vec}
use Rattle.std.specs.Map.{lookup}
use Rattle.pmg_value.specs.Lists.{Each, In}
use Rattle.pmg_node_model.specs.declared.sent.Sent.{Sent}
use Rattle.pmg_audit.specs.Labels.{label_cmp, label_of}
use Rattle.pmg_audit.specs.declared.labels.Label.{Label}
use Rattle.pmg_audit.specs.declared.sends.Sends.{Sends}

-- the places of a list, if one is kept; else empty
abbrev pub places_in : Option (Vec ℕ) → List ℕ
places_in None = []
places_in (Some list) = list.items

-- the places under the label
abbrev pub places_under : List (Label × Vec ℕ) → Label → List ℕ
places_under rows label = places_in (lookup (is_at (label_cmp label)) rows)

-- some place under the frame's label has the frame
abbrev pub IsPlaced : List Sent → List (Label × Vec ℕ) → Sent → Type 0
IsPlaced frames rows s = (i : ℕ) × In i (places_under rows (label_of s.to s.frame)) × (slice_get frames i ≡ Some s)

-- each frame has such a place
pub record ArePlaced (frames : List Sent) (rows : List (Label × Vec ℕ)) : Type 0 where
  pub each : (s : Sent) → In s frames → IsPlaced frames rows s

-- the frames and the places of the code agree
abbrev pub AreNumbered : Sends → Type 0
AreNumbered a = ArePlaced a.frames.items a.places.entries

-- no place in the list has the frame
abbrev pub NoneAt : List Sent → Sent → List ℕ → Type 0
NoneAt frames s places = Each (λ i. slice_get frames i ≡ Some s → ⊥) places
