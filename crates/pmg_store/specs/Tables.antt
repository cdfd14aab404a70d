-- The content of trees of places that may be empty.
use Rattle.std.specs.Prelude.{ℕ, List, [], ◌∷◌, map, Option, Some, None}
use Rattle.pmg_value.specs.declared.process.Proc.{Proc}
use Rattle.pmg_value.specs.Spelling.{spelling}
use Rattle.pmg_commit.specs.declared.piece.PieceEntry.{PieceEntry}
use Rattle.pmg_lane.specs.Lanes.{core_in, known_by}
use Rattle.pmg_lane.specs.declared.entries.Stamp.{Stamp}
use Rattle.pmg_lane.specs.declared.track.Track.{Track}
use Rattle.pmg_store.specs.Dump.{known_text}

-- a place before others, if it is not empty, with its content as f shows it
abbrev pub filled_before : {K V X : Type 0} → (V → X) → K → Option V → List (K × X) → List (K × X)
filled_before f key None others = others
filled_before f key (Some value) others = (key, f value) ∷ others

-- the places that are not empty, with their content as f shows it
abbrev pub filled : {K V X : Type 0} → (V → X) → List (K × Option V) → List (K × X)
filled f [] = []
filled f (place ∷ places) = filled_before f place.0 place.1 (filled f places)

-- the keys, with the canonical bytes of the values
abbrev pub lines_of : List (List ℕ × Option Stamp) → List (List ℕ × List ℕ)
lines_of places = filled (λ s. spelling s.value) places

-- the keys of entries, with the canonical bytes of their values
abbrev pub rows_told : List PieceEntry → List (List ℕ × List ℕ)
rows_told entries = map (λ e. (e.key, spelling e.value)) entries

-- the lines of a process, if there is a lane
abbrev pub lane_text : Proc → Option Track → List ℕ
lane_text p None = []
lane_text p (Some t) = known_text p (known_by t)

-- the lines of a process in its place
abbrev pub place_text : Proc × Option Track → List ℕ
place_text place = lane_text place.0 place.1

-- the processes that have lanes
abbrev pub procs_of_lanes : List (Proc × Option Track) → List Proc
procs_of_lanes places = map (λ e. e.0) (filled core_in places)
