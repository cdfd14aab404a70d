-- Two servers that have taken equal sets of pieces, in any order, in any grouping and with any repeats, hold equal data.
use Rattle.std.specs.Prelude.{ℕ, ◌≡◌, ◌≤◌, List, [], ◌∷◌, ◌++◌, length, Ok}
use Rattle.std.specs.FinMap as finite
use Rattle.pmg_value.specs.declared.process.Proc.{Proc}
use Rattle.pmg_value.specs.Lists.{SameItems, Each}
use Rattle.pmg_wire.specs.Reading.{IsBytes}
use Rattle.pmg_commit.specs.Knowledge.{Contribution, core}
use Rattle.pmg_commit.specs.Data.{Data, join_data, absorbed, known, level_at, read_at}
use Rattle.pmg_store.specs.Dump.{dump}
use Rattle.pmg_store.specs.Dumps.{stream_dump}
use Rattle.pmg_store.specs.Merged.{merge_of, one_after_the_other}
use Rattle.pmg_store.specs.Pieces.{data_of, pieces_told}
use Rattle.pmg_store.specs.Told.{told_in}
use Rattle.pmg_store.specs.declared.merge.TheConstants.{MAX_STREAMS}

-- A way to build a store: make it, let it take a piece, or let it join another store.
pub data Taking : Type 0 where
  made : Taking
  absorb : Taking → Contribution → Taking
  join : Taking → Taking → Taking

-- the content of the store after these calls
abbrev pub held_by : Taking → Data
held_by Taking.made = finite.empty
held_by (Taking.absorb store piece) = absorbed (held_by store) piece
held_by (Taking.join store other) = join_data (held_by store) (held_by other)

-- the contributions that the store took
abbrev pub taken_by : Taking → List Contribution
taken_by Taking.made = []
taken_by (Taking.absorb store piece) = taken_by store ++ piece ∷ []
taken_by (Taking.join store other) = taken_by store ++ taken_by other

-- The convergence theorem (strong eventual consistency). Two servers that took equal sets of contributions, in any order, in any grouping
-- and with any repeats, hold equal data and print equal dumps. For each process the data is the core of the union of its contributions'
-- knowledge.
abbrev pub Converges : Type 0
Converges =
    (a b : Taking) → SameItems (taken_by a) (taken_by b)
    → (held_by a ≡ held_by b) × (dump (held_by a) ≡ dump (held_by b)) × ((p : Proc) → known (held_by a) p ≡ core (pieces_told p (taken_by a)))

-- in any order, and with any repeats
abbrev pub SameInAnyOrder : Type 0
SameInAnyOrder = (xs ys : List Contribution) → SameItems xs ys → data_of xs ≡ data_of ys

-- one by one, or as stores that were joined
abbrev pub SameInAnyGrouping : Type 0
SameInAnyGrouping = (xs ys : List Contribution) → join_data (data_of xs) (data_of ys) ≡ data_of (xs ++ ys)

-- equal sets of contributions give equal levels and equal reads
abbrev pub ReadsAlike : Type 0
ReadsAlike =
    (xs ys : List Contribution)
    → SameItems xs ys
    → (p : Proc)
    → (level_at (data_of xs) p ≡ level_at (data_of ys) p) × ((key : List ℕ) → read_at (data_of xs) p key ≡ read_at (data_of ys) p key)

-- equal sets of contributions give equal dumps
abbrev pub PrintsAlike : Type 0
PrintsAlike = (xs ys : List Contribution) → SameItems xs ys → dump (data_of xs) ≡ dump (data_of ys)

-- Streams with equal sets of contributions have equal dumps.
abbrev pub StreamsPrintAlike : Type 0
StreamsPrintAlike = (a b : List ℕ) (xs ys : List Contribution) → told_in a ≡ Ok xs → told_in b ≡ Ok ys → SameItems xs ys → stream_dump a ≡ stream_dump b

-- Merged streams print equal dumps in any order, and with any repeats of a stream.
abbrev pub MergesAlike : Type 0
MergesAlike = (xs ys : List (List ℕ)) (text : List ℕ) → SameItems xs ys → length ys ≤ MAX_STREAMS → merge_of xs ≡ Ok text → merge_of ys ≡ Ok text

-- The dump of merged streams is the dump of their concatenation.
abbrev pub MergesAsOne : Type 0
MergesAsOne = (streams : List (List ℕ)) (text : List ℕ) → Each IsBytes streams → merge_of streams ≡ Ok text → stream_dump (one_after_the_other streams) ≡ Ok text

-- The data of each process is the core of the union of its pieces' knowledge.
abbrev pub HoldsUnion : Type 0
HoldsUnion = (pieces : List Contribution) (p : Proc) → known (data_of pieces) p ≡ core (pieces_told p pieces)
