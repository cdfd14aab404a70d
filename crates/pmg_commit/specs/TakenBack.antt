-- Commits that are taken back, by the earlier state.
use Rattle.std.specs.Prelude.{◌≡◌, ℕ, List, [], ◌∷◌, Option, Some, None}
use Rattle.std.specs.Option.{option_map}
use Rattle.pmg_value.specs.Rows.{put_back}
use Rattle.pmg_commit.specs.declared.last_puts.SealedPut.{SealedPut}
use Rattle.pmg_commit.specs.declared.stamps.StampsUndo.{StampsUndo}
use Rattle.pmg_commit.specs.declared.sealer.SealerUndo.{SealerUndo}
use Rattle.pmg_commit.specs.Sealed.{Stamps, Sealed, stamps_size}
use Rattle.pmg_commit.specs.Stamped.{stamp_of, IsSealer}

-- the stamps with the earlier put under each key, the first change first in the list
abbrev pub all_back : Stamps → List (List ℕ × Option SealedPut) → Stamps
all_back m [] = m
all_back m (before ∷ others) = put_back (all_back m others) before.0 (option_map stamp_of before.1)

-- the stamps as they were
abbrev pub stamps_back : Stamps → StampsUndo → Stamps
stamps_back m before = all_back m before.puts.items

-- the earlier size is the size once the commit is taken back
abbrev pub FitsBack : Stamps → StampsUndo → Type 0
FitsBack m before = before.size ≡ stamps_size (stamps_back m before)

-- the sealer as it was
abbrev pub sealer_back : Sealed → SealerUndo → Sealed
sealer_back z before = record {
  proc = z.proc;
  level = before.level;
  ended = before.ended;
  near = stamps_back z.near before.near;
  far = stamps_back z.far before.far;
}

-- the sealer as it was before an end, if there was one
abbrev pub end_back : Sealed → Option SealerUndo → Sealed
end_back z None = z
end_back z (Some before) = sealer_back z before

-- A commit that can be taken back: the replaced puts are parts of a sealer.
pub record CanRollBack (z : Sealed) (before : SealerUndo) : Type 0 where
  pub near : FitsBack z.near before.near
  pub far : FitsBack z.far before.far
  pub sealer : IsSealer (sealer_back z before)
