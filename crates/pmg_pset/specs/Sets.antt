-- The process sets of a group, which are what its host's process put last (PMIx Standard 5.0, process sets).
use Rattle.std.specs.Prelude.{◌≡◌, ℕ, Bool, false, List, [], Option, Some, None, is_some, IsTrue}
use Rattle.std.specs.FinMap as finite
use Rattle.std.specs.List.{filter, list_all}
use Rattle.std.specs.Option.{unwrap_or}
use Rattle.pmg_value.specs.declared.process.Proc.{Proc}
use Rattle.pmg_value.specs.Process.{host_name}
use Rattle.pmg_scope.specs.Cached.{global_put}
use Rattle.pmg_commit.specs.Sealed.{Stamp, Stamps, Sealed, sealed_with, are_within}
use Rattle.pmg_commit.specs.TakenBack.{CanRollBack, sealer_back}
use Rattle.pmg_commit.specs.declared.sealer.SealerUndo.{SealerUndo}
use Rattle.pmg_pset.specs.Members.{are_procs, live_of}

-- the process that puts the sets: `pmix.host 0`
abbrev pub host : Proc
host = record { nspace = host_name; rank = 0 }

-- each value is an array of processes
abbrev pub are_sets : Stamps → Bool
are_sets m = list_all (λ e. are_procs e.1.bytes) (finite.entries m)

-- What is kept of the sets: they are what the host's process sealed, which does not end; all nodes see the same; each
-- value is an array of processes; and together they are within the limits of a sealer.
pub record AreSets (z : Sealed) : Type 0 where
  pub host : z.proc ≡ host
  pub going : z.ended ≡ false
  pub alike : z.near ≡ z.far
  pub sets : IsTrue (are_sets z.far)
  pub within : IsTrue (are_within z.far)

-- a change of the sets that can be taken back: what it replaced are sets
pub record AreSetsBack (z : Sealed) (before : SealerUndo) : Type 0 where
  pub sealer : CanRollBack z before
  pub sets : AreSets (sealer_back z before)

-- the bytes of the members' array, where what was put last has members
abbrev pub live_in : Option Stamp → Option (List ℕ)
live_in None = None
live_in (Some stamp) = live_of stamp.bytes

-- the bytes of the members' array of the set of that name, where there is one: it was defined, and not deleted since
abbrev pub live_at : Sealed → List ℕ → Option (List ℕ)
live_at z name = live_in (finite.get z.far name)

-- there is a set of that name
abbrev pub is_live : Sealed → List ℕ → Bool
is_live z name = is_some (live_at z name)

-- the bytes of the members' array, nothing where there is no such set
abbrev pub members_at : Sealed → List ℕ → List ℕ
members_at z name = unwrap_or (live_at z name) []

-- the names of the sets that are there, in the order of their bytes
abbrev pub live_names : Sealed → List (List ℕ)
live_names z = filter (is_live z) (finite.keys z.far)

-- the sets once a change is made: the next commit of the host's process seals these bytes under the name, for all
abbrev pub set_changed : Sealed → List ℕ → List ℕ → Sealed
set_changed z name bytes = sealed_with z (global_put name bytes)
