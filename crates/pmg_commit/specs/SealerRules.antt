-- The common growth of a sealer and a script.
use Rattle.std.specs.Prelude.{◌≡◌, ◌↔◌, ℕ, List, [], ◌∷◌, ◌++◌, map, Some, None, true, false}
use Rattle.std.specs.FinMap as finite
use Rattle.pmg_value.specs.Signatures.{Signature}
use Rattle.pmg_value.specs.declared.process.Proc.{Proc}
use Rattle.pmg_scope.specs.declared.scope.Scope.{Scope}
use Rattle.pmg_scope.specs.declared.scope.Scope.TheVariants as scopes
use Rattle.pmg_scope.specs.declared.scope.Reach.{Reach}
use Rattle.pmg_scope.specs.declared.scope.Reach.TheVariants as reach
use Rattle.pmg_scope.specs.Scripts.{Call, Script, has_end, commits, last_put}
use Rattle.pmg_scope.specs.Sealing.{IsSealed, next_part}
use Rattle.pmg_scope.specs.Cached.{Cached, Unsealed, FitsCache, unsealed_of}
use Rattle.pmg_commit.specs.Honest.{IsHonest}
use Rattle.pmg_commit.specs.Sealed.{Stamps, Stamp, Sealed, fresh, sealed_with, ended_with, is_other, piece_at}

-- The batch fits the script: it has under each key the last put that no commit sealed.
pub record FitsBatch (b : Unsealed) (s : Script) : Type 0 where
  pub near : (key : List ℕ) → finite.get b.near key ≡ last_put reach.Near key (next_part s)
  pub far : (key : List ℕ) → finite.get b.far key ≡ last_put reach.Far key (next_part s)

-- the stamps are the stamps of the script's commits
abbrev pub FitsStamps : Stamps → Script → Reach → Type 0
FitsStamps m s r = (key : List ℕ) (stamp : Stamp) → (finite.get m key ≡ Some stamp) ↔ IsSealed s r key (commits s) stamp.number stamp.bytes

-- The sealer fits the script: its level is the number of the commits, and under each key it has the put that they sealed last.
pub record FitsSealer (z : Sealed) (s : Script) : Type 0 where
  pub ended : z.ended ≡ has_end s
  pub level : z.level ≡ commits s
  pub near : FitsStamps z.near s reach.Near
  pub far : FitsStamps z.far s reach.Far

-- a fitting cache has a fitting batch for others
abbrev pub BatchFits : Type 0
BatchFits = (c : Cached) (s : Script) → FitsCache c s → FitsBatch (unsealed_of c) s

-- the puts of a batch: for each key a put that the other processes on the node see, and a put that processes on other nodes see
abbrev pub batch_puts : Unsealed → Script
batch_puts b = map (λ e. Call.put scopes.Local e.0 e.1) (finite.entries b.near) ++ map (λ e. Call.put scopes.Remote e.0 e.1) (finite.entries b.far)

-- a script without unsealed puts
abbrev pub IsAllSealed : Script → Type 0
IsAllSealed s = (r : Reach) (key : List ℕ) → last_put r key (next_part s) ≡ None

-- any batch fits a script whose only puts since the last commit are the batch's
abbrev pub AnyBatchFits : Type 0
AnyBatchFits = (b : Unsealed) (s : Script) → IsAllSealed s → FitsBatch b (s ++ batch_puts b)

-- a sealer without commits fits a script without calls
abbrev pub NewSealerFits : Type 0
NewSealerFits = (proc : Proc) → FitsSealer (fresh proc) []

-- a commit seals the puts since the commit before
abbrev pub SealFits : Type 0
SealFits = (z : Sealed) (b : Unsealed) (s : Script) → has_end s ≡ false → FitsBatch b s → FitsSealer z s → FitsSealer (sealed_with z b) (s ++ Call.commit ∷ [])

-- an end seals itself, and the puts since the last commit are lost
abbrev pub SealerEndFits : Type 0
SealerEndFits = (z : Sealed) (s : Script) → has_end s ≡ false → FitsSealer z s → FitsSealer (ended_with z) (s ++ Call.terminate ∷ [])

-- a put seals nothing
abbrev pub PutSealsNothing : Type 0
PutSealsNothing = (z : Sealed) (s : Script) (scope : Scope) (key value : List ℕ) → FitsSealer z s → FitsSealer z (s ++ Call.put scope key value ∷ [])

-- nor does an entry into a fence
abbrev pub EnterSealsNothing : Type 0
EnterSealsNothing = (z : Sealed) (s : Script) (f : Signature) → FitsSealer z s → FitsSealer z (s ++ Call.enter f ∷ [])

-- a fitting sealer's pieces are honest
abbrev pub PiecesAreHonest : Type 0
PiecesAreHonest = (z : Sealed) (s : Script) (from : ℕ) (r : Reach) → FitsSealer z s → is_other r ≡ true → IsHonest s r (piece_at z from r)

-- a process and its script have one sealer
abbrev pub SealerIsOne : Type 0
SealerIsOne = (z w : Sealed) (s : Script) → FitsSealer z s → FitsSealer w s → z.proc ≡ w.proc → z ≡ w
