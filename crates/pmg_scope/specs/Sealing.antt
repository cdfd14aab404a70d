-- The puts that a process's commits sealed last.
use Rattle.std.specs.Prelude.{◌≡◌, ℕ, zero, suc, ◌<◌, ◌≤◌, List, [], ◌∷◌, Some, None}
use Rattle.pmg_scope.specs.declared.scope.Reach.{Reach}
use Rattle.pmg_scope.specs.Scripts.{Call, Script, sealed, count_commits, last_put}

-- the calls that the commit after n others seals
unfoldable pub part : ℕ → Script → Script
part n [] = []
part zero (Call.put scope key value ∷ cs) = Call.put scope key value ∷ part zero cs
part (suc n) (Call.put scope key value ∷ cs) = part (suc n) cs
part zero (Call.commit ∷ cs) = []
part (suc n) (Call.commit ∷ cs) = part n cs
part zero (Call.enter f ∷ cs) = Call.enter f ∷ part zero cs
part (suc n) (Call.enter f ∷ cs) = part (suc n) cs
part zero (Call.terminate ∷ cs) = Call.terminate ∷ part zero cs
part (suc n) (Call.terminate ∷ cs) = part (suc n) cs

-- the calls that the process's n-th commit sealed
unfoldable pub part_of : Script → ℕ → Script
part_of s zero = []
part_of s (suc n) = part n (sealed s)

-- This was put last, of the puts that the first n commits sealed under the key for that reach, and the j-th commit sealed it.
pub record IsSealed (s : Script) (r : Reach) (k : List ℕ) (n j : ℕ) (bytes : List ℕ) : Type 0 where
  pub some : 0 < j
  pub within : j ≤ n
  pub put : last_put r k (part_of s j) ≡ Some bytes
  pub last : (i : ℕ) → j < i → i ≤ n → last_put r k (part_of s i) ≡ None

-- the first n commits sealed nothing under the key for that reach
abbrev pub NoneSealed : Script → Reach → List ℕ → ℕ → Type 0
NoneSealed s r k n = (i : ℕ) → 0 < i → i ≤ n → last_put r k (part_of s i) ≡ None

-- the calls that the next commit will seal
abbrev pub next_part : Script → Script
next_part s = part (count_commits s) s
