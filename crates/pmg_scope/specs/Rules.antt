-- The rules of scripts.
use Rattle.std.specs.Prelude.{◌≡◌, ℕ, ◌≤◌, ◌++◌, List, Some, None, true}
use Rattle.pmg_scope.specs.declared.scope.Reach.{Reach}
use Rattle.pmg_scope.specs.Scripts.{Script, has_end, commits, value_at}
use Rattle.pmg_scope.specs.Sealing.{part_of, IsSealed, NoneSealed}

-- later calls never lower the number of a process's commits
abbrev pub CommitsNeverFall : Type 0
CommitsNeverFall = (s later : Script) → commits s ≤ commits (s ++ later)

-- later calls do not change the values that the commits left
abbrev pub PastValuesStay : Type 0
PastValuesStay = (s later : Script) (n : ℕ) (r : Reach) (k : List ℕ) → n ≤ commits s → value_at (s ++ later) n r k ≡ value_at s n r k

-- after its end a process makes no commit
abbrev pub EndIsLast : Type 0
EndIsLast = (s later : Script) → has_end s ≡ true → commits (s ++ later) ≡ commits s

-- later calls do not change the calls that the commits sealed
abbrev pub PastSealsStay : Type 0
PastSealsStay = (s later : Script) (n : ℕ) → n ≤ commits s → part_of (s ++ later) n ≡ part_of s n

-- a commit leaves the value of the put that was sealed last
abbrev pub SealedIsValue : Type 0
SealedIsValue = (s : Script) (r : Reach) (k : List ℕ) (n j : ℕ) (bytes : List ℕ) → IsSealed s r k n j bytes → value_at s n r k ≡ Some bytes

-- without a sealed put there is no value
abbrev pub NoneIsNoValue : Type 0
NoneIsNoValue = (s : Script) (r : Reach) (k : List ℕ) (n : ℕ) → NoneSealed s r k n → value_at s n r k ≡ None
