-- Levels: how far a set of commit numbers goes without a gap.
use Rattle.std.specs.Prelude.{ℕ, zero, suc, ◌+◌, ◌<◌, ◌≤◌, ◌≡◌, max, Bool, true, false, cond, ◌&&◌, ◌==◌, List, [], ◌∷◌}
use Rattle.std.specs.Ordering.{nat_cmp}
use Rattle.std.specs.FinSet as set

-- the greatest of the numbers, 0 without numbers
unfoldable pub largest : List ℕ → ℕ
largest [] = 0
largest (n ∷ ns) = max n (largest ns)

-- the greatest number up to n such that each of 1 to it passes the test
unfoldable pub reach : (ℕ → Bool) → ℕ → ℕ
reach test zero = 0
reach test (suc n) = cond ((reach test n == n) && test (suc n)) (suc n) (reach test n)

-- the greatest n such that 1 to n are all in the set, else 0
unfoldable pub level : set.FinSet nat_cmp → ℕ
level numbers = reach (set.contains numbers) (largest (set.items numbers))

-- each of 1 to n passes the test, and the next one does not
abbrev pub IsReach : (ℕ → Bool) → ℕ → Type 0
IsReach test n = ((i : ℕ) → 0 < i → i ≤ n → test i ≡ true) × (test (n + 1) ≡ false)
