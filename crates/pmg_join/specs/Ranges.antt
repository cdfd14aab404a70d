-- Sets of numbers as ranges.
use Rattle.std.specs.Prelude.{◌≡◌, ℕ, zero, suc, ◌-◌, ◌<◌, ◌≤◌, Bool, ◌&&◌, nat_lt, nat_le, List, [], ◌∷◌, ◌++◌, Option, Some, None}
use Rattle.std.specs.Ordering.{nat_cmp}
use Rattle.std.specs.FinSet as set
use Rattle.std.specs.BTreeMap.{BTreeMap, get, keys}

-- the number is above from, and at most to
abbrev pub is_between : ℕ → ℕ → ℕ → Bool
is_between from to n = nat_lt from n && nat_le n to

-- the range from `from` to `to` has the number: it is above from, and at most to
abbrev pub Between : ℕ → ℕ → ℕ → Type 0
Between from to n = (from < n) × (n ≤ to)

-- one of the ranges begins at `from` and ends at `to`
abbrev pub HasRange : BTreeMap ℕ ℕ → ℕ → ℕ → Type 0
HasRange ends from to = get nat_cmp ends from ≡ Some to

-- one of the ranges has the number
abbrev pub Covers : BTreeMap ℕ ℕ → ℕ → Type 0
Covers ends n = (from : ℕ) × (to : ℕ) × HasRange ends from to × Between from to n

-- one of the ranges has all from `from` to `to`; for an empty range, one of them reaches there
abbrev pub Spans : BTreeMap ℕ ℕ → ℕ → ℕ → Type 0
Spans ends from to = (start : ℕ) × (end : ℕ) × HasRange ends start end × (start ≤ from) × (to ≤ end)

-- each range of the one is inside a range of the other
abbrev pub LieIn : BTreeMap ℕ ℕ → BTreeMap ℕ ℕ → Type 0
LieIn ends others = (from to : ℕ) → HasRange ends from to → Spans others from to

-- no range ends before it begins, and between each and the next a number is missing
abbrev pub AreApart : BTreeMap ℕ ℕ → Type 0
AreApart ends = (from to : ℕ) → HasRange ends from to → (from ≤ to) × ((start end : ℕ) → HasRange ends start end → from < start → to < start)

-- there is room for each range of the one in the other, which reaches the number where it begins
abbrev pub HaveRoom : BTreeMap ℕ ℕ → BTreeMap ℕ ℕ → Type 0
HaveRoom ends others = (from to : ℕ) → HasRange ends from to → Spans others from from

-- the next numbers above from, as many as count says
unfoldable pub numbers_above : ℕ → ℕ → List ℕ
numbers_above from zero = []
numbers_above from (suc count) = suc from ∷ numbers_above (suc from) count

-- the numbers of the range that begins at from, if one does
abbrev pub numbers_in : ℕ → Option ℕ → List ℕ
numbers_in from None = []
numbers_in from (Some to) = numbers_above from (to - from)

-- the numbers of the ranges that begin at the starts, one after the other
unfoldable pub numbers_of : BTreeMap ℕ ℕ → List ℕ → List ℕ
numbers_of ends [] = []
numbers_of ends (from ∷ starts) = numbers_in from (get nat_cmp ends from) ++ numbers_of ends starts

-- the set of the numbers of the ranges
unfoldable pub set_of : BTreeMap ℕ ℕ → set.FinSet nat_cmp
set_of ends = set.from_list (numbers_of ends (keys ends))
