-- Runs: items of consecutive ranks that differ only in their ranks.
use Rattle.std.specs.Prelude.{◌≡◌, ℕ, zero, suc, ◌-◌, nat_le, Bool, true, not, if◌then◌else◌, List, [], ◌∷◌, drop, slice_get, Some}
use Rattle.std.specs.List.{flat_map, list_all}
use Rattle.pmg_value.specs.Lists.{is_chain}
use Rattle.pmg_value.specs.Process.{is_same_proc}
use Rattle.pmg_value.specs.declared.process.Proc.{Proc}
use Rattle.pmg_frame.specs.declared.local.Local.{Local}
use Rattle.pmg_frame.specs.contracts.local.LocalPartialEq.TheImpl as local_tests

-- items with ranks: the rank of each, the item that differs from it only in the rank, and whether two are equal
pub record Ranked (A : Type 0) : Type 0 where
  pub rank : A → ℕ
  pub at : A → ℕ → A
  pub same : A → A → Bool

-- processes
abbrev pub proc_ranks : Ranked Proc
proc_ranks = record { rank = λ p. p.rank; at = λ p n. record { nspace = p.nspace; rank = n }; same = is_same_proc }

-- lines of headers
abbrev pub local_ranks : Ranked Local
local_ranks = record {
  rank = λ l. l.proc.rank;
  at = λ l n. record { proc = record { nspace = l.proc.nspace; rank = n }; state = l.state; level = l.level };
  same = local_tests.ghosts.eq;
}

-- a run: its first item, and the rank of its last one
pub record RankRun (A : Type 0) : Type 0 where
  pub first : A
  pub last : ℕ

-- the run from this item to that rank
abbrev pub run : {A : Type 0} → A → ℕ → RankRun A
run first last = record { first = first; last = last }

-- the item after this one in a run
abbrev pub next_rank : {A : Type 0} → Ranked A → A → A
next_rank k x = k.at x (suc (k.rank x))

-- so many items of a run, from this one on
unfoldable pub line : {A : Type 0} → Ranked A → ℕ → A → List A
line k zero x = []
line k (suc n) x = x ∷ line k n (next_rank k x)

-- the items that a run stands for
abbrev pub items_of : {A : Type 0} → Ranked A → RankRun A → List A
items_of k r = line k (suc r.last - k.rank r.first) r.first

-- the run goes on with the item
abbrev pub goes_on_with : {A : Type 0} → Ranked A → RankRun A → A → Bool
goes_on_with k r x = k.same (k.at r.first (suc r.last)) x

-- an item before runs: it belongs to the first run if that goes on from it
abbrev pub with_item : {A : Type 0} → Ranked A → A → List (RankRun A) → List (RankRun A)
with_item k x [] = record { first = x; last = k.rank x } ∷ []
with_item k x (r ∷ rs) =
    if k.same (next_rank k x) r.first then record { first = x; last = r.last } ∷ rs else record { first = x; last = k.rank x } ∷ r ∷ rs

-- the longest runs that stand for the items
unfoldable pub runs_of : {A : Type 0} → Ranked A → List A → List (RankRun A)
runs_of k [] = []
runs_of k (x ∷ xs) = with_item k x (runs_of k xs)

-- the first run does not go on where the second one begins
abbrev pub is_apart : {A : Type 0} → Ranked A → RankRun A → RankRun A → Bool
is_apart k r s = not (goes_on_with k r s.first)

-- Runs that stand for these items: no run is empty, and no run goes on where the next one begins.
pub record AreRunsOf {A : Type 0} (k : Ranked A) (rs : List (RankRun A)) (xs : List A) : Type 0 where
  pub some : list_all (λ r. nat_le (k.rank r.first) r.last) rs ≡ true
  pub apart : is_chain (is_apart k) rs ≡ true
  pub items : flat_map (items_of k) rs ≡ xs

-- so many of the items are their first run: it goes from the first item to the last of these
abbrev pub IsFirstRun : {A : Type 0} → Ranked A → List A → ℕ → Type 0
IsFirstRun {A} k xs n = (first last : A) → slice_get xs 0 ≡ Some first → slice_get xs (n - 1) ≡ Some last → runs_of k xs ≡ run first (k.rank last) ∷ runs_of k (drop n xs)

-- each list of items has one list of runs
abbrev pub HaveOneList : {A : Type 0} → Ranked A → Type 0
HaveOneList {A} k = (xs : List A) → AreRunsOf k (runs_of k xs) xs × ((rs : List (RankRun A)) → AreRunsOf k rs xs → rs ≡ runs_of k xs)
