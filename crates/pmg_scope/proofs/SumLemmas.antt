-- What rows count for: sums over the entries of a map.
use Rattle.std.proofs.Common.{◌≡◌, ℕ, ◌+◌, Bool, true, false, cond, ◌&&◌, T, List, [], ◌∷◌, length, Some, None, is_some, refl, sym, ap, ◌∙◌, arith}
use Rattle.std.specs.FinMap as finite
use Rattle.std.specs.FinMap.Entries.{find, put, by_order, below_all, is_sorted}
use Rattle.std.specs.List.{sum_by}
use Rattle.std.specs.declared.cmp.Ordering.{Ordering}
use Rattle.std.specs.declared.cmp.Ordering.TheVariants.{Less, Equal, Greater}
use Rattle.std.specs.Ordering.{nat_cmp, is_lt, is_eq}
use Rattle.std.specs.Cmp.Lexicographic.{slice_cmp, nat_list_cmp_total}
use Rattle.std.proofs.lemmas.List.Sums.{sum_by-cons}
use Rattle.std.proofs.lemmas.Map.Lookups.{exact_bytes}
use Rattle.pmg_scope.specs.Rows.{KeyMap, size_by, counted_by}
use Rattle.pmg_value.proofs.RowLemmas.{entries_of_nothing}

pub t_first : (a b : Bool) → T (a && b) → T a
t_first true b h = tt
t_first false b h = absurd h

pub t_second : (a b : Bool) → T (a && b) → T b
t_second true b h = h
t_second false b h = absurd h

pub is_less : (o : Ordering) → T (is_lt o) → o ≡ Less
is_less Less h = refl
is_less Equal h = absurd h
is_less Greater h = absurd h

module _ {X : Type 0} (h : X → ℕ) where
  -- no entry stands under a key that is below all
  none_below : (k x : List ℕ) (es : List (List ℕ × X)) → slice_cmp nat_cmp k x ≡ Less → T (below_all (slice_cmp nat_cmp) x es) → find (slice_cmp nat_cmp) k es ≡ None
  none_below k x [] less below = refl
  none_below k x (f ∷ fs) less below =
      let next = is_less (slice_cmp nat_cmp x f.0) (t_first (is_lt (slice_cmp nat_cmp x f.0)) (below_all (slice_cmp nat_cmp) x fs) below) in
      ap (λ (o : Ordering). cond (is_eq o) (Some f.1) (find (slice_cmp nat_cmp) k fs)) (nat_list_cmp_total.trans k x f.0 less next)
      ∙ none_below k x fs less (t_second (is_lt (slice_cmp nat_cmp x f.0)) (below_all (slice_cmp nat_cmp) x fs) below)

  -- the sum of the rows, where one is put beside the first row in this order
  put_beside : (k : List ℕ) (v : X) (e : List ℕ × X) (es : List (List ℕ × X)) (o : Ordering) → slice_cmp nat_cmp k e.0 ≡ o
      → T (below_all (slice_cmp nat_cmp) e.0 es)
      → sum_by (size_by h) (put (slice_cmp nat_cmp) k v es) + counted_by h k (find (slice_cmp nat_cmp) k es) ≡ sum_by (size_by h) es + size_by h (k, v)
      → sum_by (size_by h) (by_order o ((k, v) ∷ e ∷ es) ((e.0, v) ∷ es) (e ∷ put (slice_cmp nat_cmp) k v es)) + counted_by h k (cond (is_eq o) (Some e.1) (find (slice_cmp nat_cmp) k es))
      ≡ sum_by (size_by h) (e ∷ es) + size_by h (k, v)
  put_beside k v e es Less is below others =
      let none : counted_by h k (find (slice_cmp nat_cmp) k es) ≡ 0 = ap (counted_by h k) (none_below k e.0 es is below) in
      let rows = sum_by-cons (size_by h) (k, v) (e ∷ es) in
      omega (arith, none, rows)
  put_beside k v e es Equal is below others =
      let same : length k ≡ length e.0 = ap length (exact_bytes k e.0 is) in
      let old = sum_by-cons (size_by h) e es in
      let new = sum_by-cons (size_by h) (e.0, v) es in
      omega (arith, same, old, new)
  put_beside k v e es Greater is below others =
      let old = sum_by-cons (size_by h) e es in
      let new = sum_by-cons (size_by h) e (put (slice_cmp nat_cmp) k v es) in
      omega (arith, others, old, new)

  size_put : (k : List ℕ) (v : X) (es : List (List ℕ × X)) → T (is_sorted (slice_cmp nat_cmp) es)
      → sum_by (size_by h) (put (slice_cmp nat_cmp) k v es) + counted_by h k (find (slice_cmp nat_cmp) k es) ≡ sum_by (size_by h) es + size_by h (k, v)
  size_put k v [] sorted = omega arith
  size_put k v (e ∷ es) sorted =
      put_beside k v e es (slice_cmp nat_cmp k e.0) refl
      (t_first (below_all (slice_cmp nat_cmp) e.0 es) (is_sorted (slice_cmp nat_cmp) es) sorted)
      (size_put k v es (t_second (below_all (slice_cmp nat_cmp) e.0 es) (is_sorted (slice_cmp nat_cmp) es) sorted))

  pub sum_put : (m : KeyMap X) (k : List ℕ) (v : X)
      → sum_by (size_by h) (finite.entries (finite.insert m k v)) + counted_by h k (finite.get m k) ≡ sum_by (size_by h) (finite.entries m) + size_by h (k, v)
  sum_put m k v =
      (λ i. sum_by (size_by h) (finite.entries-insert nat_list_cmp_total m k v i) + counted_by h k (finite.get-entries m k i))
      ∙ size_put k v (finite.entries m) (finite.entries_sorted m)

  pub sum_of_nothing : sum_by (size_by h) (finite.entries (finite.empty {X = X} {R = slice_cmp nat_cmp})) ≡ 0
  sum_of_nothing = ap (sum_by (size_by h)) (entries_of_nothing (slice_cmp nat_cmp))

-- ---- how many entries

pub len_held : {X : Type 0} (m : KeyMap X) (k : List ℕ) (v w : X) → Some w ≡ finite.get m k → finite.len m ≡ finite.len (finite.insert m k v)
len_held m k v w e = sym (finite.len-insert nat_list_cmp_total m k v ∙ ap (λ o. cond (is_some o) (finite.len m) (finite.len m + 1)) (sym e))

pub len_added : {X : Type 0} (m : KeyMap X) (k : List ℕ) (v : X) → None ≡ finite.get m k → finite.len m + 1 ≡ finite.len (finite.insert m k v)
len_added m k v e = sym (finite.len-insert nat_list_cmp_total m k v ∙ ap (λ o. cond (is_some o) (finite.len m) (finite.len m + 1)) (sym e))
