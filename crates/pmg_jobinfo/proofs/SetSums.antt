-- What the items of a finite set count for, when one is put to it.
use Rattle.std.proofs.Common.{◌≡◌, ℕ, ◌+◌, cond, ◌||◌, T, List, [], ◌∷◌, map, Option, Some, None, is_some, refl, sym, ap, ◌∙◌, arith}
use Rattle.std.specs.Cmp.{IsTotalOrder}
use Rattle.std.specs.FinMap as finite
use Rattle.std.specs.FinMap.Entries.{find, put, by_order, below_all, is_sorted}
use Rattle.std.specs.FinSet as set
use Rattle.std.specs.List.{sum_by}
use Rattle.std.specs.List.Sorted.{IsStrictlySortedBy}
use Rattle.std.specs.Ordering.{is_lt, is_eq, eq_by_cmp}
use Rattle.std.specs.declared.cmp.Ordering.{Ordering}
use Rattle.std.specs.declared.cmp.Ordering.TheVariants.{Less, Equal, Greater}
use Rattle.std.proofs.lemmas.List.Sums.{sum_by-cons}
use Rattle.pmg_value.specs.InOrder.{as_entries, in_order}
use Rattle.pmg_value.proofs.SetOrder.{any_in_order, in_order-from_list, units, some_if}
use Rattle.pmg_scope.proofs.SumLemmas.{t_first, t_second, is_less}

module _ {K : Type 0} {R : K → K → Ordering} (o : IsTotalOrder R) (exact : set.IsAntisymmetric R) (f : K → ℕ) where
  abbrev Marks : Type 0
  Marks = List (K × Unit {0})

  -- what an entry counts for
  abbrev size : K × Unit {0} → ℕ
  size e = f e.0

  -- and what was there already
  abbrev held : K → Option (Unit {0}) → ℕ
  held k None = 0
  held k (Some u) = f k

  none_below : (k x : K) (es : Marks) → R k x ≡ Less → T (below_all R x es) → find R k es ≡ None
  none_below k x [] less below = refl
  none_below k x (e ∷ es) less below =
      let next = is_less (R x e.0) (t_first (is_lt (R x e.0)) (below_all R x es) below) in
      ap (λ (r : Ordering). cond (is_eq r) (Some e.1) (find R k es)) (o.trans k x e.0 less next)
      ∙ none_below k x es less (t_second (is_lt (R x e.0)) (below_all R x es) below)

  put_beside : (k : K) (e : K × Unit {0}) (es : Marks) (r : Ordering) → R k e.0 ≡ r → T (below_all R e.0 es)
      → sum_by size (put R k tt es) + held k (find R k es) ≡ sum_by size es + f k
      → sum_by size (by_order r ((k, tt) ∷ e ∷ es) ((e.0, tt) ∷ es) (e ∷ put R k tt es)) + held k (cond (is_eq r) (Some e.1) (find R k es)) ≡ sum_by size (e ∷ es) + f k
  put_beside k e es Less is below others =
      let none : held k (find R k es) ≡ 0 = ap (held k) (none_below k e.0 es is below) in
      let rows = sum_by-cons size (k, tt) (e ∷ es) in
      omega (arith, none, rows)
  put_beside k e es Equal is below others =
      let same : f k ≡ f e.0 = ap f (exact k e.0 is) in
      let old = sum_by-cons size e es in
      let new = sum_by-cons size (e.0, tt) es in
      omega (arith, same, old, new)
  put_beside k e es Greater is below others =
      let old = sum_by-cons size e es in
      let new = sum_by-cons size e (put R k tt es) in
      omega (arith, others, old, new)

  size_put : (k : K) (es : Marks) → T (is_sorted R es) → sum_by size (put R k tt es) + held k (find R k es) ≡ sum_by size es + f k
  size_put k [] sorted = omega arith
  size_put k (e ∷ es) sorted =
      put_beside k e es (R k e.0) refl (t_first (below_all R e.0 es) (is_sorted R es) sorted) (size_put k es (t_second (below_all R e.0 es) (is_sorted R es) sorted))

  sum_of_keys : (es : Marks) → sum_by f (map (λ e. e.0) es) ≡ sum_by size es
  sum_of_keys [] = refl
  sum_of_keys (e ∷ es) =
      let keys = sum_by-cons f e.0 (map (λ e. e.0) es) in
      let rows = sum_by-cons size e es in
      let rest = sum_of_keys es in
      omega (arith, keys, rows, rest)

  by_case : (k : K) (there : Option (Unit {0})) (new old : ℕ) → new + held k there ≡ old + f k → new ≡ cond (is_some there) old (old + f k)
  by_case k None new old h = omega (arith, h)
  by_case k (Some u) new old h = omega (arith, h)

  -- the sum over the keys of a map to which one is put
  sum_of_more : (m : finite.FinMap R (Unit {0})) (k : K) → sum_by f (finite.keys (finite.insert m k tt)) ≡ cond (finite.contains_key m k) (sum_by f (finite.keys m)) (sum_by f (finite.keys m) + f k)
  sum_of_more m k =
      by_case k (finite.get m k) _ _
      ((λ i. sum_of_keys (finite.entries-insert o m k tt i) i + held k (finite.get-entries m k i))
      ∙ size_put k (finite.entries m) (finite.entries_sorted m)
      ∙ ap (λ (n : ℕ). n + f k) (sym (sum_of_keys (finite.entries m))))

  -- a set, as a map that has nothing at each item
  abbrev marks_of : set.FinSet R → finite.FinMap R (Unit {0})
  marks_of s = finite.from_entries {R = R} (as_entries (set.items s))

  has_mark : (s : set.FinSet R) (q : K) → is_some (finite.get (marks_of s) q) ≡ set.contains s q
  has_mark s q = finite.contains_key-keys (marks_of s) q ∙ any_in_order o s q

  put_mark : (s : set.FinSet R) (k : K) → marks_of (set.insert s k) ≡ finite.insert (marks_of s) k tt
  put_mark s k =
      finite.same_map o exact (marks_of (set.insert s k)) (finite.insert (marks_of s) k tt) (λ q. units _ _
      (has_mark (set.insert s k) q ∙ set.contains-insert o s k q ∙ ap (λ b. eq_by_cmp R q k || b) (sym (has_mark s q))
      ∙ sym (ap is_some (finite.get-insert o (marks_of s) k tt q) ∙ some_if (eq_by_cmp R q k) (finite.get (marks_of s) q))))

  -- the sum over a set to which an item is put
  pub sum-insert : (s : set.FinSet R) (k : K) → sum_by f (in_order (set.insert s k)) ≡ cond (set.contains s k) (sum_by f (in_order s)) (sum_by f (in_order s) + f k)
  sum-insert s k =
      ap (λ m. sum_by f (finite.keys m)) (put_mark s k) ∙ sum_of_more (marks_of s) k
      ∙ ap (λ b. cond b (sum_by f (in_order s)) (sum_by f (in_order s) + f k)) (has_mark s k)

  pub sum-empty : sum_by f (in_order (set.empty {R = R})) ≡ 0
  unfolding IsStrictlySortedBy
  sum-empty = ap (sum_by f) (in_order-from_list o exact [] tt)
