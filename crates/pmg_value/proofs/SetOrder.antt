-- Lists in which each item is greater than the one before, as finite sets.
use Rattle.std.proofs.Common.{◌≡◌, Bool, true, false, ◌||◌, ◌&&◌, cond, List, [], ◌∷◌, length, map, refl, sym, ap, subst, ◌∙◌, arith}
use Rattle.std.specs.Cmp.{IsTotalOrder}
use Rattle.std.specs.FinMap as finite
use Rattle.std.specs.FinMap.Entries.{find, below_all, is_sorted}
use Rattle.std.specs.FinSet as set
use Rattle.std.specs.List.{AllByRecursion, list_any}
use Rattle.std.specs.List.Sorted.{IsStrictlySortedBy}
use Rattle.std.specs.Ordering.{eq_by_cmp, is_lt}
use Rattle.std.specs.Prelude.{Option, Some, None, is_some}
use Rattle.std.specs.declared.cmp.Ordering.{Ordering}
use Rattle.std.specs.declared.cmp.Ordering.TheVariants.{Less}
use lib.Dec.{T}
use Rattle.pmg_value.specs.InOrder.{as_entries, in_order}

pub both : (a b : Bool) → T a → T b → T (a && b)
both true b p q = q
both false b p q = absurd p

pub parts_of : (a b : Bool) → T (a && b) → T a × T b
parts_of true b p = (tt, p)
parts_of false b p = absurd p

pub less_is : (r : Ordering) → T (is_lt r) → r ≡ Less
less_is Less p = refl
less_is r p = absurd p

keys_of-marks : {K : Type 0} (ks : List K) → map (λ e. e.0) (as_entries ks) ≡ ks
keys_of-marks [] = refl
keys_of-marks (k ∷ ks) = ap (λ xs. k ∷ xs) (keys_of-marks ks)

module _ {K : Type 0} (R : K → K → Ordering) where
  marks_below : (k : K) (ks : List K) → AllByRecursion (λ y. R k y ≡ Less) ks → T (below_all R k (as_entries ks))
  marks_below k [] h = tt
  marks_below k (y ∷ ks) h = both _ _ (subst (λ r. T (is_lt r)) (sym h.0) tt) (marks_below k ks h.1)

  marks_sorted : (ks : List K) → IsStrictlySortedBy R ks → T (is_sorted R (as_entries ks))
  unfolding IsStrictlySortedBy
  marks_sorted [] h = tt
  marks_sorted (k ∷ ks) h = both _ _ (marks_below k ks h.0) (marks_sorted ks h.1)

  keys_above : (k : K) (es : List (K × Unit {0})) → T (below_all R k es) → AllByRecursion (λ y. R k y ≡ Less) (map (λ e. e.0) es)
  keys_above k [] h = tt
  keys_above k (e ∷ es) h = let p = parts_of (is_lt (R k e.0)) (below_all R k es) h in (less_is (R k e.0) p.0, keys_above k es p.1)

  keys_sorted : (es : List (K × Unit {0})) → T (is_sorted R es) → IsStrictlySortedBy R (map (λ e. e.0) es)
  unfolding IsStrictlySortedBy
  keys_sorted [] h = tt
  keys_sorted (e ∷ es) h = let p = parts_of (below_all R e.0 es) (is_sorted R es) h in (keys_above e.0 es p.0, keys_sorted es p.1)

  any_mark : (q : K) (ks : List K) → is_some (find R q (as_entries ks)) ≡ list_any (eq_by_cmp R q) ks
  any_mark q [] = refl
  any_mark q (k ∷ ks) = elim (eq_by_cmp R q k) as (λ b. is_some (cond b (Some tt) (find R q (as_entries ks))) ≡ (b || list_any (eq_by_cmp R q) ks)) [ true ↦ refl | false ↦ any_mark q ks ]

-- two marks that are there alike are equal
pub units : (a b : Option (Unit {0})) → is_some a ≡ is_some b → a ≡ b
units None None e = refl
units (Some x) (Some y) e = refl
units None (Some y) e = absurd cc
units (Some x) None e = absurd cc

pub some_if : (b : Bool) (x : Option (Unit {0})) → is_some (cond b (Some tt) x) ≡ (b || is_some x)
some_if true x = refl
some_if false x = refl

-- the items in order rise
pub in_order_rises : {K : Type 0} {R : K → K → Ordering} (s : set.FinSet R) → IsStrictlySortedBy R (in_order s)
in_order_rises {R = R} s = let m = finite.from_entries {R = R} (as_entries (set.items s)) in keys_sorted R (finite.entries m) (finite.entries_sorted m)

module _ {K : Type 0} {R : K → K → Ordering} (o : IsTotalOrder R) where
  has_mark : (ks : List K) (q : K) → is_some (finite.get (finite.from_entries {R = R} (as_entries ks)) q) ≡ list_any (eq_by_cmp R q) ks
  has_mark [] q = ap is_some (finite.get-empty R q)
  has_mark (k ∷ ks) q =
      ap is_some (finite.get-insert o (finite.from_entries (as_entries ks)) k tt q) ∙ some_if (eq_by_cmp R q k) (finite.get (finite.from_entries (as_entries ks)) q)
      ∙ ap (λ b. eq_by_cmp R q k || b) (has_mark ks q)

  pub any_in_order : (s : set.FinSet R) (q : K) → list_any (eq_by_cmp R q) (in_order s) ≡ set.contains s q
  any_in_order s q =
      sym (finite.contains_key-keys (finite.from_entries (as_entries (set.items s))) q) ∙ has_mark (set.items s) q ∙ sym (set.contains-items s q)

  not_among : (k : K) (ks : List K) → AllByRecursion (λ y. R k y ≡ Less) ks → list_any (eq_by_cmp R k) ks ≡ false
  not_among k [] h = refl
  not_among k (y ∷ ks) h = rw (h.0) (not_among k ks h.1)

  -- a list that rises has as many items as its set
  pub len-from_list : (ks : List K) → IsStrictlySortedBy R ks → set.len (set.from_list {R = R} ks) ≡ length ks
  unfolding IsStrictlySortedBy
  len-from_list [] h = set.len-empty R
  len-from_list (k ∷ ks) h =
      let fresh : set.contains (set.from_list {R = R} ks) k ≡ false = set.contains-from_list o ks k ∙ not_among k ks h.0 in
      set.len-insert o (set.from_list ks) k ∙ rw fresh (rw (len-from_list ks h.1) (omega arith))

module _ {K : Type 0} {R : K → K → Ordering} (o : IsTotalOrder R) (exact : set.IsAntisymmetric R) where
  -- a list that rises is that of its set
  pub in_order-from_list : (ks : List K) → IsStrictlySortedBy R ks → in_order (set.from_list {R = R} ks) ≡ ks
  in_order-from_list ks rises =
      let sorted = marks_sorted R ks rises in
      let own : finite.FinMap R (Unit {0}) = finite.from_sorted (as_entries ks) in
      let other : finite.FinMap R (Unit {0}) = finite.from_entries (as_entries (set.items (set.from_list {R = R} ks))) in
      let has : (q : K) → is_some (finite.get other q) ≡ is_some (finite.get own q) = λ q.
      has_mark o (set.items (set.from_list {R = R} ks)) q ∙ sym (set.contains-items (set.from_list ks) q) ∙ set.contains-from_list o ks q
      ∙ sym (ap is_some (finite.get-from_sorted R (as_entries ks) q sorted) ∙ any_mark R q ks) in
      let alike : other ≡ own = finite.same_map o exact other own (λ q. units _ _ (has q)) in
      ap finite.keys alike ∙ ap (map (λ (e : K × Unit {0}). e.0)) (finite.entries-from_sorted R (as_entries ks) sorted) ∙ keys_of-marks ks

  -- and the set of its list is the set
  pub from_list-in_order : (s : set.FinSet R) → set.from_list (in_order s) ≡ s
  from_list-in_order s = set.same_set o exact _ _ (λ q. set.contains-from_list o (in_order s) q ∙ any_in_order o s q)
