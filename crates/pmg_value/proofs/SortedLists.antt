-- A list of processes that was sorted and then freed of doubles: each item is greater than the one before, and its set is the list's.
use Rattle.std.proofs.Common.{◌≡◌, Bool, true, false, ◌||◌, ◌&&◌, cond, nat_eq, List, [], ◌∷◌, refl, sym, ap, ◌∙◌}
use Rattle.std.specs.Cmp.{unsigned_ties}
use Rattle.std.specs.Cmp.Lexicographic.{slice_cmp, texts_ties}
use Rattle.std.specs.FinSet as set
use Rattle.std.specs.List.{list_any, dedup, dedup_from}
use Rattle.std.specs.List.Retain.{IsFiltered, DiffersFromLast}
use Rattle.std.specs.List.Sorted.{IsStrictlySortedBy, IsSorted, IsPermutation}
use Rattle.std.specs.Ordering.{nat_cmp, eq_by_cmp, is_eq, ordering_then}
use Rattle.std.specs.declared.cmp.Ordering.{Ordering}
use Rattle.std.specs.declared.cmp.Ordering.TheVariants.{Less, Equal, Greater}
use Rattle.std.proofs.lemmas.List.Filters.{dedup_is}
use Rattle.std.proofs.lemmas.List.Kept.{IsStrictlySortedBy-dedup}
use Rattle.std.proofs.lemmas.List.Sorted.{list_any-IsPermutation}
use Rattle.pmg_value.specs.declared.process.Proc.{Proc}
use Rattle.pmg_value.specs.Process.{proc_cmp, is_same_proc}
use Rattle.pmg_value.proofs.ProcessOrder.{procs_total, exact_procs}

eq_then : (a b : Ordering) → is_eq (ordering_then a b) ≡ (is_eq a && is_eq b)
eq_then Less b = refl
eq_then Equal b = refl
eq_then Greater b = refl

proc_ties : (p q : Proc) → is_same_proc p q ≡ eq_by_cmp proc_cmp p q
proc_ties p q =
    ap (λ b. b && nat_eq p.rank q.rank) (texts_ties p.nspace q.nspace) ∙ ap (λ b. eq_by_cmp (slice_cmp nat_cmp) p.nspace q.nspace && b) (unsigned_ties p.rank q.rank)
    ∙ sym (eq_then (slice_cmp nat_cmp p.nspace q.nspace) (nat_cmp p.rank q.rank))

is_equal : (r : Ordering) → is_eq r ≡ true → r ≡ Equal
is_equal Less h = absurd cc
is_equal Equal h = refl
is_equal Greater h = absurd cc

-- processes that tie are one
pub tied : (p q : Proc) → eq_by_cmp proc_cmp p q ≡ true → p ≡ q
tied p q h = exact_procs p q (is_equal (proc_cmp p q) h)

-- ---- repeats

module _ {K : Type 0} (E : K → K → Bool) (p : K → Bool) (alike : (x y : K) → E x y ≡ true → p x ≡ p y) where
  or_twice : (a b : Bool) → (a || b) ≡ (a || (a || b))
  or_twice true b = refl
  or_twice false b = refl

  any_from : (k : K) (xs : List K) → list_any p (dedup_from E k xs) ≡ (p k || list_any p xs)
  any_from k [] = refl
  any_from k (x ∷ xs) =
      elim (E x k) as (λ b. E x k ≡ b → list_any p (cond b (dedup_from E k xs) (k ∷ dedup_from E x xs)) ≡ (p k || (p x || list_any p xs))) [
        | true ↦ λ t. any_from k xs ∙ or_twice (p k) (list_any p xs) ∙ ap (λ b. p k || (b || list_any p xs)) (sym (alike x k t))
        | false ↦ λ t. ap (λ b. p k || b) (any_from x xs)
      ] refl

  any_dedup : (xs : List K) → list_any p (dedup E xs) ≡ list_any p xs
  any_dedup [] = refl
  any_dedup (x ∷ xs) = any_from x xs

-- ---- what is kept of a list

module _ (list sorted ps : List Proc) (moved : IsPermutation list sorted) (rises : IsSorted proc_cmp sorted) (filtered : IsFiltered (DiffersFromLast is_same_proc) [] sorted ps) where
  pub kept_is : ps ≡ dedup is_same_proc sorted
  kept_is = dedup_is is_same_proc sorted ps filtered

  pub kept_rises : IsStrictlySortedBy proc_cmp ps
  kept_rises = rw kept_is (IsStrictlySortedBy-dedup procs_total proc_ties sorted rises)

  kept_any : (q : Proc) → list_any (eq_by_cmp proc_cmp q) ps ≡ list_any (eq_by_cmp proc_cmp q) list
  kept_any q =
      ap (list_any (eq_by_cmp proc_cmp q)) kept_is
      ∙ any_dedup is_same_proc (eq_by_cmp proc_cmp q) (λ x y t. ap (eq_by_cmp proc_cmp q) (tied x y (sym (proc_ties x y) ∙ t))) sorted
      ∙ sym (list_any-IsPermutation (eq_by_cmp proc_cmp q) list sorted moved)

  pub kept_set : set.from_list {R = proc_cmp} ps ≡ set.from_list list
  kept_set = set.same_set procs_total exact_procs _ _ (λ q. set.contains-from_list procs_total ps q ∙ kept_any q ∙ sym (set.contains-from_list procs_total list q))
