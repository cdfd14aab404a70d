-- Which numbers ranges have.
use Rattle.std.proofs.Common.{ℕ, zero, suc, ◌+◌, ◌-◌, ◌<◌, ◌≤◌, Bool, true, false, ◌||◌, nat_lt, List, [], ◌∷◌, ◌≡◌, ◌⊎◌, inl, inr, refl, sym, ap, ◌∙◌, arith}
use Rattle.std.specs.Prelude.{Option, Some, None, is_some, IsTrue, ◌↔◌, Result, Ok, Err, OnErr}
use Rattle.std.specs.Bool.{Decides}
use Rattle.std.specs.Ordering.{nat_cmp}
use Rattle.std.specs.Map.{lookup}
use Rattle.std.specs.BTreeMap.{BTreeMap, get, keys, is_at}
use Rattle.std.specs.FinSet as set
use Rattle.std.specs.FinMap.{nat_cmp-IsAntisymmetric}
use Rattle.std.proofs.lemmas.Cmp.{nat_cmp_total}
use Rattle.std.proofs.lemmas.Map.Lookups.{exact_unsigned}
use Rattle.std.proofs.lemmas.Bool.{false≢true, false_from_ne_true, leb-true, le-leb, or_cases, or_left, or_right}
use Rattle.std.proofs.lemmas.Bool.Decides.{Decides-and, Decides-ltb}
use Rattle.pmg_value.specs.Lists.{In}
use Rattle.pmg_value.proofs.ListLemmas.{in_parts, in_append_left, in_append_right}
use Rattle.pmg_value.proofs.RowLemmas.{key_there}
use Rattle.pmg_value.proofs.SetLemmas.{in_from_list, from_list_in, same_bool}
use Rattle.pmg_join.specs.Ranges.{is_between, Between, HasRange, Covers, Spans, LieIn, numbers_above, numbers_in, numbers_of, set_of}

pub is_between-Decides : (from to n : ℕ) → Decides (is_between from to n) (Between from to n)
is_between-Decides from to n = Decides-and _ _ (Decides-ltb from n) (leb-true n to, le-leb n to)

in_numbers_above : (from count n : ℕ) → from < n → n ≤ from + count → In n (numbers_above from count)
unfolding numbers_above
in_numbers_above from zero n a b = absurd (omega arith)
in_numbers_above from (suc count) n a b =
    elim (nat_lt (suc from) n) as (λ t. nat_lt (suc from) n ≡ t → In n (numbers_above from (suc count))) [
      | true ↦ λ t. inr (in_numbers_above (suc from) count n ((Decides-ltb (suc from) n).0 t) (omega arith))
      | false ↦ λ t. inl (let no_less : suc from < n → ⊥ = λ h. false≢true (sym t ∙ (Decides-ltb (suc from) n).1 h) in one no_less)
    ] refl
  where
    one : (suc from < n → ⊥) → n ≡ suc from
    one h = omega arith

numbers_above_in : (from count n : ℕ) → In n (numbers_above from count) → (from < n) × (n ≤ from + count)
unfolding numbers_above
numbers_above_in from zero n i = absurd i
numbers_above_in from (suc count) n (inl e) = (omega arith, omega arith)
numbers_above_in from (suc count) n (inr i) = let h = numbers_above_in (suc from) count n i in (omega arith, omega arith)

in_range : (from n : ℕ) (o : Option ℕ) → In n (numbers_in from o) → (to : ℕ) × (o ≡ Some to) × Between from to n
in_range from n None i = absurd i
in_range from n (Some to) i = let h = numbers_above_in from (to - from) n i in (to, refl, (h.0, let a = h.0 in let b = h.1 in omega arith))

range_in : (from to n : ℕ) (o : Option ℕ) → o ≡ Some to → Between from to n → In n (numbers_in from o)
range_in from to n o e b =
    subst_back e (in_numbers_above from (to - from) n b.0 (let a = b.0 in let c = b.1 in omega arith))
  where
    subst_back : o ≡ Some to → In n (numbers_in from (Some to)) → In n (numbers_in from o)
    subst_back e i = rw e i

covers_of : (m : BTreeMap ℕ ℕ) (starts : List ℕ) (n : ℕ) → In n (numbers_of m starts) → Covers m n
unfolding numbers_of
covers_of m [] n i = absurd i
covers_of m (from ∷ starts) n i = elim (in_parts (numbers_in from (get nat_cmp m from)) (numbers_of m starts) n i) [
  | inl a ↦ let h = in_range from n (get nat_cmp m from) a in (from, h.0, h.1, h.2)
  | inr b ↦ covers_of m starts n b
]

of_covers : (m : BTreeMap ℕ ℕ) (starts : List ℕ) (from to n : ℕ) → In from starts → HasRange m from to → Between from to n → In n (numbers_of m starts)
unfolding numbers_of
of_covers m [] from to n i h b = absurd i
of_covers m (start ∷ starts) from to n (inl e) h b =
    in_append_left (numbers_in start (get nat_cmp m start)) (numbers_of m starts) n
    (subst_start e (range_in from to n (get nat_cmp m from) h b))
  where
    subst_start : from ≡ start → In n (numbers_in from (get nat_cmp m from)) → In n (numbers_in start (get nat_cmp m start))
    subst_start e i = rw (sym e) i
of_covers m (start ∷ starts) from to n (inr i) h b =
    in_append_right (numbers_in start (get nat_cmp m start)) (numbers_of m starts) n (of_covers m starts from to n i h b)

-- the set of the ranges has a number where one of them does
pub set_of-Decides : (m : BTreeMap ℕ ℕ) (n : ℕ) → Decides (set.contains (set_of m) n) (Covers m n)
unfolding set_of
set_of-Decides m n = (
  λ h. covers_of m (keys m) n (in_from_list nat_cmp_total nat_cmp-IsAntisymmetric (numbers_of m (keys m)) n h),
  λ (from, to, h, b). from_list_in nat_cmp_total nat_cmp-IsAntisymmetric (numbers_of m (keys m)) n (of_covers m (keys m) from to n (key_there exact_unsigned m.entries from (ap is_some h)) h b),
)

pub not_covered : (m : BTreeMap ℕ ℕ) (n : ℕ) → (Covers m n → ⊥) → set.contains (set_of m) n ≡ false
not_covered m n none = false_from_ne_true (set.contains (set_of m) n) (λ h. none ((set_of-Decides m n).0 h))

pub same_cover : (m n : BTreeMap ℕ ℕ) → ((k : ℕ) → Covers m k → Covers n k) → ((k : ℕ) → Covers n k → Covers m k) → set_of m ≡ set_of n
same_cover m n there back =
    set.same_set nat_cmp_total nat_cmp-IsAntisymmetric (set_of m) (set_of n) (λ k. same_bool _ _
    (λ h. (set_of-Decides n k).1 (there k ((set_of-Decides m k).0 h)))
    (λ h. (set_of-Decides m k).1 (back k ((set_of-Decides n k).0 h))))

pub no_cover : (m : BTreeMap ℕ ℕ) → ((n : ℕ) → Covers m n → ⊥) → set_of m ≡ set.empty
no_cover m none =
    set.same_set nat_cmp_total nat_cmp-IsAntisymmetric (set_of m) set.empty (λ n. not_covered m n (none n) ∙ sym (set.contains-empty nat_cmp n))

pub is_contained : (m : BTreeMap ℕ ℕ) (n : ℕ) (b : Bool) → IsTrue b ↔ Covers m n → b ≡ set.contains (set_of m) n
is_contained m n b h = same_bool b (set.contains (set_of m) n) (λ t. (set_of-Decides m n).1 (h.0 (true_is b t))) (λ t. is_true b (h.1 ((set_of-Decides m n).0 t)))
  where
    true_is : (b : Bool) → b ≡ true → IsTrue b
    true_is b t = t

    is_true : (b : Bool) → IsTrue b → b ≡ true
    is_true b t = t

-- the numbers of a range more
pub cover_added :
    (m n : BTreeMap ℕ ℕ) (from to : ℕ) → ((k : ℕ) → Covers n k → Covers m k ⊎ Between from to k) → ((k : ℕ) → Covers m k ⊎ Between from to k → Covers n k)
    → (k : ℕ) → set.contains (set_of n) k ≡ (set.contains (set_of m) k || is_between from to k)
cover_added m n from to no_more more k = same_bool _ _
    (λ h. elim (no_more k ((set_of-Decides n k).0 h)) [
      | inl a ↦ or_left _ _ ((set_of-Decides m k).1 a)
      | inr b ↦ or_right _ _ ((is_between-Decides from to k).1 b)
    ])
    (λ h. (set_of-Decides n k).1 (more k (elim (or_cases _ _ h) [
      | inl a ↦ inl ((set_of-Decides m k).0 a)
      | inr b ↦ inr ((is_between-Decides from to k).0 b)
    ])))

pub nothing_between : (m : BTreeMap ℕ ℕ) (from to k : ℕ) → to ≤ from → set.contains (set_of m) k ≡ (set.contains (set_of m) k || is_between from to k)
nothing_between m from to k le =
    same_bool _ _ (λ h. or_left _ _ h) (λ h. elim (or_cases _ _ h) [
      | inl a ↦ a
      | inr b ↦ let between = (is_between-Decides from to k).0 b in absurd (omega (arith, between.0, between.1, le))
    ])

-- what lies in a range has its numbers there
pub spans_cover : (m : BTreeMap ℕ ℕ) (from to k : ℕ) → Spans m from to → Between from to k → Covers m k
spans_cover m from to k (start, end, h, before, past) b = (start, end, h, (omega (arith, before, b.0), omega (arith, b.1, past)))

pub covers_kept : (m n : BTreeMap ℕ ℕ) → LieIn m n → (k : ℕ) → Covers m k → Covers n k
covers_kept m n kept k (from, to, h, b) = spans_cover n from to k (kept from to h) b

pub on_err : {T E P : Type 0} (r : Result T E) → P → OnErr r P
on_err (Ok x) p = tt
on_err (Err e) p = p

pub entries_lie : (m n : BTreeMap ℕ ℕ) → m.entries ≡ n.entries → LieIn m n
entries_lie m n e from to h = (from, to, ap (λ es. lookup (is_at (nat_cmp from)) es) (sym e) ∙ h, omega arith, omega arith)

-- equal entries have the same numbers
pub same_entries : (m n : BTreeMap ℕ ℕ) → m.entries ≡ n.entries → set_of m ≡ set_of n
same_entries m n e = same_cover m n (covers_kept m n (entries_lie m n e)) (covers_kept n m (entries_lie n m (sym e)))

-- the numbers of other ranges more
pub cover_joined :
    (m o n : BTreeMap ℕ ℕ) → ((k : ℕ) → Covers n k → Covers m k ⊎ Covers o k) → LieIn m n → ((k : ℕ) → Covers o k → Covers n k)
    → set_of n ≡ set.union (set_of m) (set_of o)
cover_joined m o n no_more kept added =
    set.same_set nat_cmp_total nat_cmp-IsAntisymmetric (set_of n) (set.union (set_of m) (set_of o)) (λ k.
    same_bool _ _
    (λ h. elim (no_more k ((set_of-Decides n k).0 h)) [ inl a ↦ or_left _ _ ((set_of-Decides m k).1 a) | inr b ↦ or_right _ _ ((set_of-Decides o k).1 b) ])
    (λ h. (set_of-Decides n k).1 (elim (or_cases (set.contains (set_of m) k) (set.contains (set_of o) k) h) [
      | inl a ↦ covers_kept m n kept k ((set_of-Decides m k).0 a)
      | inr b ↦ added k ((set_of-Decides o k).0 b)
    ]))
    ∙ sym (set.contains-union nat_cmp_total (set_of m) (set_of o) k))
