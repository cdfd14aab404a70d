-- How stamps grow when a commit seals puts, counted by look-ups.
use Rattle.std.proofs.Common.{◌≡◌, ℕ, ◌+◌, ◌-◌, ◌≤◌, ◌<◌, inl, inr, Bool, true, false, cond, not, ◌&&◌, nat_le, List, [], ◌∷◌, length, Option, Some, None, is_some, refl, sym, ap, ◌∙◌, arith}
use Rattle.std.specs.FinMap as finite
use Rattle.std.specs.FinMap.Entries.{put}
use Rattle.std.specs.List.{sum_by, AllByRecursion}
use Rattle.std.specs.List.Sorted.{IsStrictlySortedBy}
use Rattle.std.specs.Map.{keys_of}
use Rattle.std.specs.declared.cmp.Ordering.TheVariants.{Less}
use Rattle.std.specs.Ordering.{nat_cmp, eq_by_cmp, is_eq}
use Rattle.std.specs.Cmp.{eq_by_cmp_equiv}
use Rattle.std.specs.Cmp.Lexicographic.{slice_cmp, nat_list_cmp_total}
use Rattle.std.proofs.lemmas.Bool.{false≢true, cases_lt, lt-leb}
use Rattle.std.proofs.lemmas.List.Sums.{sum_by-cons}
use Rattle.pmg_value.specs.Spelling.{spelling}
use Rattle.pmg_value.specs.declared.value.Value.{Value}
use Rattle.pmg_scope.specs.Cached.{row_size}
use Rattle.pmg_scope.specs.Rows.{IsRising, counted_by, table_of}
use Rattle.pmg_value.proofs.RowLemmas.{shown, entries_of_nothing}
use Rattle.pmg_scope.proofs.SumLemmas.{sum_put}
use Rattle.pmg_commit.specs.Growth.{sealed_counted_at, new_keys, replaced_size, puts_size}
use Rattle.pmg_commit.specs.Sealed.{Stamp, Stamps, stamp_all, stamped, stamps_size, are_within}
use Rattle.pmg_commit.proofs.StampLemmas.{stamped-rising}

abbrev Puts : Type 0
Puts = List (List ℕ × Value)

-- the keys of the puts are above k
abbrev Above : List ℕ → Puts → Type 0
Above k puts = AllByRecursion (λ y. slice_cmp nat_cmp k y ≡ Less) (keys_of puts)

-- ---- keys above one that is put or taken out

above_differs : (k q : List ℕ) → slice_cmp nat_cmp k q ≡ Less → eq_by_cmp (slice_cmp nat_cmp) q k ≡ false
above_differs k q less = (eq_by_cmp_equiv nat_list_cmp_total).symm q k ∙ ap is_eq less

get_above : (m : Stamps) (k q : List ℕ) (s : Stamp) → slice_cmp nat_cmp k q ≡ Less → finite.get (finite.insert m k s) q ≡ finite.get m q
get_above m k q s less = finite.get-insert nat_list_cmp_total m k s q ∙ ap (λ (b : Bool). cond b (Some s) (finite.get m q)) (above_differs k q less)

get_without : (m : Stamps) (k q : List ℕ) → slice_cmp nat_cmp k q ≡ Less → finite.get (finite.remove m k) q ≡ finite.get m q
get_without m k q less = finite.get-remove nat_list_cmp_total m k q ∙ ap (λ (b : Bool). cond b None (finite.get m q)) (above_differs k q less)

-- sums over look-ups of such keys are the same
sum_alike : (k : List ℕ) (f g : List ℕ → Option Stamp) (h : List ℕ → Option Stamp → ℕ) → ((q : List ℕ) → slice_cmp nat_cmp k q ≡ Less → f q ≡ g q)
    → (puts : Puts) → Above k puts → sum_by (λ e. h e.0 (f e.0)) puts ≡ sum_by (λ e. h e.0 (g e.0)) puts
sum_alike k f g h alike [] above = refl
sum_alike k f g h alike (e ∷ puts) above =
    sum_by-cons (λ (e : List ℕ × Value). h e.0 (f e.0)) e puts
    ∙ (λ i. h e.0 (alike e.0 above.0 i) + sum_alike k f g h alike puts above.1 i)
    ∙ sym (sum_by-cons (λ (e : List ℕ × Value). h e.0 (g e.0)) e puts)

abbrev new_key : List ℕ → Option Stamp → ℕ
new_key k o = cond (not (is_some o)) 1 0

-- ---- the number of the keys

one_key : (held : Bool) (old new all others : ℕ) → new ≡ cond held old (old + 1) → all ≡ cond (not held) 1 0 + others → new + others ≡ old + all
one_key true old new all others is sum = omega (arith, is, sum)
one_key false old new all others is sum = omega (arith, is, sum)

pub len_stamped : (n : ℕ) (m : Stamps) (puts : Puts) → IsRising puts → finite.len (stamp_all n m (shown spelling puts)) ≡ finite.len m + new_keys m puts
unfolding IsStrictlySortedBy
len_stamped n m [] rising = omega arith
len_stamped n m (e ∷ puts) rising =
    let s : Stamp = record { number = n; bytes = spelling e.1 } in
    let others = len_stamped n (finite.insert m e.0 s) puts rising.1 in
    let same = sum_alike e.0 (finite.get (finite.insert m e.0 s)) (finite.get m) new_key (λ q less. get_above m e.0 q s less) puts rising.0 in
    let first = sum_by-cons (λ (e : List ℕ × Value). new_key e.0 (finite.get m e.0)) e puts in
    let one = one_key (finite.contains_key m e.0) (finite.len m) (finite.len (finite.insert m e.0 s)) (new_keys m (e ∷ puts)) (new_keys m puts) (finite.len-insert nat_list_cmp_total m e.0 s) first in
    others ∙ ap (λ (k : ℕ). finite.len (finite.insert m e.0 s) + k) same ∙ one

one_held : (held : Bool) (old less all others puts : ℕ) → (held ≡ true → 0 < old) → less ≡ cond held (old - 1) old → all ≡ cond (not held) 1 0 + others → puts ≤ less + others → puts + 1 ≤ old + all
one_held true old less all others puts some is sum few = omega (arith, some refl, is, sum, few)
one_held false old less all others puts some is sum few = omega (arith, is, sum, few)

not_empty : (m : Stamps) (k : List ℕ) → finite.contains_key m k ≡ true → 0 < finite.len m
not_empty m k held =
    elim (cases_lt 0 (finite.len m)) [
      | inl some ↦ some
      | inr none ↦ absurd (false≢true (sym (ap is_some (ap (λ (n : Stamps). finite.get n k) (finite.empty_of_len m (omega (arith, none))) ∙ finite.get-empty (slice_cmp nat_cmp) k)) ∙ held))
    ]

-- each put has a key of its own
pub puts_are_keys : (m : Stamps) (puts : Puts) → IsRising puts → length puts ≤ finite.len m + new_keys m puts
unfolding IsStrictlySortedBy
puts_are_keys m [] rising = omega arith
puts_are_keys m (e ∷ puts) rising =
    let others = puts_are_keys (finite.remove m e.0) puts rising.1 in
    let same = sum_alike e.0 (finite.get (finite.remove m e.0)) (finite.get m) new_key (λ q less. get_without m e.0 q less) puts rising.0 in
    let first = sum_by-cons (λ (e : List ℕ × Value). new_key e.0 (finite.get m e.0)) e puts in
    let one = one_held (finite.contains_key m e.0) (finite.len m) (finite.len (finite.remove m e.0)) (new_keys m (e ∷ puts)) (new_keys m puts) (length puts)
    (not_empty m e.0) (finite.len-remove nat_list_cmp_total m e.0) first (omega (arith, others, same)) in
    omega (arith, one)

-- ---- what they count for

pub size_stamped : (n : ℕ) (m : Stamps) (puts : Puts) → IsRising puts → stamps_size (stamp_all n m (shown spelling puts)) + replaced_size m puts ≡ stamps_size m + puts_size puts
unfolding IsStrictlySortedBy
size_stamped n m [] rising = omega arith
size_stamped n m (e ∷ puts) rising =
    let s : Stamp = record { number = n; bytes = spelling e.1 } in
    let others = size_stamped n (finite.insert m e.0 s) puts rising.1 in
    let same = sum_alike e.0 (finite.get (finite.insert m e.0 s)) (finite.get m) (counted_by (λ (s : Stamp). length s.bytes)) (λ q less. get_above m e.0 q s less) puts rising.0 in
    let put = sum_put (λ (s : Stamp). length s.bytes) m e.0 s in
    let replaced = sum_by-cons (λ (e : List ℕ × Value). sealed_counted_at m e.0) e puts in
    let sizes = sum_by-cons (λ (e : List ℕ × Value). row_size (e.0, spelling e.1)) e puts in
    omega (arith, others, same, put, replaced, sizes)

pub size_of_stamped : (n : ℕ) (m : Stamps) (puts : Puts) → IsRising puts → stamps_size (stamped n (table_of puts) m) ≡ stamps_size m + puts_size puts - replaced_size m puts
size_of_stamped n m puts rising =
    let sum = size_stamped n m puts rising in
    ap stamps_size (sym (stamped-rising n puts m rising)) ∙ omega (arith, sum)

-- ---- the limits

pub within_stamped : (n : ℕ) (m : Stamps) (puts : Puts) → IsRising puts
    → are_within (stamped n (table_of puts) m) ≡ (nat_le (finite.len m + new_keys m puts) 65535 && nat_le (stamps_size m + puts_size puts - replaced_size m puts) 16000000)
within_stamped n m puts rising =
    let size = ap stamps_size (stamped-rising n puts m rising) ∙ size_of_stamped n m puts rising in
    ap are_within (sym (stamped-rising n puts m rising)) ∙ (λ i. nat_le (len_stamped n m puts rising i) 65535 && nat_le (size i) 16000000)

-- more puts than keys may be are too many
pub too_many_puts : (n : ℕ) (m : Stamps) (puts : Puts) → IsRising puts → 65535 < length puts → are_within (stamped n (table_of puts) m) ≡ false
too_many_puts n m puts rising many =
    let keys = puts_are_keys m puts rising in
    within_stamped n m puts rising ∙ ap (λ (b : Bool). b && nat_le (stamps_size m + puts_size puts - replaced_size m puts) 16000000) (lt-leb (finite.len m + new_keys m puts) 65535 (omega (arith, keys, many)))

-- a commit of one put
pub stamped_one : (n : ℕ) (k bytes : List ℕ) (m : Stamps) → stamped n (finite.insert finite.empty k bytes) m ≡ finite.insert m k (record { number = n; bytes = bytes })
unfolding stamped
stamped_one n k bytes m =
    ap (stamp_all n m) (finite.entries-insert nat_list_cmp_total finite.empty k bytes ∙ ap (put (slice_cmp nat_cmp) k bytes) (entries_of_nothing (slice_cmp nat_cmp)))

pub one_replaced : (m : Stamps) (k : List ℕ) → sealed_counted_at m k ≤ stamps_size m + (10 + length k)
one_replaced m k = let sum = sum_put (λ (s : Stamp). length s.bytes) m k (record { number = 0; bytes = [] }) in omega (arith, sum)

-- all that is replaced was counted
pub all_replaced : (m : Stamps) (puts : Puts) → IsRising puts → replaced_size m puts ≤ stamps_size m + puts_size puts
all_replaced m puts rising = let sum = size_stamped 0 m puts rising in omega (arith, sum)

one_more : (held : Bool) (n : ℕ) → cond held n (n + 1) ≡ n + cond held 0 1
one_more true n = omega arith
one_more false n = omega arith

pub within_one : (n : ℕ) (m : Stamps) (k bytes : List ℕ)
    → are_within (stamped n (finite.insert finite.empty k bytes) m)
    ≡ (nat_le (finite.len m + cond (finite.contains_key m k) 0 1) 65535 && nat_le (stamps_size m + (10 + length k + length bytes) - sealed_counted_at m k) 16000000)
within_one n m k bytes =
    let s : Stamp = record { number = n; bytes = bytes } in
    let sum = sum_put (λ (s : Stamp). length s.bytes) m k s in
    let size : stamps_size (finite.insert m k s) ≡ stamps_size m + (10 + length k + length bytes) - sealed_counted_at m k = omega (arith, sum) in
    let len = finite.len-insert nat_list_cmp_total m k s ∙ one_more (finite.contains_key m k) (finite.len m) in
    ap are_within (stamped_one n k bytes m) ∙ (λ i. nat_le (len i) 65535 && nat_le (size i) 16000000)
