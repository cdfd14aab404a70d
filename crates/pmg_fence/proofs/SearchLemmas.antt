-- Lines of a header, searched by halves: they rise by process.
use Rattle.std.proofs.Common.{◌≡◌, ℕ, zero, suc, ◌<◌, true, false, cond, List, [], ◌∷◌, length, get_or, Some, None, Ok, Err, refl, sym, ap, ◌∙◌, add-one, arith, inl, inr, IsTrue}
use Rattle.std.specs.Cmp.{Equal-is}
use Rattle.std.specs.List.{AllByRecursion, find}
use Rattle.std.specs.List.Sorted.{IsBinarySearchResult, IsSearchInRange, IsSortedBy}
use Rattle.std.specs.Option.{option_map}
use Rattle.std.specs.Ordering.{is_eq, is_lt, ordering_reverse}
use Rattle.std.specs.declared.cmp.Ordering.{Ordering}
use Rattle.std.specs.declared.cmp.Ordering.TheVariants.{Less, Equal, Greater}
use Rattle.std.proofs.lemmas.Bool.{and_parts, cases_lt}
use Rattle.std.proofs.lemmas.List.Sorted.{searchable_from_sorted}
use Rattle.pmg_value.specs.Lists.{leads, is_chain}
use Rattle.pmg_value.specs.Process.{proc_cmp}
use Rattle.pmg_value.specs.declared.process.Proc.{Proc}
use Rattle.pmg_value.proofs.ProcessOrder.{procs_total, exact_procs}
use Rattle.pmg_frame.specs.Fences.{Header, is_local_rising, is_header}
use Rattle.pmg_frame.specs.declared.local.Local.{Local}
use Rattle.pmg_frame.proofs.Searching.{same_side}
use Rattle.pmg_fence.specs.declared.entry.Entry.{Entry}
use Rattle.pmg_fence.specs.Entering.{same_proc}
use Rattle.pmg_fence.specs.Tables.{entry_in}

less_is : (r : Ordering) → is_lt r ≡ true → r ≡ Less
less_is Less e = refl
less_is Equal e = absurd cc
less_is Greater e = absurd cc

-- ---- each line after the first tells of a greater process

above : (l k : Local) (ls : List Local) → proc_cmp l.proc k.proc ≡ Less → AllByRecursion (λ (m : Local). proc_cmp k.proc m.proc ≡ Less) ls → AllByRecursion (λ (m : Local). proc_cmp l.proc m.proc ≡ Less) ls
above l k [] h all = tt
above l k (m ∷ ms) h all = (procs_total.trans l.proc k.proc m.proc h all.0, above l k ms h all.1)

behind : (l : Local) (ls : List Local) → leads is_local_rising l ls ≡ true → AllByRecursion (λ (k : Local). proc_cmp l.proc k.proc ≡ Less) ls
behind l [] h = tt
behind l (k ∷ ks) h =
    let parts = and_parts (is_local_rising l k) (leads is_local_rising k ks) h in
    let next = less_is (proc_cmp l.proc k.proc) parts.0 in
    (next, above l k ks next (behind k ks parts.1))

all_at : {A : Type 0} (P : A → Type 0) (xs : List A) (i : ℕ) (d : A) → AllByRecursion P xs → i < length xs → P (get_or xs i d)
all_at P [] i d all h = absurd (omega (arith, h))
all_at P (x ∷ xs) zero d all h = all.0
all_at P (x ∷ xs) (suc i) d all h = all_at P xs i d all.1 (omega (arith, h))

rest_rises : (l : Local) (ls : List Local) → leads is_local_rising l ls ≡ true → is_chain is_local_rising ls ≡ true
rest_rises l [] h = refl
rest_rises l (k ∷ ks) h = (and_parts (is_local_rising l k) (leads is_local_rising k ks) h).1

-- ---- the line of a process

not_less : (q p : Proc) → proc_cmp p q ≡ Less → same_proc q p ≡ false
not_less q p h = ap is_eq (procs_total.antisymm q p) ∙ ap (λ r. is_eq (ordering_reverse r)) h

find_line : (q : Proc) (ls : List Local) (i : ℕ) (d : Local) → is_chain is_local_rising ls ≡ true → i < length ls → same_proc q (get_or ls i d).proc ≡ true
    → find (λ l. same_proc q l.proc) ls ≡ Some (get_or ls i d)
find_line q [] i d rising h e = absurd (omega (arith, h))
find_line q (l ∷ ls) zero d rising h e = ap (λ b. cond b (Some l) (find (λ m. same_proc q m.proc) ls)) e
find_line q (l ∷ ls) (suc i) d rising h e =
    let it = get_or ls i d in
    let before : proc_cmp l.proc it.proc ≡ Less = all_at (λ (m : Local). proc_cmp l.proc m.proc ≡ Less) ls i d (behind l ls rising) (omega (arith, h)) in
    let is : q ≡ it.proc = exact_procs q it.proc ((Equal-is _).0 e) in
    ap (λ b. cond b (Some l) (find (λ m. same_proc q m.proc) ls)) (not_less q l.proc (ap (proc_cmp l.proc) is ∙ before))
    ∙ find_line q ls i d (rest_rises l ls rising) (omega (arith, h)) e

find_none : (q : Proc) (ls : List Local) → ((k : ℕ) (d : Local) → k < length ls → same_proc q (get_or ls k d).proc ≡ false) → find (λ l. same_proc q l.proc) ls ≡ None
find_none q [] each = refl
find_none q (l ∷ ls) each = ap (λ b. cond b (Some l) (find (λ m. same_proc q m.proc) ls)) (each 0 l (omega arith)) ∙ find_none q ls (λ k d h. each (suc k) d (omega arith))

-- ---- what the search finds

rising_at : (ls : List Local) (k : ℕ) (d : Local) → is_chain is_local_rising ls ≡ true → suc k < length ls → proc_cmp (get_or ls k d).proc (get_or ls (suc k) d).proc ≡ Less
rising_at [] k d rising h = absurd (omega (arith, h))
rising_at (l ∷ ls) zero d rising h = all_at (λ (m : Local). proc_cmp l.proc m.proc ≡ Less) ls 0 d (behind l ls rising) (omega (arith, h))
rising_at (l ∷ ls) (suc k) d rising h = rising_at ls k d (rest_rises l ls rising) (omega (arith, h))

sorted_lines : (ls : List Local) → is_chain is_local_rising ls ≡ true → IsSortedBy (λ (a b : Local). is_lt (proc_cmp a.proc b.proc)) ls
sorted_lines ls rising k d low high =
    ap (λ j. is_lt (proc_cmp (get_or ls j d).proc (get_or ls k d).proc)) (add-one k)
    ∙ ap is_lt (procs_total.antisymm (get_or ls (suc k) d).proc (get_or ls k d).proc) ∙ ap (λ r. is_lt (ordering_reverse r)) (rising_at ls k d rising (omega (arith, high)))

abbrev pub line_entry : Local → Entry
line_entry l = record { state = l.state; level = l.level }

pub line_found : (q : Proc) (ls : List Local) (i : ℕ) (l : Local) → is_chain is_local_rising ls ≡ true → IsSearchInRange (Ok i) (length ls)
    → IsBinarySearchResult (λ (m : Local). proc_cmp m.proc q) ls (Ok i) → l ≡ get_or ls i l → Some (line_entry l) ≡ entry_in q (Some ls)
line_found q ls i l rising bound found is =
    sym (ap (option_map line_entry) (find_line q ls i l rising bound (same_side procs_total (get_or ls i l).proc q ∙ ap is_eq (found l))) ∙ ap (λ m. Some (line_entry m)) (sym is))

pub line_nowhere : (q : Proc) (ls : List Local) (i : ℕ) → is_chain is_local_rising ls ≡ true → IsBinarySearchResult (λ (m : Local). proc_cmp m.proc q) ls (Err i)
    → None ≡ entry_in q (Some ls)
line_nowhere q ls i rising found =
    let split = found (searchable_from_sorted procs_total (λ (m : Local). m.proc) ls q (sorted_lines ls rising)) in
    sym (ap (option_map line_entry) (find_none q ls (λ k d h.
    same_side procs_total (get_or ls k d).proc q ∙ elim (cases_lt k i) [
      | inl lt ↦ ap is_eq (split.0 k d (omega arith) lt)
      | inr le ↦ ap is_eq (split.1 k d le h)
    ])))

-- the lines of a header rise
pub header_rises : (h : Header) → IsTrue (is_header h) → is_chain is_local_rising h.locals ≡ true
unfolding is_header
header_rises h is = (and_parts _ _ (and_parts _ _ is).0).1
