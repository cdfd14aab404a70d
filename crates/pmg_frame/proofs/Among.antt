-- Processes that rise, each of them among others that rise.
use Rattle.std.proofs.Common.{◌≡◌, ℕ, zero, suc, ◌+◌, ◌-◌, ◌<◌, ◌≤◌, Bool, true, false, ◌||◌, List, [], ◌∷◌, length, Option, Some, None, refl, sym, ap, subst, ◌∙◌, arith, inl, inr}
use Rattle.std.specs.Prelude.{◌⊎◌}
use Rattle.std.specs.Cmp.Lexicographic.{slice_cmp}
use Rattle.std.specs.FinSet as set
use Rattle.std.specs.List.{slice_get, list_all, list_any, AllByRecursion}
use Rattle.std.specs.List.Sorted.{IsStrictlySortedBy}
use Rattle.std.specs.Option.{option_map, unwrap_or}
use Rattle.std.specs.Ordering.{nat_cmp, ordering_then, eq_by_cmp, is_eq}
use Rattle.std.specs.declared.cmp.Ordering.{Ordering}
use Rattle.std.specs.declared.cmp.Ordering.TheVariants.{Less, Equal, Greater}
use Rattle.std.proofs.lemmas.Bool.{cases_Bool, and_parts, and_from}
use Rattle.std.proofs.lemmas.Cmp.{nat_list_cmp_total, tied_itself}
use Rattle.std.proofs.lemmas.Map.Lookups.{exact_bytes}
use Rattle.pmg_value.specs.Lists.{In, Each}
use Rattle.pmg_value.specs.InOrder.{in_order}
use Rattle.pmg_value.specs.Process.{proc_cmp, is_same_proc}
use Rattle.pmg_value.specs.declared.process.Proc.{Proc}
use Rattle.pmg_value.proofs.ProcessOrder.{procs_total, exact_procs}
use Rattle.pmg_value.proofs.SetLemmas.{same_bool}
use Rattle.pmg_value.proofs.SetOrder.{any_in_order, in_order_rises}
use Rattle.pmg_frame.specs.Runs.{proc_ranks, next_rank, line}
use Rattle.pmg_frame.specs.RunReading.{ranks_to}
use Rattle.pmg_frame.proofs.FenceLaws.{below_more}
use Rattle.pmg_frame.proofs.SameLemmas.{same_procs}

-- ---- what a search finds

equal_if : (r : Ordering) → is_eq r ≡ true → r ≡ Equal
equal_if Less h = absurd cc
equal_if Equal h = refl
equal_if Greater h = absurd cc

pub in_if : (p : Proc) (qs : List Proc) → list_any (eq_by_cmp proc_cmp p) qs ≡ true → In p qs
in_if p [] h = absurd cc
in_if p (q ∷ qs) h =
    elim (cases_Bool (eq_by_cmp proc_cmp p q)) [
      | inl same ↦ inl (exact_procs p q (equal_if (proc_cmp p q) same))
      | inr other ↦ inr (in_if p qs (rw other at h))
    ]

or_true : (b : Bool) → (b || true) ≡ true
or_true true = refl
or_true false = refl

pub in_again : (p : Proc) (qs : List Proc) → In p qs → list_any (eq_by_cmp proc_cmp p) qs ≡ true
in_again p [] h = absurd h
in_again p (q ∷ qs) (inl e) = let same : eq_by_cmp proc_cmp p q ≡ true = ap is_eq (subst (λ (x : Proc). proc_cmp p x ≡ Equal) e (tied_itself procs_total p)) in rw same refl
in_again p (q ∷ qs) (inr h) = ap (λ (b : Bool). eq_by_cmp proc_cmp p q || b) (in_again p qs h) ∙ or_true (eq_by_cmp proc_cmp p q)

-- ---- processes above others

-- the process is less than each of these
abbrev pub Below : Proc → List Proc → Type 0
Below p = AllByRecursion (λ q. proc_cmp p q ≡ Less)

not_less : (p : Proc) → proc_cmp p p ≡ Less → ⊥
not_less p h = let same = tied_itself procs_total p in absurd cc

pub below_in : (p q : Proc) (qs : List Proc) → Below p qs → In q qs → proc_cmp p q ≡ Less
below_in p q [] h i = absurd i
below_in p q (r ∷ rs) h (inl e) = subst (λ (x : Proc). proc_cmp p x ≡ Less) (sym e) h.0
below_in p q (r ∷ rs) h (inr i) = below_in p q rs h.1 i

-- processes above the first one are among the others
pub in_others : (q : Proc) (ps qs : List Proc) → Below q ps → Each (λ p. In p (q ∷ qs)) ps → Each (λ p. In p qs) ps
in_others q [] qs below h = tt
in_others q (p ∷ ps) qs below h = (among h.0, in_others q ps qs below.1 h.1)
  where
    among : In p (q ∷ qs) → In p qs
    among (inl e) = absurd (not_less q (subst (λ (x : Proc). proc_cmp q x ≡ Less) e below.0))
    among (inr i) = i

-- ---- how many there are

-- processes that rise, each of them among others that rise, are no more than those
pub no_more : (ps qs : List Proc) → IsStrictlySortedBy proc_cmp ps → IsStrictlySortedBy proc_cmp qs → Each (λ p. In p qs) ps → length ps ≤ length qs
unfolding IsStrictlySortedBy
no_more [] qs rise others h = omega arith
no_more (p ∷ ps) [] rise others h = absurd h.0
no_more (p ∷ ps) (q ∷ qs) rise others h =
    elim h.0 [
      | inl e ↦
          let below : Below q ps = subst (λ (x : Proc). Below x ps) e rise.0 in
          let fewer = no_more ps qs rise.1 others.1 (in_others q ps qs below h.1) in
          omega (arith, fewer)
      | inr i ↦
          let less = below_in q p qs others.0 i in
          let below : Below q (p ∷ ps) = (less, below_more q p ps less rise.0) in
          let fewer = no_more (p ∷ ps) qs rise others.1 (in_others q (p ∷ ps) qs below h) in
          omega (arith, fewer)
    ]

-- ---- processes of one namespace

abbrev pub at_rank : Proc → ℕ → Proc
at_rank p n = record { nspace = p.nspace; rank = n }

nat_less : (m n : ℕ) → nat_cmp m n ≡ Less → m < n
nat_less m n h = grind arith

less_nat : (m n : ℕ) → m < n → nat_cmp m n ≡ Less
less_nat m n h = grind arith

less_parts : (a b : Ordering) → ordering_then a b ≡ Less → (a ≡ Less) ⊎ ((a ≡ Equal) × (b ≡ Less))
less_parts Less b h = inl refl
less_parts Equal b h = inr (refl, h)
less_parts Greater b h = absurd cc

-- the lesser of two processes has the lesser namespace, or the lesser rank in the same one
pub less_procs : (p q : Proc) → proc_cmp p q ≡ Less → (slice_cmp nat_cmp p.nspace q.nspace ≡ Less) ⊎ ((p.nspace ≡ q.nspace) × (p.rank < q.rank))
less_procs p q h =
    elim (less_parts (slice_cmp nat_cmp p.nspace q.nspace) (nat_cmp p.rank q.rank) h) [
      | inl less ↦ inl less
      | inr same ↦ inr (exact_bytes p.nspace q.nspace same.0, nat_less p.rank q.rank same.1)
    ]

-- of two processes of one namespace the one with the lesser rank is less
pub less_at : (p : Proc) (m n : ℕ) → m < n → proc_cmp (at_rank p m) (at_rank p n) ≡ Less
less_at p m n lt = let same : slice_cmp nat_cmp p.nspace p.nspace ≡ Equal = tied_itself nat_list_cmp_total p.nspace in rw (same, less_nat m n lt) refl

-- a process between two of one namespace is of that namespace too
pub between : (p q : Proc) (n : ℕ) → proc_cmp p q ≡ Less → proc_cmp q (at_rank p n) ≡ Less → (q.nspace ≡ p.nspace) × (p.rank < q.rank) × (q.rank < n)
between p q n low high =
    elim (less_procs p q low) [
      | inl less ↦ absurd (apart (less_procs q (at_rank p n) high) less)
      | inr same ↦ elim (less_procs q (at_rank p n) high) [
        | inl less ↦ absurd (itself (subst (λ (x : List ℕ). slice_cmp nat_cmp x p.nspace ≡ Less) (sym same.0) less))
        | inr rank ↦ (sym same.0, same.1, rank.1)
      ]
    ]
  where
    itself : slice_cmp nat_cmp p.nspace p.nspace ≡ Less → ⊥
    itself h = let same : slice_cmp nat_cmp p.nspace p.nspace ≡ Equal = tied_itself nat_list_cmp_total p.nspace in absurd cc

    apart : (slice_cmp nat_cmp q.nspace p.nspace ≡ Less) ⊎ ((q.nspace ≡ p.nspace) × (q.rank < n)) → slice_cmp nat_cmp p.nspace q.nspace ≡ Less → ⊥
    apart (inl less) h = itself (nat_list_cmp_total.trans p.nspace q.nspace p.nspace h less)
    apart (inr same) h = itself (subst (λ (x : List ℕ). slice_cmp nat_cmp p.nspace x ≡ Less) same.0 h)

-- ---- runs among processes that rise

in_get : (n : ℕ) (q : Proc) (ps : List Proc) → slice_get ps n ≡ Some q → In q ps
in_get n q [] h = absurd cc
in_get zero q (p ∷ ps) h = let same : p ≡ q = cc in inl (sym same)
in_get (suc n) q (p ∷ ps) h = inr (in_get n q ps h)

-- a later one of processes that rise is the first or greater
pub get_above : (n : ℕ) (p q : Proc) (ps : List Proc) → Below p ps → slice_get (p ∷ ps) n ≡ Some q → (p ≡ q) ⊎ (proc_cmp p q ≡ Less)
get_above zero p q ps below h = let same : p ≡ q = cc in inl same
get_above (suc n) p q ps below h = inr (below_in p q ps below (in_get n q ps h))

-- a process above the first of a run, and not behind its last, is of its namespace
pub within_run : (p q : Proc) (m : ℕ) → proc_cmp p q ≡ Less → (q ≡ at_rank p m) ⊎ (proc_cmp q (at_rank p m) ≡ Less) → (q.nspace ≡ p.nspace) × (p.rank < q.rank)
within_run p q m low (inr high) = let b = between p q m low high in (b.0, b.1)
within_run p q m low (inl e) = (
  ap (λ (x : Proc). x.nspace) e,
  elim (less_procs p q low) [
    | inl less ↦
        let same : slice_cmp nat_cmp p.nspace p.nspace ≡ Less = subst (λ (x : Proc). slice_cmp nat_cmp p.nspace x.nspace ≡ Less) e less in
        let equal : slice_cmp nat_cmp p.nspace p.nspace ≡ Equal = tied_itself nat_list_cmp_total p.nspace in
        absurd cc
    | inr rank ↦ rank.1
  ],
)

pub same_run : (p q : Proc) (m : ℕ) → q.nspace ≡ p.nspace → at_rank p m ≡ at_rank q m
same_run p q m e = ap (λ (x : List ℕ). record { nspace = x; rank = m }) (sym e)

-- ranks rise by one at least
pub rank_apart : (n : ℕ) (p : Proc) (ps : List Proc) (m : ℕ) → IsStrictlySortedBy proc_cmp (p ∷ ps) → slice_get (p ∷ ps) n ≡ Some (at_rank p m) → p.rank + n ≤ m
unfolding IsStrictlySortedBy
rank_apart zero p ps m rise h = let same : p ≡ at_rank p m = cc in let rank : p.rank ≡ m = ap (λ (x : Proc). x.rank) same in omega (arith, rank)
rank_apart (suc n) p [] m rise h = absurd cc
rank_apart (suc n) p (q ∷ qs) m rise h =
    let w = within_run p q m rise.0.0 (get_above n q (at_rank p m) qs rise.1.0 h) in
    let far = rank_apart n q qs m rise.1 (h ∙ ap (λ (x : Proc). Some x) (same_run p q m w.0)) in
    omega (arith, w.1, far)

-- the second process of a run is the next one, and the last stands as far behind it as its rank is
pub next_in_run : (n : ℕ) (p q : Proc) (qs : List Proc) → IsStrictlySortedBy proc_cmp (p ∷ q ∷ qs) → slice_get (q ∷ qs) n ≡ Some (at_rank p (p.rank + suc n))
    → (q ≡ next_rank proc_ranks p) × (slice_get (q ∷ qs) n ≡ Some (at_rank q (q.rank + n)))
unfolding IsStrictlySortedBy
next_in_run n p q qs rise h =
    let m = p.rank + suc n in
    let w = within_run p q m rise.0.0 (get_above n q (at_rank p m) qs rise.1.0 h) in
    let there : slice_get (q ∷ qs) n ≡ Some (at_rank q m) = h ∙ ap (λ (x : Proc). Some x) (same_run p q m w.0) in
    let far = rank_apart n q qs m rise.1 there in
    let rank : q.rank ≡ suc p.rank = omega (arith, w.1, far) in
    let last : m ≡ q.rank + n = omega (arith, rank) in
    let is : q ≡ next_rank proc_ranks p = ap (λ (x : List ℕ). record { nspace = x; rank = q.rank }) w.0 ∙ ap (λ (r : ℕ). record { nspace = p.nspace; rank = r }) rank in
    (is, there ∙ ap (λ (r : ℕ). Some (at_rank q r)) last)

in_more : (q : Proc) (ps qs : List Proc) → Each (λ p. In p qs) ps → Each (λ p. In p (q ∷ qs)) ps
in_more q [] qs h = tt
in_more q (p ∷ ps) qs h = (inr h.0, in_more q ps qs h.1)

-- a run whose last process stands as far behind the first as its rank is there
line_in : (n : ℕ) (p : Proc) (ps : List Proc) → IsStrictlySortedBy proc_cmp (p ∷ ps) → slice_get (p ∷ ps) n ≡ Some (at_rank p (p.rank + n)) → Each (λ q. In q (p ∷ ps)) (line proc_ranks (suc n) p)
unfolding IsStrictlySortedBy line
line_in zero p ps rise h = (inl refl, tt)
line_in (suc n) p [] rise h = absurd cc
line_in (suc n) p (q ∷ qs) rise h =
    let next = next_in_run n p q qs rise h in
    let others = line_in n q qs rise.1 next.1 in
    (inl refl, in_more p (line proc_ranks (suc n) (next_rank proc_ranks p)) (q ∷ qs) (subst (λ (x : Proc). Each (λ r. In r (q ∷ qs)) (line proc_ranks (suc n) x)) next.0 others))

-- the processes of a run are above those below its first
line_above : (n : ℕ) (p q : Proc) → proc_cmp p q ≡ Less → Below p (line proc_ranks n q)
unfolding line
line_above zero p q less = tt
line_above (suc n) p q less = (less, line_above n p (next_rank proc_ranks q) (procs_total.trans p q (next_rank proc_ranks q) less (less_at q q.rank (suc q.rank) (omega arith))))

-- the process behind the first stands next to it
next_in : (p : Proc) (ps : List Proc) → IsStrictlySortedBy proc_cmp (p ∷ ps) → In (next_rank proc_ranks p) (p ∷ ps) → (qs : List Proc) × (ps ≡ next_rank proc_ranks p ∷ qs)
unfolding IsStrictlySortedBy
next_in p [] rise i = elim i [ inl e ↦ absurd (let rank : suc p.rank ≡ p.rank = ap (λ (x : Proc). x.rank) e in omega (arith, rank)) | inr none ↦ absurd none ]
next_in p (q ∷ qs) rise i =
    elim i [
      | inl e ↦ absurd (let rank : suc p.rank ≡ p.rank = ap (λ (x : Proc). x.rank) e in omega (arith, rank))
      | inr (inl e) ↦ (qs, ap (λ (x : Proc). x ∷ qs) (sym e))
      | inr (inr j) ↦ absurd (let b = between p q (suc p.rank) rise.0.0 (below_in q (next_rank proc_ranks p) qs rise.1.0 j) in omega (arith, b.1, b.2))
    ]

-- the last process of a run that is there stands as far behind the first as its rank
last_in : (n : ℕ) (p : Proc) (ps : List Proc) → IsStrictlySortedBy proc_cmp (p ∷ ps) → Each (λ q. In q (p ∷ ps)) (line proc_ranks (suc n) p) → slice_get (p ∷ ps) n ≡ Some (at_rank p (p.rank + n))
unfolding IsStrictlySortedBy line
last_in zero p ps rise h = let same : p.rank ≡ p.rank + 0 = omega arith in ap (λ (r : ℕ). Some (at_rank p r)) same
last_in (suc n) p ps rise h =
    let q = next_rank proc_ranks p in
    let found = next_in p ps rise h.1.0 in
    let less = less_at p p.rank (suc p.rank) (omega arith) in
    let rise_q : IsStrictlySortedBy proc_cmp (q ∷ found.0) = subst (λ (xs : List Proc). IsStrictlySortedBy proc_cmp xs) found.1 rise.1 in
    let among : Each (λ r. In r (q ∷ found.0)) (line proc_ranks (suc n) q) =
    subst (λ (xs : List Proc). Each (λ r. In r xs) (line proc_ranks (suc n) q)) found.1 (in_others p (line proc_ranks (suc n) q) ps (line_above (suc n) p q less) h.1) in
    let there = last_in n q found.0 rise_q among in
    let last : suc p.rank + n ≡ p.rank + suc n = omega arith in
    ap (λ (xs : List Proc). slice_get xs n) found.1 ∙ there ∙ ap (λ (r : ℕ). Some (at_rank p r)) last

-- so two looks tell whether a run is there
pub two_looks : (i : ℕ) (qs : List Proc) (p : Proc) (n : ℕ) → IsStrictlySortedBy proc_cmp qs → slice_get qs i ≡ Some p
    → (slice_get qs (i + n) ≡ Some (at_rank p (p.rank + n)) → Each (λ q. In q qs) (line proc_ranks (suc n) p)) × (Each (λ q. In q qs) (line proc_ranks (suc n) p) → slice_get qs (i + n) ≡ Some (at_rank p (p.rank + n)))
unfolding IsStrictlySortedBy
two_looks i [] p n rise h = absurd cc
two_looks zero (q ∷ qs) p n rise h =
    let same : q ≡ p = cc in
    let rise_p : IsStrictlySortedBy proc_cmp (p ∷ qs) = subst (λ (x : Proc). IsStrictlySortedBy proc_cmp (x ∷ qs)) same rise in
    let start : 0 + n ≡ n = omega arith in
    rw (same, start) (line_in n p qs rise_p, last_in n p qs rise_p)
two_looks (suc i) (q ∷ qs) p n rise h =
    let less = below_in q p qs rise.0 (in_get i p qs h) in
    let above = line_above (suc n) q p less in
    let both = two_looks i qs p n rise.1 h in
    let more : suc i + n ≡ suc (i + n) = omega arith in
    rw more (λ e. in_more q (line proc_ranks (suc n) p) qs (both.0 e), λ e. both.1 (in_others q (line proc_ranks (suc n) p) qs above e))

-- ---- what a set contains

members_if : (s : set.FinSet proc_cmp) (ps : List Proc) → list_all (set.contains s) ps ≡ true → Each (λ p. In p (in_order s)) ps
members_if s [] h = tt
members_if s (p ∷ ps) h =
    let parts = and_parts (set.contains s p) (list_all (set.contains s) ps) h in
    (in_if p (in_order s) (any_in_order procs_total s p ∙ parts.0), members_if s ps parts.1)

members_again : (s : set.FinSet proc_cmp) (ps : List Proc) → Each (λ p. In p (in_order s)) ps → list_all (set.contains s) ps ≡ true
members_again s [] h = refl
members_again s (p ∷ ps) h = and_from (set.contains s p) (list_all (set.contains s) ps) (sym (any_in_order procs_total s p) ∙ in_again p (in_order s) h.0) (members_again s ps h.1)

-- whether the process stands there
abbrev pub is_there : Option Proc → Proc → Bool
is_there there p = unwrap_or (option_map (λ q. is_same_proc q p) there) false

pub there_if : (there : Option Proc) (p : Proc) → is_there there p ≡ true → there ≡ Some p
there_if None p h = absurd cc
there_if (Some q) p h = ap (λ (x : Proc). Some x) ((same_procs q p).0 h)

pub there_again : (there : Option Proc) (p : Proc) → there ≡ Some p → is_there there p ≡ true
there_again None p h = absurd cc
there_again (Some q) p h = let same : q ≡ p = cc in (same_procs q p).1 same

-- a run whose first process stands there is seen by its last one
pub run_seen : (s : set.FinSet proc_cmp) (p : Proc) (last i : ℕ) → p.rank ≤ last → slice_get (in_order s) i ≡ Some p
    → is_there (slice_get (in_order s) (i + (last - p.rank))) (at_rank p last) ≡ list_all (set.contains s) (line proc_ranks (ranks_to last p) p)
run_seen s p last i le first =
    let n = last - p.rank in
    let many : ranks_to last p ≡ suc n = omega (arith, le) in
    let rank : p.rank + n ≡ last = omega (arith, le) in
    let looks = two_looks i (in_order s) p n (in_order_rises s) first in
    let there = slice_get (in_order s) (i + n) in
    let end : Some (at_rank p (p.rank + n)) ≡ Some (at_rank p last) = ap (λ (r : ℕ). Some (at_rank p r)) rank in
    rw many
    (same_bool (is_there there (at_rank p last)) (list_all (set.contains s) (line proc_ranks (suc n) p))
    (λ seen. members_again s (line proc_ranks (suc n) p) (looks.0 (there_if there (at_rank p last) seen ∙ sym end)))
    (λ all. there_again there (at_rank p last) (looks.1 (members_if s (line proc_ranks (suc n) p) all) ∙ end)))

-- a run whose first process is not there is not
pub run_missing : (s : set.FinSet proc_cmp) (p : Proc) (last : ℕ) → p.rank ≤ last → set.contains s p ≡ false → false ≡ list_all (set.contains s) (line proc_ranks (ranks_to last p) p)
unfolding line
run_missing s p last le none = let many : ranks_to last p ≡ suc (last - p.rank) = omega (arith, le) in rw (many, none) refl
