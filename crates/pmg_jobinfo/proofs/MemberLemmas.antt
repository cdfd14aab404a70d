-- Sets of processes: one more process, all that are meant, and a set's items.
use Rattle.std.proofs.Common.{◌≡◌, ℕ, zero, suc, arith, ◌+◌, ◌<◌, ◌≤◌, List, [], ◌∷◌, ◌++◌, Bool, true, false, cond, ◌||◌, map, length, get_or, drop, drop-cons, add-one, append-nil, refl, sym, ap, ◌∙◌}
use Rattle.std.specs.Prelude.{◌&&◌, if◌then◌else◌}
use Rattle.std.specs.BTreeMap.{is_at}
use Rattle.std.specs.Cmp.{Equal-is, eq_by_cmp_equiv, nat_cmp_is}
use Rattle.std.specs.Cmp.Lexicographic.{nat_list_cmp_total}
use Rattle.std.specs.declared.cmp.Ordering.{Ordering}
use Rattle.std.specs.declared.cmp.Ordering.TheVariants.{Less}
use Rattle.std.specs.List.{AllByRecursion, list_any, flat_map, range_with_len}
use Rattle.std.specs.List.Sorted.{IsStrictlySortedBy}
use Rattle.std.specs.Ordering.{eq_by_cmp, is_eq, is_lt, nat_cmp, ordering_then}
use Rattle.std.specs.FinSet as set
use Rattle.std.proofs.Math.Bool.{or-false}
use Rattle.std.proofs.lemmas.Cmp.{tied_itself}
use Rattle.std.proofs.lemmas.List.{drop_all, map-append}
use Rattle.pmg_value.specs.declared.process.Proc.{Proc}
use Rattle.pmg_value.specs.Lists.{is_chain, leads}
use Rattle.pmg_value.specs.Process.{proc_cmp}
use Rattle.pmg_value.proofs.ListLemmas.{in_from_list_any, list_any_in}
use Rattle.pmg_value.proofs.ProcessOrder.{procs_total, exact_procs}
use Rattle.pmg_value.proofs.SetLemmas.{same_bool}
use Rattle.pmg_jobinfo.specs.Expansion.{ranks, is_all, is_before, members, meant, expansion}
use Rattle.pmg_jobinfo.specs.Jobs.{Jobs, size_of}
use Rattle.pmg_jobinfo.proofs.HomeLemmas.{ranks_more}

-- ---- tests of a list, by one more item

swapped : (t old rest : Bool) → ((t || old) || rest) ≡ (old || (t || rest))
swapped true true rest = refl
swapped true false rest = refl
swapped false old rest = refl

module _ {A : Type 0} (p : A → Bool) where
  pub one_added : (left rest : List A) (x : A) (old new all : Bool) → left ≡ x ∷ rest → new ≡ (p x || old) → (old || list_any p left) ≡ all → (new || list_any p rest) ≡ all
  one_added left rest x old new all next put so_far =
      ap (λ b. b || list_any p rest) put ∙ swapped (p x) old (list_any p rest) ∙ ap (λ ys. old || list_any p ys) (sym next) ∙ so_far

  pub one_added_at : (xs : List A) (i : ℕ) (x : A) (old new : Bool) → i < length xs → x ≡ get_or xs i x → new ≡ (p x || old)
      → (old || list_any p (drop i xs)) ≡ list_any p xs → (new || list_any p (drop (i + 1) xs)) ≡ list_any p xs
  one_added_at xs i x old new lt is put so_far =
      one_added (drop i xs) (drop (i + 1) xs) x old new (list_any p xs)
      (drop-cons xs i x lt ∙ (λ j. sym is j ∷ drop (sym (add-one i) j) xs)) put so_far

  pub all_added : (left : List A) (found all : Bool) → left ≡ [] → (found || list_any p left) ≡ all → found ≡ all
  all_added left found all none so_far = sym (or-false found) ∙ ap (λ ys. found || list_any p ys) (sym none) ∙ so_far

  pub all_added_at : (xs : List A) (i : ℕ) (found : Bool) → length xs ≤ i → (found || list_any p (drop i xs)) ≡ list_any p xs → found ≡ list_any p xs
  all_added_at xs i found past so_far = all_added (drop i xs) found (list_any p xs) (drop_all i xs past) so_far

  pub any_append : (xs ys : List A) → list_any p (xs ++ ys) ≡ (list_any p xs || list_any p ys)
  any_append [] ys = refl
  any_append (x ∷ xs) ys = ap (λ b. p x || b) (any_append xs ys) ∙ or_chain (p x) (list_any p xs) (list_any p ys)
    where
      or_chain : (a b c : Bool) → (a || (b || c)) ≡ ((a || b) || c)
      or_chain true b c = refl
      or_chain false b c = refl

module _ {A B : Type 0} (p : B → Bool) (f : A → List B) where
  pub any_flat : (xs : List A) → list_any p (flat_map f xs) ≡ list_any (λ x. list_any p (f x)) xs
  any_flat [] = refl
  any_flat (x ∷ xs) = any_append p (f x) (flat_map f xs) ∙ ap (λ b. list_any p (f x) || b) (any_flat xs)

-- ---- the processes of a namespace

abbrev pub process : List ℕ → ℕ → Proc
process name rank = record { nspace = name; rank = rank }

pub nobody : (name : List ℕ) → members name 0 ≡ []
unfolding members
nobody name = refl

pub members_none : (p : Proc → Bool) (name : List ℕ) → list_any p (members name 0) ≡ false
unfolding members
members_none p name = refl

pub members_more : (name : List ℕ) (n : ℕ) → members name (n + 1) ≡ members name n ++ process name n ∷ []
unfolding members
members_more name n = ap (map (process name)) (ranks_more n) ∙ map-append (process name) (ranks n) (n ∷ [])

turned : (t m old : Bool) → (t || (m || old)) ≡ ((m || (t || false)) || old)
turned true true old = refl
turned true false old = refl
turned false true old = refl
turned false false old = refl

pub member_added : (p : Proc → Bool) (name : List ℕ) (n : ℕ) (new old first : Bool) → new ≡ (p (process name n) || old) → old ≡ (list_any p (members name n) || first)
    → new ≡ (list_any p (members name (n + 1)) || first)
member_added p name n new old first put so_far =
    put ∙ ap (λ b. p (process name n) || b) so_far
    ∙ turned (p (process name n)) (list_any p (members name n)) first
    ∙ ap (λ b. b || first) (sym (ap (list_any p) (members_more name n) ∙ any_append p (members name n) (process name n ∷ [])))

-- ---- a set's items

-- lists with the same processes pass the same tests
any_alike : (xs ys : List Proc) → ((q : Proc) → list_any (eq_by_cmp proc_cmp q) xs ≡ true → list_any (eq_by_cmp proc_cmp q) ys ≡ true) → (p : Proc → Bool) → list_any p xs ≡ true → list_any p ys ≡ true
any_alike xs ys there p h =
    let one = in_from_list_any p xs h in
    let other = in_from_list_any (eq_by_cmp proc_cmp one.0) ys (there one.0 (list_any_in (eq_by_cmp proc_cmp one.0) xs one.0 one.1 (ap is_eq (tied_itself procs_total one.0)))) in
    let same : one.0 ≡ other.0 = exact_procs one.0 other.0 ((Equal-is _).0 other.2) in
    list_any_in p ys other.0 other.1 (ap p (sym same) ∙ one.2)

pub any_same : (xs ys : List Proc) → ((q : Proc) → list_any (eq_by_cmp proc_cmp q) xs ≡ list_any (eq_by_cmp proc_cmp q) ys) → (p : Proc → Bool) → list_any p xs ≡ list_any p ys
any_same xs ys same p = same_bool _ _ (any_alike xs ys (λ q h. sym (same q) ∙ h) p) (any_alike ys xs (λ q h. same q ∙ h) p)

-- the processes that the named ones stand for are those of the expansion
pub expansion_is : (jobs : Jobs) (list named all : List Proc) → ((q : Proc) → list_any (eq_by_cmp proc_cmp q) named ≡ list_any (eq_by_cmp proc_cmp q) list)
    → ((q : Proc) → list_any (eq_by_cmp proc_cmp q) all ≡ list_any (λ p. list_any (eq_by_cmp proc_cmp q) (meant jobs p)) named) → expansion jobs list ≡ set.from_list all
unfolding expansion
expansion_is jobs list named all are meant_are =
    set.same_set procs_total exact_procs _ _ (λ q.
    set.contains-from_list procs_total (flat_map (meant jobs) list) q
    ∙ any_flat (eq_by_cmp proc_cmp q) (meant jobs) list
    ∙ sym (any_same named list are (λ p. list_any (eq_by_cmp proc_cmp q) (meant jobs p)))
    ∙ sym (meant_are q)
    ∙ sym (set.contains-from_list procs_total all q))

leads_rising : (p : Proc) (ps : List Proc) → AllByRecursion (λ y. proc_cmp p y ≡ Less) ps → IsStrictlySortedBy proc_cmp ps → leads is_before p ps ≡ true
unfolding IsStrictlySortedBy
leads_rising p [] h sorted = refl
leads_rising p (q ∷ qs) h sorted = ap (λ (r : Ordering). is_lt r && leads is_before q qs) h.0 ∙ leads_rising q qs sorted.0 sorted.1

-- processes in their order rise
pub chain_rising : (ps : List Proc) → IsStrictlySortedBy proc_cmp ps → is_chain is_before ps ≡ true
unfolding IsStrictlySortedBy
chain_rising [] sorted = refl
chain_rising (p ∷ ps) sorted = leads_rising p ps sorted.0 sorted.1

-- ---- one item alone

one_alone : {A : Type 0} (xs : List A) (x : A) → 1 ≤ length xs → length xs < 2 → x ≡ get_or xs 0 x → xs ≡ x ∷ []
one_alone [] x some few is = absurd (omega arith)
one_alone (y ∷ []) x some few is = ap (λ z. z ∷ []) (sym is)
one_alone (y ∷ z ∷ zs) x some few is = absurd (omega arith)

pub expansion_alone : (jobs : Jobs) (list : List Proc) (p : Proc) (procs : List Proc) → 1 ≤ length list → length list < 2 → p ≡ get_or list 0 p → procs ≡ meant jobs p
    → expansion jobs list ≡ set.from_list procs
unfolding expansion
expansion_alone jobs list p procs some few is made =
    ap (λ ps. set.from_list (flat_map (meant jobs) ps)) (one_alone list p some few is)
    ∙ ap (λ ps. set.from_list ps) (append-nil (meant jobs p) ∙ sym made)

-- a rank comes before the next
rank_before : (name : List ℕ) (n : ℕ) → is_before (process name n) (process name (n + 1)) ≡ true
rank_before name n =
    ap (λ (o : Ordering). is_lt (ordering_then o (nat_cmp n (n + 1)))) (tied_itself nat_list_cmp_total name)
    ∙ ap is_lt (sym (nat_cmp_is n (n + 1) Less (omega arith)))

ranks_rise : (name : List ℕ) (n count : ℕ) → leads is_before (process name n) (map (process name) (range_with_len (n + 1) count)) ≡ true
ranks_rise name n zero = refl
ranks_rise name n (suc count) = ap (λ b. b && leads is_before (process name (n + 1)) (map (process name) (range_with_len (n + 1 + 1) count))) (rank_before name n) ∙ ranks_rise name (n + 1) count

members_rise : (name : List ℕ) (count : ℕ) → is_chain is_before (members name count) ≡ true
unfolding members
members_rise name zero = refl
members_rise name (suc count) = ranks_rise name 0 count

pub alone_rises : (jobs : Jobs) (p : Proc) (procs : List Proc) → procs ≡ meant jobs p → is_chain is_before procs ≡ true
alone_rises jobs p procs made = ap (is_chain is_before) made ∙ by_rank (is_all p)
  where
    by_rank : (all : Bool) → is_chain is_before (cond all (members p.nspace (size_of jobs p.nspace)) (p ∷ [])) ≡ true
    by_rank true = members_rise p.nspace (size_of jobs p.nspace)
    by_rank false = refl

-- a set to which a process was added
pub put_is : (p q : Proc) (new old : Bool) → new ≡ cond (is_at (proc_cmp p) q) true old → new ≡ (eq_by_cmp proc_cmp q p || old)
put_is p q new old put =
    put ∙ ap (λ b. cond b true old) ((eq_by_cmp_equiv procs_total).symm p q)
    ∙ elim (eq_by_cmp proc_cmp q p) as (λ b. cond b true old ≡ (b || old)) [ true ↦ refl | false ↦ refl ]

-- ---- steps of the calls

pub one_meant : (jobs : Jobs) (p q : Proc) (new old : Bool) → is_all p ≡ false → new ≡ (eq_by_cmp proc_cmp q p || old) → new ≡ (list_any (eq_by_cmp proc_cmp q) (meant jobs p) || old)
one_meant jobs p q new old one put =
    put ∙ ap (λ b. b || old) (sym (or-false (eq_by_cmp proc_cmp q p)))
    ∙ ap (λ b. list_any (eq_by_cmp proc_cmp q) (if b then members p.nspace (size_of jobs p.nspace) else p ∷ []) || old) (sym one)

pub all_meant : (jobs : Jobs) (p q : Proc) (new old : Bool) → is_all p ≡ true → new ≡ (list_any (eq_by_cmp proc_cmp q) (members p.nspace (size_of jobs p.nspace)) || old)
    → new ≡ (list_any (eq_by_cmp proc_cmp q) (meant jobs p) || old)
all_meant jobs p q new old all put =
    put ∙ ap (λ b. list_any (eq_by_cmp proc_cmp q) (if b then members p.nspace (size_of jobs p.nspace) else p ∷ []) || old) (sym all)
