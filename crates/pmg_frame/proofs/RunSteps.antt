-- Reading run by run: what is read is spelled by its runs, and what is spelled so is read.
-- A user gives the kind of items k, the spelling of a run, what else a run keeps to behind the items before it (More), and the step's two laws:
--   `TakesRun` of what the step reads, and that it reads a run again. `items_if` and `items_again` are the laws of the whole list;
--   `adds_of` and `chain_of_runs` go between runs and a chain of items (Follows).
use Rattle.std.proofs.Common.{◌≡◌, ℕ, zero, suc, ◌+◌, ◌-◌, ◌≤◌, nat_le, Bool, true, not, List, [], ◌∷◌, ◌++◌, length, Option, Some, None, Ok, IsTrue, refl, sym, ap, subst, ◌∙◌, append_assoc, arith, inl, inr}
use Rattle.std.specs.List.{flat_map, list_all}
use Rattle.std.proofs.lemmas.Bool.{and_parts, leb-true, cases_Bool}
use Rattle.std.proofs.lemmas.List.{append-nil, length-append}
use Rattle.pmg_value.specs.Lists.{leads, is_chain}
use Rattle.pmg_wire.specs.Many.{Chain}
use Rattle.pmg_wire.specs.Reading.{Place, Read, IsBytes, Takes}
use Rattle.pmg_wire.proofs.Steps.{place, IfRead, bind_if, done_if, Takes-then, IsBytes-after}
use Rattle.pmg_frame.specs.Runs.{Ranked, RankRun, next_rank, line, items_of, with_item, runs_of, is_apart}
use Rattle.pmg_frame.specs.RunReading.{repeated, last_or, is_new}
use Rattle.pmg_frame.proofs.RunRules.{IsRanked, leads_chain, items_of-line, runs_of-are, runs_of-push}

-- ---- runs behind items

-- A run that may stand behind these items: it is not empty, it does not go on from the last of them, and what else there is to keep.
pub record Adds {A : Type 0} (k : Ranked A) (More : List A → RankRun A → Type 0) (before : List A) (r : RankRun A) : Type 0 where
  pub some : k.rank r.first ≤ r.last
  pub new : IsTrue (is_new k (last_or None before) r.first)
  pub more : More before r

-- each run may stand behind the items and the runs before it
abbrev pub AddAll : {A : Type 0} → Ranked A → (List A → RankRun A → Type 0) → List A → List (RankRun A) → Type 0
AddAll k More before [] = Unit {0}
AddAll k More before (r ∷ rs) = Adds k More before r × AddAll k More (before ++ items_of k r) rs

-- such runs are the longest ones
pub runs_of-adds : {A : Type 0} (k : Ranked A) → IsRanked k → (More : List A → RankRun A → Type 0) (before : List A) (rs : List (RankRun A)) → AddAll k More before rs
    → runs_of k (before ++ flat_map (items_of k) rs) ≡ runs_of k before ++ rs
runs_of-adds k is More before [] all = rw (append-nil before, append-nil (runs_of k before)) refl
runs_of-adds {A = A} k is More before (r ∷ rs) all =
    let behind = flat_map (items_of k) rs in
    ap (runs_of k) (sym (append_assoc before (items_of k r) behind))
    ∙ runs_of-adds k is More (before ++ items_of k r) rs all.1
    ∙ ap (λ (ss : List (RankRun A)). ss ++ rs) (runs_of-push k is before r all.0.some all.0.new)
    ∙ append_assoc (runs_of k before) (r ∷ []) rs

-- ---- what is read is spelled so

-- what a step took: a run's items are put behind those before it
pub record TakesRun {A : Type 0} (k : Ranked A) (spell : RankRun A → List ℕ) (More : List A → RankRun A → Type 0) (before : List A) (at : Place) (xs : List A) (after : Place) : Type 0 where
  pub run : RankRun A
  pub items : xs ≡ before ++ items_of k run
  pub takes : Takes at (spell run) after
  pub adds : Adds k More before run

-- what so many steps took
pub record TakesRuns {A : Type 0} (k : Ranked A) (spell : RankRun A → List ℕ) (More : List A → RankRun A → Type 0) (n : ℕ) (before : List A) (at : Place) (xs : List A) (after : Place) : Type 0 where
  pub runs : List (RankRun A)
  pub len : length runs ≡ n
  pub items : xs ≡ before ++ flat_map (items_of k) runs
  pub takes : Takes at (flat_map spell runs) after
  pub adds : AddAll k More before runs

pub if_weaker : {X : Type 0} {read : Read X} {P Q : X → Place → Type 0} → IfRead read P → ((x : X) (after : Place) → P x after → Q x after) → IfRead read Q
if_weaker p f = record { holds = λ x after e. f x after (p.holds x after e) }

run_more : {A : Type 0} (k : Ranked A) (spell : RankRun A → List ℕ) (More : List A → RankRun A → Type 0) (n : ℕ) (before : List A) (at : Place) (xs : List A) (middle : Place) (ys : List A) (after : Place)
    → TakesRun k spell More before at xs middle → TakesRuns k spell More n xs middle ys after → TakesRuns k spell More (suc n) before at ys after
run_more {A = A} k spell More n before at xs middle ys after t u = record {
  runs = t.run ∷ u.runs;
  len = ap suc u.len;
  items = u.items ∙ ap (λ (zs : List A). zs ++ flat_map (items_of k) u.runs) t.items ∙ append_assoc before (items_of k t.run) (flat_map (items_of k) u.runs);
  takes = Takes-then (spell t.run) (flat_map spell u.runs) t.takes u.takes;
  adds = (t.adds, subst (λ (zs : List A). AddAll k More zs u.runs) t.items u.adds);
}

pub repeated_if : {A : Type 0} (k : Ranked A) (spell : RankRun A → List ℕ) (More : List A → RankRun A → Type 0) (step : List A → Place → Read (List A))
    → ((before : List A) (at : Place) → IsBytes at.rest → IfRead (step before at) (TakesRun k spell More before at))
    → (n : ℕ) (before : List A) (at : Place) → IsBytes at.rest → IfRead (repeated step n before at) (TakesRuns k spell More n before at)
unfolding repeated
repeated_if k spell More step one zero before at fits =
    done_if (record { runs = []; len = refl; items = sym (append-nil before); takes = record { parts = refl; place = omega arith }; adds = tt })
repeated_if {A = A} k spell More step one (suc n) before at fits =
    bind_if (λ made. repeated step n made.0 made.1) (one before at fits) (λ xs middle t.
    if_weaker (repeated_if k spell More step one n xs middle (IsBytes-after (spell t.run) fits t.takes)) (λ ys after u.
    run_more k spell More n before at xs middle ys after t u))

-- what a list took: its longest runs, one after another
pub record TakesItems {A : Type 0} (k : Ranked A) (spell : RankRun A → List ℕ) (More : List A → RankRun A → Type 0) (n : ℕ) (at : Place) (xs : List A) (after : Place) : Type 0 where
  pub takes : Takes at (flat_map spell (runs_of k xs)) after
  pub len : length (runs_of k xs) ≡ n
  pub adds : AddAll k More [] (runs_of k xs)

items_taken : {A : Type 0} (k : Ranked A) → IsRanked k → (spell : RankRun A → List ℕ) (More : List A → RankRun A → Type 0) (n : ℕ) (at : Place) (xs : List A) (after : Place)
    → TakesRuns k spell More n [] at xs after → TakesItems k spell More n at xs after
unfolding runs_of
items_taken {A = A} k is spell More n at xs after t =
    let are : t.runs ≡ runs_of k xs = sym (ap (runs_of k) t.items ∙ runs_of-adds k is More [] t.runs t.adds) in
    record {
      takes = subst (λ (rs : List (RankRun A)). Takes at (flat_map spell rs) after) are t.takes;
      len = ap length (sym are) ∙ t.len;
      adds = subst (AddAll k More []) are t.adds;
    }

pub items_if : {A : Type 0} (k : Ranked A) → IsRanked k → (spell : RankRun A → List ℕ) (More : List A → RankRun A → Type 0) (step : List A → Place → Read (List A))
    → ((before : List A) (at : Place) → IsBytes at.rest → IfRead (step before at) (TakesRun k spell More before at))
    → (n : ℕ) (at : Place) → IsBytes at.rest → IfRead (repeated step n [] at) (TakesItems k spell More n at)
items_if k is spell More step one n at fits = if_weaker (repeated_if k spell More step one n [] at fits) (λ xs after t. items_taken k is spell More n at xs after t)

-- ---- and what is spelled so is read

pub repeated_again : {A : Type 0} (k : Ranked A) (spell : RankRun A → List ℕ) (More : List A → RankRun A → Type 0) (step : List A → Place → Read (List A))
    → ((before : List A) (o : ℕ) (r : RankRun A) (rest : List ℕ) → Adds k More before r → step before (place o (spell r ++ rest)) ≡ Ok (before ++ items_of k r, place (o + length (spell r)) rest))
    → (before : List A) (o : ℕ) (rs : List (RankRun A)) (rest : List ℕ) → AddAll k More before rs
    → repeated step (length rs) before (place o (flat_map spell rs ++ rest)) ≡ Ok (before ++ flat_map (items_of k) rs, place (o + length (flat_map spell rs)) rest)
unfolding repeated
repeated_again k spell More step one before o [] rest all = rw (append-nil before) (ap (λ (n : ℕ). Ok (before, place n rest)) (omega arith))
repeated_again {A = A} k spell More step one before o (r ∷ rs) rest all =
    let text = flat_map spell rs in
    let items = flat_map (items_of k) rs in
    let first = one before o r (text ++ rest) all.0 in
    let others = repeated_again k spell More step one (before ++ items_of k r) (o + length (spell r)) rs rest all.1 in
    let end : o + length (spell r) + length text ≡ o + length (spell r ++ text) = omega (arith, length-append (spell r) text) in
    ap (λ (t : List ℕ). repeated step (suc (length rs)) before (place o t)) (append_assoc (spell r) text rest)
    ∙ rw (first, others)
    (ap (λ (n : ℕ). Ok ((before ++ items_of k r) ++ items, place n rest)) end
    ∙ ap (λ (xs : List A). Ok (xs, place (o + length (spell r ++ text)) rest)) (append_assoc before (items_of k r) items))

pub items_again : {A : Type 0} (k : Ranked A) → IsRanked k → (spell : RankRun A → List ℕ) (More : List A → RankRun A → Type 0) (step : List A → Place → Read (List A))
    → ((before : List A) (o : ℕ) (r : RankRun A) (rest : List ℕ) → Adds k More before r → step before (place o (spell r ++ rest)) ≡ Ok (before ++ items_of k r, place (o + length (spell r)) rest))
    → (o : ℕ) (xs : List A) (rest : List ℕ) → AddAll k More [] (runs_of k xs)
    → repeated step (length (runs_of k xs)) [] (place o (flat_map spell (runs_of k xs) ++ rest)) ≡ Ok (xs, place (o + length (flat_map spell (runs_of k xs))) rest)
items_again {A = A} k is spell More step one o xs rest all =
    repeated_again k spell More step one [] o (runs_of k xs) rest all
    ∙ ap (λ (ys : List A). Ok (ys, place (o + length (flat_map spell (runs_of k xs))) rest)) (runs_of-are k is xs).items

-- ---- the last item

pub last_or-append : {A : Type 0} (before : Option A) (xs ys : List A) → last_or before (xs ++ ys) ≡ last_or (last_or before xs) ys
last_or-append before [] ys = refl
last_or-append before (x ∷ xs) ys = last_or-append (Some x) xs ys

last_or-line : {A : Type 0} (k : Ranked A) → IsRanked k → (before : Option A) (n : ℕ) (x : A) → last_or before (line k (suc n) x) ≡ Some (k.at x (k.rank x + n))
unfolding line
last_or-line {A = A} k is before zero x = let none : k.rank x + 0 ≡ k.rank x = omega arith in rw none (ap (λ (y : A). Some y) (sym (is.at_rank x)))
last_or-line {A = A} k is before (suc n) x =
    let rank : k.rank (next_rank k x) ≡ suc (k.rank x) = is.rank_at x (suc (k.rank x)) in
    let last : k.rank (next_rank k x) + n ≡ k.rank x + suc n = omega arith in
    last_or-line k is (Some x) n (next_rank k x)
    ∙ ap (λ (y : A). Some y) (is.at_at x (suc (k.rank x)) (k.rank (next_rank k x) + n))
    ∙ ap (λ (m : ℕ). Some (k.at x m)) last

pub last_or-items : {A : Type 0} (k : Ranked A) → IsRanked k → (before : Option A) (r : RankRun A) → k.rank r.first ≤ r.last → last_or before (items_of k r) ≡ Some (k.at r.first r.last)
last_or-items {A = A} k is before r le =
    let last : k.rank r.first + (r.last - k.rank r.first) ≡ r.last = omega arith in
    ap (last_or before) (items_of-line k r le)
    ∙ last_or-line k is before (r.last - k.rank r.first) r.first
    ∙ ap (λ (m : ℕ). Some (k.at r.first m)) last

-- what goes on behind a run
pub next_of-last : {A : Type 0} (k : Ranked A) → IsRanked k → (r : RankRun A) → next_rank k (k.at r.first r.last) ≡ k.at r.first (suc r.last)
next_of-last k is r = ap (λ (m : ℕ). k.at (k.at r.first r.last) (suc m)) (is.rank_at r.first r.last) ∙ is.at_at r.first r.last (suc r.last)

-- ---- between runs and a chain of items

pub chain_parts : {A : Type 0} (Follows : Option A → A → Type 0) (before : Option A) (xs ys : List A) → Chain Follows before (xs ++ ys) → Chain Follows before xs × Chain Follows (last_or before xs) ys
chain_parts Follows before [] ys chain = (tt, chain)
chain_parts Follows before (x ∷ xs) ys chain = let parts = chain_parts Follows (Some x) xs ys chain.1 in ((chain.0, parts.0), parts.1)

pub chain_joined : {A : Type 0} (Follows : Option A → A → Type 0) (before : Option A) (xs ys : List A) → Chain Follows before xs → Chain Follows (last_or before xs) ys → Chain Follows before (xs ++ ys)
chain_joined Follows before [] ys p q = q
chain_joined Follows before (x ∷ xs) ys p q = (p.0, chain_joined Follows (Some x) xs ys p.1 q)

-- the first of these runs does not go on from the last of those items
abbrev pub starts_new : {A : Type 0} → Ranked A → Option A → List (RankRun A) → Bool
starts_new k before [] = true
starts_new k before (r ∷ rs) = is_new k before r.first

starts_next : {A : Type 0} (k : Ranked A) → IsRanked k → (before : List A) (r : RankRun A) (rs : List (RankRun A)) → k.rank r.first ≤ r.last → leads (is_apart k) r rs ≡ true
    → starts_new k (last_or None (before ++ items_of k r)) rs ≡ true
starts_next k is before r [] le apart = refl
starts_next {A = A} k is before r (s ∷ ss) le apart =
    let last = last_or-append None before (items_of k r) ∙ last_or-items k is (last_or None before) r le in
    ap (λ (o : Option A). is_new k o s.first) last
    ∙ ap (λ (x : A). not (k.same x s.first)) (next_of-last k is r)
    ∙ (and_parts (not (k.same (k.at r.first (suc r.last)) s.first)) (leads (is_apart k) s ss) apart).0

-- runs of items that follow one another, of which there are so many at most
adds_behind : {A : Type 0} (k : Ranked A) → IsRanked k → (More : List A → RankRun A → Type 0) (Follows : Option A → A → Type 0) (limit : ℕ)
    → ((before : List A) (r : RankRun A) → k.rank r.first ≤ r.last → Chain Follows (last_or None before) (items_of k r) → length before + length (items_of k r) ≤ limit → More before r)
    → (before : List A) (rs : List (RankRun A)) → list_all (λ r. nat_le (k.rank r.first) r.last) rs ≡ true → is_chain (is_apart k) rs ≡ true → starts_new k (last_or None before) rs ≡ true
    → Chain Follows (last_or None before) (flat_map (items_of k) rs) → length before + length (flat_map (items_of k) rs) ≤ limit → AddAll k More before rs
adds_behind k is More Follows limit one before [] some apart new chain few = tt
adds_behind {A = A} k is More Follows limit one before (r ∷ rs) some apart new chain few =
    let xs = items_of k r in
    let ys = flat_map (items_of k) rs in
    let somes = and_parts (nat_le (k.rank r.first) r.last) (list_all (λ (s : RankRun A). nat_le (k.rank s.first) s.last) rs) some in
    let le : k.rank r.first ≤ r.last = leb-true (k.rank r.first) r.last somes.0 in
    let parts = chain_parts Follows (last_or None before) xs ys chain in
    let first : length before + length xs ≤ limit = omega (arith, few, length-append xs ys) in
    let all : length (before ++ xs) + length ys ≤ limit = omega (arith, few, length-append xs ys, length-append before xs) in
    let behind : Chain Follows (last_or None (before ++ xs)) ys = subst (λ (o : Option A). Chain Follows o ys) (sym (last_or-append None before xs)) parts.1 in (
      record { some = le; new = new; more = one before r le parts.0 first },
      adds_behind k is More Follows limit one (before ++ xs) rs somes.1 (leads_chain (is_apart k) r rs apart) (starts_next k is before r rs le apart) behind all,
    )

first_new : {A : Type 0} (k : Ranked A) (rs : List (RankRun A)) → starts_new k None rs ≡ true
first_new k [] = refl
first_new k (r ∷ rs) = refl

pub adds_of : {A : Type 0} (k : Ranked A) → IsRanked k → (More : List A → RankRun A → Type 0) (Follows : Option A → A → Type 0) (limit : ℕ)
    → ((before : List A) (r : RankRun A) → k.rank r.first ≤ r.last → Chain Follows (last_or None before) (items_of k r) → length before + length (items_of k r) ≤ limit → More before r)
    → (xs : List A) → Chain Follows None xs → length xs ≤ limit → AddAll k More [] (runs_of k xs)
adds_of {A = A} k is More Follows limit one xs chain few =
    let are = runs_of-are k is xs in
    let back = sym are.items in
    adds_behind k is More Follows limit one [] (runs_of k xs) are.some are.apart (first_new k (runs_of k xs))
    (subst (Chain Follows None) back chain) (subst (λ (ys : List A). 0 + length ys ≤ limit) back (omega (arith, few)))

chain_of_adds : {A : Type 0} (k : Ranked A) (More : List A → RankRun A → Type 0) (Follows : Option A → A → Type 0)
    → ((before : List A) (r : RankRun A) → Adds k More before r → Chain Follows (last_or None before) (items_of k r))
    → (before : List A) (rs : List (RankRun A)) → AddAll k More before rs → Chain Follows (last_or None before) (flat_map (items_of k) rs)
chain_of_adds k More Follows one before [] all = tt
chain_of_adds {A = A} k More Follows one before (r ∷ rs) all =
    let xs = items_of k r in
    let ys = flat_map (items_of k) rs in
    let behind = chain_of_adds k More Follows one (before ++ xs) rs all.1 in
    chain_joined Follows (last_or None before) xs ys (one before r all.0) (subst (λ (o : Option A). Chain Follows o ys) (last_or-append None before xs) behind)

-- the items of runs follow one another
pub chain_of_runs : {A : Type 0} (k : Ranked A) → IsRanked k → (More : List A → RankRun A → Type 0) (Follows : Option A → A → Type 0)
    → ((before : List A) (r : RankRun A) → Adds k More before r → Chain Follows (last_or None before) (items_of k r))
    → (xs : List A) → AddAll k More [] (runs_of k xs) → Chain Follows None xs
chain_of_runs k is More Follows one xs all = subst (Chain Follows None) (runs_of-are k is xs).items (chain_of_adds k More Follows one [] (runs_of k xs) all)

-- ---- numbers of runs and of items

few_with : {A : Type 0} (k : Ranked A) (x : A) (rs : List (RankRun A)) → (1 ≤ length (with_item k x rs)) × (length (with_item k x rs) ≤ suc (length rs))
few_with k x [] = (omega arith, omega arith)
few_with k x (r ∷ rs) =
    elim (cases_Bool (k.same (next_rank k x) r.first)) [
      | inl goes ↦ rw goes (omega arith, omega arith)
      | inr ends ↦ rw ends (omega arith, omega arith)
    ]

pub few_runs : {A : Type 0} (k : Ranked A) (xs : List A) → length (runs_of k xs) ≤ length xs
unfolding runs_of
few_runs k [] = omega arith
few_runs k (x ∷ xs) = omega (arith, (few_with k x (runs_of k xs)).1, few_runs k xs)

pub some_runs : {A : Type 0} (k : Ranked A) (xs : List A) → 1 ≤ length xs → 1 ≤ length (runs_of k xs)
unfolding runs_of
some_runs k [] h = absurd (omega arith)
some_runs k (x ∷ xs) h = (few_with k x (runs_of k xs)).0
