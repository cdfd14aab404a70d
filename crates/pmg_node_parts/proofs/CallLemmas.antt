-- Calls in memory.
use Rattle.std.proofs.Common.{◌≡◌, ℕ, Bool, true, false, cond, List, [], ◌∷◌, ◌++◌, map, Option, Some, None, is_some, refl, sym, ap, ◌∙◌}
use Rattle.std.specs.FinMap as finite
use Rattle.std.specs.Cmp.{Equal-is}
use Rattle.std.specs.List.{flat_map}
use Rattle.std.specs.Option.{option_map, option_to_list, unwrap_or}
use Rattle.std.proofs.lemmas.List.Concat.{flat_map-append}
use Rattle.std.proofs.lemmas.List.Folds.{flat_map-map}
use Rattle.pmg_value.specs.Process.{proc_cmp}
use Rattle.pmg_value.specs.Rows.{AreRising, rows_of, changed_at}
use Rattle.pmg_value.specs.declared.process.Proc.{Proc}
use Rattle.pmg_value.proofs.ProcessOrder.{procs_total, exact_procs}
use Rattle.pmg_value.proofs.RowLemmas.{at_key, same_option, entries_rising, get-rows_of, get-map_of}
use Rattle.pmg_fence.specs.Entering.{same_proc}
use Rattle.pmg_node_parts.specs.Calls.{standing_of, standing_by, asks_on, all_parked_on, all_instead}
use Rattle.pmg_node_parts.specs.Codes.{Calls}
use Rattle.pmg_node_model.specs.Choosing.{is_parked_on}
use Rattle.pmg_node_model.specs.Holdings.{CallState, mapped}
use Rattle.pmg_node_parts.specs.declared.call.Call.{Call}
use Rattle.pmg_node_parts.specs.declared.call.Completion.{Completion}

-- what is gathered of the rows in their order
pub gathered_rows : {A : Type 0} (f : Proc × CallState → List A) (rows : List (Proc × Call)) (m : Calls) → AreRising proc_cmp rows → rows_of standing_of rows ≡ m
    → flat_map (λ e. f (e.0, standing_of e.1)) rows ≡ flat_map f (finite.entries m)
gathered_rows f rows m rising same =
    sym (flat_map-map f (λ e. (e.0, standing_of e.1)) rows)
    ∙ ap (flat_map f) (sym (entries_rising procs_total standing_of rows rising))
    ∙ ap (λ (t : Calls). flat_map f (finite.entries t)) same

-- ---- gets that wait

add_nothing : {A : Type 0} (xs : List A) → xs ++ [] ≡ xs
add_nothing [] = refl
add_nothing (x ∷ xs) = ap (λ ys. x ∷ ys) (add_nothing xs)

module _ {A : Type 0} (x : List A) (q : Proc) where
  one_ask : (p : Proc) (s : CallState) → flat_map (λ _. x) (asks_on q (p, s)) ≡ cond (is_parked_on q s) x []
  one_ask p (CallState.in_fence f) = refl
  one_ask p (CallState.released f gone) = refl
  one_ask p (CallState.parked get) = by_target (same_proc q get.target)
    where
      by_target : (b : Bool) → flat_map {X = Proc × List ℕ} (λ _. x) (option_to_list (option_map (λ key. (p, key)) (cond b (Some get.key) None))) ≡ cond b x []
      by_target true = add_nothing x
      by_target false = refl
  one_ask p (CallState.answered get outcome) = refl
  one_ask p (CallState.refreshing get number) = refl
  one_ask p (CallState.refreshed get outcome) = refl

  ask_rows : (rows : List (Proc × CallState)) → flat_map (λ _. x) (flat_map (asks_on q) rows) ≡ flat_map (λ e. cond (is_parked_on q e.1) x []) rows
  ask_rows [] = refl
  ask_rows (e ∷ rows) =
      flat_map-append (λ _. x) (asks_on q e) (flat_map (asks_on q) rows)
      ∙ (λ i. one_ask e.0 e.1 i ++ ask_rows rows i)

  -- the same for each get that waits for a key of the process
  pub each_ask : (all : Calls) → flat_map (λ _. x) (all_parked_on all q) ≡ flat_map (λ e. cond (is_parked_on q e.1) x []) (finite.entries all)
  each_ask all = ask_rows (finite.entries all)

-- ---- answers

pub instead-push : (m : Calls) (answers : List (Proc × Completion)) (p : Proc) (c : Completion)
    → all_instead m (answers ++ (p, c) ∷ []) ≡ all_instead (changed_at m p (standing_by c)) answers
instead-push m [] p c = refl
instead-push m (e ∷ es) p c = ap (λ (t : Calls). changed_at t e.0 (standing_by e.1)) (instead-push m es p c)

-- the first of the answers for the process
abbrev pub answer_for : Proc → List (Proc × Completion) → Option CallState
answer_for p [] = None
answer_for p (e ∷ es) = cond (same_proc p e.0) (Some (standing_by e.1)) (answer_for p es)

given_there : (b : Bool) (x y : CallState) (o : Option CallState) → (b ≡ true → o ≡ Some y) → cond b (Some x) o ≡ cond b (option_map (λ _. x) o) o
given_there true x y o e = ap (option_map (λ _. x)) (sym (e refl))
given_there false x y o e = refl

given_nowhere : (b : Bool) (x : CallState) (o : Option CallState) → (b ≡ true → o ≡ None) → o ≡ cond b (option_map (λ _. x) o) o
given_nowhere true x o e = e refl ∙ ap (option_map (λ _. x)) (sym (e refl))
given_nowhere false x o e = refl

at_same : (m : Calls) (q k : Proc) → same_proc q k ≡ true → finite.get m q ≡ finite.get m k
at_same m q k e = ap (finite.get m) (exact_procs q k ((Equal-is _).0 e))

changed_by : (m : Calls) (k q : Proc) (x : CallState) (o : Option CallState) → finite.get m k ≡ o
    → finite.get (cond (is_some o) (finite.insert m k x) m) q ≡ cond (same_proc q k) (option_map (λ _. x) (finite.get m q)) (finite.get m q)
changed_by m k q x (Some y) e = finite.get-insert procs_total m k x q ∙ given_there (same_proc q k) x y (finite.get m q) (λ t. at_same m q k t ∙ e)
changed_by m k q x None e = given_nowhere (same_proc q k) x (finite.get m q) (λ t. at_same m q k t ∙ e)

-- what stands under a key once another call has come in the place of one
get-changed : (m : Calls) (k q : Proc) (x : CallState) → finite.get (changed_at m k x) q ≡ cond (same_proc q k) (option_map (λ _. x) (finite.get m q)) (finite.get m q)
get-changed m k q x = changed_by m k q x (finite.get m k) refl

first_wins : (b : Bool) (x : CallState) (a o : Option CallState)
    → cond b (option_map (λ _. x) (option_map (λ s. unwrap_or a s) o)) (option_map (λ s. unwrap_or a s) o) ≡ option_map (λ s. unwrap_or (cond b (Some x) a) s) o
first_wins true x a None = refl
first_wins true x a (Some s) = refl
first_wins false x a o = refl

pub get-instead : (m : Calls) (answers : List (Proc × Completion)) (q : Proc) → finite.get (all_instead m answers) q ≡ option_map (λ s. unwrap_or (answer_for q answers) s) (finite.get m q)
get-instead m [] q = sym (same_option (finite.get m q))
get-instead m (e ∷ es) q =
    get-changed (all_instead m es) e.0 q (standing_by e.1)
    ∙ ap (λ o. cond (same_proc q e.0) (option_map (λ _. standing_by e.1) o) o) (get-instead m es q)
    ∙ first_wins (same_proc q e.0) (standing_by e.1) (answer_for q es) (finite.get m q)

same_rows_list : (rows : List (Proc × CallState)) → map (λ e. (e.0, e.1)) rows ≡ rows
same_rows_list [] = refl
same_rows_list (e ∷ rows) = ap (λ es. e ∷ es) (same_rows_list rows)

pub at_entries : (m : Calls) (q : Proc) → at_key proc_cmp q (finite.entries m) ≡ finite.get m q
at_entries m q =
    sym (get-map_of procs_total (finite.entries m) q)
    ∙ finite.get-from_entries procs_total (map (λ e. (e.0, e.1)) (finite.entries m)) q
    ∙ ap (finite.find proc_cmp q) (same_rows_list (finite.entries m))
    ∙ sym (finite.get-entries m q)

pub get-mapped : (f : CallState → CallState) (m : Calls) (q : Proc) → finite.get (mapped f m) q ≡ option_map f (finite.get m q)
unfolding mapped
get-mapped f m q = get-rows_of procs_total f (finite.entries m) q ∙ ap (option_map f) (at_entries m q)

alike : (o : Option CallState) (g f : CallState → CallState) → ((s : CallState) → o ≡ Some s → g s ≡ f s) → option_map g o ≡ option_map f o
alike None g f same = refl
alike (Some s) g f same = ap Some (same s refl)

-- where the first answer for each process is what f makes of its call, and f leaves the others, the calls with the answers in
-- their place are those that f makes
pub all_answered : (f : CallState → CallState) (m : Calls) (answers : List (Proc × Completion))
    → ((q : Proc) (s : CallState) → finite.get m q ≡ Some s → unwrap_or (answer_for q answers) s ≡ f s) → all_instead m answers ≡ mapped f m
all_answered f m answers same = finite.same_map procs_total exact_procs (all_instead m answers) (mapped f m) (λ q.
    get-instead m answers q
    ∙ alike (finite.get m q) (λ s. unwrap_or (answer_for q answers) s) f (same q)
    ∙ sym (get-mapped f m q))
