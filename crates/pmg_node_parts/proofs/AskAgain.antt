-- The homes that are asked again for gets that wait still.
use Rattle.std.proofs.Common.{◌≡◌, ℕ, Bool, true, false, cond, List, [], ◌∷◌, ◌++◌, map, Some, None, inl, inr, refl, sym, ap, ◌∙◌}
use Rattle.std.specs.Prelude.{◌==◌, if◌then◌else◌}
use Rattle.std.specs.FinMap as finite
use Rattle.std.specs.FinSet as set
use Rattle.std.specs.List.{flat_map}
use Rattle.std.specs.Option.{option_map, option_to_list}
use Rattle.std.proofs.lemmas.Bool.{false≢true}
use Rattle.std.proofs.lemmas.List.{append-nil}
use Rattle.std.proofs.lemmas.List.Concat.{flat_map-append}
use Rattle.std.proofs.lemmas.List.Folds.{flat_map-map}
use Rattle.pmg_value.specs.Lists.{In}
use Rattle.pmg_value.specs.Process.{proc_cmp}
use Rattle.pmg_value.specs.Names.{is_reserved}
use Rattle.pmg_value.specs.Signatures.{FenceName}
use Rattle.pmg_value.specs.declared.process.Proc.{Proc}
use Rattle.pmg_value.proofs.ProcessOrder.{procs_total}
use Rattle.pmg_value.proofs.RowLemmas.{entries_rising}
use Rattle.pmg_value.proofs.SortedLists.{tied}
use Rattle.pmg_jobinfo.specs.Jobs.{Jobs, home_of}
use Rattle.pmg_fence.specs.Entering.{same_proc}
use Rattle.pmg_fence.specs.Tables.{gone_by}
use Rattle.pmg_fence.proofs.EntryLemmas.{proc_itself}
use Rattle.pmg_fence.proofs.IndexLemmas.{each_row, keys_rise}
use Rattle.pmg_get.specs.Gets.{Outcome}
use Rattle.pmg_get.specs.declared.view.Mode.TheVariants as modes
use Rattle.pmg_node_parts.specs.Answered.{ArePlain, outcome_with, still_waits, home_ask, asked_for}
use Rattle.pmg_node_parts.specs.Calls.{get_of, asks_on, all_parked_on}
use Rattle.pmg_node_model.specs.Choosing.{asking_home, asking_again, is_parked_on}
use Rattle.pmg_node_parts.specs.Codes.{Calls}
use Rattle.pmg_node_model.specs.Holdings.{Get, CallState, NodeState, answer_in, is_ready_at, settled_by, released_by, mapped}
use Rattle.pmg_node_model.specs.Kept.{is_about, settle_where}
use Rattle.pmg_node_model.specs.declared.due.ToSend.{ToSend}
use Rattle.pmg_node_parts.proofs.AnswerLemmas.{plain_outcome}

-- the calls that f makes, in the order of their processes
pub entries_mapped : (f : CallState → CallState) (m : Calls) → finite.entries (mapped f m) ≡ map (λ e. (e.0, f e.1)) (finite.entries m)
unfolding mapped
entries_mapped f m = entries_rising procs_total f (finite.entries m) (keys_rise proc_cmp m)

module _ (jobs : Jobs) (id : ℕ) (q : Proc) (h : NodeState) where
  -- a call as it is then
  abbrev later : CallState → CallState
  later = settle_where jobs id h (is_about q)

  not_parked : (f : FenceName) (a b : Bool) → is_parked_on q (if a then released_by b f (gone_by jobs id h.table f) else CallState.in_fence f) ≡ false
  not_parked f true true = refl
  not_parked f true false = refl
  not_parked f false b = refl

  -- a get of the process's key waits then where there is nothing to answer
  parked_then : (get : Get) (o : Outcome) → same_proc q get.target ≡ true → is_parked_on q (settled_by get o) ≡ still_waits o
  parked_then get Outcome.parks t = t
  parked_then get (Outcome.found value) t = refl
  parked_then get Outcome.absent t = refl
  parked_then get Outcome.outside t = refl

  -- whom a get asks for that waits still
  waits_then : (get : Get) → is_reserved get.key ≡ false → same_proc q get.target ≡ true → still_waits (outcome_with jobs id h.near h.far (get_of q get.key)) ≡ is_parked_on q (later (CallState.parked get))
  waits_then get plain t =
      let target : q ≡ get.target = tied q get.target t in
      let about : same_proc get.target q ≡ true = ap (same_proc get.target) target ∙ proc_itself get.target in
      ap (λ (p : Proc). still_waits (outcome_with jobs id h.near h.far (get_of p get.key))) target
      ∙ ap still_waits (sym (plain_outcome jobs id h get plain))
      ∙ sym (parked_then get (answer_in jobs id h get modes.Wait) t)
      ∙ ap (λ b. is_parked_on q (if b then settled_by get (answer_in jobs id h get modes.Wait) else CallState.parked get)) (sym about)

  others_stay : (get : Get) (a b : Bool) → same_proc get.target q ≡ a → same_proc q get.target ≡ b → b ≡ false
      → is_parked_on q (if a then settled_by get (answer_in jobs id h get modes.Wait) else CallState.parked get) ≡ false
  others_stay get true b about on other = absurd (false≢true (sym other ∙ sym on ∙ ap (same_proc q) (tied get.target q about) ∙ proc_itself q))
  others_stay get false b about on other = on ∙ other

  asked_row : (x : List ToSend) (p : Proc) (s : CallState) → ((get : Get) → s ≡ CallState.parked get → is_reserved get.key ≡ false)
      → flat_map (λ (a : Proc × List ℕ). if still_waits (outcome_with jobs id h.near h.far (get_of q a.1)) then x else []) (asks_on q (p, s)) ≡ (if is_parked_on q (later s) then x else [])
  asked_row x p (CallState.in_fence f) plain = ap (λ b. if b then x else []) (sym (not_parked f (set.contains f.signature.participants q) (is_ready_at jobs id h f)))
  asked_row x p (CallState.released f gone) plain = refl
  asked_row x p (CallState.parked get) plain = by_target (same_proc q get.target) refl
    where
      by_target : (b : Bool) → same_proc q get.target ≡ b
          → flat_map (λ (a : Proc × List ℕ). if still_waits (outcome_with jobs id h.near h.far (get_of q a.1)) then x else []) (option_to_list (option_map (λ k. (p, k)) (cond b (Some get.key) None)))
          ≡ (if is_parked_on q (later (CallState.parked get)) then x else [])
      by_target true t = append-nil _ ∙ ap (λ b. if b then x else []) (waits_then get (plain get refl) t)
      by_target false t = ap (λ b. if b then x else []) (sym (others_stay get (same_proc get.target q) (same_proc q get.target) refl refl t))
  asked_row x p (CallState.answered get outcome) plain = refl
  asked_row x p (CallState.refreshing get number) plain = refl
  asked_row x p (CallState.refreshed get outcome) plain = refl

  asked_rows : (x : List ToSend) (rows : List (Proc × CallState)) → ((p : Proc) (get : Get) → In (p, CallState.parked get) rows → is_reserved get.key ≡ false)
      → flat_map (λ (a : Proc × List ℕ). if still_waits (outcome_with jobs id h.near h.far (get_of q a.1)) then x else []) (flat_map (asks_on q) rows)
      ≡ flat_map (λ (e : Proc × CallState). if is_parked_on q (later e.1) then x else []) rows
  asked_rows x [] plain = refl
  asked_rows x (e ∷ rows) plain =
      flat_map-append (λ (a : Proc × List ℕ). if still_waits (outcome_with jobs id h.near h.far (get_of q a.1)) then x else []) (asks_on q e) (flat_map (asks_on q) rows)
      ∙ (λ i. asked_row x e.0 e.1 (λ get is. plain e.0 get (inl (λ j. (e.0, sym is j)))) i ++ asked_rows x rows (λ p get there. plain p get (inr there)) i)

  -- where the process is at home at another node
  pub asked_again : (all : Calls) → ArePlain all → (home_of jobs q == id) ≡ false → h.calls ≡ mapped (settle_where jobs id h (is_about q)) all
      → asked_for jobs id h.near h.far q (all_parked_on all q) ≡ asking_again jobs id h q
  asked_again all plain away calls =
      let x = home_ask jobs id h.far q ∷ [] in
      let asks : x ≡ asking_home jobs id h q = ap (λ b. if b then [] else x) (sym away) in
      asked_rows x (finite.entries all) (λ p get i. plain p get (each_row procs_total all (p, CallState.parked get) i))
      ∙ sym (flat_map-map (λ (e : Proc × CallState). if is_parked_on q e.1 then x else []) (λ (e : Proc × CallState). (e.0, later e.1)) (finite.entries all))
      ∙ ap (flat_map (λ (e : Proc × CallState). if is_parked_on q e.1 then x else [])) (sym (entries_mapped later all) ∙ ap finite.entries (sym calls))
      ∙ ap (λ (y : List ToSend). flat_map (λ (e : Proc × CallState). if is_parked_on q e.1 then y else []) (finite.entries h.calls)) asks

  none_asked : (rows : List (Proc × CallState)) → flat_map {X = Proc × CallState} {A = ToSend} (λ e. if is_parked_on q e.1 then [] else []) rows ≡ []
  none_asked [] = refl
  none_asked (e ∷ rows) = by_test (is_parked_on q e.1) (none_asked rows)
    where
      by_test : {rest : List ToSend} (b : Bool) → rest ≡ [] → (if b then [] else []) ++ rest ≡ []
      by_test true is = is
      by_test false is = is

  -- at its own home nobody is asked
  pub never_asked : (home_of jobs q == id) ≡ true → [] ≡ asking_again jobs id h q
  never_asked home =
      sym (none_asked (finite.entries h.calls))
      ∙ ap (λ (y : List ToSend). flat_map (λ (e : Proc × CallState). if is_parked_on q e.1 then y else []) (finite.entries h.calls)) (ap (λ b. if b then [] else home_ask jobs id h.far q ∷ []) (sym home))
