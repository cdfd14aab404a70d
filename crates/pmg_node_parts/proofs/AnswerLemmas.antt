-- The answers of calls that wait, as one list.
use Rattle.std.proofs.Common.{◌≡◌, ◌⊎◌, ℕ, Bool, true, false, cond, List, [], ◌∷◌, ◌++◌, Option, Some, None, inl, inr, refl, sym, ap, subst, ◌∙◌}
use Rattle.std.specs.Prelude.{if◌then◌else◌}
use Rattle.std.specs.FinMap as finite
use Rattle.std.specs.FinSet as set
use Rattle.std.specs.Cmp.{Equal-is}
use Rattle.std.specs.List.{flat_map}
use Rattle.std.specs.Option.{option_map, option_to_list, unwrap_or}
use Rattle.std.specs.Ordering.{eq_by_cmp, is_eq}
use Rattle.std.proofs.lemmas.Bool.{false≢true}
use Rattle.std.proofs.lemmas.Cmp.{tied_itself}
use Rattle.pmg_value.specs.Lists.{In}
use Rattle.pmg_value.specs.InOrder.{in_order}
use Rattle.pmg_value.specs.Names.{is_reserved}
use Rattle.pmg_value.specs.Signatures.{FenceName}
use Rattle.pmg_value.specs.Spelling.{spelling}
use Rattle.pmg_value.specs.declared.process.Proc.{Proc}
use Rattle.pmg_value.proofs.ListLemmas.{in_append_left, in_append_right, in_from_list_any, in_map, in_map_from, in_parts, list_any_in}
use Rattle.pmg_value.proofs.ProcessOrder.{procs_total, exact_procs}
use Rattle.pmg_value.proofs.SetOrder.{any_in_order}
use Rattle.pmg_value.proofs.SortedLists.{tied}
use Rattle.pmg_commit.specs.Data.{read_at}
use Rattle.pmg_commit.proofs.HonestLaws.{some_is}
use Rattle.pmg_frame.specs.FenceOrder.{name_cmp, name_total}
use Rattle.pmg_frame.proofs.FenceOrderLemmas.{names_exact}
use Rattle.pmg_jobinfo.specs.Jobs.{Jobs}
use Rattle.pmg_jobinfo.specs.Reserved.{reserved_value}
use Rattle.pmg_fence.specs.Entering.{same_proc}
use Rattle.pmg_fence.specs.Tables.{gone_by}
use Rattle.pmg_fence.proofs.EntryLemmas.{proc_itself}
use Rattle.pmg_fence.proofs.IndexLemmas.{each_row}
use Rattle.pmg_get.specs.Gets.{Seen, Outcome, resolve}
use Rattle.pmg_get.specs.declared.view.Mode.TheVariants as modes
use Rattle.pmg_node_parts.specs.Answered.{ArePlain, standings, outcome_with, answered_by, gets_answered, released_all, released_in, released_with, answered_about}
use Rattle.pmg_node_parts.specs.Calls.{get_of, standing_by, asks_on, all_parked_on, waits_in, all_waiting_in, all_waited, all_instead}
use Rattle.pmg_node_model.specs.Choosing.{waited}
use Rattle.pmg_node_parts.specs.Codes.{Calls}
use Rattle.pmg_node_model.specs.Holdings.{Get, CallState, NodeState, plain_seen, seen_of, answer_in, is_ready_at, settled_by, released_by, settle, mapped}
use Rattle.pmg_node_model.specs.Kept.{IsSettled, is_about, is_in, settle_where}
use Rattle.pmg_node_parts.specs.declared.call.Completion.{Completion}
use Rattle.pmg_node_parts.proofs.CallLemmas.{answer_for, all_answered}
use Rattle.pmg_node_model.proofs.KeptActs.{parked_key}
use Rattle.pmg_node_model.proofs.KeptBasics.{entry_listed}
use Rattle.pmg_value.proofs.MadeLists.{in_flat, in_flat_from}

-- ---- the first answer for a process

first_in : (q : Proc) (answers : List (Proc × Completion)) (x : CallState) → answer_for q answers ≡ Some x → In (q, x) (standings answers)
first_in q [] x e = absurd cc
first_in q (a ∷ answers) x e = by_test (same_proc q a.0) refl e (first_in q answers x)
  where
    by_test : (b : Bool) → same_proc q a.0 ≡ b → cond b (Some (standing_by a.1)) (answer_for q answers) ≡ Some x → (answer_for q answers ≡ Some x → In (q, x) (standings answers))
        → In (q, x) ((a.0, standing_by a.1) ∷ standings answers)
    by_test true t is rest = inl (λ i. (tied q a.0 t i, sym (some_is is) i))
    by_test false t is rest = inr (rest is)

none_in : (q : Proc) (answers : List (Proc × Completion)) (x : CallState) → answer_for q answers ≡ None → In (q, x) (standings answers) → ⊥
none_in q [] x e i = i
none_in q (a ∷ answers) x e i = by_test (same_proc q a.0) refl e i (none_in q answers x)
  where
    by_test : (b : Bool) → same_proc q a.0 ≡ b → cond b (Some (standing_by a.1)) (answer_for q answers) ≡ None → In (q, x) ((a.0, standing_by a.1) ∷ standings answers)
        → (answer_for q answers ≡ None → In (q, x) (standings answers) → ⊥) → ⊥
    by_test true t is j rest = cc
    by_test false t is (inl same) rest = false≢true (sym t ∙ ap (λ (r : Proc × CallState). same_proc q r.0) (sym same) ∙ proc_itself q)
    by_test false t is (inr j) rest = rest is j

-- Where each answer is what f makes of the call that it answers, and each call that has none is one that f leaves, the calls with
-- the answers in their place are those that f makes.
pub answers_are : (f : CallState → CallState) (m : Calls) (answers : List (Proc × Completion))
    → ((p : Proc) (s x : CallState) → In (p, x) (standings answers) → finite.get m p ≡ Some s → x ≡ f s)
    → ((p : Proc) (s : CallState) → finite.get m p ≡ Some s → (f s ≡ s) ⊎ In (p, f s) (standings answers)) → all_instead m answers ≡ mapped f m
answers_are f m answers right all = all_answered f m answers (λ p s e. by_answer p s e (answer_for p answers) refl)
  where
    by_answer : (p : Proc) (s : CallState) → finite.get m p ≡ Some s → (o : Option CallState) → answer_for p answers ≡ o → unwrap_or o s ≡ f s
    by_answer p s e (Some x) is = right p s x (first_in p answers x is) e
    by_answer p s e None is = elim (all p s e) [ inl same ↦ sym same | inr i ↦ absurd (none_in p answers (f s) is i) ]

tied_name : (f g : FenceName) → eq_by_cmp name_cmp f g ≡ true → f ≡ g
tied_name f g t = names_exact f g ((Equal-is _).0 t)

name_itself : (f : FenceName) → eq_by_cmp name_cmp f f ≡ true
name_itself f = ap is_eq (tied_itself name_total f)

-- ---- who waits for what

module _ (all : Calls) where
  -- a get that is listed waits for the key
  asks_row : (q p r : Proc) (key : List ℕ) (s : CallState) → In (p, key) (asks_on q (r, s)) → (p ≡ r) × (s ≡ CallState.parked (get_of q key))
  asks_row q p r key (CallState.in_fence f) i = absurd i
  asks_row q p r key (CallState.released f gone) i = absurd i
  asks_row q p r key (CallState.parked get) i = by_target (same_proc q get.target) refl i
    where
      by_target : (b : Bool) → same_proc q get.target ≡ b → In {A = Proc × List ℕ} (p, key) (option_to_list (option_map (λ k. (r, k)) (cond b (Some get.key) None)))
          → (p ≡ r) × (CallState.parked get ≡ CallState.parked (get_of q key))
      by_target true t (inl e) = (ap (λ (x : Proc × List ℕ). x.0) e, λ i. CallState.parked (record { target = sym (tied q get.target t) i; key = (sym e i).1 }))
      by_target true t (inr j) = absurd j
      by_target false t j = absurd j
  asks_row q p r key (CallState.answered get outcome) i = absurd i
  asks_row q p r key (CallState.refreshing get number) i = absurd i
  asks_row q p r key (CallState.refreshed get outcome) i = absurd i

  parked_there : (q p : Proc) (key : List ℕ) → In (p, key) (all_parked_on all q) → finite.get all p ≡ Some (CallState.parked (get_of q key))
  parked_there q p key i =
      let row = in_flat_from (asks_on q) (finite.entries all) (p, key) i in
      let is = asks_row q p row.0.0 key row.0.1 row.2 in
      ap (finite.get all) is.0 ∙ each_row procs_total all row.0 row.1 ∙ ap Some is.1

  -- and each that waits for it is listed
  there_parked : (q p : Proc) (get : Get) → finite.get all p ≡ Some (CallState.parked get) → same_proc q get.target ≡ true → In (p, get.key) (all_parked_on all q)
  there_parked q p get e t =
      in_flat (asks_on q) (finite.entries all) (p, CallState.parked get) (p, get.key) (entry_listed exact_procs all p (CallState.parked get) e)
      (subst (λ b. In {A = Proc × List ℕ} (p, get.key) (option_to_list (option_map (λ k. (p, k)) (cond b (Some get.key) None)))) (sym t) (inl refl))

  waits_row : (f : FenceName) (p r : Proc) (s : CallState) → In p (waits_in f (r, s)) → (p ≡ r) × (s ≡ CallState.in_fence f)
  waits_row f p r (CallState.in_fence g) i = by_name (eq_by_cmp name_cmp f g) refl i
    where
      by_name : (b : Bool) → eq_by_cmp name_cmp f g ≡ b → In p (if b then r ∷ [] else []) → (p ≡ r) × (CallState.in_fence g ≡ CallState.in_fence f)
      by_name true t (inl e) = (e, ap (λ x. CallState.in_fence x) (sym (tied_name f g t)))
      by_name true t (inr j) = absurd j
      by_name false t j = absurd j
  waits_row f p r (CallState.released g gone) i = absurd i
  waits_row f p r (CallState.parked get) i = absurd i
  waits_row f p r (CallState.answered get outcome) i = absurd i
  waits_row f p r (CallState.refreshing get number) i = absurd i
  waits_row f p r (CallState.refreshed get outcome) i = absurd i

  waiting_there : (f : FenceName) (p : Proc) → In p (all_waiting_in all f) → finite.get all p ≡ Some (CallState.in_fence f)
  waiting_there f p i =
      let row = in_flat_from (waits_in f) (finite.entries all) p i in
      let is = waits_row f p row.0.0 row.0.1 row.2 in
      ap (finite.get all) is.0 ∙ each_row procs_total all row.0 row.1 ∙ ap Some is.1

  there_waiting : (f : FenceName) (p : Proc) → finite.get all p ≡ Some (CallState.in_fence f) → In p (all_waiting_in all f)
  there_waiting f p e =
      in_flat (waits_in f) (finite.entries all) (p, CallState.in_fence f) p (entry_listed exact_procs all p (CallState.in_fence f) e)
      (subst (λ b. In p (if b then p ∷ [] else [])) (sym (name_itself f)) (inl refl))

  there_waited : (f : FenceName) (p : Proc) → finite.get all p ≡ Some (CallState.in_fence f) → In f (all_waited all)
  there_waited f p e =
      let names = flat_map (λ (x : Proc × CallState). waited x.1) (finite.entries all) in
      let listed = in_flat (λ (x : Proc × CallState). waited x.1) (finite.entries all) (p, CallState.in_fence f) f (entry_listed exact_procs all p (CallState.in_fence f) e) (inl refl) in
      let among = any_in_order name_total (set.from_list {R = name_cmp} names) f ∙ set.contains-from_list name_total names f ∙ list_any_in (eq_by_cmp name_cmp f) names f listed (name_itself f) in
      let found = in_from_list_any (eq_by_cmp name_cmp f) (in_order (set.from_list {R = name_cmp} names)) among in
      subst (λ x. In x (all_waited all)) (sym (tied_name f found.0 found.2)) found.1

-- ---- what is answered

-- a get of a key that is not reserved is answered with the stores
pub plain_outcome : (jobs : Jobs) (id : ℕ) (h : NodeState) (get : Get) → is_reserved get.key ≡ false → answer_in jobs id h get modes.Wait ≡ outcome_with jobs id h.near h.far get
unfolding seen_of
plain_outcome jobs id h get plain =
    ap (λ b. resolve (if b then Seen.reserved (option_map spelling (reserved_value jobs id get.target get.key)) else plain_seen jobs id (read_at h.near get.target) (read_at h.far get.target) get)
    modes.Wait) plain

answered_row : (p r : Proc) (x : CallState) (get : Get) (o : Outcome) → In (p, x) (answered_by r get o) → (p ≡ r) × (x ≡ settled_by get o)
answered_row p r x get Outcome.parks i = absurd i
answered_row p r x get (Outcome.found value) (inl e) = (ap (λ (y : Proc × CallState). y.0) e, ap (λ (y : Proc × CallState). y.1) e)
answered_row p r x get (Outcome.found value) (inr i) = absurd i
answered_row p r x get Outcome.absent (inl e) = (ap (λ (y : Proc × CallState). y.0) e, ap (λ (y : Proc × CallState). y.1) e)
answered_row p r x get Outcome.absent (inr i) = absurd i
answered_row p r x get Outcome.outside (inl e) = (ap (λ (y : Proc × CallState). y.0) e, ap (λ (y : Proc × CallState). y.1) e)
answered_row p r x get Outcome.outside (inr i) = absurd i

row_answered : (p : Proc) (get : Get) (o : Outcome) → (settled_by get o ≡ CallState.parked get) ⊎ In (p, settled_by get o) (answered_by p get o)
row_answered p get Outcome.parks = inl refl
row_answered p get (Outcome.found value) = inr (inl refl)
row_answered p get Outcome.absent = inr (inl refl)
row_answered p get Outcome.outside = inr (inl refl)

module _ (jobs : Jobs) (id : ℕ) (h : NodeState) (all : Calls) where
  -- ---- fences

  module _ (looks : CallState → Bool) where
    looked : (s : CallState) → looks s ≡ true → settle_where jobs id h looks s ≡ settle jobs id h s
    looked s t = ap (λ b. if b then settle jobs id h s else s) t

    left : (s : CallState) → looks s ≡ false → settle_where jobs id h looks s ≡ s
    left s t = ap (λ b. if b then settle jobs id h s else s) t

    -- whoever is released from a fence waits in it, and it is ready
    released_right : (f : FenceName) (p : Proc) (s x : CallState) → looks (CallState.in_fence f) ≡ true → In (p, x) (released_in jobs id h.table h.far all f) → finite.get all p ≡ Some s
        → x ≡ settle_where jobs id h looks s
    released_right f p s x t i e = by_ready (is_ready_at jobs id h f) refl i
      where
        by_ready : (b : Bool) → is_ready_at jobs id h f ≡ b → In (p, x) (if b then released_all f (gone_by jobs id h.table f) (all_waiting_in all f) else []) → x ≡ settle_where jobs id h looks s
        by_ready true ready j =
            let row = in_map_from (λ (q : Proc). (q, CallState.released f (gone_by jobs id h.table f))) (all_waiting_in all f) (p, x) j in
            let there = waiting_there all f p (subst (λ q. In q (all_waiting_in all f)) (sym (ap (λ (y : Proc × CallState). y.0) row.2)) row.1) in
            ap (λ (y : Proc × CallState). y.1) row.2
            ∙ sym (ap (λ b. released_by b f (gone_by jobs id h.table f)) ready)
            ∙ sym (looked (CallState.in_fence f) t)
            ∙ ap (settle_where jobs id h looks) (some_is (sym there ∙ e))
        by_ready false ready j = absurd j

    released_there : (f : FenceName) (p : Proc) → looks (CallState.in_fence f) ≡ true → finite.get all p ≡ Some (CallState.in_fence f)
        → (settle_where jobs id h looks (CallState.in_fence f) ≡ CallState.in_fence f) ⊎ In (p, settle_where jobs id h looks (CallState.in_fence f)) (released_in jobs id h.table h.far all f)
    released_there f p t e = by_ready (is_ready_at jobs id h f) refl
      where
        by_ready : (b : Bool) → is_ready_at jobs id h f ≡ b
            → (settle_where jobs id h looks (CallState.in_fence f) ≡ CallState.in_fence f) ⊎ In (p, settle_where jobs id h looks (CallState.in_fence f)) (released_in jobs id h.table h.far all f)
        by_ready true ready =
            let is : settle_where jobs id h looks (CallState.in_fence f) ≡ CallState.released f (gone_by jobs id h.table f) =
            looked (CallState.in_fence f) t ∙ ap (λ b. released_by b f (gone_by jobs id h.table f)) ready in
            inr (subst (λ s. In (p, s) (released_in jobs id h.table h.far all f)) (sym is)
            (subst (λ b. In (p, CallState.released f (gone_by jobs id h.table f)) (if b then released_all f (gone_by jobs id h.table f) (all_waiting_in all f) else [])) (sym ready)
            (in_map (λ (q : Proc). (q, CallState.released f (gone_by jobs id h.table f))) (all_waiting_in all f) p (there_waiting all f p e))))
        by_ready false ready = inl (looked (CallState.in_fence f) t ∙ ap (λ b. released_by b f (gone_by jobs id h.table f)) ready)

  -- what calls in a fence are answered
  pub answers_in_are : (f : FenceName) (answers : List (Proc × Completion)) → standings answers ≡ released_in jobs id h.table h.far all f
      → all_instead all answers ≡ mapped (settle_where jobs id h (is_in f)) all
  answers_in_are f answers told = answers_are (settle_where jobs id h (is_in f)) all answers
      (λ p s x i e. released_right (is_in f) f p s x (name_itself f) (subst (In (p, x)) told i) e) by_call
    where
      by_name : (p : Proc) (g : FenceName) → finite.get all p ≡ Some (CallState.in_fence g) → (b : Bool) → eq_by_cmp name_cmp g f ≡ b
          → (settle_where jobs id h (is_in f) (CallState.in_fence g) ≡ CallState.in_fence g) ⊎ In (p, settle_where jobs id h (is_in f) (CallState.in_fence g)) (standings answers)
      by_name p g e true t =
          elim (released_there (is_in f) g p t e) [
            | inl same ↦ inl same
            | inr i ↦ inr (subst (In (p, settle_where jobs id h (is_in f) (CallState.in_fence g))) (ap (released_in jobs id h.table h.far all) (tied_name g f t) ∙ sym told) i)
          ]
      by_name p g e false t = inl (left (is_in f) (CallState.in_fence g) t)

      by_call : (p : Proc) (s : CallState) → finite.get all p ≡ Some s → (settle_where jobs id h (is_in f) s ≡ s) ⊎ In (p, settle_where jobs id h (is_in f) s) (standings answers)
      by_call p (CallState.in_fence g) e = by_name p g e (eq_by_cmp name_cmp g f) refl
      by_call p (CallState.released g gone) e = inl refl
      by_call p (CallState.parked get) e = inl refl
      by_call p (CallState.answered get outcome) e = inl refl
      by_call p (CallState.refreshing get number) e = inl refl
      by_call p (CallState.refreshed get outcome) e = inl refl

  -- ---- gets of a process's keys, and fences in which it takes part

  module _ (q : Proc) (plain : ArePlain all) where
    abbrev pub got : List (Proc × CallState)
    got = gets_answered jobs id h.near h.far q (all_parked_on all q)

    abbrev pub freed : List (Proc × CallState)
    freed = released_with jobs id h.table h.far all q

    -- a get that is answered is one of the process's keys, and that is its answer
    got_right : (p : Proc) (s x : CallState) → In (p, x) got → finite.get all p ≡ Some s → x ≡ settle_where jobs id h (is_about q) s
    got_right p s x i e =
        let ask = in_flat_from (λ (a : Proc × List ℕ). answered_by a.0 (get_of q a.1) (outcome_with jobs id h.near h.far (get_of q a.1))) (all_parked_on all q) (p, x) i in
        let get = get_of q ask.0.1 in
        let row = answered_row p ask.0.0 x get (outcome_with jobs id h.near h.far get) ask.2 in
        let there = parked_there all q ask.0.0 ask.0.1 ask.1 in
        row.1
        ∙ ap (settled_by get) (sym (plain_outcome jobs id h get (plain ask.0.0 get there)))
        ∙ sym (looked (is_about q) (CallState.parked get) (proc_itself q))
        ∙ ap (settle_where jobs id h (is_about q)) (some_is (sym there ∙ ap (finite.get all) (sym row.0) ∙ e))

    got_there : (p : Proc) (get : Get) → same_proc get.target q ≡ true → finite.get all p ≡ Some (CallState.parked get)
        → (settle_where jobs id h (is_about q) (CallState.parked get) ≡ CallState.parked get) ⊎ In (p, settle_where jobs id h (is_about q) (CallState.parked get)) got
    got_there p get t e =
        let target : get.target ≡ q = tied get.target q t in
        let whole : get ≡ get_of q get.key = λ i. record { target = target i; key = get.key } in
        let is : settle_where jobs id h (is_about q) (CallState.parked get) ≡ settled_by get (outcome_with jobs id h.near h.far get) =
        looked (is_about q) (CallState.parked get) t ∙ ap (settled_by get) (plain_outcome jobs id h get (plain p get e)) in
        elim (row_answered p get (outcome_with jobs id h.near h.far get)) [
          | inl same ↦ inl (is ∙ same)
          | inr i ↦ inr (subst (λ s. In (p, s) got) (sym is)
              (in_flat (λ (a : Proc × List ℕ). answered_by a.0 (get_of q a.1) (outcome_with jobs id h.near h.far (get_of q a.1))) (all_parked_on all q)
              (p, get.key) (p, settled_by get (outcome_with jobs id h.near h.far get))
              (there_parked all q p get e (ap (same_proc q) target ∙ proc_itself q))
              (subst (λ (g : Get). In (p, settled_by get (outcome_with jobs id h.near h.far get)) (answered_by p g (outcome_with jobs id h.near h.far g))) whole i)))
        ]

    freed_right : (p : Proc) (s x : CallState) → In (p, x) freed → finite.get all p ≡ Some s → x ≡ settle_where jobs id h (is_about q) s
    freed_right p s x i e =
        let row = in_flat_from (λ (f : FenceName). if set.contains f.signature.participants q then released_in jobs id h.table h.far all f else []) (all_waited all) (p, x) i in
        by_part row.0 (set.contains row.0.signature.participants q) refl row.2
      where
        by_part : (f : FenceName) (b : Bool) → set.contains f.signature.participants q ≡ b → In (p, x) (if b then released_in jobs id h.table h.far all f else [])
            → x ≡ settle_where jobs id h (is_about q) s
        by_part f true t j = released_right (is_about q) f p s x t j e
        by_part f false t j = absurd j

    freed_there : (p : Proc) (f : FenceName) → set.contains f.signature.participants q ≡ true → finite.get all p ≡ Some (CallState.in_fence f)
        → (settle_where jobs id h (is_about q) (CallState.in_fence f) ≡ CallState.in_fence f) ⊎ In (p, settle_where jobs id h (is_about q) (CallState.in_fence f)) freed
    freed_there p f t e =
        let made = settle_where jobs id h (is_about q) (CallState.in_fence f) in
        elim (released_there (is_about q) f p t e) [
          | inl same ↦ inl same
          | inr i ↦ inr (in_flat (λ (g : FenceName). if set.contains g.signature.participants q then released_in jobs id h.table h.far all g else []) (all_waited all) f (p, made)
              (there_waited all f p e) (subst (λ b. In (p, made) (if b then released_in jobs id h.table h.far all f else [])) (sym t) i))
        ]

    -- what calls are answered once more is known of the process: each answer is right
    pub about_right : (p : Proc) (s x : CallState) → In (p, x) (got ++ freed) → finite.get all p ≡ Some s → x ≡ settle_where jobs id h (is_about q) s
    about_right p s x i e = elim (in_parts got freed (p, x) i) [ inl j ↦ got_right p s x j e | inr j ↦ freed_right p s x j e ]

    -- and there are all
    pub about_there : (p : Proc) (s : CallState) → finite.get all p ≡ Some s → (settle_where jobs id h (is_about q) s ≡ s) ⊎ In (p, settle_where jobs id h (is_about q) s) (got ++ freed)
    about_there = by_call
      where
        by_fence : (p : Proc) (f : FenceName) → finite.get all p ≡ Some (CallState.in_fence f) → (b : Bool) → set.contains f.signature.participants q ≡ b
            → (settle_where jobs id h (is_about q) (CallState.in_fence f) ≡ CallState.in_fence f) ⊎ In (p, settle_where jobs id h (is_about q) (CallState.in_fence f)) (got ++ freed)
        by_fence p f e true t =
            let made = settle_where jobs id h (is_about q) (CallState.in_fence f) in
            elim (freed_there p f t e) [ inl same ↦ inl same | inr i ↦ inr (in_append_right got freed (p, made) i) ]
        by_fence p f e false t = inl (left (is_about q) (CallState.in_fence f) t)

        by_get : (p : Proc) (get : Get) → finite.get all p ≡ Some (CallState.parked get) → (b : Bool) → same_proc get.target q ≡ b
            → (settle_where jobs id h (is_about q) (CallState.parked get) ≡ CallState.parked get) ⊎ In (p, settle_where jobs id h (is_about q) (CallState.parked get)) (got ++ freed)
        by_get p get e true t =
            let made = settle_where jobs id h (is_about q) (CallState.parked get) in
            elim (got_there p get t e) [ inl same ↦ inl same | inr i ↦ inr (in_append_left got freed (p, made) i) ]
        by_get p get e false t = inl (left (is_about q) (CallState.parked get) t)

        by_call : (p : Proc) (s : CallState) → finite.get all p ≡ Some s → (settle_where jobs id h (is_about q) s ≡ s) ⊎ In (p, settle_where jobs id h (is_about q) s) (got ++ freed)
        by_call p (CallState.in_fence f) e = by_fence p f e (set.contains f.signature.participants q) refl
        by_call p (CallState.released f gone) e = inl refl
        by_call p (CallState.parked get) e = by_get p get e (same_proc get.target q) refl
        by_call p (CallState.answered get outcome) e = inl refl
        by_call p (CallState.refreshing get number) e = inl refl
        by_call p (CallState.refreshed get outcome) e = inl refl

    -- they are the answers
    pub answers_about_are : (answers : List (Proc × Completion)) → standings answers ≡ answered_about jobs id h.table h.near h.far all q
        → all_instead all answers ≡ mapped (settle_where jobs id h (is_about q)) all
    answers_about_are answers told = answers_are (settle_where jobs id h (is_about q)) all answers (λ p s x i e. about_right p s x (subst (In (p, x)) told i) e)
        (λ p s e. elim (about_there p s e) [ inl same ↦ inl same | inr i ↦ inr (subst (In (p, settle_where jobs id h (is_about q) s)) (sym told) i) ])

-- ---- gets that wait where all is settled

pub plain_calls : (jobs : Jobs) (id : ℕ) (h : NodeState) → IsSettled jobs id h → ArePlain h.calls
plain_calls jobs id h is p get e = parked_key jobs id h get modes.Wait (is.gets p get e)
