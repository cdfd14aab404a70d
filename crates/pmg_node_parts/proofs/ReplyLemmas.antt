-- Answers to gets that ask anew, where the reply has come.
use Rattle.std.proofs.Common.{◌≡◌, ◌⊎◌, ℕ, Bool, true, false, List, [], ◌∷◌, ◌++◌, map, Option, Some, None, inl, inr, refl, sym, ap, subst, ◌∙◌}
use Rattle.std.specs.Prelude.{if◌then◌else◌}
use Rattle.std.specs.FinMap as finite
use Rattle.std.specs.FinSet as set
use Rattle.std.specs.List.{flat_map}
use Rattle.std.specs.Option.{option_map}
use Rattle.pmg_value.specs.InOrder.{in_order}
use Rattle.pmg_value.specs.Lists.{In}
use Rattle.pmg_value.specs.Names.{is_reserved}
use Rattle.pmg_value.specs.Signatures.{FenceName}
use Rattle.pmg_value.specs.Spelling.{spelling}
use Rattle.pmg_value.specs.declared.process.Proc.{Proc}
use Rattle.pmg_value.proofs.ListLemmas.{in_append_left, in_append_right, in_parts}
use Rattle.pmg_value.proofs.ProcessOrder.{procs_total, exact_procs}
use Rattle.pmg_commit.specs.Data.{Data, read_at}
use Rattle.pmg_commit.proofs.HonestLaws.{some_is}
use Rattle.pmg_frame.specs.FenceOrder.{name_cmp}
use Rattle.pmg_jobinfo.specs.Jobs.{Jobs}
use Rattle.pmg_jobinfo.specs.Reserved.{reserved_value}
use Rattle.pmg_fence.specs.Tables.{Fences, gone_by}
use Rattle.pmg_get.specs.Gets.{Outcome, Seen, resolve}
use Rattle.pmg_get.specs.declared.view.Mode.TheVariants as modes
use Rattle.pmg_node_parts.specs.Answered.{ArePlain, ArePlainAnew, IsAsker, standings, outcome_then, still_waits, replied_by, replied_to, gets_answered, released_all, answered_about}
use Rattle.pmg_node_parts.specs.Answering.{AreAskedAgain}
use Rattle.pmg_node_parts.specs.Calls.{anew_of, asks_on, all_parked_on, waits_in, all_waiting_in, all_waited, all_instead}
use Rattle.pmg_node_parts.specs.Codes.{Calls}
use Rattle.pmg_node_model.specs.Choosing.{waited, asking_home, asking_again, is_parked_on}
use Rattle.pmg_node_model.specs.Holdings.{Get, CallState, NodeState, plain_seen, seen_of, answer_in, is_ready_at, with_calls, is_replied, answer_reply, mapped}
use Rattle.pmg_node_model.specs.Kept.{is_about, settle_where}
use Rattle.pmg_node_model.specs.declared.due.ToSend.{ToSend}
use Rattle.pmg_node_parts.specs.declared.call.Completion.{Completion}
use Rattle.pmg_node_parts.proofs.AnswerLemmas.{answers_are, about_right, about_there}
use Rattle.pmg_node_parts.proofs.AskAgain.{entries_mapped}
use Rattle.pmg_node_parts.proofs.CallLemmas.{get-mapped}

-- a get that looks only at what its node holds waits for nothing
pub never_waits : (seen : Seen) → still_waits (resolve seen modes.Now) ≡ false
unfolding resolve
never_waits (Seen.reserved (Some value)) = refl
never_waits (Seen.reserved None) = refl
never_waits (Seen.own (Some value)) = refl
never_waits (Seen.own None) = refl
never_waits (Seen.local (Some value) other ended) = refl
never_waits (Seen.local None (Some value) ended) = refl
never_waits (Seen.local None None ended) = refl
never_waits (Seen.remote (Some value) ended) = refl
never_waits (Seen.remote None ended) = refl

-- a get of a key that is not reserved is answered with the stores
then_outcome : (jobs : Jobs) (id : ℕ) (h : NodeState) (get : Get) → is_reserved get.key ≡ false → answer_in jobs id h get modes.Now ≡ outcome_then jobs id h.near h.far get
unfolding seen_of
then_outcome jobs id h get plain =
    ap (λ b. resolve (if b then Seen.reserved (option_map spelling (reserved_value jobs id get.target get.key)) else plain_seen jobs id (read_at h.near get.target) (read_at h.far get.target) get)
    modes.Now) plain

-- ---- calls where the reply has come

module _ (jobs : Jobs) (id : ℕ) (h : NodeState) (number : ℕ) (q : Proc) where
  -- a call as it is then
  abbrev then_is : CallState → CallState
  then_is = answer_reply jobs id h number q

  -- what looks alike at gets that ask anew and at those that did is as before the reply
  reply_keeps : {A : Type 0} (f : CallState → A) → ((get : Get) (outcome : Outcome) (waits_for : ℕ) → f (CallState.refreshed get outcome) ≡ f (CallState.refreshing get waits_for)) → (s : CallState) → f (then_is s) ≡ f s
  reply_keeps f alike (CallState.refreshing get waits_for) = by_reply (is_replied number q get waits_for)
    where
      by_reply : (b : Bool) → f (if b then CallState.refreshed get (answer_in jobs id h get modes.Now) else CallState.refreshing get waits_for) ≡ f (CallState.refreshing get waits_for)
      by_reply true = alike get (answer_in jobs id h get modes.Now) waits_for
      by_reply false = refl
  reply_keeps f alike _ = refl

  -- nobody else waits for anything else
  same_asks : (r : Proc) (p : Proc) (s : CallState) → asks_on r (p, then_is s) ≡ asks_on r (p, s)
  same_asks r p = reply_keeps (λ s. asks_on r (p, s)) (λ get outcome waits_for. refl)

  same_waits : (f : FenceName) (p : Proc) (s : CallState) → waits_in f (p, then_is s) ≡ waits_in f (p, s)
  same_waits f p = reply_keeps (λ s. waits_in f (p, s)) (λ get outcome waits_for. refl)

  same_waited : (s : CallState) → waited (then_is s) ≡ waited s
  same_waited = reply_keeps waited (λ get outcome waits_for. refl)

  parked_before : (s : CallState) (get : Get) → then_is s ≡ CallState.parked get → s ≡ CallState.parked get
  parked_before (CallState.in_fence f) get e = absurd cc
  parked_before (CallState.released f gone) get e = absurd cc
  parked_before (CallState.parked g) get e = e
  parked_before (CallState.answered g outcome) get e = absurd cc
  parked_before (CallState.refreshing g waits_for) get e = by_reply (is_replied number q g waits_for) e
    where
      by_reply : (b : Bool) → (if b then CallState.refreshed g (answer_in jobs id h g modes.Now) else CallState.refreshing g waits_for) ≡ CallState.parked get
          → CallState.refreshing g waits_for ≡ CallState.parked get
      by_reply true e = absurd cc
      by_reply false e = absurd cc
  parked_before (CallState.refreshed g outcome) get e = absurd cc

  -- each row gives the same
  rows_alike : {A : Type 0} (f : Proc × CallState → List A) → ((p : Proc) (s : CallState) → f (p, then_is s) ≡ f (p, s)) → (rows : List (Proc × CallState))
      → flat_map f (map (λ e. (e.0, then_is e.1)) rows) ≡ flat_map f rows
  rows_alike f same [] = refl
  rows_alike f same (e ∷ rows) = λ i. same e.0 e.1 i ++ rows_alike f same rows i

  module _ (all : Calls) where
    abbrev after : Calls
    after = mapped then_is all

    listed_alike : {A : Type 0} (f : Proc × CallState → List A) → ((p : Proc) (s : CallState) → f (p, then_is s) ≡ f (p, s))
        → flat_map f (finite.entries after) ≡ flat_map f (finite.entries all)
    listed_alike f same = ap (flat_map f) (entries_mapped then_is all) ∙ rows_alike f same (finite.entries all)

    parked_alike : (r : Proc) → all_parked_on after r ≡ all_parked_on all r
    parked_alike r = listed_alike (asks_on r) (same_asks r)

    waiting_alike : (f : FenceName) → all_waiting_in after f ≡ all_waiting_in all f
    waiting_alike f = listed_alike (waits_in f) (same_waits f)

    waited_alike : all_waited after ≡ all_waited all
    waited_alike = ap (λ (names : List FenceName). in_order (set.from_list {R = name_cmp} names)) (listed_alike (λ e. waited e.1) (λ p s. same_waited s))

    plain_after : ArePlain all → ArePlain after
    plain_after plain p get e = by_call (finite.get all p) refl (sym (get-mapped then_is all p) ∙ e)
      where
        by_call : (o : Option CallState) → finite.get all p ≡ o → option_map then_is o ≡ Some (CallState.parked get) → is_reserved get.key ≡ false
        by_call None there is = absurd cc
        by_call (Some s) there is = plain p get (there ∙ ap Some (parked_before s get (some_is is)))

    -- ---- the get that the reply is for

    replied_row : (p : Proc) (anew : Get × ℕ) (r : Proc) (x : CallState)
        → In {A = Proc × CallState} (r, x) (replied_by jobs id h.near h.far p number q (Some anew))
        → (r ≡ p) × (is_replied number q anew.0 anew.1 ≡ true) × (x ≡ CallState.refreshed anew.0 (outcome_then jobs id h.near h.far anew.0))
    replied_row p anew r x i = by_reply (is_replied number q anew.0 anew.1) refl i
      where
        by_reply : (b : Bool) → is_replied number q anew.0 anew.1 ≡ b
            → In {A = Proc × CallState} (r, x) (if b then (p, CallState.refreshed anew.0 (outcome_then jobs id h.near h.far anew.0)) ∷ [] else [])
            → (r ≡ p) × (is_replied number q anew.0 anew.1 ≡ true) × (x ≡ CallState.refreshed anew.0 (outcome_then jobs id h.near h.far anew.0))
        by_reply true t (inl e) = (ap (λ (y : Proc × CallState). y.0) e, t, ap (λ (y : Proc × CallState). y.1) e)
        by_reply true t (inr j) = absurd j
        by_reply false t j = absurd j

    module _ (plain : ArePlainAnew all) where
      -- what comes of a get that the reply is for
      then_refreshed : (p : Proc) (get : Get) (waits_for : ℕ) → finite.get all p ≡ Some (CallState.refreshing get waits_for) → is_replied number q get waits_for ≡ true
          → then_is (CallState.refreshing get waits_for) ≡ CallState.refreshed get (outcome_then jobs id h.near h.far get)
      then_refreshed p get waits_for there t =
          ap (λ b. if b then CallState.refreshed get (answer_in jobs id h get modes.Now) else CallState.refreshing get waits_for) t
          ∙ ap (CallState.refreshed get) (then_outcome jobs id h get (plain p get waits_for there))

      replied_right : (asker : Option Proc) (p : Proc) (s x : CallState) → In (p, x) (replied_to jobs id h.near h.far all asker number q) → finite.get all p ≡ Some s → x ≡ then_is s
      replied_right None p s x i e = absurd i
      replied_right (Some a) p s x i e = by_call (finite.get all a) refl i
        where
          by_standing : (c : CallState) → finite.get all a ≡ Some c → In (p, x) (replied_by jobs id h.near h.far a number q (anew_of (Some c))) → x ≡ then_is s
          by_standing (CallState.in_fence f) there j = absurd j
          by_standing (CallState.released f gone) there j = absurd j
          by_standing (CallState.parked get) there j = absurd j
          by_standing (CallState.answered get outcome) there j = absurd j
          by_standing (CallState.refreshing get waits_for) there j =
              let row = replied_row a (get, waits_for) p x j in
              row.2 ∙ sym (then_refreshed a get waits_for there row.1) ∙ ap then_is (some_is (sym there ∙ ap (finite.get all) (sym row.0) ∙ e))
          by_standing (CallState.refreshed get outcome) there j = absurd j

          by_call : (o : Option CallState) → finite.get all a ≡ o → In (p, x) (replied_by jobs id h.near h.far a number q (anew_of o)) → x ≡ then_is s
          by_call None there j = absurd j
          by_call (Some c) there j = by_standing c there j

      replied_there : (asker : Option Proc) → IsAsker all asker number q → (p : Proc) (get : Get) (waits_for : ℕ) → finite.get all p ≡ Some (CallState.refreshing get waits_for)
          → is_replied number q get waits_for ≡ true → In (p, then_is (CallState.refreshing get waits_for)) (replied_to jobs id h.near h.far all asker number q)
      replied_there asker is p get waits_for there t =
          let made = CallState.refreshed get (outcome_then jobs id h.near h.far get) in
          let listed : In (p, made) (replied_by jobs id h.near h.far p number q (Some (get, waits_for))) =
          subst (λ b. In {A = Proc × CallState} (p, made) (if b then (p, made) ∷ [] else [])) (sym t) (inl refl) in
          subst (λ a. In (p, then_is (CallState.refreshing get waits_for)) (replied_to jobs id h.near h.far all a number q)) (sym (is p get waits_for there t))
          (subst (λ o. In (p, then_is (CallState.refreshing get waits_for)) (replied_by jobs id h.near h.far p number q (anew_of o))) (sym there)
          (subst (λ x. In (p, x) (replied_by jobs id h.near h.far p number q (Some (get, waits_for)))) (sym (then_refreshed p get waits_for there t)) listed))

      -- each call has the answer of the reply, or stays
      replied_or_stays : (asker : Option Proc) → IsAsker all asker number q → (p : Proc) (s : CallState) → finite.get all p ≡ Some s
          → (then_is s ≡ s) ⊎ In (p, then_is s) (replied_to jobs id h.near h.far all asker number q)
      replied_or_stays asker is p (CallState.in_fence f) e = inl refl
      replied_or_stays asker is p (CallState.released f gone) e = inl refl
      replied_or_stays asker is p (CallState.parked get) e = inl refl
      replied_or_stays asker is p (CallState.answered get outcome) e = inl refl
      replied_or_stays asker is p (CallState.refreshing get waits_for) e = by_reply (is_replied number q get waits_for) refl
        where
          by_reply : (b : Bool) → is_replied number q get waits_for ≡ b
              → (then_is (CallState.refreshing get waits_for) ≡ CallState.refreshing get waits_for)
              ⊎ In (p, then_is (CallState.refreshing get waits_for)) (replied_to jobs id h.near h.far all asker number q)
          by_reply true t = inr (replied_there asker is p get waits_for e t)
          by_reply false t = inl (ap (λ b. if b then CallState.refreshed get (answer_in jobs id h get modes.Now) else CallState.refreshing get waits_for) t)
      replied_or_stays asker is p (CallState.refreshed get outcome) e = inl refl

      -- ---- with the answers of what is settled

      abbrev settles : CallState → CallState
      settles = settle_where jobs id h (is_about q)

      abbrev about : List (Proc × CallState)
      about = answered_about jobs id h.table h.near h.far all q

      abbrev replied : Option Proc → List (Proc × CallState)
      replied asker = replied_to jobs id h.near h.far all asker number q

      -- what the reply answers is settled
      stays_replied : (asker : Option Proc) (p : Proc) (x : CallState) → In (p, x) (replied_to jobs id h.near h.far all asker number q) → settles x ≡ x
      stays_replied None p x i = absurd i
      stays_replied (Some a) p x i = by_anew (anew_of (finite.get all a)) i
        where
          by_anew : (o : Option (Get × ℕ)) → In (p, x) (replied_by jobs id h.near h.far a number q o) → settles x ≡ x
          by_anew None j = absurd j
          by_anew (Some anew) j = let is = (replied_row a anew p x j).2 in ap settles is ∙ sym is

      mapped_twice : mapped (λ s. settles (then_is s)) all ≡ mapped settles after
      mapped_twice = finite.same_map procs_total exact_procs (mapped (λ s. settles (then_is s)) all) (mapped settles after) (λ p.
          get-mapped (λ s. settles (then_is s)) all p ∙ twice (finite.get all p)
          ∙ ap (option_map settles) (sym (get-mapped then_is all p)) ∙ sym (get-mapped settles after p))
        where
          twice : (o : Option CallState) → option_map (λ s. settles (then_is s)) o ≡ option_map settles (option_map then_is o)
          twice None = refl
          twice (Some s) = refl

      about_alike : answered_about jobs id h.table h.near h.far after q ≡ answered_about jobs id h.table h.near h.far all q
      about_alike =
          (λ i. gets_answered jobs id h.near h.far q (parked_alike q i)
          ++ flat_map (λ f. if set.contains f.signature.participants q then (if is_ready_at jobs id h f then released_all f (gone_by jobs id h.table f) (waiting_alike f i) else []) else [])
          (waited_alike i))

      pub answers_then_are : ArePlain all → (asker : Option Proc) → IsAsker all asker number q → (answers : List (Proc × Completion))
          → standings answers ≡ about ++ replied asker → all_instead all answers ≡ mapped settles after
      answers_then_are parked asker is answers told = answers_are (λ s. settles (then_is s)) all answers right every ∙ mapped_twice
        where
          there_after : (p : Proc) (s : CallState) → finite.get all p ≡ Some s → finite.get after p ≡ Some (then_is s)
          there_after p s e = get-mapped then_is all p ∙ ap (option_map then_is) e

          right : (p : Proc) (s x : CallState) → In (p, x) (standings answers) → finite.get all p ≡ Some s → x ≡ settles (then_is s)
          right p s x i e =
              elim (in_parts about (replied asker) (p, x) (subst (In (p, x)) told i)) [
                | inl j ↦ about_right jobs id h after q (plain_after parked) p (then_is s) x (subst (In (p, x)) (sym about_alike) j) (there_after p s e)
                | inr j ↦ sym (stays_replied asker p x j) ∙ ap settles (replied_right asker p s x j e)
              ]

          every : (p : Proc) (s : CallState) → finite.get all p ≡ Some s → (settles (then_is s) ≡ s) ⊎ In (p, settles (then_is s)) (standings answers)
          every p s e = by_about (about_there jobs id h after q (plain_after parked) p (then_is s) (there_after p s e))
            where
              by_about : (settles (then_is s) ≡ then_is s) ⊎ In (p, settles (then_is s)) (answered_about jobs id h.table h.near h.far after q)
                  → (settles (then_is s) ≡ s) ⊎ In (p, settles (then_is s)) (standings answers)
              by_about (inr i) = inr (subst (In (p, settles (then_is s))) (sym told) (in_append_left about (replied asker) (p, settles (then_is s)) (subst (In (p, settles (then_is s))) about_alike i)))
              by_about (inl same) =
                  elim (replied_or_stays asker is p s e) [
                    | inl stays ↦ inl (same ∙ stays)
                    | inr i ↦ inr (subst (λ x. In (p, x) (standings answers)) (sym same) (subst (In (p, then_is s)) (sym told) (in_append_right about (replied asker) (p, then_is s) i)))
                  ]

-- ---- homes that are asked again

module _ (jobs : Jobs) (id : ℕ) (number : ℕ) (q : Proc) (h : NodeState) where
  -- a get waits for a key of the process then where it would without the reply
  same_parked : (s : CallState) → is_parked_on q (settle_where jobs id h (is_about q) (answer_reply jobs id h number q s)) ≡ is_parked_on q (settle_where jobs id h (is_about q) s)
  same_parked = reply_keeps jobs id h number q (λ s. is_parked_on q (settle_where jobs id h (is_about q) s)) (λ get outcome waits_for. refl)

  -- a row of the calls as it is then
  abbrev after_reply : Proc × CallState → Proc × CallState
  after_reply e = (e.0, answer_reply jobs id h number q e.1)

  abbrev after_settling : Proc × CallState → Proc × CallState
  after_settling e = (e.0, settle_where jobs id h (is_about q) e.1)

  abbrev asks_where : NodeState → Proc × CallState → List ToSend
  asks_where k e = if is_parked_on q e.1 then asking_home jobs id k q else []

  asks_alike : (k : NodeState) (rows : List (Proc × CallState))
      → flat_map (asks_where k) (map after_settling (map after_reply rows))
      ≡ flat_map (asks_where k) (map after_settling rows)
  asks_alike k [] = refl
  asks_alike k (e ∷ rows) = λ i. (if same_parked e.1 i then asking_home jobs id k q else []) ++ asks_alike k rows i

  -- what is due where more of the process is known is due where the reply has come too
  pub asked_again_then : (table : Fences) (near far : Data) (all : Calls) (dues : List ToSend) → AreAskedAgain jobs id q table near far all dues
      → h.table ≡ table → h.near ≡ near → h.far ≡ far → h.calls ≡ mapped (settle_where jobs id h (is_about q)) (mapped (answer_reply jobs id h number q) all)
      → dues ≡ asking_again jobs id h q
  asked_again_then table near far all dues are same_table same_near same_far calls =
      let settles = settle_where jobs id h (is_about q) in
      let reply = answer_reply jobs id h number q in
      are (with_calls h (mapped settles all)) same_table same_near same_far (settled_alike (mapped settles all))
      ∙ ap (flat_map (asks_where h)) (entries_mapped settles all)
      ∙ sym (asks_alike h (finite.entries all))
      ∙ ap (λ (rows : List (Proc × CallState)). flat_map (asks_where h) (map after_settling rows)) (sym (entries_mapped reply all))
      ∙ ap (flat_map (asks_where h)) (sym (entries_mapped settles (mapped reply all)))
      ∙ ap (λ (m : Calls). flat_map (asks_where h) (finite.entries m)) (sym calls)
    where
      -- what calls come to does not depend on the calls
      settle_alike : (others : Calls) (s : CallState) → settle_where jobs id h (is_about q) s ≡ settle_where jobs id (with_calls h others) (is_about q) s
      settle_alike others (CallState.in_fence f) = refl
      settle_alike others (CallState.released f gone) = refl
      settle_alike others (CallState.parked get) = refl
      settle_alike others (CallState.answered get outcome) = refl
      settle_alike others (CallState.refreshing get number) = refl
      settle_alike others (CallState.refreshed get outcome) = refl

      same_after : (others : Calls) (o : Option CallState)
          → option_map (settle_where jobs id h (is_about q)) o ≡ option_map (settle_where jobs id (with_calls h others) (is_about q)) o
      same_after others None = refl
      same_after others (Some s) = ap Some (settle_alike others s)

      settled_alike : (others : Calls) → mapped (settle_where jobs id h (is_about q)) all ≡ mapped (settle_where jobs id (with_calls h others) (is_about q)) all
      settled_alike others = finite.same_map procs_total exact_procs (mapped (settle_where jobs id h (is_about q)) all)
          (mapped (settle_where jobs id (with_calls h others) (is_about q)) all) (λ p.
          get-mapped (settle_where jobs id h (is_about q)) all p ∙ same_after others (finite.get all p)
          ∙ sym (get-mapped (settle_where jobs id (with_calls h others) (is_about q)) all p))
