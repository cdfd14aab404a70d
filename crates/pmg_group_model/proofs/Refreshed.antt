-- A get that asks anew is answered with what its target had sealed when it began, or something later.
use Rattle.std.proofs.Common.{◌≡◌, ◌≤◌, ◌⊎◌, ℕ, suc, Bool, true, false, ◌==◌, nat_lt, cond, List, [], ◌∷◌, ◌++◌, Option, Some, None, Result, inl, inr, refl, sym, ap, subst, ◌∙◌, arith}
use Rattle.std.specs.Cmp.{Equal-is}
use Rattle.std.specs.Prelude.{if◌then◌else◌}
use Rattle.std.proofs.lemmas.Bool.{and_parts}
use Rattle.std.proofs.lemmas.Bool.Decides.{nat_tests}
use Rattle.pmg_value.specs.Lists.{Each}
use Rattle.pmg_value.specs.declared.process.Proc.{Proc}
use Rattle.pmg_value.specs.declared.refusal.Refusal.{Refusal}
use Rattle.pmg_value.specs.declared.refusal.Refusal.TheVariants as refusals
use Rattle.pmg_value.proofs.ProcessOrder.{exact_procs}
use Rattle.pmg_scope.specs.Scripts.{Script, commits, last_put}
use Rattle.pmg_scope.specs.declared.scope.Reach.TheVariants as reach
use Rattle.pmg_scope.proofs.ScriptLaws.{commits_never_fall}
use Rattle.pmg_commit.specs.Data.{Data, level_at}
use Rattle.pmg_frame.specs.Refreshing.{RefreshAsk, RefreshReply, told_by}
use Rattle.pmg_frame.specs.declared.frame.Frame.{Frame}
use Rattle.pmg_frame.specs.declared.frame.Frame.TheVariants as frames
use Rattle.pmg_jobinfo.specs.Jobs.{Jobs, AreJobs, is_node, home_of}
use Rattle.pmg_fence.specs.Entering.{same_proc}
use Rattle.pmg_fence.specs.Rules.{Scripts, Grows}
use Rattle.pmg_fence.proofs.EntryLemmas.{proc_itself}
use Rattle.pmg_get.specs.Gets.{Seen, Outcome, resolve}
use Rattle.pmg_get.specs.declared.view.Mode.TheVariants as modes
use Rattle.pmg_store.proofs.HonestDataLaws.{honest_level_is_made}
use Rattle.pmg_node_model.specs.Acts.{Request, Act, Reply, Done, also, free_cause, target_cause, number_cause, request_cause, cause, is_taken, takes, asks, reply_of, serves, does, over, acts}
use Rattle.pmg_node_model.specs.Fitting.{Fits, FitsCall, IsAnswerOutcome}
use Rattle.pmg_node_model.specs.Holdings.{Get, CallState, NodeState, call_of, with_far, with_requests, joined, answer_in, is_replied, settled}
use Rattle.pmg_node_model.specs.Sending.{Allowed}
use Rattle.pmg_node_model.specs.declared.sent.Sent.{Sent}
use Rattle.pmg_node_model.proofs.CallFacts.{call-called}
use Rattle.pmg_node_model.proofs.CauseFacts.{NoCause, by_causes, caller_is, free_is, neither_cause}
use Rattle.pmg_node_model.proofs.Moving.{Moves, StaysOrMoves, does_call}
use Rattle.pmg_node_model.proofs.AnewCalls.{refreshing_settled, was_taken}
use Rattle.pmg_node_model.proofs.Sealing.{level_raised}
use Rattle.pmg_group_model.specs.Laws.{Wanted, reply_outcome, unless_taken, wanted_after, seen_at, Good}
use Rattle.pmg_group_model.specs.Refreshes.{wanted_anew, StaysIn}
use Rattle.pmg_group_model.specs.Worlds.{World, Event, Doing, ActStep, Does, Step, Happened, Run, own_cause, own_get, is_own, requests, not_there, reply_or_refusal, doing}
use Rattle.pmg_group_model.proofs.Counting.{IsFresh, AllFresh, acted, node_then, all_sent, step_fresh, always_fresh}
use Rattle.pmg_group_model.proofs.Hearing.{refused_silent}
use Rattle.pmg_group_model.proofs.Leaving.{step_grows}
use Rattle.pmg_group_model.proofs.Replied.{refreshed_settled, answer_anew, far_then}
use Rattle.pmg_group_model.proofs.Rising.{wanted_of}
use Rattle.pmg_group_model.proofs.Runs.{each_in, always_good}
use Rattle.pmg_group_model.proofs.Seeing.{answer_sees, seen_grown}
use Rattle.pmg_group_model.proofs.StepView.{IsActOf, StepView, step_view}
use Rattle.pmg_group_model.proofs.Steps.{each_still, step_good}
use Rattle.pmg_group_model.proofs.RunForms.{RefreshOnRuns}

-- ---- what a reply adds

-- a reply that begins no later than the level raises it to its end
level_reached : (d : Data) (r : RefreshReply) (q : Proc) → r.told.proc ≡ q → r.told.from ≤ level_at d q → r.told.to ≤ level_at (joined d (told_by r)) q
level_reached d r q of from = by_test (nat_lt r.told.from r.told.to) refl
  where
    by_test : (b : Bool) → nat_lt r.told.from r.told.to ≡ b → r.told.to ≤ level_at (joined d (if b then Some r.told else None)) q
    by_test true more = level_raised d r.told q (ap (same_proc q) of ∙ proc_itself q) from
    by_test false none = let low : r.told.to ≤ r.told.from = grind (arith, nat_tests) in omega (arith, low, from)

-- ---- the get, while it is not taken

module _ (jobs : Jobs) (p : Proc) (get : Get) (number low : ℕ) where
  abbrev id : ℕ
  id = home_of jobs p

  -- the get that waits
  abbrev anew : Option Wanted
  anew = Some (wanted_anew get)

  -- the outcome is what one commit of the target left, no earlier one than the given one
  abbrev IsLate : Script → Outcome → Type 0
  IsLate s o = (m : ℕ) × (low ≤ m) × (m ≤ commits s) × (o ≡ resolve (seen_at jobs id s m get) modes.Now)

  -- the get waits for the reply to the request of that number, or is answered rightly
  abbrev CallAt : Script → NodeState → Type 0
  CallAt s h = (call_of h p ≡ Some (CallState.refreshing get number)) ⊎ ((o : Outcome) × (call_of h p ≡ Some (CallState.refreshed get o)) × IsLate s o)

  made_grown : (s t : Script) → (later : Script) × (t ≡ s ++ later) → commits s ≤ commits t
  made_grown s t grown = subst (λ (x : Script). commits s ≤ commits x) (sym grown.1) (commits_never_fall s grown.0)

  late_grown : (s t : Script) → (later : Script) × (t ≡ s ++ later) → (o : Outcome) → IsLate s o → IsLate t o
  late_grown s t grown o late = (
    late.0,
    late.1,
    omega (arith, late.2, made_grown s t grown),
    late.3 ∙ ap (λ (x : Seen). resolve x modes.Now) (sym (ap (λ (x : Script). seen_at jobs id x late.0 get) grown.1 ∙ seen_grown jobs id s grown.0 late.0 get late.2)),
  )

  call_grown : (s t : Script) → (later : Script) × (t ≡ s ++ later) → (h : NodeState) → CallAt s h → CallAt t h
  call_grown s t grown h (inl waits) = inl waits
  call_grown s t grown h (inr told) = inr (told.0, told.1, late_grown s t grown told.0 told.2)

  -- a reply to that request of the target's node tells as much
  unfoldable IsSince : Frame → Type 0
  IsSince (frames.Piece c) = Unit {0}
  IsSince (frames.Header hd) = Unit {0}
  IsSince (frames.FenceAsk a) = Unit {0}
  IsSince (frames.RangeAsk a) = Unit {0}
  IsSince (frames.DirectAsk a) = Unit {0}
  IsSince (frames.RefreshAsk a) = Unit {0}
  IsSince (frames.RefreshReply r) = r.node ≡ id → r.request ≡ number → r.told.proc ≡ get.target → low ≤ r.told.to

  -- ---- one act at the process's home

  module _ (scripts after : Scripts) (h : NodeState) (fits : Fits jobs scripts id h) (a : Act)
      (told : (r : RefreshReply) → a ≡ Act.deliver (frames.RefreshReply r) → r.node ≡ id → r.request ≡ number → r.told.proc ≡ get.target
      → (r.told.from ≤ level_at h.far get.target) × (low ≤ r.told.to)) where
    abbrev left_by : NodeState
    left_by = (does jobs id h a).left

    -- what a get is answered with what is known once the reply is there
    abbrev answer_by : RefreshReply → Get → Outcome
    answer_by r g = answer_in jobs id (with_far h (joined h.far (told_by r))) g modes.Now

    -- the process stays in its get
    abbrev Stays : Reply → Type 0
    Stays reply = wanted_of p a reply anew ≡ anew

    -- so it does not end
    ends_not : a ≡ Act.request (Request.terminate p) → Stays (does jobs id h a).reply → ⊥
    unfolding does serves
    ends_not is =
        subst (λ x. wanted_of p x (does jobs id h x).reply anew ≡ anew → ⊥) (sym is) (λ e. gone (sym (ap (λ b. cond b None anew) (proc_itself p)) ∙ e))
      where
        gone : None ≡ anew → ⊥
        gone e = cc

    -- nor takes the answer
    takes_not : (g : Get) (o : Outcome) → call_of h p ≡ Some (CallState.refreshed g o) → a ≡ Act.request (Request.take p) → Stays (does jobs id h a).reply → ⊥
    unfolding does serves
    takes_not g o call is =
        subst (λ x. wanted_of p x (does jobs id h x).reply anew ≡ anew → ⊥) (sym is)
        (λ e. no_outcome o answer (sym (ap (λ c. cond (same_proc p p) (unless_taken (reply_outcome (takes h p c).reply) anew) anew) call
        ∙ ap (λ b. cond b (unless_taken (reply_outcome (reply_of o)) anew) anew) (proc_itself p)) ∙ e))
      where
        answer : IsAnswerOutcome o
        answer = subst (FitsCall (scripts p)) call (fits.calls p refl)

        no_outcome : (x : Outcome) → IsAnswerOutcome x → unless_taken (reply_outcome (reply_of x)) anew ≡ anew → ⊥
        no_outcome (Outcome.found value) its e = cc
        no_outcome Outcome.absent its e = cc
        no_outcome Outcome.outside its e = cc
        no_outcome Outcome.parks its e = its

    module _ (fitted : Fits jobs after id (settled jobs id left_by)) where
      -- the reply answers it with what is known then
      replied_so : (r : RefreshReply) → a ≡ Act.deliver (frames.RefreshReply r) → call_of h p ≡ Some (CallState.refreshing get number)
          → is_replied r.request r.told.proc get number ≡ true → call_of left_by p ≡ Some (CallState.refreshed get (answer_by r get))
          → CallAt (after get.target) (settled jobs id left_by)
      unfolding is_taken
      replied_so r is was its now = inr (o, refreshed_settled jobs id left_by p get o now, (level_at left_by.far get.target, high, made, sees))
        where
          o : Outcome
          o = answer_by r get

          same_number : (m n : ℕ) → (m == n) ≡ true → n ≡ m
          same_number m n e = grind (arith, nat_tests)

          at_home : is_taken jobs id h.table (frames.RefreshReply r) ≡ true → r.node ≡ id
          at_home taken = same_number id r.node (itself (and_parts _ _ (and_parts _ _ taken).0).0)
            where
              itself : (r.node == id) ≡ true → (id == r.node) ≡ true
              itself e = grind (arith, nat_tests)

          parts : ((number == r.request) ≡ true) × (same_proc get.target r.told.proc ≡ true)
          parts = and_parts (number == r.request) (same_proc get.target r.told.proc) its

          of : r.told.proc ≡ get.target
          of = sym (exact_procs get.target r.told.proc ((Equal-is _).0 parts.1))

          tells : (r.told.from ≤ level_at h.far get.target) × (low ≤ r.told.to)
          tells = told r is (at_home (was_taken jobs id h p r get number o was a is now)) (same_number number r.request parts.0) of

          high : low ≤ level_at left_by.far get.target
          high =
              let reached = level_reached h.far r get.target of tells.0 in
              subst (λ (d : Data). low ≤ level_at d get.target) (far_then jobs id h p r get number o was a is now) (omega (arith, tells.1, reached))

          made : level_at left_by.far get.target ≤ commits (after get.target)
          made = honest_level_is_made (after get.target) reach.Far get.target left_by.far (fitted.far get.target)

          sees : o ≡ resolve (seen_at jobs id (after get.target) (level_at left_by.far get.target) get) modes.Now
          sees = answer_anew jobs id h p r get number o was a is now ∙ answer_sees jobs after id (settled jobs id left_by) fitted get modes.Now

      replied_then : (r : RefreshReply) (g : Get) (k : ℕ) → a ≡ Act.deliver (frames.RefreshReply r) → call_of h p ≡ Some (CallState.refreshing g k)
          → is_replied r.request r.told.proc g k ≡ true → call_of left_by p ≡ Some (CallState.refreshed g (answer_by r g)) → call_of h p ≡ Some (CallState.refreshing get number)
          → CallAt (after get.target) (settled jobs id left_by)
      replied_then r g k is was its now call =
          replied_so r is call ((λ i. is_replied r.request r.told.proc (sym the_get i) (sym the_number i)) ∙ its)
          (now ∙ (λ i. Some (CallState.refreshed (the_get i) (answer_by r (the_get i)))))
        where
          same : Some (CallState.refreshing g k) ≡ Some (CallState.refreshing get number)
          same = sym was ∙ call

          the_get : g ≡ get
          the_get = cc

          the_number : k ≡ number
          the_number = cc

      -- where it waits
      waits_on : Stays (does jobs id h a).reply → call_of h p ≡ Some (CallState.refreshing get number) → StaysOrMoves jobs id h p a (call_of left_by p)
          → CallAt (after get.target) (settled jobs id left_by)
      waits_on stays call (inl same) = inl (refreshing_settled jobs id left_by p get number (same ∙ call))
      waits_on stays call (inr (Moves.entering list collect is was now)) = absurd cc
      waits_on stays call (inr (Moves.parking g mode is was answer now)) = absurd cc
      waits_on stays call (inr (Moves.leaving f gone is was now)) = absurd cc
      waits_on stays call (inr (Moves.taking g o is was now)) = absurd cc
      waits_on stays call (inr (Moves.taking_anew g o is was now)) = absurd cc
      waits_on stays call (inr (Moves.answering r g k is was its now)) = replied_then r g k is was its now call
      waits_on stays call (inr (Moves.ending is now)) = absurd (ends_not is stays)

      -- where it is answered
      told_on : Stays (does jobs id h a).reply → (o : Outcome) → call_of h p ≡ Some (CallState.refreshed get o) → IsLate (after get.target) o
          → StaysOrMoves jobs id h p a (call_of left_by p) → CallAt (after get.target) (settled jobs id left_by)
      told_on stays o call late (inl same) = inr (o, refreshed_settled jobs id left_by p get o (same ∙ call), late)
      told_on stays o call late (inr (Moves.entering list collect is was now)) = absurd cc
      told_on stays o call late (inr (Moves.parking g mode is was answer now)) = absurd cc
      told_on stays o call late (inr (Moves.leaving f gone is was now)) = absurd cc
      told_on stays o call late (inr (Moves.taking g other is was now)) = absurd cc
      told_on stays o call late (inr (Moves.taking_anew g other is was now)) = absurd (takes_not g other was is stays)
      told_on stays o call late (inr (Moves.answering r g k is was its now)) = absurd cc
      told_on stays o call late (inr (Moves.ending is now)) = absurd (ends_not is stays)

      does_on : Stays (does jobs id h a).reply → NoCause (cause jobs id h a) → CallAt (after get.target) h → CallAt (after get.target) (settled jobs id left_by)
      does_on stays none (inl waits) = waits_on stays waits (does_call jobs id h p a none)
      does_on stays none (inr was) = told_on stays was.0 was.1 was.2 (does_call jobs id h p a none)

    act_on : Stays (acts jobs id h a).reply → Fits jobs after id (acts jobs id h a).left → CallAt (after get.target) h → CallAt (after get.target) (acts jobs id h a).left
    act_on = elim (by_causes (cause jobs id h a) (does jobs id h a)) [
      | inl found ↦ subst On (sym found.2) (λ stays fitted call. call)
      | inr free ↦ subst On (sym free.0) (λ stays fitted call. does_on fitted stays free.1 call)
    ]
      where
        On : Result Done Refusal → Type 0
        On x = Stays (over jobs id h x).reply → Fits jobs after id (over jobs id h x).left → CallAt (after get.target) h → CallAt (after get.target) (over jobs id h x).left

  -- ---- a step of the world

  -- what holds while the get is not taken
  record Asked (x : World) : Type 0 where
    fresh : AllFresh x
    since : Each (λ s. IsSince s.frame) x.sent
    made : low ≤ commits (x.scripts get.target)
    call : CallAt (x.scripts get.target) (x.nodes id)

  -- what a node replies tells of all commits that were made
  sends_since : (node : ℕ) (a : Act) (v : World) → Good jobs v → low ≤ commits (v.scripts get.target)
      → (frame : Frame) → Allowed jobs node a (v.nodes node) frame → IsSince frame
  unfolding Allowed IsSince
  sends_since node a v good made (frames.Piece c) may = tt
  sends_since node a v good made (frames.Header hd) may = tt
  sends_since node a v good made (frames.FenceAsk ask) may = tt
  sends_since node a v good made (frames.RangeAsk ask) may = tt
  sends_since node a v good made (frames.DirectAsk ask) may = tt
  sends_since node a v good made (frames.RefreshAsk ask) may = tt
  sends_since node a v good made (frames.RefreshReply r) may = λ at its of.
      let ask : RefreshAsk = may.0 in
      let own = (good.fits node).own ask.ask.proc may.2 in
      let target : ask.ask.proc ≡ get.target = sym own.proc ∙ sym (ap (λ (x : RefreshReply). x.told.proc) may.4) ∙ of in
      let all : low ≤ commits (v.scripts ask.ask.proc) = subst (λ (q : Proc). low ≤ commits (v.scripts q)) (sym target) made in
      subst (λ (x : RefreshReply). low ≤ x.told.to) (sym may.4) (subst (λ n. low ≤ n) (sym own.sealer.level) all)

  module _ (are : AreJobs jobs) (x : World) (good : Good jobs x) (asked : Asked x) where
    -- what a reply that is delivered tells
    delivered : (e : Event) (a : Act) → IsActOf x e a → (r : RefreshReply) → a ≡ Act.deliver (frames.RefreshReply r) → r.node ≡ id → r.request ≡ number → r.told.proc ≡ get.target
        → (r.told.from ≤ level_at (x.nodes id).far get.target) × (low ≤ r.told.to)
    unfolding IsFresh IsSince
    delivered e a is r its at one of =
        let found = is.frame (frames.RefreshReply r) its in
        let fresh : IsFresh x (frames.RefreshReply r) = subst (IsFresh x) found.2 (each_in (λ s. IsFresh x s.frame) x.sent found.0 asked.fresh found.1) in
        let since : IsSince (frames.RefreshReply r) = subst IsSince found.2 (each_in (λ s. IsSince s.frame) x.sent found.0 asked.since found.1) in
        let from : r.told.from ≤ level_at (x.nodes id).far r.told.proc = subst (λ k. r.told.from ≤ level_at (x.nodes k).far r.told.proc) at fresh.1 in
        (subst (λ (q : Proc). r.told.from ≤ level_at (x.nodes id).far q) of from, since at one of)

    act_at : (v : World) → Grows x.scripts v.scripts → (e : Event) (a : Act) → IsActOf x e a → (k : ℕ) → k ≡ id
        → wanted_of p a (acts jobs k (x.nodes k) a).reply anew ≡ anew → Fits jobs v.scripts k (acts jobs k (x.nodes k) a).left
        → CallAt (v.scripts get.target) (acts jobs k (x.nodes k) a).left
    act_at v grows e a is k at =
        subst (λ j. wanted_of p a (acts jobs j (x.nodes j) a).reply anew ≡ anew → Fits jobs v.scripts j (acts jobs j (x.nodes j) a).left
        → CallAt (v.scripts get.target) (acts jobs j (x.nodes j) a).left) (sym at)
        (λ stays fitted. act_on x.scripts v.scripts (x.nodes id) (good.fits id) a (delivered e a is) stays fitted
        (call_grown (x.scripts get.target) (v.scripts get.target) (grows get.target) (x.nodes id) asked.call))

    step_asked : (e : Event) (r : Reply) (v : World) → Step jobs x e r v → wanted_after p e r anew ≡ anew → Asked v
    step_asked e r v step stays = by_view (step_view jobs x e r v step)
      where
        good_then : Good jobs v
        good_then = step_good jobs are x good e r v step

        grows : Grows x.scripts v.scripts
        grows = step_grows jobs x e r v step

        made_then : low ≤ commits (v.scripts get.target)
        made_then = omega (arith, asked.made, made_grown (x.scripts get.target) (v.scripts get.target) (grows get.target))

        still : CallAt (v.scripts get.target) (x.nodes id)
        still = call_grown (x.scripts get.target) (v.scripts get.target) (grows get.target) (x.nodes id) asked.call

        by_act : (node : ℕ) (a : Act) → IsActOf x e a → ActStep jobs x node a r v → Asked v
        by_act node a is act = record {
          fresh = step_fresh jobs x e r v step good_then asked.fresh;
          since = all_sent jobs x node a r v act IsSince asked.since (sends_since node a v good_then made_then);
          made = made_then;
          call = acted jobs x node a r v act (λ m h. m ≡ id → CallAt (v.scripts get.target) h)
              (λ at. act_at v grows e a is node at (ap (λ y. wanted_of p a y anew) (sym act.step.replied) ∙ sym (is.wants p r anew) ∙ stays)
              (subst (Fits jobs v.scripts node) (node_then jobs x node a r v act) (good_then.fits node)))
              (λ m away at. subst (λ k. CallAt (v.scripts get.target) (x.nodes k)) (sym at) still) id refl;
        }

        by_view : StepView jobs x e r v → Asked v
        by_view (StepView.acting node a is act) = by_act node a is act
        by_view (StepView.resting nodes sent) = record {
          fresh = step_fresh jobs x e r v step good_then asked.fresh;
          since = subst (λ (ss : List Sent). Each (λ s. IsSince s.frame) ss) (sym sent) asked.since;
          made = made_then;
          call = subst (λ (all : ℕ → NodeState). CallAt (v.scripts get.target) (all id)) (sym nodes) still;
        }

  run_asked : AreJobs jobs → (ys : List Happened) (v x : World) → Good jobs v → Asked v → Run jobs v ys x → StaysIn p (wanted_anew get) ys → Asked x
  unfolding Run
  run_asked are [] v x good asked run stays = subst Asked (sym run) asked
  run_asked are (y ∷ ys) v x good asked run stays =
      run_asked are ys run.0 x (step_good jobs are v good y.event y.reply run.0 run.1) (step_asked are v good asked y.event y.reply run.0 run.1 stays.0) run.2 stays.1

  -- ---- the answer is taken

  same_outcome : (o told : Outcome) → reply_outcome (reply_of told) ≡ Some o → told ≡ o
  same_outcome o (Outcome.found value) e = cc
  same_outcome o Outcome.absent e = cc
  same_outcome o Outcome.outside e = cc
  same_outcome o Outcome.parks e = absurd cc

  taken_late : (s : Script) (h : NodeState) (o : Outcome) → CallAt s h → reply_outcome (takes h p (call_of h p)).reply ≡ Some o → IsLate s o
  taken_late s h o (inl waits) e = absurd (nothing (sym (ap (λ c. reply_outcome (takes h p c).reply) waits) ∙ e))
    where
      nothing : None ≡ Some o → ⊥
      nothing z = cc
  taken_late s h o (inr told) e = subst (IsLate s) (same_outcome o told.0 (sym (ap (λ c. reply_outcome (takes h p c).reply) told.1) ∙ e)) told.2

-- ---- the get begins

abbrev ask_act : Proc → Get → Act
ask_act p get = Act.request (Request.ask p get modes.Refresh)

parks_call : (h : NodeState) (p : Proc) (get : Get) (o : Outcome) → Reply.parked ≡ (asks h p get modes.Refresh o).reply
    → call_of (asks h p get modes.Refresh o).left p ≡ Some (CallState.refreshing get (suc h.requests))
parks_call h p get Outcome.parks e =
    call-called (with_requests h (suc h.requests)) p (CallState.refreshing get (suc h.requests)) p
    ∙ ap (λ b. cond b (Some (CallState.refreshing get (suc h.requests))) (call_of h p)) (proc_itself p)
parks_call h p get (Outcome.found value) e = absurd cc
parks_call h p get Outcome.absent e = absurd cc
parks_call h p get Outcome.outside e = absurd cc

ask_replied : (jobs : Jobs) (node : ℕ) (h : NodeState) (p : Proc) (get : Get) → Reply.parked ≡ (acts jobs node h (ask_act p get)).reply
    → (home_of jobs p ≡ node) × (call_of (acts jobs node h (ask_act p get)).left p ≡ Some (CallState.refreshing get (suc h.requests)))
unfolding cause does serves request_cause
ask_replied jobs node h p get e = elim (by_causes (cause jobs node h (ask_act p get)) (does jobs node h (ask_act p get))) [
  | inl found ↦ absurd (never found.0 (e ∙ ap (λ (x : Result Done Refusal). (over jobs node h x).reply) found.2))
  | inr free ↦ (
    (free_is jobs node h p (neither_cause (free_cause jobs node h p) (also (target_cause jobs p get) (number_cause jobs node h get modes.Refresh)) free.1).0).0.home,
    subst (λ (x : Result Done Refusal). call_of (over jobs node h x).left p ≡ Some (CallState.refreshing get (suc h.requests))) (sym free.0)
        (refreshing_settled jobs node (does jobs node h (ask_act p get)).left p get (suc h.requests)
        (parks_call h p get (answer_in jobs node h get modes.Refresh) (e ∙ ap (λ (x : Result Done Refusal). (over jobs node h x).reply) free.0))),
  )
]
  where
    never : (c : Refusal) → Reply.parked ≡ Reply.refused c → ⊥
    never c z = cc

-- a get of one's own key never waits
own_answers : (x : Option (List ℕ)) → Reply.parked ≡ reply_of (resolve (Seen.own x) modes.Refresh) → ⊥
unfolding resolve
own_answers None e = cc
own_answers (Some value) e = cc

refused_not : (e : Refusal) → Reply.parked ≡ Reply.refused e → ⊥
refused_not e z = cc

own_never : (jobs : Jobs) (w : World) (node : ℕ) (p : Proc) (key : List ℕ) (v : World) → Does jobs w (own_get jobs w node p key modes.Refresh) Reply.parked v → ⊥
own_never jobs w node p key v step =
    let x = last_put reach.Own key (w.scripts p) in
    let test = own_cause jobs node (w.nodes node) p in
    elim (by_causes test (reply_of (resolve (Seen.own x) modes.Refresh))) [
      | inl found ↦ refused_not found.0 (step.replied ∙ ap (λ (y : Result Reply Refusal). reply_or_refusal y) found.2)
      | inr free ↦ own_answers x (step.replied ∙ ap (λ (y : Result Reply Refusal). reply_or_refusal y) free.0)
    ]

ask_step : (jobs : Jobs) (w : World) (node : ℕ) (p : Proc) (get : Get) (v : World) → Step jobs w (Event.request node (Request.ask p get modes.Refresh)) Reply.parked v
    → ActStep jobs w node (ask_act p get) Reply.parked v
unfolding doing
ask_step jobs w node p get v = by_node (is_node jobs node)
  where
    by_own : (b : Bool) → Does jobs w (cond b (own_get jobs w node p get.key modes.Refresh) (Doing.at_node node (ask_act p get))) Reply.parked v
        → ActStep jobs w node (ask_act p get) Reply.parked v
    by_own true step = absurd (own_never jobs w node p get.key v step)
    by_own false step = step

    by_node : (b : Bool) → Does jobs w (cond b (requests jobs w node (Request.ask p get modes.Refresh)) not_there) Reply.parked v → ActStep jobs w node (ask_act p get) Reply.parked v
    by_node true step = by_own (is_own p get) step
    by_node false step = absurd (refused_not refusals.BadParam step.replied)

-- ---- the answer is taken

abbrev take_act : Proc → Act
take_act p = Act.request (Request.take p)

take_step : (jobs : Jobs) (x : World) (node : ℕ) (p : Proc) (r : Reply) (u : World) (o : Outcome) → reply_outcome r ≡ Some o → Step jobs x (Event.request node (Request.take p)) r u
    → ActStep jobs x node (take_act p) r u
unfolding doing
take_step jobs x node p r u o is = by_node (is_node jobs node)
  where
    nothing : None ≡ Some o → ⊥
    nothing e = cc

    by_node : (b : Bool) → Does jobs x (cond b (Doing.at_node node (take_act p)) not_there) r u → ActStep jobs x node (take_act p) r u
    by_node true step = step
    by_node false step = absurd (nothing (sym (ap reply_outcome step.replied) ∙ is))

take_replied : (jobs : Jobs) (node : ℕ) (h : NodeState) (p : Proc) (o : Outcome) → reply_outcome (acts jobs node h (take_act p)).reply ≡ Some o
    → (home_of jobs p ≡ node) × (reply_outcome (takes h p (call_of h p)).reply ≡ Some o)
unfolding cause does serves request_cause
take_replied jobs node h p o e = elim (by_causes (cause jobs node h (take_act p)) (does jobs node h (take_act p))) [
  | inl found ↦
      let silent = refused_silent jobs node h p (Request.take p) found.0 (proc_itself p) found.1 in
      absurd (nothing (sym silent ∙ sym (ap (λ (x : Result Done Refusal). reply_outcome (over jobs node h x).reply) found.2) ∙ e))
  | inr free ↦ ((caller_is jobs node h p free.1).home, sym (ap (λ (x : Result Done Refusal). reply_outcome (over jobs node h x).reply) free.0) ∙ e)
]
  where
    nothing : None ≡ Some o → ⊥
    nothing z = cc

-- ---- the theorem

-- before the get begins no reply to it was sent
module _ (jobs : Jobs) (p : Proc) (get : Get) (low : ℕ) (w : World) where
  not_yet : (frame : Frame) → IsFresh w frame → IsSince jobs p get (suc (w.nodes (home_of jobs p)).requests) low frame
  unfolding IsFresh IsSince
  not_yet (frames.RefreshReply r) fresh = λ at its of.
      let given : r.request ≤ (w.nodes (home_of jobs p)).requests = subst (λ k. r.request ≤ (w.nodes k).requests) at fresh.0 in
      absurd (omega (arith, given, its))
  not_yet _ fresh = tt

  module _ (are : AreJobs jobs) (node : ℕ) (v : World) (good : Good jobs w) (fresh : AllFresh w) (low_is : low ≡ commits (w.scripts get.target))
      (step : Step jobs w (Event.request node (Request.ask p get modes.Refresh)) Reply.parked v) where
    abbrev number : ℕ
    number = suc (w.nodes (home_of jobs p)).requests

    abbrev event : Event
    event = Event.request node (Request.ask p get modes.Refresh)

    act : ActStep jobs w node (ask_act p get) Reply.parked v
    act = ask_step jobs w node p get v step

    begun : (home_of jobs p ≡ node) × (call_of (acts jobs node (w.nodes node) (ask_act p get)).left p ≡ Some (CallState.refreshing get (suc (w.nodes node).requests)))
    begun = ask_replied jobs node (w.nodes node) p get act.step.replied

    good_then : Good jobs v
    good_then = step_good jobs are w good event Reply.parked v step

    made_then : low ≤ commits (v.scripts get.target)
    made_then =
        subst (λ n. n ≤ commits (v.scripts get.target)) (sym low_is)
        (made_grown jobs p get number low (w.scripts get.target) (v.scripts get.target) (step_grows jobs w event Reply.parked v step get.target))

    call_then : call_of (v.nodes (home_of jobs p)) p ≡ Some (CallState.refreshing get (suc (w.nodes (home_of jobs p)).requests))
    call_then =
        subst (λ k. call_of (v.nodes k) p ≡ Some (CallState.refreshing get (suc (w.nodes k).requests))) (sym begun.0)
        (ap (λ (h : NodeState). call_of h p) (node_then jobs w node (ask_act p get) Reply.parked v act) ∙ begun.1)

    asked_then : Asked jobs p get (suc (w.nodes (home_of jobs p)).requests) low v
    asked_then = record {
      fresh = step_fresh jobs w event Reply.parked v step good_then fresh;
      since = all_sent jobs w node (ask_act p get) Reply.parked v act (IsSince jobs p get (suc (w.nodes (home_of jobs p)).requests) low)
          (each_still (λ s. IsFresh w s.frame) (λ s. IsSince jobs p get (suc (w.nodes (home_of jobs p)).requests) low s.frame) w.sent (λ s. not_yet s.frame) fresh)
          (sends_since jobs p get (suc (w.nodes (home_of jobs p)).requests) low node (ask_act p get) v good_then made_then);
      made = made_then;
      call = inl call_then;
    }

pub refresh_theorem : RefreshOnRuns
refresh_theorem jobs are xs w run p get node v asking ys x run_on stays at r u taking o is =
    let low = commits (w.scripts get.target) in
    let number = suc (w.nodes (home_of jobs p)).requests in
    let good = always_good jobs are xs w run in
    let good_then = step_good jobs are w good (Event.request node (Request.ask p get modes.Refresh)) Reply.parked v asking in
    let begun = asked_then jobs p get low w are node v good (always_fresh jobs are xs w run) refl asking in
    let asked = run_asked jobs p get number low are ys v x good_then begun run_on stays in
    let act = take_step jobs x at p r u o is taking in
    let told = take_replied jobs at (x.nodes at) p o (ap reply_outcome (sym act.step.replied) ∙ is) in
    taken_late jobs p get number low (x.scripts get.target) (x.nodes at) o (subst (λ k. CallAt jobs p get number low (x.scripts get.target) (x.nodes k)) told.0 asked.call) told.1
