-- What a process is told of another by one event, and which commit that is of.
use Rattle.std.proofs.Common.{◌≡◌, ◌≤◌, ℕ, suc, Bool, true, false, ◌&&◌, cond, ◌++◌, Option, Some, None, inl, inr, refl, sym, ap, subst, ◌∙◌, arith}
use Rattle.std.specs.Cmp.{Equal-is}
use Rattle.std.specs.Option.{option_map}
use Rattle.std.proofs.lemmas.Bool.{false≢true}
use Rattle.pmg_value.specs.declared.process.Proc.{Proc}
use Rattle.pmg_value.specs.declared.refusal.Refusal.{Refusal}
use Rattle.pmg_value.specs.declared.refusal.Refusal.TheVariants as refusals
use Rattle.pmg_value.proofs.ProcessOrder.{exact_procs}
use Rattle.pmg_scope.specs.Cached.{Unsealed}
use Rattle.pmg_scope.specs.Scripts.{Script, commits}
use Rattle.pmg_scope.specs.declared.scope.Reach.TheVariants as reach
use Rattle.pmg_commit.specs.Data.{level_at}
use Rattle.pmg_commit.specs.Sealed.{ended_with}
use Rattle.pmg_fence.specs.Changes.{ended_by}
use Rattle.pmg_frame.specs.Refreshing.{RefreshReply, told_by}
use Rattle.pmg_frame.specs.declared.frame.Frame.{Frame}
use Rattle.pmg_frame.specs.declared.frame.Frame.TheVariants as frames
use Rattle.pmg_jobinfo.specs.Jobs.{Jobs, home_of}
use Rattle.pmg_fence.specs.Entering.{same_proc}
use Rattle.pmg_fence.specs.Rules.{Scripts}
use Rattle.pmg_fence.proofs.EntryLemmas.{proc_itself}
use Rattle.pmg_get.specs.Gets.{Seen, Outcome, resolve, later_as}
use Rattle.pmg_get.specs.declared.view.Mode.{Mode}
use Rattle.pmg_get.specs.declared.view.Mode.TheVariants as modes
use Rattle.pmg_store.proofs.HonestDataLaws.{honest_level_is_made}
use Rattle.pmg_node_model.specs.Acts.{Request, Act, Reply, also, cause, request_cause, free_cause, target_cause, number_cause, does, serves, takes, waits_as, requests_after, parks, asks, ends_as, reply_of}
use Rattle.pmg_node_model.specs.Fitting.{Fits, FitsCall, IsAnswerOutcome}
use Rattle.pmg_node_model.specs.Holdings.{Get, CallState, NodeState, sealer_of, call_of, uncalled, with_far, with_table, with_requests, sealing, joined, answer_in, settled}
use Rattle.pmg_node_model.proofs.CallFacts.{call-called, call-uncalled}
use Rattle.pmg_node_model.proofs.Growing.{does_rise}
use Rattle.pmg_node_model.proofs.CauseFacts.{NoCause, caller_is, free_is, neither_cause}
use Rattle.pmg_node_model.proofs.Moving.{Moves, StaysOrMoves, does_call}
use Rattle.pmg_node_model.proofs.Settling.{settled_parked, settled_answered}
use Rattle.pmg_group_model.specs.Laws.{Answer, Wanted, reply_outcome, waiting_as, unless_taken, unless_ended, wanted_by, answer_as, taken_answer, answer_of, seen_at}
use Rattle.pmg_group_model.proofs.Replied.{settled_anew, answer_anew}
use Rattle.pmg_group_model.proofs.Seeing.{answer_sees, seen_grown, now_answers}

-- the get waits
abbrev pub wait_for : Get → Option Wanted
wait_for get = Some (record { get = get; mode = modes.Wait })

-- the get waits for a reply
abbrev pub anew_for : Get → Option Wanted
anew_for get = Some (record { get = get; mode = modes.Refresh })

-- the answer is what one commit left, the n-th or a later one, that is known
abbrev pub IsRight : Jobs → ℕ → Script → ℕ → ℕ → Get → Mode → Outcome → Type 0
IsRight jobs id s n level get mode outcome = (m : ℕ) × (n ≤ m) × (m ≤ level) × (outcome ≡ resolve (seen_at jobs id s m get) mode)

-- What p knows of q at its home: its n-th commit at least; what its replies say of the get that it waits for is so; and a get that is
-- answered is so rightly.
pub record Bound (jobs : Jobs) (id : ℕ) (s : Script) (h : NodeState) (p q : Proc) (n : ℕ) (wanted : Option Wanted) : Type 0 where
  pub low : n ≤ level_at h.far q
  pub waits : (get : Get) → call_of h p ≡ Some (CallState.parked get) → wanted ≡ wait_for get
  pub told : (get : Get) (outcome : Outcome) → call_of h p ≡ Some (CallState.answered get outcome)
      → (wanted ≡ wait_for get) × (same_proc q get.target ≡ true → IsRight jobs id s n (level_at h.far q) get modes.Wait outcome)
  pub renews : (get : Get) (number : ℕ) → call_of h p ≡ Some (CallState.refreshing get number) → wanted ≡ anew_for get
  pub renewed : (get : Get) (outcome : Outcome) → call_of h p ≡ Some (CallState.refreshed get outcome)
      → (wanted ≡ anew_for get) × (same_proc q get.target ≡ true → IsRight jobs id s n (level_at h.far q) get modes.Now outcome)

-- what was heard: nothing, or an answer that is right, from whose commit on all goes on
abbrev pub Heard : Jobs → ℕ → Script → NodeState → Proc → Proc → ℕ → Option Wanted → Option Answer → Type 0
Heard jobs id s h p q n wanted None = Bound jobs id s h p q n wanted
Heard jobs id s h p q n wanted (Some a) =
    (m : ℕ) × (n ≤ m) × (m ≤ level_at h.far q) × (a.outcome ≡ resolve (seen_at jobs id s m a.get) a.mode) × Bound jobs id s h p q m wanted

right_grown : (jobs : Jobs) (id : ℕ) (s t : Script) (later : Script) (n low high : ℕ) (get : Get) (mode : Mode) (outcome : Outcome) → t ≡ s ++ later → low ≤ commits s → low ≤ high
    → IsRight jobs id s n low get mode outcome → IsRight jobs id t n high get mode outcome
right_grown jobs id s t later n low high get mode outcome grown made higher right = (
  right.0,
  right.1,
  omega (arith, right.2, higher),
  right.3 ∙ ap (λ (x : Seen). resolve x mode) (sym (ap (λ (x : Script). seen_at jobs id x right.0 get) grown ∙ seen_grown jobs id s later right.0 get (omega (arith, right.2, made)))),
)

-- ---- where p's call is as it was

pub bound_grown : (jobs : Jobs) (id : ℕ) (s t : Script) (h g : NodeState) (p q : Proc) (n : ℕ) (wanted : Option Wanted) → (later : Script) × (t ≡ s ++ later) → level_at h.far q ≤ commits s
    → level_at h.far q ≤ level_at g.far q → call_of g p ≡ call_of h p → Bound jobs id s h p q n wanted → Bound jobs id t g p q n wanted
bound_grown jobs id s t h g p q n wanted grown made higher same bound = record {
  low = omega (arith, bound.low, higher);
  waits = λ get e. bound.waits get (sym same ∙ e);
  told = λ get outcome e.
      let old = bound.told get outcome (sym same ∙ e) in
      (old.0, λ of. right_grown jobs id s t grown.0 n (level_at h.far q) (level_at g.far q) get modes.Wait outcome grown.1 made higher (old.1 of));
  renews = λ get number e. bound.renews get number (sym same ∙ e);
  renewed = λ get outcome e.
      let old = bound.renewed get outcome (sym same ∙ e) in
      (old.0, λ of. right_grown jobs id s t grown.0 n (level_at h.far q) (level_at g.far q) get modes.Now outcome grown.1 made higher (old.1 of));
}

-- the call is no get
abbrev pub NoGet : Option CallState → Type 0
NoGet None = Unit {0}
NoGet (Some (CallState.in_fence f)) = Unit {0}
NoGet (Some (CallState.released f gone)) = Unit {0}
NoGet (Some (CallState.parked get)) = ⊥
NoGet (Some (CallState.answered get outcome)) = ⊥
NoGet (Some (CallState.refreshing get number)) = ⊥
NoGet (Some (CallState.refreshed get outcome)) = ⊥

-- where p is in no get, nothing is asked
pub bound_free : (jobs : Jobs) (id : ℕ) (s : Script) (h : NodeState) (p q : Proc) (n : ℕ) (wanted : Option Wanted) → n ≤ level_at h.far q
    → (c : Option CallState) → call_of h p ≡ c → NoGet c → Bound jobs id s h p q n wanted
bound_free jobs id s h p q n wanted low c is none = record {
  low = low;
  waits = λ get e. absurd (subst NoGet (sym is ∙ e) none);
  told = λ get outcome e. absurd (subst NoGet (sym is ∙ e) none);
  renews = λ get number e. absurd (subst NoGet (sym is ∙ e) none);
  renewed = λ get outcome e. absurd (subst NoGet (sym is ∙ e) none);
}

-- a get of p's waits
pub bound_waits : (jobs : Jobs) (id : ℕ) (s : Script) (h : NodeState) (p q : Proc) (n : ℕ) (get : Get) → n ≤ level_at h.far q → call_of h p ≡ Some (CallState.parked get)
    → Bound jobs id s h p q n (wait_for get)
bound_waits jobs id s h p q n get low is = record {
  low = low;
  waits = λ other e. ap wait_for (same other (sym is ∙ e));
  told = λ other outcome e. absurd (not_told other outcome (sym is ∙ e));
  renews = λ other number e. absurd (not_anew other number (sym is ∙ e));
  renewed = λ other outcome e. absurd (not_told_anew other outcome (sym is ∙ e));
}
  where
    same : (other : Get) → Some (CallState.parked get) ≡ Some (CallState.parked other) → get ≡ other
    same other e = cc

    not_told : (other : Get) (outcome : Outcome) → Some (CallState.parked get) ≡ Some (CallState.answered other outcome) → ⊥
    not_told other outcome e = cc

    not_anew : (other : Get) (number : ℕ) → Some (CallState.parked get) ≡ Some (CallState.refreshing other number) → ⊥
    not_anew other number e = cc

    not_told_anew : (other : Get) (outcome : Outcome) → Some (CallState.parked get) ≡ Some (CallState.refreshed other outcome) → ⊥
    not_told_anew other outcome e = cc

-- one that asks anew waits
pub bound_renews : (jobs : Jobs) (id : ℕ) (s : Script) (h : NodeState) (p q : Proc) (n : ℕ) (get : Get) (number : ℕ) → n ≤ level_at h.far q
    → call_of h p ≡ Some (CallState.refreshing get number) → Bound jobs id s h p q n (anew_for get)
bound_renews jobs id s h p q n get number low is = record {
  low = low;
  waits = λ other e. absurd (not_parked other (sym is ∙ e));
  told = λ other outcome e. absurd (not_told other outcome (sym is ∙ e));
  renews = λ other k e. ap anew_for (same other k (sym is ∙ e));
  renewed = λ other outcome e. absurd (not_told_anew other outcome (sym is ∙ e));
}
  where
    not_parked : (other : Get) → Some (CallState.refreshing get number) ≡ Some (CallState.parked other) → ⊥
    not_parked other e = cc

    not_told : (other : Get) (outcome : Outcome) → Some (CallState.refreshing get number) ≡ Some (CallState.answered other outcome) → ⊥
    not_told other outcome e = cc

    same : (other : Get) (k : ℕ) → Some (CallState.refreshing get number) ≡ Some (CallState.refreshing other k) → get ≡ other
    same other k e = cc

    not_told_anew : (other : Get) (outcome : Outcome) → Some (CallState.refreshing get number) ≡ Some (CallState.refreshed other outcome) → ⊥
    not_told_anew other outcome e = cc

-- its reply came
pub bound_renewed : (jobs : Jobs) (id : ℕ) (s : Script) (h : NodeState) (p q : Proc) (n : ℕ) (get : Get) (o : Outcome) (wanted : Option Wanted) → n ≤ level_at h.far q
    → call_of h p ≡ Some (CallState.refreshed get o) → wanted ≡ anew_for get → (same_proc q get.target ≡ true → IsRight jobs id s n (level_at h.far q) get modes.Now o)
    → Bound jobs id s h p q n wanted
bound_renewed jobs id s h p q n get o wanted low is wants right = record {
  low = low;
  waits = λ other e. absurd (not_parked other (sym is ∙ e));
  told = λ other outcome e. absurd (not_told other outcome (sym is ∙ e));
  renews = λ other number e. absurd (not_waits other number (sym is ∙ e));
  renewed = λ other outcome e. subst (λ (c : CallState). Tells c) (same other outcome (sym is ∙ e)) (wants, right);
}
  where
    not_parked : (other : Get) → Some (CallState.refreshed get o) ≡ Some (CallState.parked other) → ⊥
    not_parked other e = cc

    not_told : (other : Get) (outcome : Outcome) → Some (CallState.refreshed get o) ≡ Some (CallState.answered other outcome) → ⊥
    not_told other outcome e = cc

    not_waits : (other : Get) (number : ℕ) → Some (CallState.refreshed get o) ≡ Some (CallState.refreshing other number) → ⊥
    not_waits other number e = cc

    same : (other : Get) (outcome : Outcome) → Some (CallState.refreshed get o) ≡ Some (CallState.refreshed other outcome) → CallState.refreshed get o ≡ CallState.refreshed other outcome
    same other outcome e = cc

    Tells : CallState → Type 0
    Tells (CallState.refreshed other outcome) = (wanted ≡ anew_for other) × (same_proc q other.target ≡ true → IsRight jobs id s n (level_at h.far q) other modes.Now outcome)
    Tells _ = Unit {0}

-- a process and the target of a get of its
target_is : (q : Proc) (get : Get) → same_proc q get.target ≡ true → q ≡ get.target
target_is q get e = exact_procs q get.target ((Equal-is _).0 e)

-- ---- gets are settled

pub bound_settled : (jobs : Jobs) (scripts : Scripts) (id : ℕ) (d : NodeState) (p q : Proc) (n : ℕ) (wanted : Option Wanted) → Fits jobs scripts id (settled jobs id d)
    → Bound jobs id (scripts q) d p q n wanted → Bound jobs id (scripts q) (settled jobs id d) p q n wanted
bound_settled jobs scripts id d p q n wanted fits bound = record {
  low = bound.low;
  waits = λ get e. bound.waits get (settled_parked jobs id d p get e).0;
  told = λ get outcome e. elim (settled_answered jobs id d p get outcome e) [
    | inl was ↦ bound.told get outcome was
    | inr now ↦ (bound.waits get now.0, λ of. right_now get outcome now.1 (target_is q get of))
  ];
  renews = λ get number e. bound.renews get number (settled_anew jobs id d (CallState.refreshing get number) refl p e);
  renewed = λ get outcome e. bound.renewed get outcome (settled_anew jobs id d (CallState.refreshed get outcome) refl p e);
}
  where
    same_level : (k : ℕ) → k ≤ k
    same_level k = omega arith

    right_now : (get : Get) (outcome : Outcome) → answer_in jobs id d get modes.Wait ≡ outcome → q ≡ get.target → IsRight jobs id (scripts q) n (level_at d.far q) get modes.Wait outcome
    right_now get outcome is of = (
      level_at d.far q,
      bound.low,
      same_level _,
      sym is ∙ answer_sees jobs scripts id (settled jobs id d) fits get modes.Wait ∙ ap (λ (t : Proc). resolve (seen_at jobs id (scripts t) (level_at d.far t) get) modes.Wait) (sym of),
    )

-- ---- replies that tell nothing

-- who hears something by a reply
abbrev pub hears : Proc → Request → Bool
hears p (Request.ask by get mode) = same_proc p by
hears p (Request.take by) = same_proc p by
hears p (Request.terminate by) = same_proc p by
hears p _ = false

-- others hear nothing
pub none_heard : (p q : Proc) (r : Request) (reply : Reply) (before : Option Wanted) → hears p r ≡ false → (answer_of p q r reply before ≡ None) × (wanted_by p r reply before ≡ before)
none_heard p q (Request.enter by list collect) reply before e = (refl, refl)
none_heard p q (Request.leave by) reply before e = (refl, refl)
none_heard p q (Request.ask by get mode) reply before e = (
  ap (λ b. cond (b && same_proc q get.target) (option_map (answer_as get mode) (reply_outcome reply)) None) e,
  ap (λ b. cond b (waiting_as (record { get = get; mode = mode }) reply before) before) e,
)
none_heard p q (Request.take by) reply before e =
    (ap (λ b. cond b (taken_answer q before (reply_outcome reply)) None) e, ap (λ b. cond b (unless_taken (reply_outcome reply) before) before) e)
none_heard p q (Request.terminate by) reply before e = (refl, ap (λ b. cond b (unless_ended reply before) before) e)
none_heard p q (Request.define name list) reply before e = (refl, refl)
none_heard p q (Request.delete name) reply before e = (refl, refl)
none_heard p q Request.nudge reply before e = (refl, refl)

-- a refusal that is no answer
pub record IsSilent (reply : Reply) : Type 0 where
  pub nothing : reply_outcome reply ≡ None
  pub waits_not : (wanted : Wanted) (before : Option Wanted) → waiting_as wanted reply before ≡ before
  pub ends_not : (before : Option Wanted) → unless_ended reply before ≡ before

taken_none : (q : Proc) (before : Option Wanted) → taken_answer q before None ≡ None
taken_none q None = refl
taken_none q (Some wanted) = by_test (same_proc q wanted.get.target)
  where
    by_test : (b : Bool) → ◌≡◌ {A = Option Answer} (cond b (option_map (answer_as wanted.get (later_as wanted.mode)) None) None) None
    by_test true = refl
    by_test false = refl

same_either : {A : Type 0} (b : Bool) (x : A) → cond b x x ≡ x
same_either true x = refl
same_either false x = refl

pub silent_heard : (p q : Proc) (r : Request) (reply : Reply) (before : Option Wanted) → IsSilent reply → (answer_of p q r reply before ≡ None) × (wanted_by p r reply before ≡ before)
silent_heard p q (Request.enter by list collect) reply before silent = (refl, refl)
silent_heard p q (Request.leave by) reply before silent = (refl, refl)
silent_heard p q (Request.ask by get mode) reply before silent = (
  ap (λ (o : Option Outcome). cond (same_proc p by && same_proc q get.target) (option_map (answer_as get mode) o) None) silent.nothing ∙ same_either (same_proc p by && same_proc q get.target) None,
  ap (λ x. cond (same_proc p by) x before) (silent.waits_not (record { get = get; mode = mode }) before) ∙ same_either (same_proc p by) before,
)
silent_heard p q (Request.take by) reply before silent = (
  ap (λ (o : Option Outcome). cond (same_proc p by) (taken_answer q before o) None) silent.nothing ∙ ap (λ x. cond (same_proc p by) x None) (taken_none q before) ∙ same_either (same_proc p by) None,
  ap (λ (o : Option Outcome). cond (same_proc p by) (unless_taken o before) before) silent.nothing ∙ same_either (same_proc p by) before,
)
silent_heard p q (Request.terminate by) reply before silent = (refl, ap (λ x. cond (same_proc p by) x before) (silent.ends_not before) ∙ same_either (same_proc p by) before)
silent_heard p q (Request.define name list) reply before silent = (refl, refl)
silent_heard p q (Request.delete name) reply before silent = (refl, refl)
silent_heard p q Request.nudge reply before silent = (refl, refl)

silent_refusal : (e : Refusal) → reply_outcome (Reply.refused e) ≡ None → IsSilent (Reply.refused e)
silent_refusal e none = record { nothing = none; waits_not = λ wanted before. refl; ends_not = λ before. refl }

silent_by : (e : Refusal) → (e ≡ refusals.NotFound → ⊥) → (e ≡ refusals.OutsideScope → ⊥) → reply_outcome (Reply.refused e) ≡ None
silent_by refusals.NotFound a b = absurd (a refl)
silent_by refusals.OutsideScope a b = absurd (b refl)
silent_by _ a b = refl

no_cause_at : (test : Refusal → Bool) (e x : Refusal) → test e ≡ true → test x ≡ false → e ≡ x → ⊥
no_cause_at test e x is not same = false≢true (sym not ∙ ap test (sym same) ∙ is)

-- no get is refused for a cause that would be an answer
pub refused_silent : (jobs : Jobs) (id : ℕ) (h : NodeState) (p : Proc) (r : Request) (e : Refusal) → hears p r ≡ true → request_cause jobs id h r e ≡ true → reply_outcome (Reply.refused e) ≡ None
unfolding request_cause
refused_silent jobs id h p (Request.enter by list collect) e hear is = absurd (false≢true hear)
refused_silent jobs id h p (Request.leave by) e hear is = absurd (false≢true hear)
refused_silent jobs id h p (Request.ask by get mode) e hear is =
    let test = request_cause jobs id h (Request.ask by get mode) in
    silent_by e (no_cause_at test e refusals.NotFound is refl) (no_cause_at test e refusals.OutsideScope is refl)
refused_silent jobs id h p (Request.take by) e hear is =
    let test = request_cause jobs id h (Request.take by) in
    silent_by e (no_cause_at test e refusals.NotFound is refl) (no_cause_at test e refusals.OutsideScope is refl)
refused_silent jobs id h p (Request.terminate by) e hear is =
    let test = request_cause jobs id h (Request.terminate by) in
    silent_by e (no_cause_at test e refusals.NotFound is refl) (no_cause_at test e refusals.OutsideScope is refl)
refused_silent jobs id h p (Request.define name list) e hear is = absurd (false≢true hear)
refused_silent jobs id h p (Request.delete name) e hear is = absurd (false≢true hear)
refused_silent jobs id h p Request.nudge e hear is = absurd (false≢true hear)

-- a request that is refused is not heard
pub refused_heard : (jobs : Jobs) (id : ℕ) (h : NodeState) (p q : Proc) (r : Request) (e : Refusal) (before : Option Wanted) → request_cause jobs id h r e ≡ true
    → (answer_of p q r (Reply.refused e) before ≡ None) × (wanted_by p r (Reply.refused e) before ≡ before)
refused_heard jobs id h p q r e before is = by_test (hears p r) refl
  where
    by_test : (b : Bool) → hears p r ≡ b → (answer_of p q r (Reply.refused e) before ≡ None) × (wanted_by p r (Reply.refused e) before ≡ before)
    by_test true hear = silent_heard p q r (Reply.refused e) before (silent_refusal e (refused_silent jobs id h p r e hear is))
    by_test false hear = none_heard p q r (Reply.refused e) before hear

pub heard_as : (jobs : Jobs) (id : ℕ) (s : Script) (h : NodeState) (p q : Proc) (n : ℕ) (wanted wanted_then : Option Wanted) (o : Option Answer) → (o ≡ None) × (wanted_then ≡ wanted)
    → Bound jobs id s h p q n wanted → Heard jobs id s h p q n wanted_then o
heard_as jobs id s h p q n wanted wanted_then o same bound =
    subst (Heard jobs id s h p q n wanted_then) (sym same.0) (subst (Bound jobs id s h p q n) (sym same.1) bound)

pub heard_settled : (jobs : Jobs) (scripts : Scripts) (id : ℕ) (d : NodeState) (p q : Proc) (n : ℕ) (wanted : Option Wanted) (o : Option Answer) → Fits jobs scripts id (settled jobs id d)
    → Heard jobs id (scripts q) d p q n wanted o → Heard jobs id (scripts q) (settled jobs id d) p q n wanted o
heard_settled jobs scripts id d p q n wanted None fits heard = bound_settled jobs scripts id d p q n wanted fits heard
heard_settled jobs scripts id d p q n wanted (Some a) fits heard = (heard.0, heard.1, heard.2, heard.3, bound_settled jobs scripts id d p q heard.0 wanted fits heard.4)

-- ---- acts at p's home that are not refused

abbrev pub hears_in : Proc → Act → Bool
hears_in p (Act.request r) = hears p r
hears_in p (Act.commit by b) = false
hears_in p (Act.deliver frame) = false

module _ (jobs : Jobs) (id : ℕ) (scripts : Scripts) (h : NodeState) (fits : Fits jobs scripts id h) (p q : Proc) (n : ℕ) (before : Option Wanted) (bound : Bound jobs id (scripts q) h p q n before)
    (after : Scripts) (grown : (later : Script) × (after q ≡ scripts q ++ later)) where
  -- q's calls then
  abbrev t : Script
  t = after q

  made : level_at h.far q ≤ commits (scripts q)
  made = honest_level_is_made (scripts q) reach.Far q h.far (fits.far q)

  same_level : (k : ℕ) → k ≤ k
  same_level k = omega arith

  loud : (a : Act) (r : Request) → hears_in p a ≡ false → a ≡ Act.request r → hears p r ≡ true → ⊥
  loud a r quiet is hear = false≢true (sym quiet ∙ ap (hears_in p) is ∙ hear)

  -- who is in no call
  pub free_bound : (m : ℕ) (wanted : Option Wanted) (d : NodeState) → m ≤ level_at d.far q → call_of d p ≡ None → Bound jobs id t d p q m wanted
  free_bound m wanted d low none = bound_free jobs id t d p q m wanted low None none tt

  -- the answer of a get that asked anew, once its reply is there, is right
  abbrev RightAnew : Act → Type 0
  RightAnew a =
      (r : RefreshReply) (get : Get) (number : ℕ) → a ≡ Act.deliver (frames.RefreshReply r) → call_of h p ≡ Some (CallState.refreshing get number)
      → call_of (does jobs id h a).left p ≡ Some (CallState.refreshed get (answer_in jobs id (with_far h (joined h.far (told_by r))) get modes.Now)) → same_proc q get.target ≡ true
      → IsRight jobs id t n (level_at (does jobs id h a).left.far q) get modes.Now (answer_in jobs id (with_far h (joined h.far (told_by r))) get modes.Now)

  quiet_by : (a : Act) → RightAnew a → level_at h.far q ≤ level_at (does jobs id h a).left.far q → hears_in p a ≡ false → StaysOrMoves jobs id h p a (call_of (does jobs id h a).left p)
      → Bound jobs id t (does jobs id h a).left p q n before
  quiet_by a right higher quiet (inl same) = bound_grown jobs id (scripts q) t h (does jobs id h a).left p q n before grown made higher same bound
  quiet_by a right higher quiet (inr (Moves.entering list collect is was now)) =
      bound_free jobs id t (does jobs id h a).left p q n before (omega (arith, bound.low, higher)) (Some (CallState.in_fence _)) now tt
  quiet_by a right higher quiet (inr (Moves.parking get mode is was answer now)) = absurd (loud a (Request.ask p get mode) quiet is (proc_itself p))
  quiet_by a right higher quiet (inr (Moves.leaving f gone is was now)) = free_bound n before (does jobs id h a).left (omega (arith, bound.low, higher)) now
  quiet_by a right higher quiet (inr (Moves.taking get outcome is was now)) = absurd (loud a (Request.take p) quiet is (proc_itself p))
  quiet_by a right higher quiet (inr (Moves.taking_anew get outcome is was now)) = absurd (loud a (Request.take p) quiet is (proc_itself p))
  quiet_by a right higher quiet (inr (Moves.answering r get number is was its now)) =
      bound_renewed jobs id t (does jobs id h a).left p q n get (answer_in jobs id (with_far h (joined h.far (told_by r))) get modes.Now) before (omega (arith, bound.low, higher)) now
      (bound.renews get number was) (right r get number is was now)
  quiet_by a right higher quiet (inr (Moves.ending is now)) = absurd (loud a (Request.terminate p) quiet is (proc_itself p))

  quiet_bound : (a : Act) → RightAnew a → NoCause (cause jobs id h a) → hears_in p a ≡ false → Bound jobs id t (does jobs id h a).left p q n before
  quiet_bound a right none quiet = quiet_by a right ((does_rise jobs id h a).far q) quiet (does_call jobs id h p a none)

  no_reply : (a : Act) → ((frame : Frame) → a ≡ Act.deliver frame → ⊥) → RightAnew a
  no_reply a other r get number is was now of = absurd (other (frames.RefreshReply r) is)

  pub commit_bound : (by : Proc) (b : Unsealed) → NoCause (cause jobs id h (Act.commit by b)) → Bound jobs id t (does jobs id h (Act.commit by b)).left p q n before
  commit_bound by b none = quiet_bound (Act.commit by b) (no_reply (Act.commit by b) (λ frame e. cc)) none refl

  -- by a delivery p hears nothing; what a reply answers fits, as all does that is held then
  pub deliver_bound : (frame : Frame) → Fits jobs after id (settled jobs id (does jobs id h (Act.deliver frame)).left) → NoCause (cause jobs id h (Act.deliver frame))
      → Bound jobs id t (does jobs id h (Act.deliver frame)).left p q n before
  deliver_bound frame then none = quiet_bound a right none refl
    where
      a : Act
      a = Act.deliver frame

      right : RightAnew a
      right r get number is was now of = (
        level_at (does jobs id h a).left.far q,
        omega (arith, bound.low, (does_rise jobs id h a).far q),
        same_level _,
        answer_anew jobs id h p r get number (answer_in jobs id (with_far h (joined h.far (told_by r))) get modes.Now) was a is now
            ∙ answer_sees jobs after id (settled jobs id (does jobs id h a).left) then get modes.Now
            ∙ ap (λ (x : Proc). resolve (seen_at jobs id (after x) (level_at (does jobs id h a).left.far x) get) modes.Now) (sym (target_is q get of)),
      )

  -- ---- a get of p's own

  -- the answer that there is
  right_here : (get : Get) (mode : Mode) (o : Outcome) → answer_in jobs id h get mode ≡ o → same_proc q get.target ≡ true → o ≡ resolve (seen_at jobs id t (level_at h.far q) get) mode
  right_here get mode o is of =
      sym is ∙ answer_sees jobs scripts id h fits get mode
      ∙ ap (λ (x : Proc). resolve (seen_at jobs id (scripts x) (level_at h.far x) get) mode) (sym (target_is q get of))
      ∙ ap (λ (x : Seen). resolve x mode) (sym (ap (λ (x : Script). seen_at jobs id x (level_at h.far q) get) grown.1 ∙ seen_grown jobs id (scripts q) grown.0 (level_at h.far q) get made))

  answered_here : (get : Get) (mode : Mode) (o : Outcome) (c : Bool) → same_proc q get.target ≡ c → call_of h p ≡ None → answer_in jobs id h get mode ≡ o
      → Heard jobs id t h p q n before (cond c (Some (answer_as get mode o)) None)
  answered_here get mode o true of none is = (level_at h.far q, bound.low, same_level _, right_here get mode o is of, free_bound (level_at h.far q) before h (same_level _) none)
  answered_here get mode o false of none is = free_bound n before h bound.low none

  -- the get waits
  call_then : (by : Proc) (get : Get) (mode : Mode) → p ≡ by → call_of (parks h by get mode) p ≡ Some (waits_as h.requests get mode)
  call_then by get mode same =
      call-called (with_requests h (requests_after h.requests mode)) by (waits_as h.requests get mode) p
      ∙ ap (λ b. cond b (Some (waits_as h.requests get mode)) (call_of h p)) (ap (same_proc p) (sym same) ∙ proc_itself p)

  parked_here : (by : Proc) (get : Get) (mode : Mode) → p ≡ by → answer_in jobs id h get mode ≡ Outcome.parks
      → Bound jobs id t (parks h by get mode) p q n (Some (record { get = get; mode = mode }))
  parked_here by get modes.Wait same is = bound_waits jobs id t (parks h by get modes.Wait) p q n get bound.low (call_then by get modes.Wait same)
  parked_here by get modes.Now same is = absurd (now_answers _ is)
  parked_here by get modes.Refresh same is = bound_renews jobs id t (parks h by get modes.Refresh) p q n get (suc h.requests) bound.low (call_then by get modes.Refresh same)

  no_answer : (c : Bool) (get : Get) (mode : Mode) → ◌≡◌ {A = Option Answer} (cond c (option_map (answer_as get mode) None) None) None
  no_answer true get mode = refl
  no_answer false get mode = refl

  ask_heard : (by : Proc) (get : Get) (mode : Mode) → p ≡ by → call_of h p ≡ None → (o : Outcome) → answer_in jobs id h get mode ≡ o
      → Heard jobs id t (asks h by get mode o).left p q n (waiting_as (record { get = get; mode = mode }) (asks h by get mode o).reply before)
      (cond (same_proc q get.target) (option_map (answer_as get mode) (reply_outcome (asks h by get mode o).reply)) None)
  ask_heard by get mode same none (Outcome.found value) is = answered_here get mode (Outcome.found value) (same_proc q get.target) refl none is
  ask_heard by get mode same none Outcome.absent is = answered_here get mode Outcome.absent (same_proc q get.target) refl none is
  ask_heard by get mode same none Outcome.outside is = answered_here get mode Outcome.outside (same_proc q get.target) refl none is
  ask_heard by get mode same none Outcome.parks is =
      subst (Heard jobs id t (parks h by get mode) p q n (Some (record { get = get; mode = mode }))) (sym (no_answer (same_proc q get.target) get mode)) (parked_here by get mode same is)

  -- ---- and what is taken

  same_bound : Bound jobs id t h p q n before
  same_bound = bound_grown jobs id (scripts q) t h h p q n before grown made (same_level _) refl bound

  nothing_taken : (reply : Reply) → reply_outcome reply ≡ None → Heard jobs id t h p q n (unless_taken (reply_outcome reply) before) (taken_answer q before (reply_outcome reply))
  nothing_taken reply none =
      heard_as jobs id t h p q n before (unless_taken (reply_outcome reply) before) (taken_answer q before (reply_outcome reply))
      (ap (taken_answer q before) none ∙ taken_none q before, ap (λ (o : Option Outcome). unless_taken o before) none) same_bound

  gone_call : (by : Proc) → p ≡ by → call_of (uncalled h by) p ≡ None
  gone_call by same = call-uncalled h by p ∙ ap (λ b. cond b None (call_of h p)) (ap (same_proc p) (sym same) ∙ proc_itself p)

  -- what is known of the answer of the get that p waited for
  abbrev RightTaken : Wanted → Outcome → Type 0
  RightTaken wanted o =
      (before ≡ Some wanted) × (same_proc q wanted.get.target ≡ true → IsRight jobs id (scripts q) n (level_at h.far q) wanted.get (later_as wanted.mode) o)

  taken_here : (by : Proc) (get : Get) (mode : Mode) (o : Outcome) (c : Bool) → p ≡ by → same_proc q get.target ≡ c
      → (same_proc q get.target ≡ true → IsRight jobs id (scripts q) n (level_at h.far q) get mode o)
      → Heard jobs id t (uncalled h by) p q n None (cond c (Some (answer_as get mode o)) None)
  taken_here by get mode o true same of told =
      let right = right_grown jobs id (scripts q) t grown.0 n (level_at h.far q) (level_at h.far q) get mode o grown.1 made (same_level _) (told of) in
      (right.0, right.1, right.2, right.3, free_bound right.0 None (uncalled h by) right.2 (gone_call by same))
  taken_here by get mode o false same of told = free_bound n None (uncalled h by) bound.low (gone_call by same)

  taken_so : (by : Proc) (wanted : Wanted) (o : Outcome) → p ≡ by → RightTaken wanted o → Heard jobs id t (uncalled h by) p q n None (taken_answer q before (Some o))
  taken_so by wanted o same right =
      subst (λ x. Heard jobs id t (uncalled h by) p q n None (taken_answer q x (Some o))) (sym right.0)
      (taken_here by wanted.get (later_as wanted.mode) o (same_proc q wanted.get.target) same refl right.1)

  answer_taken : (by : Proc) (wanted : Wanted) (o : Outcome) → p ≡ by → RightTaken wanted o → IsAnswerOutcome o
      → Heard jobs id t (uncalled h by) p q n (unless_taken (reply_outcome (reply_of o)) before) (taken_answer q before (reply_outcome (reply_of o)))
  answer_taken by wanted (Outcome.found value) same right answer = taken_so by wanted (Outcome.found value) same right
  answer_taken by wanted Outcome.absent same right answer = taken_so by wanted Outcome.absent same right
  answer_taken by wanted Outcome.outside same right answer = taken_so by wanted Outcome.outside same right
  answer_taken by wanted Outcome.parks same right answer = absurd answer

  take_heard : (by : Proc) → p ≡ by → home_of jobs p ≡ id → (c : Option CallState) → call_of h by ≡ c
      → Heard jobs id t (takes h by c).left p q n (unless_taken (reply_outcome (takes h by c).reply) before) (taken_answer q before (reply_outcome (takes h by c).reply))
  take_heard by same home None is = nothing_taken Reply.idle refl
  take_heard by same home (Some (CallState.in_fence f)) is = nothing_taken Reply.idle refl
  take_heard by same home (Some (CallState.released f gone)) is = nothing_taken Reply.idle refl
  take_heard by same home (Some (CallState.parked get)) is = nothing_taken Reply.waiting refl
  take_heard by same home (Some (CallState.answered get o)) is =
      let call = ap (call_of h) same ∙ is in
      answer_taken by (record { get = get; mode = modes.Wait }) o same (bound.told get o call) (subst (FitsCall (scripts p)) call (fits.calls p home))
  take_heard by same home (Some (CallState.refreshing get number)) is = nothing_taken Reply.waiting refl
  take_heard by same home (Some (CallState.refreshed get o)) is =
      let call = ap (call_of h) same ∙ is in
      answer_taken by (record { get = get; mode = modes.Refresh }) o same (bound.renewed get o call) (subst (FitsCall (scripts p)) call (fits.calls p home))

  abbrev pub RequestHeard : Request → Type 0
  RequestHeard r =
      Heard jobs id t (serves jobs id h r).left p q n (wanted_by p r (serves jobs id h r).reply before) (answer_of p q r (serves jobs id h r).reply before)

  by_is : (by : Proc) → same_proc p by ≡ true → p ≡ by
  by_is by e = exact_procs p by ((Equal-is _).0 e)

  loud_heard : (r : Request) → NoCause (request_cause jobs id h r) → hears p r ≡ true → RequestHeard r
  unfolding request_cause serves does
  loud_heard (Request.enter by list collect) none hear = absurd (false≢true hear)
  loud_heard (Request.leave by) none hear = absurd (false≢true hear)
  loud_heard (Request.ask by get mode) none hear =
      let same = by_is by hear in
      let free = free_is jobs id h by (neither_cause (free_cause jobs id h by) (also (target_cause jobs by get) (number_cause jobs id h get mode)) none).0 in
      let o = answer_in jobs id h get mode in
      subst (λ b. Heard jobs id t (asks h by get mode o).left p q n (cond b (waiting_as (record { get = get; mode = mode }) (asks h by get mode o).reply before) before)
      (cond (b && same_proc q get.target) (option_map (answer_as get mode) (reply_outcome (asks h by get mode o).reply)) None)) (sym hear)
      (ask_heard by get mode same (ap (call_of h) same ∙ free.1) o refl)
  loud_heard (Request.take by) none hear =
      let same = by_is by hear in
      let c = call_of h by in
      subst (λ b. Heard jobs id t (takes h by c).left p q n (cond b (unless_taken (reply_outcome (takes h by c).reply) before) before) (cond b (taken_answer q before (reply_outcome (takes h by c).reply)) None)) (sym hear)
      (take_heard by same (ap (home_of jobs) same ∙ (caller_is jobs id h by none).home) c refl)
  loud_heard (Request.terminate by) none hear =
      let same = by_is by hear in
      let z = ended_with (sealer_of h by) in
      let d = (ends_as h by z).left in
      let higher : level_at h.far q ≤ level_at d.far q = (does_rise jobs id h (Act.request (Request.terminate by))).far q in
      subst (λ b. Bound jobs id t d p q n (cond b None before)) (sym hear)
      (free_bound n None d (omega (arith, bound.low, higher)) (call-uncalled (with_table (sealing h by z) (ended_by h.table by z.level)) by p ∙ ap (λ b. cond b None (call_of h p)) hear))
  loud_heard (Request.define name list) none hear = absurd (false≢true hear)
  loud_heard (Request.delete name) none hear = absurd (false≢true hear)
  loud_heard Request.nudge none hear = absurd (false≢true hear)

  quiet_request : (r : Request) → NoCause (request_cause jobs id h r) → hears p r ≡ false → Bound jobs id t (serves jobs id h r).left p q n before
  unfolding cause does
  quiet_request r none quiet = quiet_bound (Act.request r) (no_reply (Act.request r) (λ frame e. cc)) none quiet

  pub request_heard : (r : Request) → NoCause (request_cause jobs id h r) → RequestHeard r
  request_heard r none = by_test (hears p r) refl
    where
      by_test : (b : Bool) → hears p r ≡ b → RequestHeard r
      by_test true hear = loud_heard r none hear
      by_test false quiet =
          heard_as jobs id t (serves jobs id h r).left p q n before (wanted_by p r (serves jobs id h r).reply before) (answer_of p q r (serves jobs id h r).reply before)
          (none_heard p q r (serves jobs id h r).reply before quiet) (quiet_request r none quiet)
