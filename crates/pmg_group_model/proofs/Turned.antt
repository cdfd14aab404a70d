-- What holds of names and turns holds after each step.
use Rattle.std.proofs.Common.{◌≡◌, ◌<◌, ◌⊎◌, ℕ, Bool, true, false, ◌==◌, cond, List, [], ◌∷◌, Option, Some, None, Result, inl, inr, refl, sym, ap, subst, ◌∙◌, arith}
use Rattle.std.specs.FinMap as finite
use Rattle.std.specs.Option.{unwrap_or}
use Rattle.std.proofs.lemmas.Bool.{false≢true}
use Rattle.std.proofs.lemmas.Bool.Decides.{nat_tests}
use Rattle.pmg_value.specs.Lists.{Each}
use Rattle.pmg_value.specs.Signatures.{Signature, FenceName}
use Rattle.pmg_value.specs.declared.process.Proc.{Proc}
use Rattle.pmg_value.specs.declared.refusal.Refusal.{Refusal}
use Rattle.pmg_scope.specs.Cached.{unsealed_of}
use Rattle.pmg_scope.specs.Scripts.{Call, Script}
use Rattle.pmg_frame.specs.FenceOrder.{signature_cmp}
use Rattle.pmg_jobinfo.specs.Jobs.{Jobs, AreJobs, is_node, home_of}
use Rattle.pmg_fence.specs.Changes.{next_name}
use Rattle.pmg_fence.specs.Rules.{Scripts, Grows}
use Rattle.pmg_fence.specs.Tables.{Series, Fences, no_series, no_fences, fence_of, series_at}
use Rattle.pmg_fence.proofs.EntryLemmas.{puts}
use Rattle.pmg_fence.proofs.StepLemmas.{no_names}
use Rattle.pmg_get.specs.Gets.{Outcome}
use Rattle.pmg_get.specs.declared.view.Mode.{Mode}
use Rattle.pmg_get.specs.declared.view.Mode.TheVariants as modes
use Rattle.pmg_node_model.specs.Acts.{Request, Act, Reply, Done, Said, signature_of, cause, waits_as, does, serves, over, said_by, says}
use Rattle.pmg_node_model.specs.Fitting.{Fits, FitsAct, is_refusal, unless_refused, with_said}
use Rattle.pmg_node_model.specs.Holdings.{Get, CallState, NodeState, sealer_of, call_of, settled}
use Rattle.pmg_node_model.specs.Kept.{top_in}
use Rattle.pmg_node_model.specs.Sending.{Allowed}
use Rattle.pmg_node_model.specs.declared.sent.Sent.{Sent}
use Rattle.pmg_node_model.proofs.CauseFacts.{NoCause, by_causes}
use Rattle.pmg_node_model.proofs.Forgetting.{NamesAfter, entry_named, not_old_before}
use Rattle.pmg_node_model.proofs.Moving.{Moves, StaysOrMoves, does_call}
use Rattle.pmg_node_model.proofs.Names.{does_names}
use Rattle.pmg_node_model.proofs.Reading.{grows_unless}
use Rattle.pmg_node_model.proofs.Settling.{settled_in_fence}
use Rattle.pmg_group_model.specs.Worlds.{World, Event, Doing, Does, Happened, Run, start, numbered, delivers, not_there, requests, own_get, is_own, cache_of, reply_or_refusal, doing}
use Rattle.pmg_group_model.specs.Laws.{Good, FreedRight}
use Rattle.pmg_group_model.specs.Turns.{WasEntered, NamesEntered, Waits, AreNamed, ArePast, IsInTurn, Turned, NamesWereEntered, AlwaysInTurn}
use Rattle.pmg_group_model.proofs.Naming.{ActNames, names_entered, entry_caller, entered_grown, names_grown, allowed_named}
use Rattle.pmg_group_model.proofs.Speaking.{DoingFits, IsPut, numbered_is, doing_fits}
use Rattle.pmg_group_model.proofs.Starting.{new_call, start_good}
use Rattle.pmg_group_model.proofs.Steps.{act_world, left_by, scripts_by, world_by, scripts_grow, act_good, each_node, each_both, each_still, cache_keeps, step_good}
use Rattle.pmg_group_model.proofs.Turning.{PastBy, EntersSame, enters_said, past_more, turn_more, settled_past, does_past, does_turn, away_past}

-- ---- names after an act

-- who was in a fence is in it rightly after the act
waits_still : (scripts grown : Scripts) (old new : Fences) → Grows scripts grown → NamesAfter (WasEntered grown) old new → (p : Proc) (f : FenceName) → Waits scripts old p f → Waits grown new p f
waits_still scripts grown old new grows after p f was = record {
  named = λ keeps. after.kept f (was.named (not_old_before old new f (after.rises f.signature) keeps)) keeps;
  part = was.part;
  entered = entered_grown scripts grown f grows was.entered;
}

-- a get that waits is in no fence
waits_no_fence : (n : ℕ) (get : Get) (mode : Mode) (f : FenceName) → Some (waits_as n get mode) ≡ Some (CallState.in_fence f) → ⊥
waits_no_fence n get modes.Wait f e = cc
waits_no_fence n get modes.Now f e = cc
waits_no_fence n get modes.Refresh f e = cc

module _ (jobs : Jobs) (scripts : Scripts) (n : ℕ) (h : NodeState) (fits : Fits jobs scripts n h) (named : AreNamed scripts h) where
  abbrev after_it : Act → Scripts
  after_it a = unless_refused (is_refusal (does jobs n h a).reply) scripts (says jobs a)

  grows_then : (a : Act) → Grows scripts (after_it a)
  grows_then a = grows_unless (is_refusal (does jobs n h a).reply) scripts (says jobs a)

  names_then : (a : Act) → NoCause (cause jobs n h a) → ActNames scripts a → NamesAfter (WasEntered (after_it a)) h.table (does jobs n h a).left.table
  names_then a none names = does_names jobs n h (WasEntered (after_it a)) a (names_entered jobs scripts n h fits a none names)

  -- and so is who enters it
  entry_waits : (p : Proc) (list : List Proc) (collect : Bool) → NoCause (cause jobs n h (Act.request (Request.enter p list collect)))
      → Waits (after_it (Act.request (Request.enter p list collect))) (does jobs n h (Act.request (Request.enter p list collect))).left.table p (next_name h.table (signature_of jobs p list collect) p)
  unfolding does serves
  entry_waits p list collect none = record {
    named = entry_named h.table (signature_of jobs p list collect) p (sealer_of h p).level;
    part = (entry_caller jobs scripts n h fits p list collect none).1;
    entered = names_entered jobs scripts n h fits (Act.request (Request.enter p list collect)) none tt;
  }

  in_fence_waits : (a : Act) → NoCause (cause jobs n h a) → ActNames scripts a → (p : Proc) (f : FenceName) (c : Option CallState) → StaysOrMoves jobs n h p a c → c ≡ Some (CallState.in_fence f)
      → Waits (after_it a) (does jobs n h a).left.table p f
  in_fence_waits a none names p f c (inl same) e =
      waits_still scripts (after_it a) h.table (does jobs n h a).left.table (grows_then a) (names_then a none names) p f (named.calls p f (sym same ∙ e))
  in_fence_waits a none names p f c (inr (Moves.entering list collect is was now)) e =
      subst (λ x. NoCause (cause jobs n h x) → Waits (after_it x) (does jobs n h x).left.table p f) (sym is)
      (λ free. subst (Waits (after_it entry) (does jobs n h entry).left.table p) same (entry_waits p list collect free)) none
    where
      entry : Act
      entry = Act.request (Request.enter p list collect)

      same : next_name h.table (signature_of jobs p list collect) p ≡ f
      same = let both : Some (CallState.in_fence (next_name h.table (signature_of jobs p list collect) p)) ≡ Some (CallState.in_fence f) = sym now ∙ e in cc
  in_fence_waits a none names p f c (inr (Moves.parking get mode is was answer now)) e = absurd (waits_no_fence h.requests get mode f (sym now ∙ e))
  in_fence_waits a none names p f c (inr (Moves.leaving x gone is was now)) e = absurd (elsewhere (sym now ∙ e))
    where
      elsewhere : None ≡ Some (CallState.in_fence f) → ⊥
      elsewhere z = cc
  in_fence_waits a none names p f c (inr (Moves.taking get outcome is was now)) e = absurd (elsewhere (sym now ∙ e))
    where
      elsewhere : None ≡ Some (CallState.in_fence f) → ⊥
      elsewhere z = cc
  in_fence_waits a none names p f c (inr (Moves.taking_anew get outcome is was now)) e = absurd (elsewhere (sym now ∙ e))
    where
      elsewhere : None ≡ Some (CallState.in_fence f) → ⊥
      elsewhere z = cc
  in_fence_waits a none names p f c (inr (Moves.answering r get number is was its now)) e = absurd (elsewhere (sym now ∙ e))
    where
      elsewhere : {o : Outcome} → Some (CallState.refreshed get o) ≡ Some (CallState.in_fence f) → ⊥
      elsewhere z = cc
  in_fence_waits a none names p f c (inr (Moves.ending is now)) e = absurd (elsewhere (sym now ∙ e))
    where
      elsewhere : None ≡ Some (CallState.in_fence f) → ⊥
      elsewhere z = cc

  top_then : (a : Act) (g : Signature) (top : ℕ) → (top ≡ top_in h.table g) ⊎ WasEntered (after_it a) (fence_of g top) → 0 < top → WasEntered (after_it a) (fence_of g top)
  top_then a g top (inl same) pos =
      subst (λ k. WasEntered (after_it a) (fence_of g k)) (sym same)
      (entered_grown scripts (after_it a) (fence_of g (top_in h.table g)) (grows_then a) (named.tops g (subst (λ k. 0 < k) same pos)))
  top_then a g top (inr was) pos = was

  does_named : (a : Act) → NoCause (cause jobs n h a) → ActNames scripts a → AreNamed (after_it a) (settled jobs n (does jobs n h a).left)
  does_named a none names =
      let d = (does jobs n h a).left in
      let after = names_then a none names in
      record {
        names = λ f has. elim (after.names f has) [
          | inl was ↦ entered_grown scripts (after_it a) f (grows_then a) (named.names f was)
          | inr now ↦ now
        ];
        tops = λ g pos. top_then a g (top_in d.table g) (after.tops g) pos;
        calls = λ p f e. in_fence_waits a none names p f (call_of d p) (does_call jobs n h p a none) (settled_in_fence jobs n d p f e).0;
      }

named_grown : (scripts grown : Scripts) (h : NodeState) → Grows scripts grown → AreNamed scripts h → AreNamed grown h
named_grown scripts grown h grows named = record {
  names = λ f has. entered_grown scripts grown f grows (named.names f has);
  tops = λ g pos. entered_grown scripts grown (fence_of g (top_in h.table g)) grows (named.tops g pos);
  calls = λ p f e. let was = named.calls p f e in record { named = was.named; part = was.part; entered = entered_grown scripts grown f grows was.entered };
}

-- ---- an act

module _ (jobs : Jobs) (are : AreJobs jobs) (w : World) (good : Good jobs w) (turned : Turned jobs w) (n : ℕ) (a : Act) (fit : FitsAct jobs w.scripts a) (names : ActNames w.scripts a) where
  abbrev grown : Scripts
  grown = scripts_by jobs are w good n a fit

  abbrev left_now : NodeState
  left_now = left_by jobs are w good n a fit

  grows : Grows w.scripts grown
  grows = scripts_grow jobs are w good n a fit

  -- what holds where nothing is done, and after what is done and settled, holds after the act
  by_act : (P : Scripts → NodeState → Type 0) → P w.scripts (w.nodes n)
      → (NoCause (cause jobs n (w.nodes n) a) → P (unless_refused (is_refusal (does jobs n (w.nodes n) a).reply) w.scripts (says jobs a)) (settled jobs n (does jobs n (w.nodes n) a).left)) → P grown left_now
  by_act P still done = elim (by_causes (cause jobs n (w.nodes n) a) (does jobs n (w.nodes n) a)) [
    | inl found ↦
        subst (λ (x : Result Done Refusal). P (unless_refused (is_refusal (over jobs n (w.nodes n) x).reply) w.scripts (says jobs a)) (over jobs n (w.nodes n) x).left) (sym found.2) still
    | inr free ↦
        subst (λ (x : Result Done Refusal). P (unless_refused (is_refusal (over jobs n (w.nodes n) x).reply) w.scripts (says jobs a)) (over jobs n (w.nodes n) x).left) (sym free.0) (done free.1)
  ]

  left_named : AreNamed grown left_now
  left_named = by_act AreNamed (turned.named n) (λ none. does_named jobs w.scripts n (w.nodes n) (good.fits n) (turned.named n) a none names)

  left_free : FreedRight grown left_now → (p : Proc) → n ≡ home_of jobs p → PastBy grown (call_of left_now p) p
  left_free freed p at =
      let past : PastBy w.scripts (call_of (w.nodes n) p) p = subst (λ k. PastBy w.scripts (call_of (w.nodes k) p) p) (sym at) (turned.past p) in
      by_act (λ s g. FreedRight s g → PastBy s (call_of g p) p) (λ still. past) (λ none free.
      settled_past jobs n (does jobs n (w.nodes n) a).left (unless_refused (is_refusal (does jobs n (w.nodes n) a).reply) w.scripts (says jobs a)) p free
      (does_past jobs w.scripts n (w.nodes n) (good.fits n) p a none past)) freed

  others_past : (p : Proc) → (home_of jobs p ≡ n → ⊥) → ArePast grown (w.nodes (home_of jobs p)) p
  others_past p away =
      by_act (λ s g. PastBy s (call_of (w.nodes (home_of jobs p)) p) p) (turned.past p) (λ none.
      away_past jobs w.scripts n (w.nodes n) (good.fits n) p a none away (call_of (w.nodes (home_of jobs p)) p) (turned.past p))

  turns : (p : Proc) → IsInTurn grown p
  turns p =
      by_act (λ s g. IsInTurn s p) (turned.turn p) (λ none.
      does_turn jobs w.scripts n (w.nodes n) (good.fits n) p a none (λ home. subst (λ k. PastBy w.scripts (call_of (w.nodes k) p) p) home (turned.past p)) (turned.turn p))

  pub act_turned : (out : List Sent) → Good jobs (world_by jobs are w good n a fit out) → Each (λ s. Allowed jobs n a left_now s.frame) out → Turned jobs (world_by jobs are w good n a fit out)
  act_turned out after allowed = record {
    named = each_node (λ m h. AreNamed grown h) w.nodes n left_now left_named (λ m away. named_grown w.scripts grown (w.nodes m) grows (turned.named m));
    past = λ p. each_node (λ k h. k ≡ home_of jobs p → PastBy grown (call_of h p) p) w.nodes n left_now (λ at. left_free freed p at)
        (λ k away at. subst (λ x. PastBy grown (call_of (w.nodes x) p) p) (sym at) (others_past p (λ home. away (at ∙ home)))) (home_of jobs p) refl;
    turn = turns;
    frames = each_both (λ s. NamesEntered grown s.frame) w.sent out
        (each_still (λ s. NamesEntered w.scripts s.frame) (λ s. NamesEntered grown s.frame) w.sent (λ s. names_grown w.scripts grown grows s.frame) turned.frames)
        (each_still (λ s. Allowed jobs n a left_now s.frame) (λ s. NamesEntered grown s.frame) out (λ s. allowed_named jobs grown n a left_now left_named s.frame) allowed);
  }
    where
      is_itself : (n == n) ≡ true
      is_itself = grind (arith, nat_tests)

      freed : FreedRight grown left_now
      freed = subst (λ b. FreedRight grown (cond b left_now (w.nodes n))) is_itself (after.freed n)

-- ---- a put

put_turned : (jobs : Jobs) (w : World) → Turned jobs w → (said : Said) → IsPut jobs w said → Turned jobs (record { scripts = with_said w.scripts (Some said); nodes = w.nodes; sent = w.sent })
put_turned jobs w turned said put =
    subst (λ (x : Said). Turned jobs (record { scripts = with_said w.scripts (Some x); nodes = w.nodes; sent = w.sent })) (sym put.is) so
  where
    calls : Script
    calls = Call.put put.scope put.key put.value ∷ []

    after : Scripts
    after = with_said w.scripts (said_by put.proc calls)

    more : Grows w.scripts after
    more = grows_unless false w.scripts (said_by put.proc calls)

    often : (p : Proc) → EntersSame w.scripts after p
    often p g = enters_said w.scripts put.proc calls g (puts put.scope put.key put.value, tt) p

    so : Turned jobs (record { scripts = after; nodes = w.nodes; sent = w.sent })
    so = record {
      named = λ m. named_grown w.scripts after (w.nodes m) more (turned.named m);
      past = λ p. past_more w.scripts after more p (call_of (w.nodes (home_of jobs p)) p) (call_of (w.nodes (home_of jobs p)) p) (often p) (λ f e. e) (turned.past p);
      turn = λ p. turn_more w.scripts after more p (often p) (turned.turn p);
      frames = each_still (λ s. NamesEntered w.scripts s.frame) (λ s. NamesEntered after s.frame) w.sent (λ s. names_grown w.scripts after more s.frame) turned.frames;
    }

-- ---- a step

-- what a doing names was entered
abbrev pub DoingNames : World → Doing → Type 0
DoingNames w (Doing.at_node node a) = ActNames w.scripts a
DoingNames w (Doing.by_cache answer said) = Unit {0}

if_node_names : (w : World) (b : Bool) (d : Doing) → DoingNames w d → DoingNames w (cond b d not_there)
if_node_names w true d names = names
if_node_names w false d names = tt

ask_names : (jobs : Jobs) (w : World) (node : ℕ) (p : Proc) (get : Get) (mode : Mode) (b : Bool)
    → DoingNames w (cond b (own_get jobs w node p get.key mode) (Doing.at_node node (Act.request (Request.ask p get mode))))
ask_names jobs w node p get mode true = tt
ask_names jobs w node p get mode false = tt

requests_name : (jobs : Jobs) (w : World) (node : ℕ) (r : Request) → DoingNames w (requests jobs w node r)
requests_name jobs w node (Request.ask p get mode) = ask_names jobs w node p get mode (is_own p get)
requests_name jobs w node _ = tt

delivers_name : (w : World) → Each (λ s. NamesEntered w.scripts s.frame) w.sent → (i : ℕ) (o : Option Sent) → numbered w.sent i ≡ o → DoingNames w (delivers o)
delivers_name w frames i None is = tt
delivers_name w frames i (Some s) is = numbered_is (λ s. NamesEntered w.scripts s.frame) w.sent i s frames is

doing_names : (jobs : Jobs) (w : World) → Turned jobs w → (e : Event) → DoingNames w (doing jobs w e)
unfolding doing
doing_names jobs w turned (Event.put p scope key value) = tt
doing_names jobs w turned (Event.commit node p) = if_node_names w (is_node jobs node) (Doing.at_node node (Act.commit p (unsealed_of (cache_of (w.scripts p))))) tt
doing_names jobs w turned (Event.request node r) = if_node_names w (is_node jobs node) (requests jobs w node r) (requests_name jobs w node r)
doing_names jobs w turned (Event.deliver i) = delivers_name w turned.frames i (numbered w.sent i) refl

does_turned : (jobs : Jobs) → AreJobs jobs → (w : World) → Good jobs w → Turned jobs w → (d : Doing) → DoingFits jobs w d → DoingNames w d → (r : Reply) (v : World) → Does jobs w d r v → Turned jobs v
does_turned jobs are w good turned (Doing.at_node n a) fit names r v step =
    let allowed = subst (λ h. Each (λ s. Allowed jobs n a h s.frame) step.out) step.step.left step.step.allowed in
    subst (Turned jobs) (sym (act_world jobs are w good n a fit r v step))
    (act_turned jobs are w good turned n a fit names step.out (act_good jobs are w good n a fit step.out allowed) allowed)
does_turned jobs are w good turned (Doing.by_cache answer o) fit names r v step =
    subst (Turned jobs) (sym (step.left ∙ ap (λ (x : Reply). record { scripts = unless_refused (is_refusal x) w.scripts o; nodes = w.nodes; sent = w.sent }) step.replied))
    (cache_keeps (Turned jobs) jobs w turned (put_turned jobs w turned) answer o fit (is_refusal (reply_or_refusal answer)) refl)

-- ---- a run

pub no_top : (g : Signature) → top_in no_fences g ≡ 0
unfolding series_at
no_top g = ap (λ (o : Option Series). (unwrap_or o no_series).top) (finite.get-empty signature_cmp g)

start_turned : (jobs : Jobs) → Turned jobs (start jobs)
start_turned jobs = record {
  named = λ m. record {
    names = λ f has. absurd (false≢true (sym (no_names f) ∙ has));
    tops = λ g pos. let none = no_top g in absurd (omega (arith, pos, none));
    calls = λ p f e. absurd (nowhere (sym (new_call p) ∙ e));
  };
  past = λ p g k pos le. absurd (omega (arith, pos, le));
  turn = λ p g k pos lt. absurd (omega (arith, pos, lt));
  frames = tt;
}
  where
    nowhere : {f : FenceName} → None ≡ Some (CallState.in_fence f) → ⊥
    nowhere e = cc

run_turned : (jobs : Jobs) → AreJobs jobs → (xs : List Happened) (w v : World) → Good jobs w → Turned jobs w → Run jobs w xs v → Turned jobs v
unfolding Run
run_turned jobs are [] w v good turned run = subst (Turned jobs) (sym run) turned
run_turned jobs are (x ∷ xs) w v good turned run =
    run_turned jobs are xs run.0 v (step_good jobs are w good x.event x.reply run.0 run.1)
    (does_turned jobs are w good turned (doing jobs w x.event) (doing_fits jobs w good x.event) (doing_names jobs w turned x.event) x.reply run.0 run.1) run.2

pub always_turned : (jobs : Jobs) → AreJobs jobs → (xs : List Happened) (w : World) → Run jobs (start jobs) xs w → Turned jobs w
always_turned jobs are xs w run = run_turned jobs are xs (start jobs) w (start_good jobs) (start_turned jobs) run

pub names_were_entered : NamesWereEntered
names_were_entered jobs are xs w run node f has = ((always_turned jobs are xs w run).named node).names f has

pub always_in_turn : AlwaysInTurn
always_in_turn jobs are xs w run p = (always_turned jobs are xs w run).turn p
