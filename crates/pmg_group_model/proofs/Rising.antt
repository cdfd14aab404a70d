-- What one process is answered about another never falls back, and after a fence begins with what was sealed before it.
use Rattle.std.proofs.Common.{◌≡◌, ◌≤◌, ℕ, Bool, true, false, ◌&&◌, not, cond, List, [], ◌∷◌, ◌++◌, Option, Some, None, Result, Err, inl, inr, refl, sym, ap, subst, ◌∙◌, arith}
use Rattle.std.specs.Cmp.{Equal-is}
use Rattle.std.specs.Option.{option_map}
use Rattle.std.proofs.lemmas.Bool.{false≢true, and_parts}
use Rattle.pmg_value.specs.CheckOrder.{first_of}
use Rattle.pmg_value.specs.Names.{is_reserved}
use Rattle.pmg_value.specs.declared.process.Proc.{Proc}
use Rattle.pmg_value.specs.declared.refusal.Refusal.{Refusal}
use Rattle.pmg_value.specs.declared.refusal.Refusal.TheVariants as refusals
use Rattle.pmg_value.proofs.ProcessOrder.{exact_procs}
use Rattle.pmg_scope.specs.Cached.{unsealed_of}
use Rattle.pmg_scope.specs.Scripts.{Script, commits, last_put}
use Rattle.pmg_scope.specs.declared.scope.Reach.TheVariants as reach
use Rattle.pmg_scope.proofs.ScriptLaws.{commits_never_fall}
use Rattle.pmg_commit.specs.Data.{level_at}
use Rattle.pmg_jobinfo.specs.Jobs.{Jobs, AreJobs, is_node, home_of}
use Rattle.pmg_fence.specs.Entering.{same_proc}
use Rattle.pmg_fence.specs.Rules.{Scripts, Grows}
use Rattle.pmg_fence.proofs.EntryLemmas.{proc_itself}
use Rattle.pmg_get.specs.Gets.{Seen, resolve}
use Rattle.pmg_get.specs.declared.view.Mode.{Mode}
use Rattle.pmg_store.proofs.HonestDataLaws.{honest_level_is_made}
use Rattle.pmg_node_model.specs.Acts.{Request, Act, Reply, Done, Said, also, free_cause, target_cause, number_cause, cause, request_cause, does, over, acts, reply_of, says}
use Rattle.pmg_node_model.specs.Fitting.{Fits, FitsAct, is_refusal, unless_refused, last_fence}
use Rattle.pmg_node_model.specs.Holdings.{Get, CallState, NodeState, new_holding, call_of, settled}
use Rattle.pmg_node_model.specs.declared.sent.Sent.{Sent}
use Rattle.pmg_node_model.proofs.ActsFitted.{acts_fit}
use Rattle.pmg_node_model.proofs.CauseFacts.{NoCause, by_causes, caller_is, free_is, neither_cause}
use Rattle.pmg_node_model.proofs.Reading.{grows_unless}
use Rattle.pmg_group_model.specs.Worlds.{World, Event, Doing, ActStep, CacheStep, Does, Step, Happened, Run, start, cache_of, own_cause, own_get, is_own, requests, numbered, delivers, not_there, reply_or_refusal, doing}
use Rattle.pmg_group_model.specs.Laws.{Answer, Wanted, reply_outcome, waiting_as, wanted_by, wanted_after, answer_as, answer_of, answer_by, with_answer, answers, seen_at, AnswersRise, Good, WasReady}
use Rattle.pmg_group_model.proofs.Hearing.{Bound, Heard, bound_grown, bound_free, none_heard, silent_heard, IsSilent, refused_heard, heard_as, heard_settled, hears, hears_in, request_heard, commit_bound, deliver_bound}
use Rattle.pmg_group_model.proofs.Leaving.{run_grows, left_fence, leaves_released, one_name}
use Rattle.pmg_group_model.proofs.Runs.{always_good}
use Rattle.pmg_group_model.proofs.Seeing.{seen_grown}
use Rattle.pmg_commit.proofs.SealerLaws.{batch_fits}
use Rattle.pmg_group_model.proofs.Speaking.{DoingFits, doing_fits, cache_fits}
use Rattle.pmg_group_model.proofs.Starting.{new_call, start_good}
use Rattle.pmg_group_model.proofs.Steps.{each_node, act_world, left_by, scripts_by, world_by, scripts_grow, step_good}
use Rattle.pmg_group_model.proofs.RunForms.{FenceOnRuns, GetsOnRuns}

-- ---- an act

-- which get of p's waits after an act
abbrev pub wanted_of : Proc → Act → Reply → Option Wanted → Option Wanted
wanted_of p (Act.request r) reply before = wanted_by p r reply before
wanted_of p (Act.commit by b) reply before = before
wanted_of p (Act.deliver frame) reply before = before

-- and what p is told of q by it
abbrev pub told_by : Proc → Proc → Act → Reply → Option Wanted → Option Answer
told_by p q (Act.request r) reply before = answer_of p q r reply before
told_by p q (Act.commit by b) reply before = None
told_by p q (Act.deliver frame) reply before = None

-- nothing is heard
abbrev pub NoneHeard : Proc → Proc → Act → Reply → Option Wanted → Type 0
NoneHeard p q a reply before = (told_by p q a reply before ≡ None) × (wanted_of p a reply before ≡ before)

refused_act : (jobs : Jobs) (m : ℕ) (h : NodeState) (p q : Proc) (a : Act) (e : Refusal) (before : Option Wanted) → cause jobs m h a e ≡ true → NoneHeard p q a (Reply.refused e) before
unfolding cause
refused_act jobs m h p q (Act.request r) e before is = refused_heard jobs m h p q r e before is
refused_act jobs m h p q (Act.commit by b) e before is = (refl, refl)
refused_act jobs m h p q (Act.deliver frame) e before is = (refl, refl)

quiet_act : (p q : Proc) (a : Act) (reply : Reply) (before : Option Wanted) → hears_in p a ≡ false → NoneHeard p q a reply before
quiet_act p q (Act.request r) reply before quiet = none_heard p q r reply before quiet
quiet_act p q (Act.commit by b) reply before quiet = (refl, refl)
quiet_act p q (Act.deliver frame) reply before quiet = (refl, refl)

same_home : (jobs : Jobs) (p by : Proc) (m : ℕ) → same_proc p by ≡ true → home_of jobs by ≡ m → home_of jobs p ≡ m
same_home jobs p by m hear home = ap (home_of jobs) (exact_procs p by ((Equal-is _).0 hear)) ∙ home

-- who hears by a request that is not refused is at home at the node
hearer_home : (jobs : Jobs) (m : ℕ) (h : NodeState) (p : Proc) (r : Request) → NoCause (request_cause jobs m h r) → hears p r ≡ true → home_of jobs p ≡ m
unfolding request_cause
hearer_home jobs m h p (Request.enter by list collect) none hear = absurd (false≢true hear)
hearer_home jobs m h p (Request.leave by) none hear = absurd (false≢true hear)
hearer_home jobs m h p (Request.ask by get mode) none hear =
    same_home jobs p by m hear (free_is jobs m h by (neither_cause (free_cause jobs m h by) (also (target_cause jobs by get) (number_cause jobs m h get mode)) none).0).0.home
hearer_home jobs m h p (Request.take by) none hear = same_home jobs p by m hear (caller_is jobs m h by none).home
hearer_home jobs m h p (Request.terminate by) none hear = same_home jobs p by m hear (caller_is jobs m h by none).home
hearer_home jobs m h p (Request.define name list) none hear = absurd (false≢true hear)
hearer_home jobs m h p (Request.delete name) none hear = absurd (false≢true hear)
hearer_home jobs m h p Request.nudge none hear = absurd (false≢true hear)

act_home : (jobs : Jobs) (m : ℕ) (h : NodeState) (p : Proc) (a : Act) → NoCause (cause jobs m h a) → hears_in p a ≡ true → home_of jobs p ≡ m
unfolding cause
act_home jobs m h p (Act.request r) none hear = hearer_home jobs m h p r none hear
act_home jobs m h p (Act.commit by b) none hear = absurd (false≢true hear)
act_home jobs m h p (Act.deliver frame) none hear = absurd (false≢true hear)

not_hearing : (b : Bool) → (b ≡ true → ⊥) → b ≡ false
not_hearing true e = absurd (e refl)
not_hearing false e = refl

-- an act of another node is not heard
away_heard : (jobs : Jobs) (m : ℕ) (h : NodeState) (p q : Proc) (a : Act) (before : Option Wanted) → (home_of jobs p ≡ m → ⊥) → NoneHeard p q a (acts jobs m h a).reply before
away_heard jobs m h p q a before away = elim (by_causes (cause jobs m h a) (does jobs m h a)) [
  | inl found ↦ subst (λ (x : Result Done Refusal). NoneHeard p q a (over jobs m h x).reply before) (sym found.2) (refused_act jobs m h p q a found.0 before found.1)
  | inr free ↦
      subst (λ (x : Result Done Refusal). NoneHeard p q a (over jobs m h x).reply before) (sym free.0)
      (quiet_act p q a (does jobs m h a).reply before (not_hearing (hears_in p a) (λ hear. away (act_home jobs m h p a free.1 hear))))
]

does_heard : (jobs : Jobs) (id : ℕ) (scripts : Scripts) (h : NodeState) → Fits jobs scripts id h → (p q : Proc) (n : ℕ) (before : Option Wanted) → Bound jobs id (scripts q) h p q n before
    → (after : Scripts) → (later : Script) × (after q ≡ scripts q ++ later) → (a : Act) → NoCause (cause jobs id h a) → Fits jobs after id (settled jobs id (does jobs id h a).left)
    → Heard jobs id (after q) (does jobs id h a).left p q n (wanted_of p a (does jobs id h a).reply before) (told_by p q a (does jobs id h a).reply before)
unfolding cause does
does_heard jobs id scripts h fits p q n before bound after grown (Act.request r) none then = request_heard jobs id scripts h fits p q n before bound after grown r none
does_heard jobs id scripts h fits p q n before bound after grown (Act.commit by b) none then = commit_bound jobs id scripts h fits p q n before bound after grown by b none
does_heard jobs id scripts h fits p q n before bound after grown (Act.deliver frame) none then = deliver_bound jobs id scripts h fits p q n before bound after grown frame then none

-- ---- a step of the world

module _ (jobs : Jobs) (are : AreJobs jobs) (p q : Proc) (apart : same_proc p q ≡ false) where
  abbrev pub WorldBound : World → ℕ → Option Wanted → Type 0
  WorldBound w n wanted = Bound jobs (home_of jobs p) (w.scripts q) (w.nodes (home_of jobs p)) p q n wanted

  abbrev pub WorldHeard : World → ℕ → Option Wanted → Option Answer → Type 0
  WorldHeard w n wanted o = Heard jobs (home_of jobs p) (w.scripts q) (w.nodes (home_of jobs p)) p q n wanted o

  module _ (w : World) (good : Good jobs w) (n : ℕ) (before : Option Wanted) (bound : WorldBound w n before) where
    level_made : (m : ℕ) → level_at (w.nodes m).far q ≤ commits (w.scripts q)
    level_made m = honest_level_is_made (w.scripts q) reach.Far q (w.nodes m).far ((good.fits m).far q)

    same_level : (k : ℕ) → k ≤ k
    same_level k = omega arith

    -- where p's home is as it was
    still_bound : (t : Script) → (later : Script) × (t ≡ w.scripts q ++ later) → Bound jobs (home_of jobs p) t (w.nodes (home_of jobs p)) p q n before
    still_bound t grown =
        bound_grown jobs (home_of jobs p) (w.scripts q) t (w.nodes (home_of jobs p)) (w.nodes (home_of jobs p)) p q n before grown (level_made (home_of jobs p)) (same_level _) refl bound

    here_heard : (a : Act) → FitsAct jobs w.scripts a → (m : ℕ) → m ≡ home_of jobs p
        → Heard jobs m (unless_refused (is_refusal (acts jobs m (w.nodes m) a).reply) w.scripts (says jobs a) q) (acts jobs m (w.nodes m) a).left p q n
        (wanted_of p a (acts jobs m (w.nodes m) a).reply before) (told_by p q a (acts jobs m (w.nodes m) a).reply before)
    here_heard a fit m at =
        let h = w.nodes m in
        let here : Bound jobs m (w.scripts q) h p q n before = subst (λ k. Bound jobs k (w.scripts q) (w.nodes k) p q n before) (sym at) bound in
        let H : Result Done Refusal → Type 0 = λ x.
        Heard jobs m (unless_refused (is_refusal (over jobs m h x).reply) w.scripts (says jobs a) q) (over jobs m h x).left p q n
        (wanted_of p a (over jobs m h x).reply before) (told_by p q a (over jobs m h x).reply before) in
        let F : Result Done Refusal → Type 0 = λ x. Fits jobs (unless_refused (is_refusal (over jobs m h x).reply) w.scripts (says jobs a)) m (over jobs m h x).left in
        elim (by_causes (cause jobs m h a) (does jobs m h a)) [
          | inl found ↦
              subst H (sym found.2) (heard_as jobs m (w.scripts q) h p q n before (wanted_of p a (Reply.refused found.0) before) (told_by p q a (Reply.refused found.0) before)
              (refused_act jobs m h p q a found.0 before found.1) here)
          | inr free ↦
              let d = does jobs m h a in
              let grown = unless_refused (is_refusal d.reply) w.scripts (says jobs a) in
              let then : Fits jobs grown m (settled jobs m d.left) = subst F free.0 (acts_fit jobs are w.scripts m h (good.fits m) good.hosts a fit) in
              subst H (sym free.0) (heard_settled jobs grown m d.left p q n (wanted_of p a d.reply before) (told_by p q a d.reply before) then
              (does_heard jobs m w.scripts h (good.fits m) p q n before here grown (grows_unless (is_refusal d.reply) w.scripts (says jobs a) q) a free.1 then))
        ]

    abbrev HeardAt : ℕ → Act → Scripts → ℕ → NodeState → Type 0
    HeardAt m a scripts k g =
        k ≡ home_of jobs p
        → Heard jobs k (scripts q) g p q n (wanted_of p a (acts jobs m (w.nodes m) a).reply before) (told_by p q a (acts jobs m (w.nodes m) a).reply before)

    act_heard : (m : ℕ) (a : Act) (fit : FitsAct jobs w.scripts a) (out : List Sent)
        → WorldHeard (world_by jobs are w good m a fit out) n (wanted_of p a (acts jobs m (w.nodes m) a).reply before) (told_by p q a (acts jobs m (w.nodes m) a).reply before)
    act_heard m a fit out =
        let grown = scripts_by jobs are w good m a fit in
        each_node (HeardAt m a grown) w.nodes m (left_by jobs are w good m a fit)
        (λ at. here_heard a fit m at)
        (λ k away at.
        subst (λ x. Heard jobs x (grown q) (w.nodes x) p q n (wanted_of p a (acts jobs m (w.nodes m) a).reply before) (told_by p q a (acts jobs m (w.nodes m) a).reply before)) (sym at)
        (heard_as jobs (home_of jobs p) (grown q) (w.nodes (home_of jobs p)) p q n before (wanted_of p a (acts jobs m (w.nodes m) a).reply before) (told_by p q a (acts jobs m (w.nodes m) a).reply before)
        (away_heard jobs m (w.nodes m) p q a before (λ home. away (at ∙ home)))
        (still_bound (grown q) (scripts_grow jobs are w good m a fit q))))
        (home_of jobs p) refl

    act_step_heard : (m : ℕ) (a : Act) → FitsAct jobs w.scripts a → (r : Reply) (v : World) → ActStep jobs w m a r v → WorldHeard v n (wanted_of p a r before) (told_by p q a r before)
    act_step_heard m a fit r v step =
        subst (λ x. WorldHeard v n (wanted_of p a x before) (told_by p q a x before)) (sym step.step.replied)
        (subst (λ (y : World). WorldHeard y n (wanted_of p a (acts jobs m (w.nodes m) a).reply before) (told_by p q a (acts jobs m (w.nodes m) a).reply before))
        (sym (act_world jobs are w good m a fit r v step)) (act_heard m a fit step.out))

    cache_bound : (answer : Result Reply Refusal) (said : Option Said) (r : Reply) (v : World) → CacheStep w answer said r v → WorldBound v n before
    cache_bound answer said r v step =
        subst (λ (y : World). WorldBound y n before) (sym step.left)
        (still_bound (unless_refused (is_refusal r) w.scripts said q) (grows_unless (is_refusal r) w.scripts said q))

    -- a call that is refused for want of a node
    nowhere_heard : (r : Request) (reply : Reply) (v : World) → CacheStep w (Err refusals.BadParam) None reply v → WorldHeard v n (wanted_by p r reply before) (answer_of p q r reply before)
    nowhere_heard r reply v step =
        heard_as jobs (home_of jobs p) (v.scripts q) (v.nodes (home_of jobs p)) p q n before (wanted_by p r reply before) (answer_of p q r reply before)
        (silent_heard p q r reply before (subst IsSilent (sym step.replied) (record { nothing = refl; waits_not = λ x y. refl; ends_not = λ y. refl }))) (cache_bound (Err refusals.BadParam) None reply v step)

    -- a get of one's own key says nothing of q
    none_of_own : (by : Proc) (get : Get) (mode : Mode) (reply : Reply) → same_proc by get.target ≡ true → answer_of p q (Request.ask by get mode) reply before ≡ None
    none_of_own by get mode reply own = by_tests (same_proc p by) (same_proc q get.target) refl refl
      where
        by_tests : (b c : Bool) → same_proc p by ≡ b → same_proc q get.target ≡ c → cond (b && c) (option_map (answer_as get mode) (reply_outcome reply)) None ≡ None
        by_tests true true one other =
            let p_is = exact_procs p by ((Equal-is _).0 one) in
            let q_is = exact_procs q get.target ((Equal-is _).0 other) in
            let by_is = exact_procs by get.target ((Equal-is _).0 own) in
            absurd (false≢true (sym apart ∙ ap (same_proc p) (q_is ∙ sym by_is ∙ sym p_is) ∙ proc_itself p))
        by_tests true false one other = refl
        by_tests false c one other = refl

    own_reply : (x : Option (List ℕ)) (mode : Mode) (wanted : Wanted) → waiting_as wanted (reply_of (resolve (Seen.own x) mode)) before ≡ before
    unfolding resolve
    own_reply None mode wanted = refl
    own_reply (Some v) mode wanted = refl

    own_waits_not : (test : Refusal → Bool) (x : Option (List ℕ)) (mode : Mode) (wanted : Wanted) → waiting_as wanted (reply_or_refusal (first_of test (reply_of (resolve (Seen.own x) mode)))) before ≡ before
    own_waits_not test x mode wanted = elim (by_causes test (reply_of (resolve (Seen.own x) mode))) [
      | inl found ↦ ap (λ (y : Result Reply Refusal). waiting_as wanted (reply_or_refusal y) before) found.2
      | inr free ↦ ap (λ (y : Result Reply Refusal). waiting_as wanted (reply_or_refusal y) before) free.0 ∙ own_reply x mode wanted
    ]

    same_either : (b : Bool) (x : Option Wanted) → cond b x x ≡ x
    same_either true x = refl
    same_either false x = refl

    own_heard : (node : ℕ) (by : Proc) (get : Get) (mode : Mode) → is_own by get ≡ true → (reply : Reply) (v : World) → Does jobs w (own_get jobs w node by get.key mode) reply v
        → WorldHeard v n (wanted_by p (Request.ask by get mode) reply before) (answer_of p q (Request.ask by get mode) reply before)
    own_heard node by get mode own reply v step =
        let wanted : Wanted = record { get = get; mode = mode } in
        let x = last_put reach.Own get.key (w.scripts by) in
        let test = own_cause jobs node (w.nodes node) by in
        let waits : waiting_as wanted reply before ≡ before = ap (λ y. waiting_as wanted y before) step.replied ∙ own_waits_not test x mode wanted in
        heard_as jobs (home_of jobs p) (v.scripts q) (v.nodes (home_of jobs p)) p q n before (wanted_by p (Request.ask by get mode) reply before) (answer_of p q (Request.ask by get mode) reply before)
        (none_of_own by get mode reply (and_parts (same_proc by get.target) (not (is_reserved get.key)) own).0, ap (λ y. cond (same_proc p by) y before) waits ∙ same_either (same_proc p by) before)
        (cache_bound (first_of test (reply_of (resolve (Seen.own x) mode))) None reply v step)

    ask_step : (node : ℕ) (by : Proc) (get : Get) (mode : Mode) (reply : Reply) (v : World) (b : Bool) → is_own by get ≡ b
        → Does jobs w (cond b (own_get jobs w node by get.key mode) (Doing.at_node node (Act.request (Request.ask by get mode)))) reply v
        → WorldHeard v n (wanted_by p (Request.ask by get mode) reply before) (answer_of p q (Request.ask by get mode) reply before)
    ask_step node by get mode reply v true own step = own_heard node by get mode own reply v step
    ask_step node by get mode reply v false own step = act_step_heard node (Act.request (Request.ask by get mode)) tt reply v step

    requests_step : (node : ℕ) (r : Request) (reply : Reply) (v : World) → Does jobs w (requests jobs w node r) reply v → WorldHeard v n (wanted_by p r reply before) (answer_of p q r reply before)
    requests_step node (Request.enter by list collect) reply v step = act_step_heard node (Act.request (Request.enter by list collect)) tt reply v step
    requests_step node (Request.leave by) reply v step = act_step_heard node (Act.request (Request.leave by)) tt reply v step
    requests_step node (Request.ask by get mode) reply v step = ask_step node by get mode reply v (is_own by get) refl step
    requests_step node (Request.take by) reply v step = act_step_heard node (Act.request (Request.take by)) tt reply v step
    requests_step node (Request.terminate by) reply v step = act_step_heard node (Act.request (Request.terminate by)) tt reply v step
    requests_step node (Request.define name list) reply v step = act_step_heard node (Act.request (Request.define name list)) tt reply v step
    requests_step node (Request.delete name) reply v step = act_step_heard node (Act.request (Request.delete name)) tt reply v step
    requests_step node Request.nudge reply v step = act_step_heard node (Act.request Request.nudge) tt reply v step

    node_step : (node : ℕ) (r : Request) (reply : Reply) (v : World) (b : Bool) → Does jobs w (cond b (requests jobs w node r) not_there) reply v
        → WorldHeard v n (wanted_by p r reply before) (answer_of p q r reply before)
    node_step node r reply v true step = requests_step node r reply v step
    node_step node r reply v false step = nowhere_heard r reply v step

    commit_step : (node : ℕ) (by : Proc) (b : _) → FitsAct jobs w.scripts (Act.commit by b) → (reply : Reply) (v : World) (there : Bool)
        → Does jobs w (cond there (Doing.at_node node (Act.commit by b)) not_there) reply v → WorldBound v n before
    commit_step node by b fit reply v true step = act_step_heard node (Act.commit by b) fit reply v step
    commit_step node by b fit reply v false step = cache_bound (Err refusals.BadParam) None reply v step

    deliver_step : (o : Option Sent) → DoingFits jobs w (delivers o) → (reply : Reply) (v : World) → Does jobs w (delivers o) reply v → WorldBound v n before
    deliver_step None fit reply v step = cache_bound (Err refusals.BadParam) None reply v step
    deliver_step (Some s) fit reply v step = act_step_heard s.to (Act.deliver s.frame) fit reply v step

    pub step_heard : (e : Event) (r : Reply) (v : World) → Step jobs w e r v → WorldHeard v n (wanted_after p e r before) (answer_by p q e r before)
    unfolding doing
    step_heard (Event.put by scope key value) r v step = cache_bound _ _ r v step
    step_heard (Event.commit node by) r v step =
        commit_step node by (unsealed_of (cache_of (w.scripts by))) (λ live. batch_fits (cache_of (w.scripts by)) (w.scripts by) (cache_fits (w.scripts by))) r v (is_node jobs node) step
    step_heard (Event.request node request) r v step = node_step node request r v (is_node jobs node) step
    step_heard (Event.deliver i) r v step = deliver_step (numbered w.sent i) (doing_fits jobs w good (Event.deliver i)) r v step

  -- ---- a run

  run_on_from : (w u : World) → Good jobs w → Grows w.scripts u.scripts → (n : ℕ) (wanted : Option Wanted) (rest : List Answer) (o : Option Answer) → WorldHeard w n wanted o
      → ((m : ℕ) → WorldBound w m wanted → AnswersRise jobs (home_of jobs p) (u.scripts q) m rest) → AnswersRise jobs (home_of jobs p) (u.scripts q) n (with_answer o rest)
  unfolding AnswersRise
  run_on_from w u good grows n wanted rest None heard on = on n heard
  run_on_from w u good grows n wanted rest (Some a) heard on =
      let id = home_of jobs p in
      let made = honest_level_is_made (w.scripts q) reach.Far q (w.nodes id).far ((good.fits id).far q) in
      let within : heard.0 ≤ commits (w.scripts q) = omega (arith, heard.2, made) in
      let later : commits (w.scripts q) ≤ commits (u.scripts q) =
      subst (λ (s : Script). commits (w.scripts q) ≤ commits s) (sym (grows q).1) (commits_never_fall (w.scripts q) (grows q).0) in (
        heard.0,
        heard.1,
        omega (arith, within, later),
        heard.3 ∙ ap (λ (x : Seen). resolve x a.mode) (sym (ap (λ (s : Script). seen_at jobs id s heard.0 a.get) (grows q).1 ∙ seen_grown jobs id (w.scripts q) (grows q).0 heard.0 a.get within)),
        on heard.0 heard.4,
      )

  nothing_rises : (u : World) (n : ℕ) → AnswersRise jobs (home_of jobs p) (u.scripts q) n []
  unfolding AnswersRise
  nothing_rises u n = tt

  pub rise_on : (xs : List Happened) (w u : World) → Good jobs w → (n : ℕ) (wanted : Option Wanted) → WorldBound w n wanted → Run jobs w xs u
      → AnswersRise jobs (home_of jobs p) (u.scripts q) n (answers p q wanted xs)
  unfolding Run
  rise_on [] w u good n wanted bound run = nothing_rises u n
  rise_on (x ∷ xs) w u good n wanted bound run =
      let mid = run.0 in
      let good_mid = step_good jobs are w good x.event x.reply mid run.1 in
      let next = wanted_after p x.event x.reply wanted in
      run_on_from mid u good_mid (run_grows jobs xs mid u run.2) n next (answers p q next xs) (answer_by p q x.event x.reply wanted)
      (step_heard w good n wanted bound x.event x.reply mid run.1) (λ m there. rise_on xs mid u good_mid m next there run.2)

pub gets_rise : GetsOnRuns
gets_rise jobs are xs w run p q apart =
    rise_on jobs are p q apart xs (start jobs) w (start_good jobs) 0 None
    (bound_free jobs (home_of jobs p) [] (new_holding jobs (home_of jobs p)) p q 0 None (least_level _) None (new_call p) tt) run
  where
    least_level : (k : ℕ) → 0 ≤ k
    least_level k = omega arith

pub fence_theorem : FenceOnRuns
fence_theorem jobs are xs w run p k gone v out f last collects q i apart ys u run_on =
    let good = always_good jobs are xs w run in
    let id = home_of jobs p in
    let event = Event.request out.0 (Request.leave p) in
    let good_v = step_good jobs are w good event (Reply.released k gone) v out.1 in
    let from = left_fence jobs w good p k gone v out in
    let was = leaves_released jobs w p k gone v out in
    let name : from.name ≡ f = one_name from.name f (last_fence (w.scripts p)) (last_fence (w.scripts p)) from.last last refl in
    let ready : WasReady w.scripts (w.nodes id).far f gone = subst (λ g. WasReady w.scripts (w.nodes id).far g gone) name from.ready in
    let its = ready.covered q i in
    let call : call_of (w.nodes id) p ≡ Some (CallState.released was.name gone) = ap (λ n. call_of (w.nodes n) p) was.home ∙ was.call in
    let bound : WorldBound jobs are p q apart w its.0.level None =
    bound_free jobs id (w.scripts q) (w.nodes id) p q its.0.level None (its.2 collects) (Some (CallState.released was.name gone)) call tt in
    let bound_v = step_heard jobs are p q apart w good its.0.level None bound event (Reply.released k gone) v out.1 in
    (its.0, its.1, rise_on jobs are p q apart ys v u good_v its.0.level None bound_v run_on)
