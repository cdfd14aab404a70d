-- Who speaks in an act or a put, and how each doing fits the scripts.
use Rattle.std.proofs.Common.{◌≡◌, ◌⊎◌, ℕ, zero, suc, Bool, true, false, ◌||◌, cond, List, [], ◌∷◌, ◌++◌, Option, Some, None, Result, inl, inr, refl, sym, ap, subst, ◌∙◌, append_assoc}
use Rattle.std.proofs.lemmas.Bool.{false≢true}
use Rattle.pmg_value.specs.Lists.{Each}
use Rattle.pmg_value.specs.Names.{is_reserved}
use Rattle.pmg_value.specs.declared.process.Proc.{Proc}
use Rattle.pmg_value.specs.declared.refusal.Refusal.{Refusal}
use Rattle.pmg_scope.specs.Cached.{Cached, FitsCache, with_put, after_commit, unsealed_of, no_puts, put_cause}
use Rattle.pmg_scope.specs.Scripts.{Call, Script}
use Rattle.pmg_scope.specs.declared.scope.Scope.{Scope}
use Rattle.pmg_scope.proofs.CacheLaws as caches
use Rattle.pmg_commit.proofs.SealerLaws.{batch_fits}
use Rattle.pmg_pset.specs.Changes.{Change, definition, deletion, script_of}
use Rattle.pmg_pset.specs.Refusing.{delete_cause}
use Rattle.pmg_pset.specs.Sets.{host}
use Rattle.pmg_jobinfo.specs.Jobs.{Jobs, AreJobs, is_node, home_of}
use Rattle.pmg_fence.specs.Entering.{same_proc}
use Rattle.pmg_fence.specs.Rules.{Scripts}
use Rattle.pmg_fence.proofs.HeaderLemmas.{by_proc}
use Rattle.pmg_fence.proofs.LineLemmas.{append_empty}
use Rattle.pmg_get.specs.declared.view.Mode.{Mode}
use Rattle.pmg_node_model.specs.Acts.{Request, Act, Reply, Said, also, caller_cause, busy_cause, free_cause, list_cause, list_of, signature_cause, signature_of, seal_cause, set_cause, name_cause, node_cause, members_of, request_cause, cause, said_by, says}
use Rattle.pmg_node_model.specs.Fitting.{FitsAct, FitsHost, HonestFrame, is_refusal, unless_refused, with_said}
use Rattle.pmg_node_model.specs.Holdings.{Get, NodeState, sealer_of, call_of}
use Rattle.pmg_node_model.specs.declared.sent.Sent.{Sent}
use Rattle.pmg_node_model.proofs.ActsFitted.{home_of_host}
use Rattle.pmg_node_model.proofs.CauseFacts.{NoCause, IsCaller, by_causes, caller_is, free_is, neither, neither_cause, same_node}
use Rattle.pmg_node_model.proofs.Saying.{script_said, host_more}
use Rattle.pmg_group_model.specs.Worlds.{World, Event, Doing, requests, own_get, is_own, puts, not_there, nth, numbered, delivers, cache_from, cache_of, doing, reply_or_refusal}
use Rattle.pmg_group_model.specs.Laws.{Good}

-- ---- caches

cache_goes_on : (c : Cached) (s t : Script) → FitsCache c s → FitsCache (cache_from c t) (s ++ t)
cache_goes_on c s [] fits = subst (FitsCache c) (sym (append_empty s)) fits
cache_goes_on c s (Call.put scope key value ∷ cs) fits =
    subst (FitsCache (cache_from (with_put c scope key value) cs)) (append_assoc s (Call.put scope key value ∷ []) cs)
    (cache_goes_on (with_put c scope key value) (s ++ Call.put scope key value ∷ []) cs (caches.put_fits c s scope key value fits))
cache_goes_on c s (Call.commit ∷ cs) fits =
    subst (FitsCache (cache_from (after_commit c) cs)) (append_assoc s (Call.commit ∷ []) cs) (cache_goes_on (after_commit c) (s ++ Call.commit ∷ []) cs (caches.commit_fits c s fits))
cache_goes_on c s (Call.enter g ∷ cs) fits =
    subst (FitsCache (cache_from c cs)) (append_assoc s (Call.enter g ∷ []) cs) (cache_goes_on c (s ++ Call.enter g ∷ []) cs (caches.enter_fits c s g fits))
cache_goes_on c s (Call.terminate ∷ cs) fits =
    subst (FitsCache (cache_from c cs)) (append_assoc s (Call.terminate ∷ []) cs) (cache_goes_on c (s ++ Call.terminate ∷ []) cs (caches.end_fits c s fits))

-- what a client's cache holds fits its script
pub cache_fits : (s : Script) → FitsCache (cache_of s) s
unfolding cache_of
cache_fits s = cache_goes_on no_puts [] s caches.new_fits

-- ---- who speaks

-- the speaker is at home at the node; it is the host's process alone that changes the sets
abbrev pub SpeakerIs : Jobs → ℕ → Option Said → Type 0
SpeakerIs jobs node None = Unit {0}
SpeakerIs jobs node (Some said) =
    (home_of jobs said.proc ≡ node) × ((same_proc host said.proc ≡ false) ⊎ ((c : Change) × (said ≡ record { proc = host; calls = script_of (c ∷ []) })))

not_host : (p : Proc) (b : Bool) → (is_reserved p.nspace || b) ≡ false → same_proc host p ≡ false
not_host p b e =
    let free = (neither (is_reserved p.nspace) b e).0 in
    let kept : is_reserved host.nspace ≡ true = refl in
    by_proc host p (λ same. absurd (false≢true (sym free ∙ ap (λ (q : Proc). is_reserved q.nspace) (sym same) ∙ kept))) (λ apart. apart)

module _ (jobs : Jobs) (are : AreJobs jobs) (node : ℕ) (h : NodeState) where
  caller_speaks : (p : Proc) (calls : Script) → NoCause (caller_cause jobs node h p) → SpeakerIs jobs node (said_by p calls)
  caller_speaks p calls none = ((caller_is jobs node h p none).home, inl (not_host p _ none.1.0))

  free_speaks : (p : Proc) (calls : Script) (other : Refusal → Bool) → NoCause (also (free_cause jobs node h p) other) → SpeakerIs jobs node (said_by p calls)
  free_speaks p calls other none = caller_speaks p calls (neither_cause (caller_cause jobs node h p) (busy_cause h p) (neither_cause (free_cause jobs node h p) other none).0).0

  host_speaks : (c : Change) (other : Refusal → Bool) → NoCause (also (node_cause node) other) → SpeakerIs jobs node (said_by host (script_of (c ∷ [])))
  host_speaks c other none = (home_of_host jobs are ∙ sym (same_node node 0 (neither_cause (node_cause node) other none).0.1.1.1.0), inr (c, refl))

  request_speaks : (r : Request) → NoCause (request_cause jobs node h r) → SpeakerIs jobs node (says jobs (Act.request r))
  unfolding request_cause says
  request_speaks (Request.enter p list collect) none = free_speaks p _ (also (list_cause jobs (list_of p list)) (signature_cause h (signature_of jobs p list collect) p)) none
  request_speaks (Request.leave p) none = tt
  request_speaks (Request.ask p get mode) none = tt
  request_speaks (Request.take p) none = tt
  request_speaks (Request.terminate p) none = caller_speaks p _ none
  request_speaks (Request.define name list) none = host_speaks (definition name (members_of jobs list)) (also (list_cause jobs list) (set_cause h.sets name list (members_of jobs list))) none
  request_speaks (Request.delete name) none = host_speaks (deletion name) (also (name_cause name) (delete_cause h.sets name)) none
  request_speaks Request.nudge none = tt

  pub act_speaks : (a : Act) → NoCause (cause jobs node h a) → SpeakerIs jobs node (says jobs a)
  unfolding cause says
  act_speaks (Act.request r) none = request_speaks r none
  act_speaks (Act.commit p b) none = free_speaks p _ (seal_cause (sealer_of h p) b) none
  act_speaks (Act.deliver frame) none = tt

-- the host's script is still one of changes
pub host_said : (jobs : Jobs) (node : ℕ) (scripts : Scripts) (refused : Bool) (o : Option Said) → SpeakerIs jobs node o → FitsHost (scripts host) → FitsHost (unless_refused refused scripts o host)
host_said jobs node scripts true o speaks hosts = hosts
host_said jobs node scripts false None speaks hosts = hosts
host_said jobs node scripts false (Some said) speaks hosts = elim speaks.1 [
  | inl apart ↦ subst FitsHost (sym (ap (λ b. cond b (scripts host ++ said.calls) (scripts host)) apart)) hosts
  | inr change ↦
      subst (λ (x : Said). FitsHost (with_said scripts (Some x) host)) (sym change.1)
      (hosts.0 ++ change.0 ∷ [], script_said scripts host (script_of (change.0 ∷ [])) ∙ ap (λ s. s ++ script_of (change.0 ∷ [])) hosts.1 ∙ host_more hosts.0 change.0)
]

-- ---- how each doing fits

-- a put that is not refused: its process is at home at a node, has not ended, and is in no call
pub record IsPut (jobs : Jobs) (w : World) (said : Said) : Type 0 where
  pub proc : Proc
  pub scope : Scope
  pub key : List ℕ
  pub value : List ℕ
  pub is : said ≡ record { proc = proc; calls = Call.put scope key value ∷ [] }
  pub caller : IsCaller jobs (home_of jobs proc) (w.nodes (home_of jobs proc)) proc
  pub free : call_of (w.nodes (home_of jobs proc)) proc ≡ None
  pub member : same_proc host proc ≡ false

-- an act fits the scripts; and a call that a cache answers adds nothing, or is refused, or is a put
abbrev pub DoingFits : Jobs → World → Doing → Type 0
DoingFits jobs w (Doing.at_node node a) = FitsAct jobs w.scripts a
DoingFits jobs w (Doing.by_cache answer None) = Unit {0}
DoingFits jobs w (Doing.by_cache answer (Some said)) = (is_refusal (reply_or_refusal answer) ≡ true) ⊎ IsPut jobs w said

put_fits_so : (jobs : Jobs) (w : World) (p : Proc) (scope : Scope) (key value : List ℕ) → DoingFits jobs w (puts jobs w p scope key value)
put_fits_so jobs w p scope key value =
    let h = w.nodes (home_of jobs p) in
    let test = also (free_cause jobs (home_of jobs p) h p) (put_cause (cache_of (w.scripts p)) scope key value) in
    elim (by_causes test Reply.done) [
      | inl found ↦ inl (ap (λ (x : Result Reply Refusal). is_refusal (reply_or_refusal x)) found.2)
      | inr free ↦
          let none = (neither_cause (free_cause jobs (home_of jobs p) h p) (put_cause (cache_of (w.scripts p)) scope key value) free.1).0 in
          let is = free_is jobs (home_of jobs p) h p none in
          inr (record {
            proc = p;
            scope = scope;
            key = key;
            value = value;
            is = refl;
            caller = is.0;
            free = is.1;
            member = not_host p _ (neither_cause (caller_cause jobs (home_of jobs p) h p) (busy_cause h p) none).0.1.0;
          })
    ]

if_node_fits : (jobs : Jobs) (w : World) (b : Bool) (d : Doing) → DoingFits jobs w d → DoingFits jobs w (cond b d not_there)
if_node_fits jobs w true d fits = fits
if_node_fits jobs w false d fits = tt

ask_fits : (jobs : Jobs) (w : World) (node : ℕ) (p : Proc) (get : Get) (mode : Mode) (b : Bool)
    → DoingFits jobs w (cond b (own_get jobs w node p get.key mode) (Doing.at_node node (Act.request (Request.ask p get mode))))
ask_fits jobs w node p get mode true = tt
ask_fits jobs w node p get mode false = tt

requests_fit : (jobs : Jobs) (w : World) (node : ℕ) (r : Request) → DoingFits jobs w (requests jobs w node r)
requests_fit jobs w node (Request.ask p get mode) = ask_fits jobs w node p get mode (is_own p get)
requests_fit jobs w node _ = tt

nth_is : (P : Sent → Type 0) (xs : List Sent) (i : ℕ) (s : Sent) → Each P xs → nth xs i ≡ Some s → P s
nth_is P [] i s each e = absurd cc
nth_is P (x ∷ xs) zero s each e = subst P (let same : x ≡ s = cc in same) each.0
nth_is P (x ∷ xs) (suc i) s each e = nth_is P xs i s each.1 e

pub numbered_is : (P : Sent → Type 0) (xs : List Sent) (i : ℕ) (s : Sent) → Each P xs → numbered xs i ≡ Some s → P s
numbered_is P xs zero s each e = absurd cc
numbered_is P xs (suc i) s each e = nth_is P xs i s each e

delivers_fit : (jobs : Jobs) (w : World) → Each (λ s. HonestFrame jobs w.scripts s.frame) w.sent → (i : ℕ) (o : Option Sent) → numbered w.sent i ≡ o → DoingFits jobs w (delivers o)
delivers_fit jobs w honest i None is = tt
delivers_fit jobs w honest i (Some s) is = numbered_is (λ s. HonestFrame jobs w.scripts s.frame) w.sent i s honest is

pub doing_fits : (jobs : Jobs) (w : World) → Good jobs w → (e : Event) → DoingFits jobs w (doing jobs w e)
unfolding doing
doing_fits jobs w good (Event.put p scope key value) = put_fits_so jobs w p scope key value
doing_fits jobs w good (Event.commit node p) =
    if_node_fits jobs w (is_node jobs node) (Doing.at_node node (Act.commit p (unsealed_of (cache_of (w.scripts p)))))
    (λ live. batch_fits (cache_of (w.scripts p)) (w.scripts p) (cache_fits (w.scripts p)))
doing_fits jobs w good (Event.request node r) = if_node_fits jobs w (is_node jobs node) (requests jobs w node r) (requests_fit jobs w node r)
doing_fits jobs w good (Event.deliver i) = delivers_fit jobs w good.honest i (numbered w.sent i) refl
