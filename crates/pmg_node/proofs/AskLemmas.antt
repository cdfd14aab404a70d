-- A process asks for a key: how it is judged, and what the get does.
use Rattle.std.proofs.Common.{◌≡◌, ◌⊎◌, ◌<◌, ℕ, suc, Bool, true, false, cond, ◌&&◌, ◌||◌, not, List, [], Option, Some, None, is_none, is_some, Result, Ok, Err, inl, inr, refl, sym, ap, subst, ◌∙◌}
use Rattle.std.specs.Prelude.{◌==◌, nat_le}
use Rattle.std.specs.Option.{option_map}
use Rattle.std.proofs.lemmas.Bool.{false≢true, not-false, leb-false}
use Rattle.pmg_value.specs.Answers.{Fails, IsAnswer}
use Rattle.pmg_value.specs.CheckOrder.{first_of}
use Rattle.pmg_value.specs.Names.{is_reserved}
use Rattle.pmg_value.specs.Spelling.{spelling}
use Rattle.pmg_value.specs.declared.process.Proc.{Proc}
use Rattle.pmg_value.specs.declared.refusal.Refusal.{Refusal}
use Rattle.pmg_value.specs.declared.refusal.Refusal.TheVariants as refusals
use Rattle.pmg_value.specs.declared.value.Value.{Value}
use Rattle.pmg_scope.specs.Scripts.{term_key}
use Rattle.pmg_commit.specs.Data.{read_at}
use Rattle.pmg_fence.specs.Entering.{same_proc}
use Rattle.pmg_fence.proofs.EntryLemmas.{proc_itself}
use Rattle.pmg_get.specs.Gets.{Seen, Outcome, found_or, resolve}
use Rattle.pmg_get.specs.declared.view.Mode.{Mode}
use Rattle.pmg_get.specs.declared.view.Mode.TheVariants as modes
use Rattle.pmg_jobinfo.specs.Jobs.{Jobs, is_node, is_registered, is_member, home_of}
use Rattle.pmg_jobinfo.specs.Refusing.{reserved_cause}
use Rattle.pmg_jobinfo.specs.Reserved.{is_general, reserved_value}
use Rattle.pmg_dmodex.specs.Levels.{Levels}
use Rattle.pmg_node_model.specs.Acts.{Act, Request, Reply, Done, also, caller_cause, busy_cause, free_cause, target_cause, number_cause, is_misnamed, cause, request_cause, reply_of, done_as, waits_as, parks, asks, serves, does, acts}
use Rattle.pmg_node_model.specs.Choosing.{Out, asking_for, due_by, due_by_request, marked_by_act, sends, chosen}
use Rattle.pmg_node_model.specs.Holdings.{Get, CallState, NodeState, sealer_of, call_of, answer_in, seen_of, settled}
use Rattle.pmg_node_model.specs.Kept.{IsSettled}
use Rattle.pmg_node_model.specs.Sending.{is_quiet}
use Rattle.pmg_node.specs.Servers.{Server, Refuses, reply_to, sent_by, after}
use Rattle.pmg_node_model.specs.declared.due.ToSend.{ToSend}
use Rattle.pmg_node.proofs.ActLemmas.{accepted_after, accepted_sent}
use Rattle.pmg_node.proofs.CommitLemmas.{then_full}
use Rattle.pmg_node_model.proofs.CallFacts.{call-called}
use Rattle.pmg_node_model.proofs.CauseFacts.{NoCause, by_causes, neither, neither_cause, free_is}
use Rattle.pmg_node_model.proofs.KeptBasics.{put_cases}
use Rattle.pmg_node_model.proofs.KeptSettled.{settled_same, resolve_parks, parks_waiting, parks_anew, parked_settled}
use Rattle.pmg_node.proofs.RefusalLemmas.{fails_as}
use Rattle.pmg_node.proofs.SilentLemmas.{act_free, none_due, after_is, sent_none}

-- ---- who asks, and for whose key

abbrev pub ask_of : Proc → Get → Mode → Act
ask_of p get mode = Act.request (Request.ask p get mode)

-- what is judged of an act: who asks for whose key
abbrev pub named : Jobs → ℕ → NodeState → Proc → Get → Result (Unit {0}) Refusal
named jobs id h p get = first_of (also (free_cause jobs id h p) (target_cause jobs p get)) tt

-- and whether there is a number for its request
abbrev pub ask_causes : Jobs → ℕ → NodeState → Proc → Get → Mode → Refusal → Bool
ask_causes jobs id h p get mode = also (free_cause jobs id h p) (also (target_cause jobs p get) (number_cause jobs id h get mode))

abbrev pub judged : Jobs → ℕ → NodeState → Proc → Get → Mode → Result (Unit {0}) Refusal
judged jobs id h p get mode = first_of (ask_causes jobs id h p get mode) tt

-- the first refusal, by the causes of the caller, and whether the target is bad, or of no namespace that is registered
abbrev asked_first : Bool → Bool → Bool → Bool → Bool → Bool → Bool → Result (Unit {0}) Refusal
asked_first a b c d e bad unknown =
    cond ((a || false) || bad) (Err refusals.BadParam)
    (cond ((b || false) || unknown) (Err refusals.UnknownNamespace)
    (cond ((c || false) || false) (Err refusals.NotMine)
    (cond ((d || false) || false) (Err refusals.Terminated) (cond (e || false) (Err refusals.Busy) (Ok tt)))))

-- and of the caller alone
abbrev free_first : Bool → Bool → Bool → Bool → Bool → Result (Unit {0}) Refusal
free_first a b c d e =
    cond (a || false) (Err refusals.BadParam)
    (cond (b || false) (Err refusals.UnknownNamespace)
    (cond (c || false) (Err refusals.NotMine) (cond (d || false) (Err refusals.Terminated) (cond e (Err refusals.Busy) (Ok tt)))))

bad_first : (a b c d e unknown : Bool) → asked_first a b c d e true unknown ≡ Err refusals.BadParam
bad_first true b c d e unknown = refl
bad_first false b c d e unknown = refl

known_first : (a b c d e : Bool) → asked_first a b c d e false false ≡ free_first a b c d e
known_first true b c d e = refl
known_first false true c d e = refl
known_first false false true d e = refl
known_first false false false true e = refl
known_first false false false false true = refl
known_first false false false false false = refl

numbered_first : (a b c d e bad unknown t : Bool)
    → cond ((a || false) || (bad || false)) (Err refusals.BadParam)
    (cond ((b || false) || (unknown || false)) (Err refusals.UnknownNamespace)
    (cond ((c || false) || false) (Err refusals.NotMine)
    (cond ((d || false) || false) (Err refusals.Terminated) (cond (e || false) (Err refusals.Busy) (cond t (Err refusals.TooMany) (Ok (tt {0})))))))
    ≡ then_full (asked_first a b c d e bad unknown) t
numbered_first true b c d e bad unknown t = refl
numbered_first false b c d e true unknown t = refl
numbered_first false true c d e false unknown t = refl
numbered_first false false c d e false true t = refl
numbered_first false false true d e false false t = refl
numbered_first false false false true e false false t = refl
numbered_first false false false false true false false t = refl
numbered_first false false false false false false false t = refl

module _ (jobs : Jobs) (id : ℕ) (h : NodeState) (p : Proc) (get : Get) where
  abbrev caller_has : Refusal → Bool
  caller_has e = caller_cause jobs id h p e

  abbrev is_busy : Bool
  is_busy = busy_cause h p refusals.Busy

  ask_first : (bad unknown : Bool) → target_cause jobs p get refusals.BadParam ≡ bad → target_cause jobs p get refusals.UnknownNamespace ≡ unknown
      → named jobs id h p get
      ≡ asked_first (caller_has refusals.BadParam) (caller_has refusals.UnknownNamespace) (caller_has refusals.NotMine) (caller_has refusals.Terminated) is_busy bad unknown
  ask_first bad unknown is there =
      λ i. asked_first (caller_has refusals.BadParam) (caller_has refusals.UnknownNamespace) (caller_has refusals.NotMine) (caller_has refusals.Terminated) is_busy
      (is i) (there i)

  pub ask_bad : target_cause jobs p get refusals.BadParam ≡ true → named jobs id h p get ≡ Err refusals.BadParam
  ask_bad is =
      ask_first true (target_cause jobs p get refusals.UnknownNamespace) is refl
      ∙ bad_first (caller_has refusals.BadParam) (caller_has refusals.UnknownNamespace) (caller_has refusals.NotMine) (caller_has refusals.Terminated) is_busy
      (target_cause jobs p get refusals.UnknownNamespace)

  -- a target that may be named leaves the caller to be judged
  pub ask_known : target_cause jobs p get refusals.BadParam ≡ false → is_registered jobs get.target.nspace ≡ true
      → named jobs id h p get ≡ first_of (free_cause jobs id h p) (tt {0})
  ask_known is there =
      ask_first false false is (ap not there)
      ∙ known_first (caller_has refusals.BadParam) (caller_has refusals.UnknownNamespace) (caller_has refusals.NotMine) (caller_has refusals.Terminated) is_busy

  -- whoever may ask for the key is refused where there is no number
  pub ask_numbered : (mode : Mode) → judged jobs id h p get mode ≡ then_full (named jobs id h p get) (number_cause jobs id h get mode refusals.TooMany)
  ask_numbered mode =
      numbered_first (caller_has refusals.BadParam) (caller_has refusals.UnknownNamespace) (caller_has refusals.NotMine) (caller_has refusals.Terminated) is_busy
      (target_cause jobs p get refusals.BadParam) (target_cause jobs p get refusals.UnknownNamespace) (number_cause jobs id h get mode refusals.TooMany)

full_not : (r : Result (Unit {0}) Refusal) (t : Bool) → then_full r t ≡ Ok tt → t ≡ false
full_not (Err e) t is = absurd cc
full_not (Ok u) true is = absurd cc
full_not (Ok u) false is = refl

-- where a get that asks anew waits, there is a number for its request
pub number_left : (jobs : Jobs) (id : ℕ) (h : NodeState) (p : Proc) (get : Get) → judged jobs id h p get modes.Refresh ≡ Ok tt → answer_in jobs id h get modes.Refresh ≡ Outcome.parks
    → h.requests < 18446744073709551615
number_left jobs id h p get free waits =
    let anew = parks_anew jobs id h get waits in
    let none = full_not (named jobs id h p get) (number_cause jobs id h get modes.Refresh refusals.TooMany) (sym (ask_numbered jobs id h p get modes.Refresh) ∙ free) in
    leb-false 18446744073709551615 h.requests ((λ i. (not (sym anew.0 i) && not (sym anew.1 i)) && nat_le 18446744073709551615 h.requests) ∙ none)

-- what is judged of an act that is not refused: the target may be named, and the caller is in no call
pub record IsAsked (jobs : Jobs) (h : NodeState) (p : Proc) (get : Get) : Type 0 where
  pub named : target_cause jobs p get refusals.BadParam ≡ false
  pub known : is_registered jobs get.target.nspace ≡ true
  pub idle : call_of h p ≡ None

none_asked : (jobs : Jobs) (id : ℕ) (h : NodeState) (p : Proc) (get : Get) (mode : Mode) → NoCause (ask_causes jobs id h p get mode) → IsAsked jobs h p get
none_asked jobs id h p get mode none =
    let each = neither_cause (free_cause jobs id h p) (also (target_cause jobs p get) (number_cause jobs id h get mode)) none in
    let its = neither_cause (target_cause jobs p get) (number_cause jobs id h get mode) each.1 in
    record {
      named = its.0.1.0;
      known = not-false (is_registered jobs get.target.nspace) its.0.1.1.0;
      idle = (free_is jobs id h p each.0).1;
    }

pub ask_free : (jobs : Jobs) (id : ℕ) (h : NodeState) (p : Proc) (get : Get) (mode : Mode) → judged jobs id h p get mode ≡ Ok tt → IsAsked jobs h p get
ask_free jobs id h p get mode free = elim (by_causes (ask_causes jobs id h p get mode) (tt {0})) [
  | inl found ↦ absurd (not_both found.0 (sym found.2 ∙ free))
  | inr none ↦ none_asked jobs id h p get mode none.1
]
  where
    not_both : (e : Refusal) → ◌≡◌ {A = Result (Unit {0}) Refusal} (Err e) (Ok tt) → ⊥
    not_both e is = cc

if_reserved : (reserved key a b : Bool) → (reserved || cond key a b) ≡ false → key ≡ true → a ≡ false
if_reserved reserved key a b none is = (neither reserved a (ap (λ k. reserved || cond k a b) (sym is) ∙ none)).1

-- the target of a reserved key is one of its namespace, or all of it
pub reserved_named : (jobs : Jobs) (p : Proc) (get : Get) → target_cause jobs p get refusals.BadParam ≡ false → is_reserved get.key ≡ true
    → (not (is_general get.target) && is_misnamed jobs get.target) ≡ false
reserved_named jobs p get none is =
    if_reserved (is_reserved get.target.nspace) (is_reserved get.key) (not (is_general get.target) && is_misnamed jobs get.target)
    (is_general get.target || same_proc p get.target || is_misnamed jobs get.target) none is

-- ---- reserved keys

not_refused : (node general registered member : Bool) → node ≡ true → (not general && (registered && not member)) ≡ false
    → (not node || (registered && (not general && not member))) ≡ false
not_refused true true true member n e = refl
not_refused true true false member n e = refl
not_refused true false true member n e = e
not_refused true false false member n e = refl
not_refused false general registered member n e = absurd (false≢true n)

-- there is a value, or it is NotFound
abbrev pub value_first : Option Value → Result (Option Value) Refusal
value_first value = cond (is_none value) (Err refusals.NotFound) (Ok value)

module _ (jobs : Jobs) (id : ℕ) (get : Get) where
  -- what the registry has
  abbrev told_value : Option Value
  told_value = reserved_value jobs id get.target get.key

  abbrev pub told_first : Result (Option Value) Refusal
  told_first = first_of (reserved_cause jobs id get.target get.key) (reserved_value jobs id get.target get.key)

  -- what a get is answered with it
  abbrev told_outcome : Option Value → Outcome
  told_outcome value = found_or (option_map spelling value) Outcome.absent

  registry_first : is_node jobs id ≡ true → is_registered jobs get.target.nspace ≡ true
      → (not (is_general get.target) && is_misnamed jobs get.target) ≡ false → told_first ≡ value_first told_value
  registry_first node known named =
      let bad = not_refused (is_node jobs id) (is_general get.target) (is_registered jobs get.target.nspace) (is_member jobs get.target) node named in
      λ i. cond (bad i) (Err refusals.BadParam) (cond (not (known i)) (Err refusals.UnknownNamespace) (value_first told_value))

  reserved_answer : (h : NodeState) (mode : Mode) → is_reserved get.key ≡ true → answer_in jobs id h get mode ≡ told_outcome told_value
  unfolding seen_of resolve
  reserved_answer h mode is =
      let near = read_at h.near get.target in
      let far = read_at h.far get.target in
      let local = Seen.local (near get.key) (far get.key) (is_some (near term_key)) in
      let remote = Seen.remote (far get.key) (is_some (far term_key)) in
      ap (λ (b : Bool). resolve (cond b (Seen.reserved (option_map spelling told_value)) (cond (home_of jobs get.target == id) local remote)) mode) is

  value_is : (o : Option Value) (v : Value) → value_first o ≡ Ok (Some v) → o ≡ Some v
  value_is None v e = absurd cc
  value_is (Some w) v e = cc

  refuses_value : (o : Option Value) (e : Refusal) → ((e ≡ refusals.NoMemory) × IsAnswer (value_first o)) ⊎ (value_first o ≡ Err e)
      → Refuses e (reply_of (told_outcome o))
  refuses_value None e (inl memory) = absurd memory.1
  refuses_value None e (inr is) = subst (λ (r : Refusal). Refuses r (Reply.refused refusals.NotFound)) (not_found e is) refl
    where
      not_found : (e : Refusal) → ◌≡◌ {A = Result (Option Value) Refusal} (Err refusals.NotFound) (Err e) → refusals.NotFound ≡ e
      not_found e is = cc
  refuses_value (Some v) e (inl memory) = subst (λ (r : Refusal). Refuses r (Reply.found (spelling v))) (sym memory.0) tt
  refuses_value (Some v) e (inr is) = absurd cc

  module _
      (h : NodeState)
      (mode : Mode)
      (reserved : is_reserved get.key ≡ true)
      (node : is_node jobs id ≡ true)
      (known : is_registered jobs get.target.nspace ≡ true)
      (named : (not (is_general get.target) && is_misnamed jobs get.target) ≡ false) where
    pub reserved_found : (v : Value) → told_first ≡ Ok (Some v) → reply_of (answer_in jobs id h get mode) ≡ Reply.found (spelling v)
    reserved_found v is =
        ap reply_of (reserved_answer h mode reserved ∙ ap told_outcome (value_is told_value v (sym (registry_first node known named) ∙ is)))

    pub reserved_refuses : (e : Refusal) → Fails e told_first → Refuses e (reply_of (answer_in jobs id h get mode))
    reserved_refuses e fails =
        subst (λ (o : Outcome). Refuses e (reply_of o)) (sym (reserved_answer h mode reserved))
        (refuses_value told_value e
        (fails_as e (value_first told_value) (subst (λ (r : Result (Option Value) Refusal). Fails e r) (registry_first node known named) fails)))

-- ---- the get

-- a get that looks only at what its node holds waits for nothing
pub now_told : (jobs : Jobs) (id : ℕ) (h : NodeState) (get : Get) → answer_in jobs id h get modes.Now ≡ Outcome.parks → ⊥
now_told jobs id h get waits = elim (resolve_parks (seen_of jobs id (read_at h.near get.target) (read_at h.far get.target) get) modes.Now waits) [
  | inl is ↦ other_mode is
  | inr is ↦ other_mode_too is
]
  where
    other_mode : modes.Now ≡ modes.Wait → ⊥
    other_mode is = cc

    other_mode_too : modes.Now ≡ modes.Refresh → ⊥
    other_mode_too is = cc

-- whoever waits so has nothing to be settled
pub waiting_settled : (jobs : Jobs) (id : ℕ) (h : NodeState) → IsSettled jobs id h → (p : Proc) (get : Get) (mode : Mode) → answer_in jobs id h get mode ≡ Outcome.parks
    → IsSettled jobs id (parks h p get mode)
waiting_settled jobs id h is p get modes.Wait waits = parked_settled jobs id h is p get waits
waiting_settled jobs id h is p get modes.Now waits = parked_settled jobs id h is p get (parks_waiting jobs id h get modes.Now waits (λ other. cc))
waiting_settled jobs id h is p get modes.Refresh waits = record {
  fences = λ q f e. put_cases h.calls p q (CallState.refreshing get (suc h.requests)) (CallState.in_fence f) e (λ same it. absurd cc) (is.fences q f);
  gets = λ q other e. put_cases h.calls p q (CallState.refreshing get (suc h.requests)) (CallState.parked other) e (λ same it. absurd cc) (is.gets q other);
}

-- what the get is answered at the node
abbrev pub answer_at : Server → Get → Mode → Outcome
answer_at s get mode = answer_in s.jobs s.id s.holding get mode

-- a reply by which a get does not wait
abbrev pub IsTold : Reply → Type 0
IsTold reply = reply ≡ Reply.parked → ⊥

-- the process waits for the key
abbrev pub parked_at : Levels → Proc → Get → Mode → Server → Server
parked_at marks p get mode s = record { jobs = s.jobs; id = s.id; holding = parks s.holding p get mode; marks = marks }

-- what goes out then
abbrev pub park_out : Get → Mode → Server → Out
park_out get mode s = sends (sealer_of s.holding) s.marks (asking_for s.jobs s.id s.holding (Some (waits_as s.holding.requests get mode)))

pub found_told : (v : List ℕ) → IsTold (Reply.found v)
found_told v is = cc

pub refused_told : (e : Refusal) → IsTold (Reply.refused e)
refused_told e is = cc

pub parks_by : (o : Outcome) → reply_of o ≡ Reply.parked → o ≡ Outcome.parks
parks_by (Outcome.found value) is = absurd cc
parks_by Outcome.absent is = absurd cc
parks_by Outcome.outside is = absurd cc
parks_by Outcome.parks is = refl

module _ (s : Server) (p : Proc) (get : Get) (mode : Mode) where
  pub ask_cause : (r : Result (Unit {0}) Refusal) → judged s.jobs s.id s.holding p get mode ≡ r
      → first_of (cause s.jobs s.id s.holding (ask_of p get mode)) (tt {0}) ≡ r
  unfolding cause request_cause
  ask_cause r is = is

  module _ (is : IsSettled s.jobs s.id s.holding) (free : judged s.jobs s.id s.holding p get mode ≡ Ok tt) where
    reply_as : (o : Outcome) → (asks s.holding p get mode o).reply ≡ reply_of o
    reply_as (Outcome.found value) = refl
    reply_as Outcome.absent = refl
    reply_as Outcome.outside = refl
    reply_as Outcome.parks = refl

    -- the reply is the one of what the get is answered
    pub ask_reply : reply_to s (ask_of p get mode) ≡ reply_of (answer_at s get mode)
    unfolding does serves
    ask_reply =
        ap (λ (d : Done). d.reply) (act_free s.jobs s.id s.holding (ask_of p get mode) (ask_cause (Ok tt) free))
        ∙ reply_as (answer_at s get mode)

    stays_as : (o : Outcome) → IsTold (reply_of o)
        → done_as (asks s.holding p get mode o).reply (settled s.jobs s.id (asks s.holding p get mode o).left) ≡ done_as (reply_of o) s.holding
    stays_as (Outcome.found value) told = ap (done_as (Reply.found value)) (settled_same s.jobs s.id s.holding is)
    stays_as Outcome.absent told = ap (done_as (Reply.refused refusals.NotFound)) (settled_same s.jobs s.id s.holding is)
    stays_as Outcome.outside told = ap (done_as (Reply.refused refusals.OutsideScope)) (settled_same s.jobs s.id s.holding is)
    stays_as Outcome.parks told = absurd (told refl)

    module _ (told : IsTold (reply_of (answer_at s get mode))) where
      told_is : acts s.jobs s.id s.holding (ask_of p get mode) ≡ done_as (reply_of (answer_at s get mode)) s.holding
      unfolding does serves
      told_is = act_free s.jobs s.id s.holding (ask_of p get mode) (ask_cause (Ok tt) free) ∙ stays_as (answer_at s get mode) told

      told_silent : chosen s.jobs s.id s.holding s.marks (ask_of p get mode) ≡ record { frames = []; marks = s.marks }
      unfolding due_by due_by_request marked_by_act
      told_silent =
          none_due s.jobs s.id s.holding (ask_of p get mode) s.marks
          (ap (λ (d : Done). asking_for s.jobs s.id d.left (call_of d.left p)) told_is
          ∙ ap (asking_for s.jobs s.id s.holding) (ask_free s.jobs s.id s.holding p get mode free).idle)
          refl

      -- a get that is answered changes nothing
      pub told_after : after s (ask_of p get mode) ≡ s
      told_after = after_is s (ask_of p get mode) told_silent (done_as (reply_of (answer_at s get mode)) s.holding) told_is

      pub told_sent : sent_by s (ask_of p get mode) ≡ []
      told_sent = sent_none s (ask_of p get mode) told_silent

    module _ (waits : answer_at s get mode ≡ Outcome.parks) where
      -- what is held then, and what is due
      abbrev held_then : NodeState
      held_then = parks s.holding p get mode

      abbrev home_asked : List ToSend
      home_asked = asking_for s.jobs s.id s.holding (Some (waits_as s.holding.requests get mode))

      park_loud : is_quiet (does s.jobs s.id s.holding (ask_of p get mode)).reply ≡ false
      unfolding does serves
      park_loud = ap (λ (o : Outcome). is_quiet (asks s.holding p get mode o).reply) waits

      park_leaves : settled s.jobs s.id (does s.jobs s.id s.holding (ask_of p get mode)).left ≡ held_then
      unfolding does serves
      park_leaves =
          ap (λ (o : Outcome). settled s.jobs s.id (asks s.holding p get mode o).left) waits
          ∙ settled_same s.jobs s.id held_then (waiting_settled s.jobs s.id s.holding is p get mode waits)

      owes_as : (m : Mode) → asking_for s.jobs s.id (parks s.holding p get m) (Some (waits_as s.holding.requests get m)) ≡ asking_for s.jobs s.id s.holding (Some (waits_as s.holding.requests get m))
      owes_as modes.Wait = refl
      owes_as modes.Now = refl
      owes_as modes.Refresh = refl

      park_owes : due_by s.jobs s.id s.holding (ask_of p get mode) held_then ≡ home_asked
      unfolding due_by due_by_request
      park_owes =
          let standing = waits_as s.holding.requests get mode in
          ap (asking_for s.jobs s.id held_then)
          (call-called s.holding p standing p ∙ ap (λ (b : Bool). cond b (Some standing) (call_of s.holding p)) (proc_itself p))
          ∙ owes_as mode

      pub parks_after : after s (ask_of p get mode) ≡ parked_at (park_out get mode s).marks p get mode s
      unfolding marked_by_act
      parks_after = accepted_after s (ask_of p get mode) (ask_cause (Ok tt) free) park_loud held_then park_leaves home_asked park_owes

      pub parks_sent : sent_by s (ask_of p get mode) ≡ (park_out get mode s).frames
      unfolding marked_by_act
      parks_sent = accepted_sent s (ask_of p get mode) (ask_cause (Ok tt) free) park_loud held_then park_leaves home_asked park_owes

      -- a node that is left with the call and these marks is the one after the act
      pub park_moved : (old new : Server) (marks : Levels) → old ≡ s → marks ≡ (park_out get mode s).marks
          → new ≡ parked_at marks p get mode old → new ≡ after s (ask_of p get mode)
      park_moved old new marks same out is = is ∙ (λ i. parked_at (out i) p get mode (same i)) ∙ sym parks_after

pub park_sends : (s old : Server) (get : Get) (mode : Mode) (dues : List ToSend) → old ≡ s → dues ≡ asking_for s.jobs s.id s.holding (Some (waits_as s.holding.requests get mode))
    → sends (sealer_of old.holding) old.marks dues ≡ park_out get mode s
park_sends s old get mode dues same due = λ i. sends (sealer_of (same i).holding) (same i).marks (due i)
