-- Acts that are refused, and acts that send nothing.
use Rattle.std.proofs.Common.{◌≡◌, ℕ, Bool, true, false, cond, List, [], ◌∷◌, Option, Some, None, Result, Ok, Err, refl, ap, ◌∙◌}
use Rattle.pmg_value.specs.CheckOrder.{check_order, first_in, first_of}
use Rattle.pmg_value.specs.declared.process.Proc.{Proc}
use Rattle.pmg_value.specs.declared.refusal.Refusal.{Refusal}
use Rattle.pmg_jobinfo.specs.Jobs.{Jobs}
use Rattle.pmg_dmodex.specs.Levels.{Levels}
use Rattle.pmg_node_model.specs.Acts.{Act, Request, Reply, Done, done_as, cause, request_cause, caller_cause, serves, does, leaves, takes, over, acts}
use Rattle.pmg_node_model.specs.Choosing.{Out, due_by, due_by_request, marked_by_act, sends, chosen}
use Rattle.pmg_node_model.specs.Holdings.{CallState, NodeState, sealer_of, call_of, uncalled, settled}
use Rattle.pmg_node_model.specs.Kept.{IsSettled}
use Rattle.pmg_node.specs.Replies.{stays_reply, released_reply, pending_reply, answered_reply}
use Rattle.pmg_node_model.specs.Sending.{is_quiet}
use Rattle.pmg_node.specs.Servers.{Server, sent_by, after}
use Rattle.pmg_node_model.proofs.KeptBasics.{removed_some}
use Rattle.pmg_node_model.proofs.KeptSettled.{settled_same}

-- the answer where nothing is refused
abbrev pub then_answer : {Y : Type 0} → Result (Unit {0}) Refusal → Y → Result Y Refusal
then_answer (Err e) y = Err e
then_answer (Ok u) y = Ok y

one_then : {Y : Type 0} (e : Refusal) (y : Y) (rest : Result Y Refusal) (others : Result (Unit {0}) Refusal) → rest ≡ then_answer others y
    → (b : Bool) → cond b (Err e) rest ≡ then_answer (cond b (Err e) others) y
one_then e y rest others same true = refl
one_then e y rest others same false = same

pub first_then : {Y : Type 0} (has_cause : Refusal → Bool) (y : Y) (es : List Refusal) → first_in es has_cause y ≡ then_answer (first_in es has_cause (tt {0})) y
first_then has_cause y [] = refl
first_then has_cause y (e ∷ es) = one_then e y (first_in es has_cause y) (first_in es has_cause (tt {0})) (first_then has_cause y es) (has_cause e)

module _ (jobs : Jobs) (id : ℕ) (h : NodeState) (a : Act) where
  pub acts_by : acts jobs id h a ≡ over jobs id h (then_answer (first_of (cause jobs id h a) tt) (does jobs id h a))
  acts_by = ap (over jobs id h) (first_then (cause jobs id h a) (does jobs id h a) check_order)

  -- a refusal changes nothing
  pub act_refused : (e : Refusal) → first_of (cause jobs id h a) (tt {0}) ≡ Err e → acts jobs id h a ≡ done_as (Reply.refused e) h
  act_refused e is = acts_by ∙ ap (λ (r : Result (Unit {0}) Refusal). over jobs id h (then_answer r (does jobs id h a))) is

  pub act_free : first_of (cause jobs id h a) (tt {0}) ≡ Ok tt → acts jobs id h a ≡ done_as (does jobs id h a).reply (settled jobs id (does jobs id h a).left)
  act_free is = acts_by ∙ ap (λ (r : Result (Unit {0}) Refusal). over jobs id h (then_answer r (does jobs id h a))) is

  -- what an act sends that is not quiet
  pub sent_as : (marks : Levels) (d : Done) → acts jobs id h a ≡ d → is_quiet d.reply ≡ false → chosen jobs id h marks a ≡ sends (sealer_of d.left) (marked_by_act marks a) (due_by jobs id h a d.left)
  unfolding chosen
  sent_as marks d is loud =
      ap (λ (e : Done). cond (is_quiet e.reply) (record { frames = []; marks = marks }) (sends (sealer_of e.left) (marked_by_act marks a) (due_by jobs id h a e.left))) is
      ∙ ap (λ (b : Bool). cond b (record { frames = []; marks = marks }) (sends (sealer_of d.left) (marked_by_act marks a) (due_by jobs id h a d.left))) loud

  -- and one that is
  pub quiet_silent : (marks : Levels) (d : Done) → acts jobs id h a ≡ d → is_quiet d.reply ≡ true → chosen jobs id h marks a ≡ record { frames = []; marks = marks }
  unfolding chosen
  quiet_silent marks d is quiet =
      ap (λ (e : Done). cond (is_quiet e.reply) (record { frames = []; marks = marks }) (sends (sealer_of e.left) (marked_by_act marks a) (due_by jobs id h a e.left))) is
      ∙ ap (λ (b : Bool). cond b (record { frames = []; marks = marks }) (sends (sealer_of d.left) (marked_by_act marks a) (due_by jobs id h a d.left))) quiet

  -- and sends nothing
  pub refused_silent : (marks : Levels) (e : Refusal) → first_of (cause jobs id h a) (tt {0}) ≡ Err e → chosen jobs id h marks a ≡ record { frames = []; marks = marks }
  refused_silent marks e is = quiet_silent marks (done_as (Reply.refused e) h) (act_refused e is) refl

  -- where nothing is due, nothing is sent
  pub none_due : (marks : Levels) → due_by jobs id h a (acts jobs id h a).left ≡ [] → marked_by_act marks a ≡ marks → chosen jobs id h marks a ≡ record { frames = []; marks = marks }
  unfolding chosen sends
  none_due marks none same = by_test (is_quiet (acts jobs id h a).reply)
    where
      nothing : Out
      nothing = record { frames = []; marks = marks }

      out : sends (sealer_of (acts jobs id h a).left) (marked_by_act marks a) (due_by jobs id h a (acts jobs id h a).left) ≡ nothing
      out = λ i. sends (sealer_of (acts jobs id h a).left) (same i) (none i)

      by_test : (b : Bool) → cond b nothing (sends (sealer_of (acts jobs id h a).left) (marked_by_act marks a) (due_by jobs id h a (acts jobs id h a).left)) ≡ nothing
      by_test true = refl
      by_test false = out

-- a node after an act that sends nothing
module _ (s : Server) (a : Act) (silent : chosen s.jobs s.id s.holding s.marks a ≡ record { frames = []; marks = s.marks }) where
  pub after_is : (d : Done) → acts s.jobs s.id s.holding a ≡ d → after s a ≡ record { jobs = s.jobs; id = s.id; holding = d.left; marks = s.marks }
  after_is d is = λ i. record { jobs = s.jobs; id = s.id; holding = (is i).left; marks = (silent i).marks }

  pub sent_none : sent_by s a ≡ []
  sent_none = ap (λ (out : Out). out.frames) silent

-- who is in no call any more changes nothing for the others
pub uncalled_settled : (jobs : Jobs) (id : ℕ) (h : NodeState) (p : Proc) → IsSettled jobs id h → IsSettled jobs id (uncalled h p)
uncalled_settled jobs id h p is = record {
  fences = λ q f e. is.fences q f (removed_some h.calls p q (CallState.in_fence f) e);
  gets = λ q get e. is.gets q get (removed_some h.calls p q (CallState.parked get) e);
}

-- an act that is free, and leaves what is settled
done_settled : (jobs : Jobs) (id : ℕ) (h : NodeState) (a : Act) (d : Done) → first_of (cause jobs id h a) (tt {0}) ≡ Ok tt → does jobs id h a ≡ d → settled jobs id d.left ≡ d.left → acts jobs id h a ≡ d
done_settled jobs id h a d free is stays = act_free jobs id h a free ∙ (λ i. done_as (is i).reply (settled jobs id (is i).left)) ∙ ap (done_as d.reply) stays

-- ---- a process leaves its fence, or takes its answer

-- it is in no call any more
abbrev pub without_call : Server → Proc → Server
without_call s p = record { jobs = s.jobs; id = s.id; holding = uncalled s.holding p; marks = s.marks }

module _ (jobs : Jobs) (id : ℕ) (h : NodeState) (p : Proc) where
  -- it is judged as each caller is
  pub leave_refused : (e : Refusal) → first_of (caller_cause jobs id h p) (tt {0}) ≡ Err e → first_of (cause jobs id h (Act.request (Request.leave p))) (tt {0}) ≡ Err e
  unfolding cause request_cause
  leave_refused e is = is

  pub take_refused : (e : Refusal) → first_of (caller_cause jobs id h p) (tt {0}) ≡ Err e → first_of (cause jobs id h (Act.request (Request.take p))) (tt {0}) ≡ Err e
  unfolding cause request_cause
  take_refused e is = is

  -- nothing is sent
  pub leave_silent : (marks : Levels) → chosen jobs id h marks (Act.request (Request.leave p)) ≡ record { frames = []; marks = marks }
  unfolding due_by due_by_request marked_by_act
  leave_silent marks = none_due jobs id h (Act.request (Request.leave p)) marks refl refl

  pub take_silent : (marks : Levels) → chosen jobs id h marks (Act.request (Request.take p)) ≡ record { frames = []; marks = marks }
  unfolding due_by due_by_request marked_by_act
  take_silent marks = none_due jobs id h (Act.request (Request.take p)) marks refl refl

  -- and what is done follows from its call
  leave_is : (d : Done) → first_of (caller_cause jobs id h p) (tt {0}) ≡ Ok tt → leaves h p (call_of h p) ≡ d → settled jobs id d.left ≡ d.left → acts jobs id h (Act.request (Request.leave p)) ≡ d
  unfolding cause request_cause does serves
  leave_is d free is stays = done_settled jobs id h (Act.request (Request.leave p)) d free is stays

  take_is : (d : Done) → first_of (caller_cause jobs id h p) (tt {0}) ≡ Ok tt → takes h p (call_of h p) ≡ d → settled jobs id d.left ≡ d.left → acts jobs id h (Act.request (Request.take p)) ≡ d
  unfolding cause request_cause does serves
  take_is d free is stays = done_settled jobs id h (Act.request (Request.take p)) d free is stays

  leaves_stays : (c : Option CallState) (r : Reply) → stays_reply c ≡ Some r → leaves h p c ≡ done_as r h
  leaves_stays (Some (CallState.in_fence f)) r e = ap (λ (x : Reply). done_as x h) cc
  leaves_stays (Some (CallState.released f gone)) r e = absurd cc
  leaves_stays (Some (CallState.parked get)) r e = ap (λ (x : Reply). done_as x h) cc
  leaves_stays (Some (CallState.answered get outcome)) r e = ap (λ (x : Reply). done_as x h) cc
  leaves_stays (Some (CallState.refreshing get number)) r e = ap (λ (x : Reply). done_as x h) cc
  leaves_stays (Some (CallState.refreshed get outcome)) r e = ap (λ (x : Reply). done_as x h) cc
  leaves_stays None r e = ap (λ (x : Reply). done_as x h) cc

  pub leave_stays : IsSettled jobs id h → first_of (caller_cause jobs id h p) (tt {0}) ≡ Ok tt → (r : Reply) → stays_reply (call_of h p) ≡ Some r → acts jobs id h (Act.request (Request.leave p)) ≡ done_as r h
  leave_stays is free r e = leave_is (done_as r h) free (leaves_stays (call_of h p) r e) (settled_same jobs id h is)

  leaves_goes : (c : Option CallState) → stays_reply c ≡ None → leaves h p c ≡ done_as (released_reply c) (uncalled h p)
  leaves_goes (Some (CallState.in_fence f)) e = absurd cc
  leaves_goes (Some (CallState.released f gone)) e = refl
  leaves_goes (Some (CallState.parked get)) e = absurd cc
  leaves_goes (Some (CallState.answered get outcome)) e = absurd cc
  leaves_goes (Some (CallState.refreshing get number)) e = absurd cc
  leaves_goes (Some (CallState.refreshed get outcome)) e = absurd cc
  leaves_goes None e = absurd cc

  pub leave_goes : IsSettled jobs id h → first_of (caller_cause jobs id h p) (tt {0}) ≡ Ok tt → stays_reply (call_of h p) ≡ None
      → acts jobs id h (Act.request (Request.leave p)) ≡ done_as (released_reply (call_of h p)) (uncalled h p)
  leave_goes is free e = leave_is (done_as (released_reply (call_of h p)) (uncalled h p)) free (leaves_goes (call_of h p) e) (settled_same jobs id (uncalled h p) (uncalled_settled jobs id h p is))

  takes_stays : (c : Option CallState) (r : Reply) → pending_reply c ≡ Some r → takes h p c ≡ done_as r h
  takes_stays (Some (CallState.in_fence f)) r e = ap (λ (x : Reply). done_as x h) cc
  takes_stays (Some (CallState.released f gone)) r e = ap (λ (x : Reply). done_as x h) cc
  takes_stays (Some (CallState.parked get)) r e = ap (λ (x : Reply). done_as x h) cc
  takes_stays (Some (CallState.answered get outcome)) r e = absurd cc
  takes_stays (Some (CallState.refreshing get number)) r e = ap (λ (x : Reply). done_as x h) cc
  takes_stays (Some (CallState.refreshed get outcome)) r e = absurd cc
  takes_stays None r e = ap (λ (x : Reply). done_as x h) cc

  pub take_stays : IsSettled jobs id h → first_of (caller_cause jobs id h p) (tt {0}) ≡ Ok tt → (r : Reply) → pending_reply (call_of h p) ≡ Some r → acts jobs id h (Act.request (Request.take p)) ≡ done_as r h
  take_stays is free r e = take_is (done_as r h) free (takes_stays (call_of h p) r e) (settled_same jobs id h is)

  takes_goes : (c : Option CallState) → pending_reply c ≡ None → takes h p c ≡ done_as (answered_reply c) (uncalled h p)
  takes_goes (Some (CallState.in_fence f)) e = absurd cc
  takes_goes (Some (CallState.released f gone)) e = absurd cc
  takes_goes (Some (CallState.parked get)) e = absurd cc
  takes_goes (Some (CallState.answered get outcome)) e = refl
  takes_goes (Some (CallState.refreshing get number)) e = absurd cc
  takes_goes (Some (CallState.refreshed get outcome)) e = refl
  takes_goes None e = absurd cc

  pub take_goes : IsSettled jobs id h → first_of (caller_cause jobs id h p) (tt {0}) ≡ Ok tt → pending_reply (call_of h p) ≡ None
      → acts jobs id h (Act.request (Request.take p)) ≡ done_as (answered_reply (call_of h p)) (uncalled h p)
  take_goes is free e = take_is (done_as (answered_reply (call_of h p)) (uncalled h p)) free (takes_goes (call_of h p) e) (settled_same jobs id (uncalled h p) (uncalled_settled jobs id h p is))
