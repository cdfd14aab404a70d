-- No act of a node is refused as Closed.
use Rattle.std.specs.Prelude.{if◌then◌else◌}
use Rattle.std.proofs.Common.{◌≡◌, ℕ, Bool, true, false, cond, List, [], ◌∷◌, Result, Ok, Err, refl, sym, ap, subst}
use Rattle.pmg_value.specs.CheckOrder.{check_order, first_in}
use Rattle.pmg_value.specs.declared.refusal.Refusal.{Refusal}
use Rattle.pmg_value.specs.declared.refusal.Refusal.TheVariants as refusals
use Rattle.pmg_jobinfo.specs.Jobs.{Jobs}
use Rattle.pmg_frame.specs.declared.frame.Frame.{Frame}
use Rattle.pmg_get.specs.Gets.{Outcome}
use Rattle.pmg_node_model.specs.Acts.{Act, Done, Reply, Request, acts, cause, does, done_as, is_taken, over, receives, reply_of, request_cause, serves}
use Rattle.pmg_node_model.specs.Holdings.{NodeState, answer_in, call_of}
use Rattle.pmg_node_model.specs.Sending.{is_quiet}
use Rattle.pmg_node_model.proofs.CallEnds.{leaves_reply, takes_reply, asks_reply}
use Rattle.pmg_node.specs.Acting.{acted_reply}
use Rattle.pmg_node.specs.Joining.{act_joins, joins, no_joins}
use Rattle.pmg_node.specs.Servers.{IsAnswered, RepliesAct, Server, reply_in, reply_to}
use Rattle.pmg_node.specs.declared.act.Acted.{Acted}
use Rattle.pmg_node.specs.declared.act.Reply.{Reply as GivenReply}
use Rattle.pmg_journal.specs.Journals.{IsEvent, is_memory}

-- the reply is no refusal as Closed
abbrev IsOpen : Reply → Type 0
IsOpen (Reply.refused refusals.Closed) = ⊥
IsOpen _ = Unit {0}

outcome_open : (o : Outcome) → IsOpen (reply_of o)
outcome_open (Outcome.found value) = tt
outcome_open Outcome.absent = tt
outcome_open Outcome.outside = tt
outcome_open Outcome.parks = tt

module _ (jobs : Jobs) (id : ℕ) (h : NodeState) where
  no_cause_in : (r : Request) → request_cause jobs id h r refusals.Closed ≡ false
  unfolding request_cause
  no_cause_in (Request.enter p list collect) = refl
  no_cause_in (Request.leave p) = refl
  no_cause_in (Request.ask p get mode) = refl
  no_cause_in (Request.take p) = refl
  no_cause_in (Request.terminate p) = refl
  no_cause_in (Request.define name list) = refl
  no_cause_in (Request.delete name) = refl
  no_cause_in Request.nudge = refl

  no_cause : (a : Act) → cause jobs id h a refusals.Closed ≡ false
  unfolding cause
  no_cause (Act.request r) = no_cause_in r
  no_cause (Act.commit p b) = refl
  no_cause (Act.deliver frame) = refl

  serves_open : (r : Request) → IsOpen (serves jobs id h r).reply
  unfolding serves
  serves_open (Request.enter p list collect) = tt
  serves_open (Request.leave p) = leaves_reply h p IsOpen tt tt (λ n gone. tt) (call_of h p)
  serves_open (Request.ask p get mode) = asks_reply h p get mode IsOpen outcome_open (answer_in jobs id h get mode)
  serves_open (Request.take p) = takes_reply h p IsOpen tt tt outcome_open (call_of h p)
  serves_open (Request.terminate p) = tt
  serves_open (Request.define name list) = tt
  serves_open (Request.delete name) = tt
  serves_open Request.nudge = tt

  delivers_open : (frame : Frame) (b : Bool) → IsOpen (cond b (done_as Reply.taken (receives jobs id h frame)) (done_as Reply.ignored h)).reply
  delivers_open frame true = tt
  delivers_open frame false = tt

  does_open : (a : Act) → IsOpen (does jobs id h a).reply
  unfolding does
  does_open (Act.request r) = serves_open r
  does_open (Act.commit p b) = tt
  does_open (Act.deliver frame) = delivers_open frame (is_taken jobs id h.table frame)

  -- a refusal for a cause that is there
  there_open : (causes : Refusal → Bool) (e : Refusal) → causes refusals.Closed ≡ false → causes e ≡ true → IsOpen (Reply.refused e)
  there_open causes refusals.Closed none is = cc
  there_open causes e none is = tt

  -- what holds of each refusal that has a cause, and of the reply where nothing is refused, holds of the reply to the act
  pub over_first : (P : Reply → Type 0) → (d : Done) (es : List Refusal) (causes : Refusal → Bool) → ((e : Refusal) → causes e ≡ true → P (Reply.refused e)) → P d.reply
      → P (over jobs id h (first_in es causes d)).reply
  over_first P d [] causes refused done = done
  over_first P d (e ∷ es) causes refused done = by_test (causes e) refl (over_first P d es causes refused done)
    where
      by_test : (b : Bool) → causes e ≡ b → P (over jobs id h (first_in es causes d)).reply → P (over jobs id h (cond b (Err e) (first_in es causes d))).reply
      by_test true is rest = refused e is
      by_test false is rest = rest

  pub acts_open : (a : Act) → IsOpen (acts jobs id h a).reply
  acts_open a = over_first IsOpen (does jobs id h a) check_order (cause jobs id h a) (λ e is. there_open (cause jobs id h a) e (no_cause a) is) (does_open a)

-- the answer of an act is an event, where no allocation failed
pub event_by : (s : Server) (a : Act) (e : Refusal) → IsAnswered {X = Acted} (Err e) → reply_to s a ≡ Reply.refused e → IsEvent {X = GivenReply} (Err e)
event_by s a refusals.NoMemory answered is = absurd answered
event_by s a refusals.Closed answered is = subst IsOpen is (acts_open s.jobs s.id s.holding a)
event_by s a e answered is = tt

-- what is told is what is due, where no allocation failed
pub due_told : (s : Server) (a : Act) (answer : Result Acted Refusal) → IsAnswered answer → RepliesAct acted_reply answer s a → reply_to s a ≡ reply_in acted_reply answer
due_told s a (Ok acted) answered is = is
due_told s a (Err refusals.NoMemory) answered is = absurd answered
due_told s a (Err e) answered is = is

-- another refusal than a failed allocation
pub is_answered : (e : Refusal) → is_memory e ≡ false → IsAnswered {X = Acted} (Err e)
is_answered refusals.NoMemory other = cc
is_answered e other = tt

-- a failed allocation
pub memory_is : (e : Refusal) → is_memory e ≡ true → e ≡ refusals.NoMemory
memory_is refusals.NoMemory is = refl
memory_is e is = cc

-- an act that is refused joins nothing
pub refused_joins : (s : Server) (a : Act) (e : Refusal) → reply_to s a ≡ Reply.refused e → no_joins ≡ joins s.jobs s.id s.holding a
unfolding joins
refused_joins s a e is = sym (ap (λ (r : Reply). if is_quiet r then no_joins else act_joins s.holding a (acts s.jobs s.id s.holding a).left) is)
