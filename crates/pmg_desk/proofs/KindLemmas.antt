-- Each act is given a reply of its kind.
use Rattle.std.specs.Prelude.{IfOk}
use Rattle.std.proofs.Common.{◌≡◌, ℕ, Bool, true, false, cond, Result, Ok, Err, subst}
use Rattle.pmg_value.specs.CheckOrder.{check_order}
use Rattle.pmg_value.specs.declared.process.Proc.{Proc}
use Rattle.pmg_value.specs.declared.refusal.Refusal.{Refusal}
use Rattle.pmg_jobinfo.specs.Jobs.{Jobs}
use Rattle.pmg_frame.specs.declared.frame.Frame.{Frame}
use Rattle.pmg_get.specs.Gets.{Outcome}
use Rattle.pmg_get.specs.declared.view.Mode.{Mode}
use Rattle.pmg_node_model.specs.Acts.{Act, Reply, Request, acts, cause, does, done_as, is_taken, receives, reply_of, serves}
use Rattle.pmg_node_model.specs.Holdings.{Get, NodeState, answer_in, call_of}
use Rattle.pmg_node_model.proofs.CallEnds.{leaves_reply, takes_reply, asks_reply}
use Rattle.pmg_node.specs.Acting.{reply_as}
use Rattle.pmg_node.specs.Kinds.{IsDefined}
use Rattle.pmg_node.specs.Opening.{new_server}
use Rattle.pmg_node.specs.Servers.{Server, reply_in, reply_to}
use Rattle.pmg_node.specs.declared.act.Reply.{Reply as GivenReply}
use Rattle.pmg_node.specs.declared.act.Reply.TheVariants as replies
use Rattle.pmg_journal.specs.Journals.{IsEvent}
use Rattle.pmg_desk.specs.Clients.{Client, Tells}
use Rattle.pmg_desk.specs.Kinds.{IsChange, IsKind, OrRefused, Tell}
use Rattle.pmg_journal.specs.Replays.{after_all}
use Rattle.pmg_desk.specs.Telling.{WasReplied}
use Rattle.pmg_desk.proofs.TellLemmas.{replied_so, until}
use Rattle.pmg_desk.proofs.OpenLemmas.{over_first}
use Rattle.pmg_journal.proofs.ReplayLemmas.{last_is}

refused_kind : (a : Act) (e : Refusal) → IsKind a (Reply.refused e)
refused_kind a e = tt

taken_kind : (p : Proc) (o : Outcome) → IsKind (Act.request (Request.take p)) (reply_of o)
taken_kind p (Outcome.found value) = tt
taken_kind p Outcome.absent = tt
taken_kind p Outcome.outside = tt
taken_kind p Outcome.parks = tt

asked_kind : (p : Proc) (get : Get) (mode : Mode) (o : Outcome) → IsKind (Act.request (Request.ask p get mode)) (reply_of o)
asked_kind p get mode (Outcome.found value) = tt
asked_kind p get mode Outcome.absent = tt
asked_kind p get mode Outcome.outside = tt
asked_kind p get mode Outcome.parks = tt

module _ (jobs : Jobs) (id : ℕ) (h : NodeState) where
  serves_kind : (r : Request) → IsKind (Act.request r) (serves jobs id h r).reply
  unfolding serves
  serves_kind (Request.enter p list collect) = tt
  serves_kind (Request.leave p) = leaves_reply h p (IsKind (Act.request (Request.leave p))) tt tt (λ n gone. tt) (call_of h p)
  serves_kind (Request.ask p get mode) = asks_reply h p get mode (IsKind (Act.request (Request.ask p get mode))) (asked_kind p get mode) (answer_in jobs id h get mode)
  serves_kind (Request.take p) = takes_reply h p (IsKind (Act.request (Request.take p))) tt tt (taken_kind p) (call_of h p)
  serves_kind (Request.terminate p) = tt
  serves_kind (Request.define name list) = tt
  serves_kind (Request.delete name) = tt
  serves_kind Request.nudge = tt

  delivers_kind : (frame : Frame) (b : Bool) → IsKind (Act.deliver frame) (cond b (done_as Reply.taken (receives jobs id h frame)) (done_as Reply.ignored h)).reply
  delivers_kind frame true = tt
  delivers_kind frame false = tt

  does_kind : (a : Act) → IsKind a (does jobs id h a).reply
  unfolding does
  does_kind (Act.request r) = serves_kind r
  does_kind (Act.commit p b) = tt
  does_kind (Act.deliver frame) = delivers_kind frame (is_taken jobs id h.table frame)

  acts_kind : (a : Act) → IsKind a (acts jobs id h a).reply
  acts_kind a = over_first jobs id h (IsKind a) (does jobs id h a) check_order (cause jobs id h a) (λ e is. refused_kind a e) (does_kind a)

-- a reply that a server gives to an act is of its kind
kind_of : (s : Server) (a : Act) (r : Reply) → reply_to s a ≡ r → IsKind a r
kind_of s a r is = subst (IsKind a) is (acts_kind s.jobs s.id s.holding a)

-- a reply of code is no refusal
pub plain : (P : Reply → Type 0) (r : GivenReply) → OrRefused P (reply_as r) → P (reply_as r)
plain P replies.Done such = such
plain P (replies.Committed number) such = such
plain P (replies.Entered instance) such = such
plain P replies.Idle such = such
plain P replies.Waiting such = such
plain P (replies.Released instance gone) such = such
plain P (replies.Found value) such = such
plain P replies.Parked such = such
plain P replies.Taken such = such
plain P replies.Ignored such = such
plain P (replies.Ended number) such = such
plain P (replies.Defined number) such = such

-- so what is answered to an act is of its kind, unless it is refused
pub answer_kind : (jobs : Jobs) (id : ℕ) (a : Act) (r : Result GivenReply Refusal) → (IsEvent r → WasReplied jobs id a (reply_in reply_as r)) → IfOk r (λ x. Tell a (reply_as x))
answer_kind jobs id a (Ok x) told =
    let it : WasReplied jobs id a (reply_as x) = told tt in
    plain (Tell a) x (kind_of (after_all (new_server jobs id) it.es) a (reply_as x) (last_is (new_server jobs id) it.es a (reply_as x) it.replay))
answer_kind jobs id a (Err e) told = tt

pub told_kind : (c d : Client) (a : Act) (r : Result GivenReply Refusal) → (IsEvent r → Tells c d a (reply_in reply_as r)) → IfOk r (λ x. Tell a (reply_as x))
told_kind c d a (Ok x) told =
    plain (Tell a) x (kind_of (after_all (new_server d.jobs d.node) (until c d a (reply_as x) (told tt))) a (reply_as x) (replied_so c d a (reply_as x) (told tt)))
told_kind c d a (Err e) told = tt

-- a change of the process sets is told its number
pub change_kind : (q : Request) (r : Result GivenReply Refusal) → IsChange q → IfOk r (λ x. Tell (Act.request q) (reply_as x)) → IfOk r (λ x. IsDefined (reply_as x))
change_kind q (Err e) change kind = tt
change_kind (Request.define name list) (Ok x) change kind = kind
change_kind (Request.delete name) (Ok x) change kind = kind
change_kind (Request.enter p list collect) (Ok x) change kind = absurd change
change_kind (Request.leave p) (Ok x) change kind = absurd change
change_kind (Request.ask p get mode) (Ok x) change kind = absurd change
change_kind (Request.take p) (Ok x) change kind = absurd change
change_kind (Request.terminate p) (Ok x) change kind = absurd change
change_kind Request.nudge (Ok x) change kind = absurd change
