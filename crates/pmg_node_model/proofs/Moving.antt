-- What an act does to the call that a process is in.
use Rattle.std.proofs.Common.{◌≡◌, ◌⊎◌, ℕ, Bool, true, false, nat_lt, cond, List, Option, Some, None, inl, inr, refl, sym, ap, subst, ◌∙◌}
use Rattle.std.specs.Option.{option_map}
use Rattle.std.specs.Prelude.{if◌then◌else◌}
use Rattle.pmg_value.specs.Signatures.{FenceName}
use Rattle.pmg_value.specs.declared.process.Proc.{Proc}
use Rattle.pmg_frame.specs.Refreshing.{RefreshReply, told_by}
use Rattle.pmg_frame.specs.declared.frame.Frame.{Frame}
use Rattle.pmg_frame.specs.declared.frame.Frame.TheVariants as frames
use Rattle.pmg_jobinfo.specs.Jobs.{Jobs}
use Rattle.pmg_fence.specs.Changes.{next_name}
use Rattle.pmg_fence.specs.Entering.{same_proc}
use Rattle.pmg_fence.proofs.EntryLemmas.{proc_itself}
use Rattle.pmg_fence.proofs.HeaderLemmas.{by_proc}
use Rattle.pmg_get.specs.Gets.{Outcome}
use Rattle.pmg_get.specs.declared.view.Mode.{Mode}
use Rattle.pmg_get.specs.declared.view.Mode.TheVariants as modes
use Rattle.pmg_node_model.specs.Acts.{Request, Act, Reply, also, list_cause, signature_cause, target_cause, number_cause, free_cause, request_cause, cause, list_of, signature_of, is_taken, done_as, leaves, takes, waits_as, asks, holds_unless, receives, serves, does}
use Rattle.pmg_node_model.specs.Holdings.{Get, CallState, NodeState, sealer_of, call_of, with_far, called, uncalled, joined, answer_in, is_replied, answer_reply}
use Rattle.pmg_node_model.proofs.CallFacts.{get-mapped, call-called, call-uncalled}
use Rattle.pmg_node_model.proofs.CauseFacts.{NoCause, free_is, neither_cause}

-- How an act that is not refused moves its own process: from no call into a fence, or into a get that waits; out of the fence that it
-- is released from; with the answer of its get; or to its end; and how a reply moves the process whose get waits for it.
pub data Moves (jobs : Jobs) (id : ℕ) (h : NodeState) (p : Proc) (a : Act) (c : Option CallState) : Type 0 where
  entering : (list : List Proc) (collect : Bool) → a ≡ Act.request (Request.enter p list collect) → call_of h p ≡ None
      → c ≡ Some (CallState.in_fence (next_name h.table (signature_of jobs p list collect) p)) → Moves jobs id h p a c
  parking : (get : Get) (mode : Mode) → a ≡ Act.request (Request.ask p get mode) → call_of h p ≡ None → answer_in jobs id h get mode ≡ Outcome.parks
      → c ≡ Some (waits_as h.requests get mode) → Moves jobs id h p a c
  leaving : (f : FenceName) (gone : List Proc) → a ≡ Act.request (Request.leave p) → call_of h p ≡ Some (CallState.released f gone) → c ≡ None → Moves jobs id h p a c
  taking : (get : Get) (outcome : Outcome) → a ≡ Act.request (Request.take p) → call_of h p ≡ Some (CallState.answered get outcome) → c ≡ None → Moves jobs id h p a c
  taking_anew : (get : Get) (outcome : Outcome) → a ≡ Act.request (Request.take p) → call_of h p ≡ Some (CallState.refreshed get outcome) → c ≡ None → Moves jobs id h p a c
  answering : (r : RefreshReply) (get : Get) (number : ℕ) → a ≡ Act.deliver (frames.RefreshReply r) → call_of h p ≡ Some (CallState.refreshing get number)
      → is_replied r.request r.told.proc get number ≡ true
      → c ≡ Some (CallState.refreshed get (answer_in jobs id (with_far h (joined h.far (told_by r))) get modes.Now)) → Moves jobs id h p a c
  ending : a ≡ Act.request (Request.terminate p) → c ≡ None → Moves jobs id h p a c

-- the process's call is as it was, or the act is the process's own
abbrev pub StaysOrMoves : Jobs → ℕ → NodeState → Proc → Act → Option CallState → Type 0
StaysOrMoves jobs id h p a c = (c ≡ call_of h p) ⊎ Moves jobs id h p a c

module _ (jobs : Jobs) (id : ℕ) (h : NodeState) (p : Proc) where
  -- a change of one process's call
  called_move : (a : Act) (by : Proc) (standing : CallState) → (p ≡ by → Moves jobs id h p a (Some standing)) → StaysOrMoves jobs id h p a (call_of (called h by standing) p)
  called_move a by standing own = by_proc p by
      (λ e. inr (subst (Moves jobs id h p a) (sym (call-called h by standing p ∙ ap (λ b. cond b (Some standing) (call_of h p)) (ap (same_proc p) (sym e) ∙ proc_itself p))) (own e)))
      (λ e. inl (call-called h by standing p ∙ ap (λ b. cond b (Some standing) (call_of h p)) e))

  uncalled_move : (a : Act) (by : Proc) → (p ≡ by → Moves jobs id h p a None) → StaysOrMoves jobs id h p a (call_of (uncalled h by) p)
  uncalled_move a by own = by_proc p by
      (λ e. inr (subst (Moves jobs id h p a) (sym (call-uncalled h by p ∙ ap (λ b. cond b None (call_of h p)) (ap (same_proc p) (sym e) ∙ proc_itself p))) (own e)))
      (λ e. inl (call-uncalled h by p ∙ ap (λ b. cond b None (call_of h p)) e))

  leave_move : (by : Proc) (c : Option CallState) → call_of h by ≡ c → StaysOrMoves jobs id h p (Act.request (Request.leave by)) (call_of (leaves h by c).left p)
  leave_move by (Some (CallState.in_fence f)) is = inl refl
  leave_move by (Some (CallState.released f gone)) is =
      uncalled_move (Act.request (Request.leave by)) by (λ e. Moves.leaving f gone (ap (λ q. Act.request (Request.leave q)) (sym e)) (ap (call_of h) e ∙ is) refl)
  leave_move by (Some (CallState.parked get)) is = inl refl
  leave_move by (Some (CallState.answered get outcome)) is = inl refl
  leave_move by (Some (CallState.refreshing get number)) is = inl refl
  leave_move by (Some (CallState.refreshed get outcome)) is = inl refl
  leave_move by None is = inl refl

  take_move : (by : Proc) (c : Option CallState) → call_of h by ≡ c → StaysOrMoves jobs id h p (Act.request (Request.take by)) (call_of (takes h by c).left p)
  take_move by (Some (CallState.in_fence f)) is = inl refl
  take_move by (Some (CallState.released f gone)) is = inl refl
  take_move by (Some (CallState.parked get)) is = inl refl
  take_move by (Some (CallState.answered get outcome)) is =
      uncalled_move (Act.request (Request.take by)) by (λ e. Moves.taking get outcome (ap (λ q. Act.request (Request.take q)) (sym e)) (ap (call_of h) e ∙ is) refl)
  take_move by (Some (CallState.refreshing get number)) is = inl refl
  take_move by (Some (CallState.refreshed get outcome)) is =
      uncalled_move (Act.request (Request.take by)) by (λ e. Moves.taking_anew get outcome (ap (λ q. Act.request (Request.take q)) (sym e)) (ap (call_of h) e ∙ is) refl)
  take_move by None is = inl refl

  ask_move : (by : Proc) (get : Get) (mode : Mode) → call_of h by ≡ None → (o : Outcome) → answer_in jobs id h get mode ≡ o
      → StaysOrMoves jobs id h p (Act.request (Request.ask by get mode)) (call_of (asks h by get mode o).left p)
  ask_move by get mode none (Outcome.found value) is = inl refl
  ask_move by get mode none Outcome.absent is = inl refl
  ask_move by get mode none Outcome.outside is = inl refl
  ask_move by get mode none Outcome.parks is =
      called_move (Act.request (Request.ask by get mode)) by (waits_as h.requests get mode)
      (λ e. Moves.parking get mode (ap (λ q. Act.request (Request.ask q get mode)) (sym e)) (ap (call_of h) e ∙ none) is refl)

  enter_move : (by : Proc) (list : List Proc) (collect : Bool) → call_of h by ≡ None
      → StaysOrMoves jobs id h p (Act.request (Request.enter by list collect)) (call_of (called h by (CallState.in_fence (next_name h.table (signature_of jobs by list collect) by))) p)
  enter_move by list collect none =
      called_move (Act.request (Request.enter by list collect)) by (CallState.in_fence (next_name h.table (signature_of jobs by list collect) by))
      (λ e. Moves.entering list collect (ap (λ q. Act.request (Request.enter q list collect)) (sym e)) (ap (call_of h) e ∙ none)
      (ap (λ q. Some (CallState.in_fence (next_name h.table (signature_of jobs q list collect) q))) (sym e)))

  held_move : (b : Bool) (from : ℕ) (q : Proc) (level : ℕ) → call_of (holds_unless b h from q level) p ≡ call_of h p
  held_move true from q level = refl
  held_move false from q level = refl

  -- a call that waits for the reply is answered; any other stays
  reply_move : (r : RefreshReply) (c : Option CallState) → call_of h p ≡ c
      → StaysOrMoves jobs id h p (Act.deliver (frames.RefreshReply r)) (option_map (answer_reply jobs id (with_far h (joined h.far (told_by r))) r.request r.told.proc) c)
  reply_move r None is = inl (sym is)
  reply_move r (Some (CallState.in_fence f)) is = inl (sym is)
  reply_move r (Some (CallState.released f gone)) is = inl (sym is)
  reply_move r (Some (CallState.parked get)) is = inl (sym is)
  reply_move r (Some (CallState.answered get outcome)) is = inl (sym is)
  reply_move r (Some (CallState.refreshed get outcome)) is = inl (sym is)
  reply_move r (Some (CallState.refreshing get number)) is = by_test (is_replied r.request r.told.proc get number) refl
    where
      by_test : (b : Bool) → is_replied r.request r.told.proc get number ≡ b
          → StaysOrMoves jobs id h p (Act.deliver (frames.RefreshReply r))
          (Some (if b then CallState.refreshed get (answer_in jobs id (with_far h (joined h.far (told_by r))) get modes.Now) else CallState.refreshing get number))
      by_test true its = inr (Moves.answering r get number refl is its refl)
      by_test false its = inl (sym is)

  frame_move : (frame : Frame) → StaysOrMoves jobs id h p (Act.deliver frame) (call_of (receives jobs id h frame) p)
  unfolding receives
  frame_move (frames.Piece c) = inl refl
  frame_move (frames.Header hd) = inl refl
  frame_move (frames.FenceAsk a) = inl refl
  frame_move (frames.RangeAsk a) = inl refl
  frame_move (frames.DirectAsk a) = inl (held_move (nat_lt a.level (sealer_of h a.proc).level) a.node a.proc a.level)
  frame_move (frames.RefreshAsk a) = inl refl
  frame_move (frames.RefreshReply r) =
      subst (StaysOrMoves jobs id h p (Act.deliver (frames.RefreshReply r)))
      (sym (get-mapped (answer_reply jobs id (with_far h (joined h.far (told_by r))) r.request r.told.proc) h.calls p)) (reply_move r (call_of h p) refl)

  deliver_move : (frame : Frame) (b : Bool)
      → StaysOrMoves jobs id h p (Act.deliver frame) (call_of (cond b (done_as Reply.taken (receives jobs id h frame)) (done_as Reply.ignored h)).left p)
  deliver_move frame true = frame_move frame
  deliver_move frame false = inl refl

  request_move : (r : Request) → NoCause (request_cause jobs id h r) → StaysOrMoves jobs id h p (Act.request r) (call_of (serves jobs id h r).left p)
  unfolding request_cause serves
  request_move (Request.enter by list collect) none =
      enter_move by list collect (free_is jobs id h by (neither_cause (free_cause jobs id h by) (also (list_cause jobs (list_of by list)) (signature_cause h (signature_of jobs by list collect) by)) none).0).1
  request_move (Request.leave by) none = leave_move by (call_of h by) refl
  request_move (Request.ask by get mode) none =
      ask_move by get mode (free_is jobs id h by (neither_cause (free_cause jobs id h by) (also (target_cause jobs by get) (number_cause jobs id h get mode)) none).0).1 (answer_in jobs id h get mode) refl
  request_move (Request.take by) none = take_move by (call_of h by) refl
  request_move (Request.terminate by) none = uncalled_move (Act.request (Request.terminate by)) by (λ e. Moves.ending (ap (λ q. Act.request (Request.terminate q)) (sym e)) refl)
  request_move (Request.define name list) none = inl refl
  request_move (Request.delete name) none = inl refl
  request_move Request.nudge none = inl refl

  pub does_call : (a : Act) → NoCause (cause jobs id h a) → StaysOrMoves jobs id h p a (call_of (does jobs id h a).left p)
  unfolding cause does
  does_call (Act.request r) none = request_move r none
  does_call (Act.commit by b) none = inl refl
  does_call (Act.deliver frame) none = deliver_move frame (is_taken jobs id h.table frame)
