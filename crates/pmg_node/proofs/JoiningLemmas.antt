-- What an act joins makes the stores that it leaves.
use Rattle.std.proofs.Common.{◌≡◌, ℕ, Bool, true, false, Option, Some, None, Result, Ok, Err, refl, sym, ap, subst, ◌∙◌}
use Rattle.std.specs.Prelude.{if◌then◌else◌}
use Rattle.pmg_value.specs.CheckOrder.{first_of}
use Rattle.pmg_value.specs.declared.process.Proc.{Proc}
use Rattle.pmg_value.specs.declared.refusal.Refusal.{Refusal}
use Rattle.pmg_scope.specs.declared.scope.Reach.TheVariants as reach
use Rattle.pmg_commit.specs.Data.{absorbed}
use Rattle.pmg_commit.specs.Sealed.{Sealed, sealed_with, ended_with, piece_at}
use Rattle.pmg_pset.specs.Changes.{definition, deletion}
use Rattle.pmg_pset.specs.Sets.{host, set_changed}
use Rattle.pmg_frame.specs.declared.frame.Frame.{Frame}
use Rattle.pmg_frame.specs.declared.frame.Frame.TheVariants as frames
use Rattle.pmg_jobinfo.specs.Jobs.{Jobs}
use Rattle.pmg_get.specs.Gets.{Outcome}
use Rattle.pmg_node_model.specs.Acts.{Request, Act, Reply, Done, done_as, cause, is_taken, members_of, holds_unless, leaves, takes, asks, serves, receives, does, over, acts}
use Rattle.pmg_node_model.specs.Holdings.{CallState, Get, NodeState, joined, sealer_of, call_of, sealing, answer_in, settled}
use Rattle.pmg_node.specs.Acting.{delivery_joins}
use Rattle.pmg_node.specs.Joining.{Joins, no_joins, frame_joins, act_joins, joins}
use Rattle.pmg_node.specs.Replies.{delivery_reply}
use Rattle.pmg_node.specs.declared.asked.Delivery.{Delivery}
use Rattle.pmg_node.specs.declared.asked.Delivery.TheVariants as deliveries
use Rattle.pmg_node_model.specs.Sending.{is_quiet}
use Rattle.pmg_node_model.proofs.KeptChanges.{sealer_there}
use Rattle.pmg_node.proofs.SilentLemmas.{then_answer, acts_by}

module _ (jobs : Jobs) (id : ℕ) (h : NodeState) where
  -- what the act joins is all that came to the stores
  abbrev IsAll : Act → Done → Type 0
  IsAll a d =
      (d.left.near ≡ joined h.near (if is_quiet d.reply then no_joins else act_joins h a d.left).near)
      × (d.left.far ≡ joined h.far (if is_quiet d.reply then no_joins else act_joins h a d.left).far)

  none_joined : (b : Bool) (j : Joins) → j ≡ no_joins → (if b then no_joins else j) ≡ no_joins
  none_joined true j is = refl
  none_joined false j is = is

  -- an act that joins nothing leaves the stores
  same_stores : (a : Act) (d : Done) → act_joins h a d.left ≡ no_joins → d.left.near ≡ h.near → d.left.far ≡ h.far → IsAll a d
  same_stores a d none near far =
      let is = none_joined (is_quiet d.reply) (act_joins h a d.left) none in
      (near ∙ ap (λ (j : Joins). joined h.near j.near) (sym is), far ∙ ap (λ (j : Joins). joined h.far j.far) (sym is))

  -- once an own process sealed this
  sealed_joins : (p : Proc) (z : Sealed) (l : ℕ) → (absorbed h.near (piece_at z l reach.Near) ≡ absorbed h.near (piece_at (sealer_of (sealing h p z) p) l reach.Near))
      × (absorbed h.far (piece_at z l reach.Far) ≡ absorbed h.far (piece_at (sealer_of (sealing h p z) p) l reach.Far))
  sealed_joins p z l =
      (ap (λ (y : Sealed). absorbed h.near (piece_at y l reach.Near)) (sym (sealer_there h p z)), ap (λ (y : Sealed). absorbed h.far (piece_at y l reach.Far)) (sym (sealer_there h p z)))

  leave_joins : (p : Proc) (c : Option CallState) → IsAll (Act.request (Request.leave p)) (done_as (leaves h p c).reply (settled jobs id (leaves h p c).left))
  leave_joins p (Some (CallState.in_fence f)) = (refl, refl)
  leave_joins p (Some (CallState.released f gone)) = (refl, refl)
  leave_joins p (Some (CallState.parked get)) = (refl, refl)
  leave_joins p (Some (CallState.answered get outcome)) = (refl, refl)
  leave_joins p (Some (CallState.refreshing get number)) = (refl, refl)
  leave_joins p (Some (CallState.refreshed get outcome)) = (refl, refl)
  leave_joins p None = (refl, refl)

  take_joins : (p : Proc) (c : Option CallState) → IsAll (Act.request (Request.take p)) (done_as (takes h p c).reply (settled jobs id (takes h p c).left))
  take_joins p (Some (CallState.in_fence f)) = (refl, refl)
  take_joins p (Some (CallState.released f gone)) = (refl, refl)
  take_joins p (Some (CallState.parked get)) = (refl, refl)
  take_joins p (Some (CallState.answered get outcome)) =
      same_stores (Act.request (Request.take p)) (done_as (takes h p (Some (CallState.answered get outcome))).reply (settled jobs id (takes h p (Some (CallState.answered get outcome))).left)) refl refl refl
  take_joins p (Some (CallState.refreshing get number)) = (refl, refl)
  take_joins p (Some (CallState.refreshed get outcome)) =
      same_stores (Act.request (Request.take p)) (done_as (takes h p (Some (CallState.refreshed get outcome))).reply (settled jobs id (takes h p (Some (CallState.refreshed get outcome))).left)) refl refl refl
  take_joins p None = (refl, refl)

  ask_joins : (p : Proc) (get : Get) (mode : _) (o : Outcome) → IsAll (Act.request (Request.ask p get mode)) (done_as (asks h p get mode o).reply (settled jobs id (asks h p get mode o).left))
  ask_joins p get mode Outcome.parks = (refl, refl)
  ask_joins p get mode (Outcome.found value) = (refl, refl)
  ask_joins p get mode Outcome.absent = (refl, refl)
  ask_joins p get mode Outcome.outside = (refl, refl)

  request_all : (r : Request) → IsAll (Act.request r) (done_as (serves jobs id h r).reply (settled jobs id (serves jobs id h r).left))
  unfolding serves
  request_all (Request.enter p list collect) = (refl, refl)
  request_all (Request.leave p) = leave_joins p (call_of h p)
  request_all (Request.ask p get mode) = ask_joins p get mode (answer_in jobs id h get mode)
  request_all (Request.take p) = take_joins p (call_of h p)
  request_all (Request.terminate p) = sealed_joins p (ended_with (sealer_of h p)) (sealer_of h p).level
  request_all (Request.define name list) = let c = definition name (members_of jobs list) in sealed_joins host (set_changed h.sets c.name c.bytes) (sealer_of h host).level
  request_all (Request.delete name) = let c = deletion name in sealed_joins host (set_changed h.sets c.name c.bytes) (sealer_of h host).level
  request_all Request.nudge = (refl, refl)

  held_joins : (a : _) (b : Bool) → IsAll (Act.deliver (frames.DirectAsk a)) (done_as Reply.taken (settled jobs id (holds_unless b h a.node a.proc a.level)))
  held_joins a true = (refl, refl)
  held_joins a false = (refl, refl)

  taken_all : (frame : Frame) → IsAll (Act.deliver frame) (done_as Reply.taken (settled jobs id (receives jobs id h frame)))
  unfolding receives
  taken_all (frames.Piece c) = (refl, refl)
  taken_all (frames.Header hd) = (refl, refl)
  taken_all (frames.FenceAsk a) = (refl, refl)
  taken_all (frames.RangeAsk a) = (refl, refl)
  taken_all (frames.DirectAsk a) = held_joins a _
  taken_all (frames.RefreshAsk a) = (refl, refl)
  taken_all (frames.RefreshReply r) = (refl, refl)

  frame_all : (frame : Frame) (b : Bool) → IsAll (Act.deliver frame)
      (done_as (if b then done_as Reply.taken (receives jobs id h frame) else done_as Reply.ignored h).reply (settled jobs id (if b then done_as Reply.taken (receives jobs id h frame) else done_as Reply.ignored h).left))
  frame_all frame true = taken_all frame
  frame_all frame false = (refl, refl)

  done_all : (a : Act) → IsAll a (done_as (does jobs id h a).reply (settled jobs id (does jobs id h a).left))
  unfolding does
  done_all (Act.request r) = request_all r
  done_all (Act.commit p b) = sealed_joins p (sealed_with (sealer_of h p) b) (sealer_of h p).level
  done_all (Act.deliver frame) = frame_all frame (is_taken jobs id h.table frame)

  all_by : (a : Act) (r : Result (Unit {0}) Refusal) → IsAll a (over jobs id h (then_answer r (does jobs id h a)))
  all_by a (Ok u) = done_all a
  all_by a (Err e) = (refl, refl)

  pub joins_are_all : (a : Act) → ((acts jobs id h a).left.near ≡ joined h.near (joins jobs id h a).near) × ((acts jobs id h a).left.far ≡ joined h.far (joins jobs id h a).far)
  unfolding joins
  joins_are_all a = subst (λ (d : Done). IsAll a d) (sym (acts_by jobs id h a)) (all_by a (first_of (cause jobs id h a) tt))

  -- an act of which nothing is joined, and one that seals
  pub joins_nothing : (a : Act) → act_joins h a (acts jobs id h a).left ≡ no_joins → joins jobs id h a ≡ no_joins
  unfolding joins
  joins_nothing a none = none_joined (is_quiet (acts jobs id h a).reply) (act_joins h a (acts jobs id h a).left) none

  pub joins_loud : (a : Act) → is_quiet (acts jobs id h a).reply ≡ false → joins jobs id h a ≡ act_joins h a (acts jobs id h a).left
  unfolding joins
  joins_loud a loud = ap (λ (b : Bool). if b then no_joins else act_joins h a (acts jobs id h a).left) loud

  pub joins_quiet : (a : Act) → is_quiet (acts jobs id h a).reply ≡ true → joins jobs id h a ≡ no_joins
  unfolding joins
  joins_quiet a quiet = ap (λ (b : Bool). if b then no_joins else act_joins h a (acts jobs id h a).left) quiet

  -- a frame that is delivered
  pub delivered_joins : (frame : Frame) (d : Delivery) → (acts jobs id h (Act.deliver frame)).reply ≡ delivery_reply d
      → delivery_joins d (frame_joins frame) ≡ joins jobs id h (Act.deliver frame)
  delivered_joins frame deliveries.Taken is = sym (joins_loud (Act.deliver frame) (ap is_quiet is))
  delivered_joins frame deliveries.Ignored is = sym (joins_quiet (Act.deliver frame) (ap is_quiet is))
