-- What is chosen has all that is owed.
use Rattle.std.proofs.Common.{◌≡◌, ℕ, Bool, true, false, [], map, refl, sym, ap, subst, ◌∙◌}
use Rattle.std.specs.Prelude.{if◌then◌else◌}
use Rattle.std.proofs.lemmas.Bool.{false≢true}
use Rattle.pmg_value.specs.Lists.{In}
use Rattle.pmg_value.specs.declared.process.Proc.{Proc}
use Rattle.pmg_value.specs.declared.refusal.Refusal.TheVariants as refusals
use Rattle.pmg_scope.specs.Cached.{Unsealed}
use Rattle.pmg_commit.specs.Sealed.{sealed_with, ended_with}
use Rattle.pmg_pset.specs.Changes.{definition, deletion}
use Rattle.pmg_pset.specs.Sets.{host, set_changed}
use Rattle.pmg_frame.specs.declared.frame.Frame.{Frame}
use Rattle.pmg_frame.specs.declared.frame.Frame.TheVariants as frames
use Rattle.pmg_jobinfo.specs.Jobs.{Jobs, AreJobs}
use Rattle.pmg_dmodex.specs.Levels.{Levels}
use Rattle.pmg_get.specs.Gets.{Outcome}
use Rattle.pmg_get.specs.declared.view.Mode.{Mode}
use Rattle.pmg_node_model.specs.Acts.{Request, Act, Reply, Done, done_as, cause, request_cause, signature_of, members_of, ends_as, is_taken, leaves, takes, parks, asks, enters_fence, serves, receives, does, acts}
use Rattle.pmg_node_model.specs.Choosing.{peers, piece_due, settling, due_by, due_by_request, marked_by_act, sends, chosen}
use Rattle.pmg_node_model.specs.Holdings.{Get, NodeState, sealer_of, call_of, answer_in, sealing, settled}
use Rattle.pmg_node_model.specs.Kept.{Holds}
use Rattle.pmg_node_model.specs.Sending.{is_quiet, Owes}
use Rattle.pmg_node_model.specs.SendingRules.{ChosenHasOwed}
use Rattle.pmg_node_model.specs.declared.sent.Sent.{Sent}
use Rattle.pmg_node_model.proofs.KeptBasics.{act_cases}
use Rattle.pmg_node_model.proofs.SendingLists.{whole_sent}
use Rattle.pmg_node_model.proofs.SendingOwed.{Covers, owed_due}
use Rattle.pmg_node_model.proofs.ChoosingActs.{out_of}
use Rattle.pmg_node_model.proofs.ChoosingCovers.{IsPlain, is_nudge, Stays, idle_covers, plain_request, plain_commit, old_stays, same_stays, ends_stay, enter_covers, park_covers, commit_covers, more_covers, end_covers, nudge_covers, frame_covers, one_frame, no_header, no_piece, no_get, not_nudge}

module _ (jobs : Jobs) (are : AreJobs jobs) (id : ℕ) (old : NodeState) (holds : Holds jobs id old) (marks : Levels) where
  -- what is owed after an act that was done so is sent
  abbrev IsPaid : Act → Done → Type 0
  IsPaid a done = (s : Sent) → Owes jobs id old a done.left s → In s (out_of jobs are id old holds marks a done).frames

  paid_by : (a : Act) (done : Done) → is_quiet done.reply ≡ false → Covers jobs id old a done.left (due_by jobs id old a done.left) → IsPaid a done
  paid_by a done loud covers s owes =
      subst (λ b. In s (if b then record { frames = []; marks = marks } else sends (sealer_of done.left) (marked_by_act marks a) (due_by jobs id old a done.left)).frames) (sym loud)
      (whole_sent done.left (marked_by_act marks a) (due_by jobs id old a done.left) s (owed_due jobs are id old a done.left (due_by jobs id old a done.left) covers s owes))

  -- an act after which nothing is owed
  paid_none : (a : Act) (done : Done) → Stays jobs id old holds done.left → IsPlain a → IsPaid a done
  paid_none a done stays plain s owes = absurd (owed_due jobs are id old a done.left [] (idle_covers jobs id old holds a done.left [] stays plain) s owes)

  plain : (r : Request) → is_nudge r ≡ false → IsPlain (Act.request r)
  plain r other = plain_request jobs id old holds r other

  ask_paid : (p : Proc) (get : Get) (mode : Mode) (o : Outcome)
      → IsPaid (Act.request (Request.ask p get mode)) (done_as (asks old p get mode o).reply (settled jobs id (asks old p get mode o).left))
  unfolding due_by due_by_request
  ask_paid p get mode Outcome.parks =
      let a = Act.request (Request.ask p get mode) in
      paid_by a (done_as Reply.parked (settled jobs id (parks old p get mode))) refl
      (park_covers jobs id old holds a (plain (Request.ask p get mode) refl) p get mode)
  ask_paid p get mode (Outcome.found value) =
      paid_none (Act.request (Request.ask p get mode)) (done_as (Reply.found value) (settled jobs id old)) (same_stays jobs id old holds) (plain (Request.ask p get mode) refl)
  ask_paid p get mode Outcome.absent =
      paid_none (Act.request (Request.ask p get mode)) (done_as (Reply.refused refusals.NotFound) (settled jobs id old)) (same_stays jobs id old holds) (plain (Request.ask p get mode) refl)
  ask_paid p get mode Outcome.outside =
      paid_none (Act.request (Request.ask p get mode)) (done_as (Reply.refused refusals.OutsideScope) (settled jobs id old)) (same_stays jobs id old holds) (plain (Request.ask p get mode) refl)

  request_paid : (r : Request) → is_nudge r ≡ false → IsPaid (Act.request r) (done_as (serves jobs id old r).reply (settled jobs id (serves jobs id old r).left))
  unfolding serves due_by due_by_request
  request_paid (Request.enter p list collect) other =
      let a = Act.request (Request.enter p list collect) in
      let done = enters_fence old p (signature_of jobs p list collect) in
      paid_by a (done_as done.reply (settled jobs id done.left)) refl (enter_covers jobs id old holds a (plain (Request.enter p list collect) refl) p (signature_of jobs p list collect))
  request_paid (Request.leave p) other =
      let done = leaves old p (call_of old p) in
      paid_none (Act.request (Request.leave p)) (done_as done.reply (settled jobs id done.left)) (ends_stay jobs id old holds p (call_of old p)).0 (plain (Request.leave p) refl)
  request_paid (Request.ask p get mode) other = ask_paid p get mode (answer_in jobs id old get mode)
  request_paid (Request.take p) other =
      let done = takes old p (call_of old p) in
      paid_none (Act.request (Request.take p)) (done_as done.reply (settled jobs id done.left)) (ends_stay jobs id old holds p (call_of old p)).1 (plain (Request.take p) refl)
  request_paid (Request.terminate p) other =
      let a = Act.request (Request.terminate p) in
      let done = ends_as old p (ended_with (sealer_of old p)) in
      paid_by a (done_as done.reply (settled jobs id done.left)) refl (end_covers jobs id old holds a (plain (Request.terminate p) refl) p (ended_with (sealer_of old p)))
  request_paid (Request.define name list) other =
      let a = Act.request (Request.define name list) in
      let c = definition name (members_of jobs list) in
      let z = set_changed old.sets c.name c.bytes in
      let new = settled jobs id (sealing old host z) in
      paid_by a (done_as (Reply.defined z.level) new) refl
      (more_covers jobs id old holds a (plain (Request.define name list) refl) new (settling old new host) (map (λ m. piece_due new host m 0) (peers jobs id))
      (commit_covers jobs id old holds a (plain (Request.define name list) refl) host z))
  request_paid (Request.delete name) other =
      let a = Act.request (Request.delete name) in
      let c = deletion name in
      let z = set_changed old.sets c.name c.bytes in
      let new = settled jobs id (sealing old host z) in
      paid_by a (done_as (Reply.defined z.level) new) refl
      (more_covers jobs id old holds a (plain (Request.delete name) refl) new (settling old new host) (map (λ m. piece_due new host m 0) (peers jobs id))
      (commit_covers jobs id old holds a (plain (Request.delete name) refl) host z))
  request_paid Request.nudge other = absurd (false≢true (sym other))

  free_paid : (r : Request) → is_nudge r ≡ false → IsPaid (Act.request r) (done_as (does jobs id old (Act.request r)).reply (settled jobs id (does jobs id old (Act.request r)).left))
  unfolding does
  free_paid r other = request_paid r other

  called_paid : (r : Request) → is_nudge r ≡ false → IsPaid (Act.request r) (acts jobs id old (Act.request r))
  called_paid r other =
      act_cases jobs id old (Act.request r) (IsPaid (Act.request r)) (λ free. free_paid r other)
      (λ e. paid_none (Act.request r) (done_as (Reply.refused e) old) (old_stays jobs id old holds) (plain r other))

  free_commit : (p : Proc) (b : Unsealed) → IsPaid (Act.commit p b) (done_as (does jobs id old (Act.commit p b)).reply (settled jobs id (does jobs id old (Act.commit p b)).left))
  unfolding does due_by
  free_commit p b =
      let z = sealed_with (sealer_of old p) b in
      paid_by (Act.commit p b) (done_as (Reply.committed z.level) (settled jobs id (sealing old p z))) refl (commit_covers jobs id old holds (Act.commit p b) (plain_commit jobs id old holds p b) p z)

  commit_paid : (p : Proc) (b : Unsealed) → IsPaid (Act.commit p b) (acts jobs id old (Act.commit p b))
  commit_paid p b =
      act_cases jobs id old (Act.commit p b) (IsPaid (Act.commit p b)) (λ free. free_commit p b)
      (λ e. paid_none (Act.commit p b) (done_as (Reply.refused e) old) (old_stays jobs id old holds) (plain_commit jobs id old holds p b))

  taken_paid : (frame : Frame) (b : Bool) → is_taken jobs id old.table frame ≡ b
      → IsPaid (Act.deliver frame) (done_as (if b then done_as Reply.taken (receives jobs id old frame) else done_as Reply.ignored old).reply (settled jobs id (if b then done_as Reply.taken (receives jobs id old frame) else done_as Reply.ignored old).left))
  unfolding due_by
  taken_paid frame true taken = paid_by (Act.deliver frame) (done_as Reply.taken (settled jobs id (receives jobs id old frame))) refl (frame_covers jobs id old holds frame)
  taken_paid frame false ignored = λ s owes. absurd (ignored_none (settled jobs id old) (same_stays jobs id old holds) s owes)
    where
      other_frame : (x y : Frame) → Act.deliver x ≡ Act.deliver y → is_taken jobs id old.table y ≡ true → is_taken jobs id old.table x ≡ true
      other_frame x y is t = ap (is_taken jobs id old.table) (one_frame jobs id old holds x y is) ∙ t

      ignored_covers : (new : NodeState) → Stays jobs id old holds new → Covers jobs id old (Act.deliver frame) new []
      ignored_covers new stays = record {
        headers = λ f locals now before d i. absurd (no_header jobs id old holds new f locals (stays.headers f) now before);
        pieces = λ p node level held less. absurd (no_piece jobs id old holds new p node level (stays.sealers p) held less);
        gets = λ p s before now d i. no_get jobs id old holds new p s (stays.free p before) now;
        asked_header = λ ask locals is t there. absurd (false≢true (sym ignored ∙ other_frame frame (frames.FenceAsk ask) is t));
        asked_piece = λ ask other is asked t less. absurd (false≢true (sym ignored ∙ other_frame frame other is t));
        asked_anew = λ ask is t within. absurd (false≢true (sym ignored ∙ other_frame frame (frames.RefreshAsk ask) is t));
        nudged = λ is d i. absurd (not_nudge jobs id old holds frame is);
      }

      ignored_none : (new : NodeState) → Stays jobs id old holds new → (s : Sent) → Owes jobs id old (Act.deliver frame) new s → ⊥
      ignored_none new stays s owes = owed_due jobs are id old (Act.deliver frame) new [] (ignored_covers new stays) s owes

  nudge_done : acts jobs id old (Act.request Request.nudge) ≡ done_as Reply.done (settled jobs id old)
  unfolding cause request_cause does serves
  nudge_done = refl

  nudge_paid : IsPaid (Act.request Request.nudge) (done_as Reply.done (settled jobs id old))
  unfolding due_by due_by_request
  nudge_paid =
      paid_by (Act.request Request.nudge) (done_as Reply.done (settled jobs id old)) refl
      (nudge_covers jobs id old holds (Act.request Request.nudge) (λ frame is. not_request frame is))
    where
      not_request : (frame : Frame) → Act.request Request.nudge ≡ Act.deliver frame → ⊥
      not_request frame is = cc

  deliver_done : (frame : Frame) → acts jobs id old (Act.deliver frame) ≡ done_as (does jobs id old (Act.deliver frame)).reply (settled jobs id (does jobs id old (Act.deliver frame)).left)
  unfolding cause
  deliver_done frame = refl

  deliver_paid : (frame : Frame) → IsPaid (Act.deliver frame) (done_as (does jobs id old (Act.deliver frame)).reply (settled jobs id (does jobs id old (Act.deliver frame)).left))
  unfolding does
  deliver_paid frame = taken_paid frame (is_taken jobs id old.table frame) refl

  act_paid : (a : Act) → IsPaid a (acts jobs id old a)
  act_paid (Act.request (Request.enter p list collect)) = called_paid (Request.enter p list collect) refl
  act_paid (Act.request (Request.leave p)) = called_paid (Request.leave p) refl
  act_paid (Act.request (Request.ask p get mode)) = called_paid (Request.ask p get mode) refl
  act_paid (Act.request (Request.take p)) = called_paid (Request.take p) refl
  act_paid (Act.request (Request.terminate p)) = called_paid (Request.terminate p) refl
  act_paid (Act.request (Request.define name list)) = called_paid (Request.define name list) refl
  act_paid (Act.request (Request.delete name)) = called_paid (Request.delete name) refl
  act_paid (Act.request Request.nudge) = subst (IsPaid (Act.request Request.nudge)) (sym nudge_done) nudge_paid
  act_paid (Act.commit p b) = commit_paid p b
  act_paid (Act.deliver frame) = subst (IsPaid (Act.deliver frame)) (sym (deliver_done frame)) (deliver_paid frame)

pub chosen_has_owed : ChosenHasOwed
unfolding chosen
chosen_has_owed jobs are id old server marks a s owes = act_paid jobs are id old server.holds marks a s owes
