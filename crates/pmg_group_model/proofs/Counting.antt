-- Requests that ask anew have numbers that only rise, and begin no later than what is known where they were made.
use Rattle.std.proofs.Common.{◌≡◌, ◌≤◌, ℕ, Bool, true, false, nat_lt, cond, List, [], ◌∷◌, ◌++◌, refl, sym, ap, subst, ◌∙◌, arith}
use Rattle.pmg_value.specs.Lists.{Each}
use Rattle.pmg_value.specs.declared.process.Proc.{Proc}
use Rattle.pmg_commit.specs.Data.{level_at}
use Rattle.pmg_frame.specs.Refreshing.{RefreshAsk, RefreshReply}
use Rattle.pmg_frame.specs.declared.frame.Frame.{Frame}
use Rattle.pmg_frame.specs.declared.frame.Frame.TheVariants as frames
use Rattle.pmg_jobinfo.specs.Jobs.{Jobs, AreJobs, home_of}
use Rattle.pmg_get.specs.declared.view.Mode.{Mode}
use Rattle.pmg_get.specs.declared.view.Mode.TheVariants as modes
use Rattle.pmg_node_model.specs.Acts.{Request, Act, Reply, is_taken, done_as, requests_after, holds_unless, receives, serves, does, acts}
use Rattle.pmg_node_model.specs.Holdings.{NodeState, sealer_of, call_of, answer_in}
use Rattle.pmg_node_model.specs.Sending.{Allowed, reply_anew}
use Rattle.pmg_node_model.specs.declared.sent.Sent.{Sent}
use Rattle.pmg_node_model.proofs.CallEnds.{ends_left, asks_left}
use Rattle.pmg_node_model.proofs.AfterActs.{after_act}
use Rattle.pmg_node_model.proofs.Growing.{act_rises}
use Rattle.pmg_group_model.specs.Laws.{Good}
use Rattle.pmg_group_model.specs.Worlds.{World, Event, ActStep, Step, Happened, Run, start}
use Rattle.pmg_group_model.proofs.Runs.{each_in}
use Rattle.pmg_group_model.proofs.Starting.{start_good}
use Rattle.pmg_group_model.proofs.StepView.{IsActOf, StepView, step_view}
use Rattle.pmg_group_model.proofs.Steps.{each_node, each_both, each_still, step_good}

-- ---- numbers rise

same_number : (n : ℕ) → n ≤ n
same_number n = omega arith

module _ (jobs : Jobs) (id : ℕ) (h : NodeState) where
  -- there were no more requests before
  abbrev NoFewer : NodeState → Type 0
  NoFewer g = h.requests ≤ g.requests

  more_requests : (n : ℕ) (mode : Mode) → n ≤ requests_after n mode
  more_requests n modes.Wait = omega arith
  more_requests n modes.Now = omega arith
  more_requests n modes.Refresh = omega arith

  held_counts : (b : Bool) (from : ℕ) (p : Proc) (level : ℕ) → h.requests ≤ (holds_unless b h from p level).requests
  held_counts true from p level = same_number _
  held_counts false from p level = same_number _

  frame_counts : (frame : Frame) → h.requests ≤ (receives jobs id h frame).requests
  unfolding receives
  frame_counts (frames.Piece c) = same_number _
  frame_counts (frames.Header hd) = same_number _
  frame_counts (frames.FenceAsk a) = same_number _
  frame_counts (frames.RangeAsk a) = same_number _
  frame_counts (frames.DirectAsk a) = held_counts (nat_lt a.level (sealer_of h a.proc).level) a.node a.proc a.level
  frame_counts (frames.RefreshAsk a) = same_number _
  frame_counts (frames.RefreshReply r) = same_number _

  deliver_counts : (frame : Frame) (b : Bool) → h.requests ≤ (cond b (done_as Reply.taken (receives jobs id h frame)) (done_as Reply.ignored h)).left.requests
  deliver_counts frame true = frame_counts frame
  deliver_counts frame false = same_number _

  request_counts : (r : Request) → h.requests ≤ (serves jobs id h r).left.requests
  unfolding serves
  request_counts (Request.enter by list collect) = same_number _
  request_counts (Request.leave by) = (ends_left h by NoFewer (same_number _) (same_number _) (call_of h by)).0
  request_counts (Request.ask by get mode) = asks_left h by get mode NoFewer (same_number _) (more_requests h.requests mode) (answer_in jobs id h get mode)
  request_counts (Request.take by) = (ends_left h by NoFewer (same_number _) (same_number _) (call_of h by)).1
  request_counts (Request.terminate by) = same_number _
  request_counts (Request.define name list) = same_number _
  request_counts (Request.delete name) = same_number _
  request_counts Request.nudge = same_number _

  does_counts : (a : Act) → h.requests ≤ (does jobs id h a).left.requests
  unfolding does
  does_counts (Act.request r) = request_counts r
  does_counts (Act.commit by b) = same_number _
  does_counts (Act.deliver frame) = deliver_counts frame (is_taken jobs id h.table frame)

  act_counts : (a : Act) → h.requests ≤ (acts jobs id h a).left.requests
  act_counts a = after_act jobs id h a (λ g. h.requests ≤ g.requests) (same_number _) (λ none. does_counts a)

-- ---- what is known of numbers and levels, in a world

-- no node gave fewer numbers, or knows less
pub record NodesRise (w v : World) : Type 0 where
  pub requests : (n : ℕ) → (w.nodes n).requests ≤ (v.nodes n).requests
  pub far : (n : ℕ) (q : Proc) → level_at (w.nodes n).far q ≤ level_at (v.nodes n).far q

-- an ask has a number that its node gave, and names no commit past those known there; and so it is with what the reply begins with
unfoldable pub IsFresh : World → Frame → Type 0
IsFresh w (frames.Piece c) = Unit {0}
IsFresh w (frames.Header hd) = Unit {0}
IsFresh w (frames.FenceAsk a) = Unit {0}
IsFresh w (frames.RangeAsk a) = Unit {0}
IsFresh w (frames.DirectAsk a) = Unit {0}
IsFresh w (frames.RefreshAsk a) = (a.request ≤ (w.nodes a.ask.node).requests) × (a.ask.level ≤ level_at (w.nodes a.ask.node).far a.ask.proc)
IsFresh w (frames.RefreshReply r) = (r.request ≤ (w.nodes r.node).requests) × (r.told.from ≤ level_at (w.nodes r.node).far r.told.proc)

-- each frame that was sent is so
abbrev pub AllFresh : World → Type 0
AllFresh w = Each (λ s. IsFresh w s.frame) w.sent

fresh_stays : (w v : World) → NodesRise w v → (frame : Frame) → IsFresh w frame → IsFresh v frame
unfolding IsFresh
fresh_stays w v rise (frames.Piece c) fresh = tt
fresh_stays w v rise (frames.Header hd) fresh = tt
fresh_stays w v rise (frames.FenceAsk a) fresh = tt
fresh_stays w v rise (frames.RangeAsk a) fresh = tt
fresh_stays w v rise (frames.DirectAsk a) fresh = tt
fresh_stays w v rise (frames.RefreshAsk a) fresh = (omega (arith, fresh.0, rise.requests a.ask.node), omega (arith, fresh.1, rise.far a.ask.node a.ask.proc))
fresh_stays w v rise (frames.RefreshReply r) fresh = (omega (arith, fresh.0, rise.requests r.node), omega (arith, fresh.1, rise.far r.node r.told.proc))

-- ---- a step

module _ (jobs : Jobs) (w : World) (node : ℕ) (a : Act) (r : Reply) (v : World) (step : ActStep jobs w node a r v) where
  -- what holds of the node that acted, and of all others
  pub acted : (P : ℕ → NodeState → Type 0) → P node (acts jobs node (w.nodes node) a).left
      → ((m : ℕ) → (m ≡ node → ⊥) → P m (w.nodes m)) → (m : ℕ) → P m (v.nodes m)
  acted P one others m = subst (λ (x : World). P m (x.nodes m)) (sym step.left) (each_node P w.nodes node step.new (subst (P node) (sym step.step.left) one) others m)

  pub node_then : v.nodes node ≡ (acts jobs node (w.nodes node) a).left
  node_then = acted (λ m h. m ≡ node → h ≡ (acts jobs node (w.nodes node) a).left) (λ at. refl) (λ m away at. absurd (away at)) node refl

  pub sent_then : v.sent ≡ w.sent ++ step.out
  sent_then = ap (λ (x : World). x.sent) step.left

  -- what holds of all frames that were sent, and of those that the node may send, holds of all then
  pub all_sent : (P : Frame → Type 0) → Each (λ s. P s.frame) w.sent
      → ((frame : Frame) → Allowed jobs node a (v.nodes node) frame → P frame) → Each (λ s. P s.frame) v.sent
  all_sent P old new =
      let may : Each (λ s. Allowed jobs node a (v.nodes node) s.frame) step.out =
      subst (λ h. Each (λ s. Allowed jobs node a h s.frame) step.out) (step.step.left ∙ sym node_then) step.step.allowed in
      subst (λ (ss : List Sent). Each (λ s. P s.frame) ss) (sym sent_then)
      (each_both (λ s. P s.frame) w.sent step.out old (each_still (λ s. Allowed jobs node a (v.nodes node) s.frame) (λ s. P s.frame) step.out (λ s. new s.frame) may))

  act_raises : NodesRise w v
  act_raises = record {
    requests = acted (λ m h. (w.nodes m).requests ≤ h.requests) (act_counts jobs node (w.nodes node) a) (λ m away. same_number _);
    far = λ n q. acted (λ m h. level_at (w.nodes m).far q ≤ level_at h.far q) ((act_rises jobs node (w.nodes node) a).far q) (λ m away. same_number _) n;
  }

  module _ (e : Event) (is : IsActOf w e a) (good : Good jobs v) (fresh : AllFresh w) where
    -- a reply begins where the ask that it replies to does
    reply_fresh : (ask : RefreshAsk) → a ≡ Act.deliver (frames.RefreshAsk ask) → home_of jobs ask.ask.proc ≡ node
        → IsFresh v (frames.RefreshReply (reply_anew (v.nodes node) ask))
    unfolding IsFresh
    reply_fresh ask its home =
        let found = is.frame (frames.RefreshAsk ask) its in
        let was : IsFresh w (frames.RefreshAsk ask) = subst (IsFresh w) found.2 (each_in (λ s. IsFresh w s.frame) w.sent found.0 fresh found.1) in
        let now = fresh_stays w v act_raises (frames.RefreshAsk ask) was in
        (now.0, subst (λ (q : Proc). ask.ask.level ≤ level_at (v.nodes ask.ask.node).far q) (sym ((good.fits node).own ask.ask.proc home).proc) now.1)

    sends_fresh : (frame : Frame) → Allowed jobs node a (v.nodes node) frame → IsFresh v frame
    unfolding Allowed IsFresh
    sends_fresh (frames.RefreshAsk ask) may =
        subst (λ k. (ask.request ≤ (v.nodes k).requests) × (ask.ask.level ≤ level_at (v.nodes k).far ask.ask.proc)) (sym may.0) (may.1, may.2)
    sends_fresh (frames.RefreshReply reply) may = subst (λ (x : RefreshReply). IsFresh v (frames.RefreshReply x)) (sym may.4) (reply_fresh may.0 may.1 may.2)
    sends_fresh _ may = tt

    act_fresh : AllFresh v
    act_fresh = all_sent (IsFresh v) (each_still (λ s. IsFresh w s.frame) (λ s. IsFresh v s.frame) w.sent (λ s. fresh_stays w v act_raises s.frame) fresh) sends_fresh

rest_raises : (w v : World) → v.nodes ≡ w.nodes → NodesRise w v
rest_raises w v same = record {
  requests = λ n. subst (λ (nodes : ℕ → NodeState). (w.nodes n).requests ≤ (nodes n).requests) (sym same) (same_number _);
  far = λ n q. subst (λ (nodes : ℕ → NodeState). level_at (w.nodes n).far q ≤ level_at (nodes n).far q) (sym same) (same_number _);
}

pub step_fresh : (jobs : Jobs) (w : World) (e : Event) (r : Reply) (v : World) → Step jobs w e r v → Good jobs v → AllFresh w → AllFresh v
step_fresh jobs w e r v step good fresh = by_view (step_view jobs w e r v step)
  where
    by_view : StepView jobs w e r v → AllFresh v
    by_view (StepView.acting node a is act) = act_fresh jobs w node a r v act e is good fresh
    by_view (StepView.resting nodes sent) =
        subst (λ (ss : List Sent). Each (λ s. IsFresh v s.frame) ss) (sym sent)
        (each_still (λ s. IsFresh w s.frame) (λ s. IsFresh v s.frame) w.sent (λ s. fresh_stays w v (rest_raises w v nodes) s.frame) fresh)

run_fresh : (jobs : Jobs) → AreJobs jobs → (xs : List Happened) (w v : World) → Good jobs w → AllFresh w → Run jobs w xs v → AllFresh v
unfolding Run
run_fresh jobs are [] w v good fresh run = subst AllFresh (sym run) fresh
run_fresh jobs are (x ∷ xs) w v good fresh run =
    let good_mid = step_good jobs are w good x.event x.reply run.0 run.1 in
    run_fresh jobs are xs run.0 v good_mid (step_fresh jobs w x.event x.reply run.0 run.1 good_mid fresh) run.2

pub always_fresh : (jobs : Jobs) → AreJobs jobs → (xs : List Happened) (w : World) → Run jobs (start jobs) xs w → AllFresh w
always_fresh jobs are xs w run = run_fresh jobs are xs (start jobs) w (start_good jobs) tt run
