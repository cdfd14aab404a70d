-- Which names of fences there are after an act.
use Rattle.std.proofs.Common.{◌≡◌, ℕ, Bool, true, false, nat_lt, cond, Some, refl}
use Rattle.pmg_value.specs.Signatures.{FenceName}
use Rattle.pmg_value.specs.declared.process.Proc.{Proc}
use Rattle.pmg_frame.specs.declared.frame.Frame.{Frame}
use Rattle.pmg_frame.specs.declared.frame.Frame.TheVariants as frames
use Rattle.pmg_jobinfo.specs.Jobs.{Jobs}
use Rattle.pmg_fence.specs.Changes.{next_name, fence_told}
use Rattle.pmg_fence.specs.Tables.{is_old, fence_at}
use Rattle.pmg_node_model.specs.Acts.{Request, Act, Reply, signature_of, is_taken, done_as, holds_unless, receives, serves, does, acts}
use Rattle.pmg_node_model.specs.Holdings.{NodeState, sealer_of, call_of, answer_in}
use Rattle.pmg_node_model.specs.NodeLaws.{fence_named, NamesCome, TopsCome, TwoStay, NamesStay, TopsRise}
use Rattle.pmg_node_model.proofs.AfterActs.{after_act}
use Rattle.pmg_node_model.proofs.CallEnds.{ends_left, asks_left}
use Rattle.pmg_node_model.proofs.Forgetting.{NamesAfter, same_names, ended_names, known_names, entry_names, not_old_before}

-- the fence that a frame names is so
abbrev pub FrameNames : (FenceName → Type 0) → Frame → Type 0
FrameNames P (frames.Piece c) = Unit {0}
FrameNames P (frames.Header hd) = P hd.name
FrameNames P (frames.FenceAsk a) = P a.name
FrameNames P (frames.RangeAsk a) = Unit {0}
FrameNames P (frames.DirectAsk a) = Unit {0}
FrameNames P (frames.RefreshAsk a) = Unit {0}
FrameNames P (frames.RefreshReply r) = Unit {0}

-- and so is the one that an act names or enters
abbrev pub NewNames : Jobs → NodeState → (FenceName → Type 0) → Act → Type 0
NewNames jobs h P (Act.request (Request.enter p list collect)) = P (next_name h.table (signature_of jobs p list collect) p)
NewNames jobs h P (Act.request (Request.leave p)) = Unit {0}
NewNames jobs h P (Act.request (Request.ask p get mode)) = Unit {0}
NewNames jobs h P (Act.request (Request.take p)) = Unit {0}
NewNames jobs h P (Act.request (Request.terminate p)) = Unit {0}
NewNames jobs h P (Act.request (Request.define name list)) = Unit {0}
NewNames jobs h P (Act.request (Request.delete name)) = Unit {0}
NewNames jobs h P (Act.request Request.nudge) = Unit {0}
NewNames jobs h P (Act.commit p b) = Unit {0}
NewNames jobs h P (Act.deliver frame) = FrameNames P frame

module _ (jobs : Jobs) (node : ℕ) (h : NodeState) (P : FenceName → Type 0) where
  abbrev HasNames : NodeState → Type 0
  HasNames g = NamesAfter P h.table g.table

  still : HasNames h
  still = same_names P h.table

  held_names : (b : Bool) (from : ℕ) (p : Proc) (level : ℕ) → NamesAfter P h.table (holds_unless b h from p level).table
  held_names true from p level = still
  held_names false from p level = still

  frame_names : (frame : Frame) → FrameNames P frame → NamesAfter P h.table (receives jobs node h frame).table
  unfolding receives
  frame_names (frames.Piece c) its = still
  frame_names (frames.Header hd) its = known_names P h.table hd.name (fence_told (fence_at h.table hd.name) hd.node hd.locals) its
  frame_names (frames.FenceAsk a) its = known_names P h.table a.name (fence_at h.table a.name) its
  frame_names (frames.RangeAsk a) its = still
  frame_names (frames.DirectAsk a) its = held_names (nat_lt a.level (sealer_of h a.proc).level) a.node a.proc a.level
  frame_names (frames.RefreshAsk a) its = still
  frame_names (frames.RefreshReply r) its = still

  deliver_names : (frame : Frame) (b : Bool) → FrameNames P frame → NamesAfter P h.table (cond b (done_as Reply.taken (receives jobs node h frame)) (done_as Reply.ignored h)).left.table
  deliver_names frame true its = frame_names frame its
  deliver_names frame false its = still

  request_names : (r : Request) → NewNames jobs h P (Act.request r) → NamesAfter P h.table (serves jobs node h r).left.table
  unfolding serves
  request_names (Request.enter by list collect) its = entry_names P h.table (signature_of jobs by list collect) by (sealer_of h by).level its
  request_names (Request.leave by) its = (ends_left h by HasNames still still (call_of h by)).0
  request_names (Request.ask by get mode) its = asks_left h by get mode HasNames still still (answer_in jobs node h get mode)
  request_names (Request.take by) its = (ends_left h by HasNames still still (call_of h by)).1
  request_names (Request.terminate by) its = ended_names P h.table by _
  request_names (Request.define name list) its = still
  request_names (Request.delete name) its = still
  request_names Request.nudge its = still

  pub does_names : (a : Act) → NewNames jobs h P a → NamesAfter P h.table (does jobs node h a).left.table
  unfolding does
  does_names (Act.request r) its = request_names r its
  does_names (Act.commit by b) its = still
  does_names (Act.deliver frame) its = deliver_names frame (is_taken jobs node h.table frame) its

-- ---- any act

-- the fence that an act names is named by it
named_new : (jobs : Jobs) (h : NodeState) (a : Act) → NewNames jobs h (λ f. fence_named jobs h a ≡ Some f) a
named_new jobs h (Act.request (Request.enter p list collect)) = refl
named_new jobs h (Act.request (Request.leave p)) = tt
named_new jobs h (Act.request (Request.ask p get mode)) = tt
named_new jobs h (Act.request (Request.take p)) = tt
named_new jobs h (Act.request (Request.terminate p)) = tt
named_new jobs h (Act.request (Request.define name list)) = tt
named_new jobs h (Act.request (Request.delete name)) = tt
named_new jobs h (Act.request Request.nudge) = tt
named_new jobs h (Act.commit p b) = tt
named_new jobs h (Act.deliver (frames.Piece c)) = tt
named_new jobs h (Act.deliver (frames.Header hd)) = refl
named_new jobs h (Act.deliver (frames.FenceAsk a)) = refl
named_new jobs h (Act.deliver (frames.RangeAsk a)) = tt
named_new jobs h (Act.deliver (frames.DirectAsk a)) = tt
named_new jobs h (Act.deliver (frames.RefreshAsk a)) = tt
named_new jobs h (Act.deliver (frames.RefreshReply r)) = tt

pub act_names : (jobs : Jobs) (node : ℕ) (h : NodeState) (a : Act) → NamesAfter (λ f. fence_named jobs h a ≡ Some f) h.table (acts jobs node h a).left.table
act_names jobs node h a =
    let named : FenceName → Type 0 = λ f. fence_named jobs h a ≡ Some f in
    after_act jobs node h a (λ g. NamesAfter named h.table g.table) (same_names named h.table) (λ none. does_names jobs node h named a (named_new jobs h a))

pub names_come : NamesCome
names_come jobs node h a = (act_names jobs node h a).names

pub tops_come : TopsCome
tops_come jobs node h a = (act_names jobs node h a).tops

pub two_stay : TwoStay
two_stay jobs node h a = (act_names jobs node h a).two

pub names_stay : NamesStay
names_stay jobs node h a = (act_names jobs node h a).kept

pub tops_rise : TopsRise
tops_rise jobs node h a = (act_names jobs node h a).rises

-- what is not old after an act was not old before it
pub young_still : (jobs : Jobs) (node : ℕ) (h : NodeState) (a : Act) (f : FenceName) → is_old (acts jobs node h a).left.table f ≡ false → is_old h.table f ≡ false
young_still jobs node h a f young = not_old_before h.table (acts jobs node h a).left.table f (tops_rise jobs node h a f.signature) young
