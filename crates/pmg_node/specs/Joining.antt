-- The pieces that an act joins into the stores of its node.
use Rattle.std.specs.Prelude.{◌≡◌, ℕ, Option, Some, None, if◌then◌else◌}
use Rattle.pmg_scope.specs.declared.scope.Reach.TheVariants as reach
use Rattle.pmg_commit.specs.Knowledge.{Contribution}
use Rattle.pmg_commit.specs.Sealed.{Sealed, piece_at}
use Rattle.pmg_pset.specs.Sets.{host}
use Rattle.pmg_frame.specs.Refreshing.{told_by}
use Rattle.pmg_frame.specs.declared.frame.Frame.{Frame}
use Rattle.pmg_frame.specs.declared.frame.Frame.TheVariants as frames
use Rattle.pmg_jobinfo.specs.Jobs.{Jobs}
use Rattle.pmg_node_model.specs.Acts.{Request, Act, acts}
use Rattle.pmg_node_model.specs.Holdings.{NodeState, joined, sealer_of}
use Rattle.pmg_node_model.specs.Sending.{is_quiet}

-- the pieces joined for reads from the node itself, and from other nodes
pub record Joins : Type 0 where
  pub near : Option Contribution
  pub far : Option Contribution

-- no joined pieces
abbrev pub no_joins : Joins
no_joins = record { near = None; far = None }

-- the commits after a number, for both stores
abbrev pub seal_joins : Sealed → ℕ → Joins
seal_joins z from = record { near = Some (piece_at z from reach.Near); far = Some (piece_at z from reach.Far) }

-- the pieces that a request joins, which took the node from old to new
abbrev pub request_joins : NodeState → Request → NodeState → Joins
request_joins old (Request.enter p list collect) new = no_joins
request_joins old (Request.leave p) new = no_joins
request_joins old (Request.ask p get mode) new = no_joins
request_joins old (Request.take p) new = no_joins
request_joins old (Request.terminate p) new = seal_joins (sealer_of new p) (sealer_of old p).level
request_joins old (Request.define name list) new = seal_joins (sealer_of new host) (sealer_of old host).level
request_joins old (Request.delete name) new = seal_joins (sealer_of new host) (sealer_of old host).level
request_joins old Request.nudge new = no_joins

-- the pieces that a taken frame joins
abbrev pub frame_joins : Frame → Joins
frame_joins (frames.Piece c) = record { near = None; far = Some c }
frame_joins (frames.Header hd) = no_joins
frame_joins (frames.FenceAsk a) = no_joins
frame_joins (frames.RangeAsk a) = no_joins
frame_joins (frames.DirectAsk a) = no_joins
frame_joins (frames.RefreshAsk a) = no_joins
frame_joins (frames.RefreshReply r) = record { near = None; far = told_by r }

-- the pieces that an act joins, which took the node from old to new
abbrev pub act_joins : NodeState → Act → NodeState → Joins
act_joins old (Act.request r) new = request_joins old r new
act_joins old (Act.commit p b) new = seal_joins (sealer_of new p) (sealer_of old p).level
act_joins old (Act.deliver frame) new = frame_joins frame

-- The pieces that an act joins; a refused or ignored act joins nothing.
unfoldable pub joins : Jobs → ℕ → NodeState → Act → Joins
joins jobs id h a = if is_quiet (acts jobs id h a).reply then no_joins else act_joins h a (acts jobs id h a).left

-- the stores after an act are the stores before, with the act's pieces joined
abbrev pub JoinsAreAll : Type 0
JoinsAreAll =
    (jobs : Jobs) (id : ℕ) (h : NodeState) (a : Act)
    → ((acts jobs id h a).left.near ≡ joined h.near (joins jobs id h a).near) × ((acts jobs id h a).left.far ≡ joined h.far (joins jobs id h a).far)
