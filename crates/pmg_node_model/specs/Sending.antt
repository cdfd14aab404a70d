-- The frames that a node may send, and the frames that it owes.
use Rattle.std.specs.Prelude.{◌≡◌, ℕ, ◌<◌, ◌≤◌, Bool, true, false, List, [], Option, Some, None}
use Rattle.pmg_value.specs.Lists.{In, Each}
use Rattle.pmg_value.specs.Signatures.{FenceName}
use Rattle.pmg_value.specs.declared.process.Proc.{Proc}
use Rattle.pmg_scope.specs.declared.scope.Reach.TheVariants as reach
use Rattle.pmg_commit.specs.Data.{level_at}
use Rattle.pmg_commit.specs.Sealed.{piece_at}
use Rattle.pmg_pset.specs.Sets.{host}
use Rattle.pmg_frame.specs.Fences.{FenceAsk, CommitAsk, header, fence_ask, commit_ask, participants_of}
use Rattle.pmg_frame.specs.Refreshing.{RefreshAsk, RefreshReply, refresh_ask, refresh_reply}
use Rattle.pmg_frame.specs.declared.frame.Frame.{Frame}
use Rattle.pmg_frame.specs.declared.frame.Frame.TheVariants as frames
use Rattle.pmg_frame.specs.declared.local.Local.{Local}
use Rattle.pmg_jobinfo.specs.Jobs.{Jobs, home_of}
use Rattle.pmg_fence.specs.Changes.{present}
use Rattle.pmg_fence.specs.Tables.{header_at, told_of}
use Rattle.pmg_fence.specs.declared.entry.Entry.{Entry}
use Rattle.pmg_dmodex.specs.Levels.{node_level as held_at}
use Rattle.pmg_node_model.specs.Acts.{Request, Act, Reply, is_peer, is_taken, acts}
use Rattle.pmg_node_model.specs.Holdings.{Get, CallState, NodeState, sealer_of, call_of}
use Rattle.pmg_node_model.specs.declared.sent.Sent.{Sent}

-- the frame, addressed to that node
abbrev pub sent : ℕ → Frame → Sent
sent to frame = record { to = to; frame = frame }

-- an own process waits in the fence: it entered, and is not released
abbrev pub WaitsIn : Jobs → ℕ → NodeState → FenceName → Proc → Type 0
WaitsIn jobs id h f p = (home_of jobs p ≡ id) × (call_of h p ≡ Some (CallState.in_fence f))

-- the piece of an own process's commits above a number
abbrev pub piece_from : NodeState → Proc → ℕ → Frame
piece_from h p from = frames.Piece (piece_at (sealer_of h p) from reach.Far)

-- the node's header of a fence in its table, as soon as it exists
abbrev pub own_header_of : Jobs → ℕ → NodeState → FenceName → Option (List Local)
own_header_of jobs id h f = present jobs id h.table f

-- the reply to a node that asks anew: the commits of an own process above the node's level
abbrev pub reply_anew : NodeState → RefreshAsk → RefreshReply
reply_anew h a = refresh_reply a.ask.node a.request (piece_at (sealer_of h a.ask.proc) a.ask.level reach.Far)

-- the request of that number for commits of the process above the known level
abbrev pub ask_anew : ℕ → NodeState → Proc → ℕ → RefreshAsk
ask_anew id h q number = refresh_ask number (commit_ask id q (level_at h.far q))

-- The frames that a node may send after an act. A piece of an own process's commits for other nodes, up to its level. Its own header of a
-- fence in its table. A request for a header of a fence in which an own process waits. A request for commits. A request anew, under a
-- number that was given, up to the known level. A reply to a request anew that the act delivered, unless it names a commit that was not
-- made.
unfoldable pub Allowed : Jobs → ℕ → Act → NodeState → Frame → Type 0
Allowed jobs id act h (frames.Piece c) =
    (home_of jobs c.proc ≡ id) × (c.from < (sealer_of h c.proc).level) × (c ≡ piece_at (sealer_of h c.proc) c.from reach.Far)
Allowed jobs id act h (frames.Header hd) = (hd.node ≡ id) × (own_header_of jobs id h hd.name ≡ Some hd.locals)
Allowed jobs id act h (frames.FenceAsk a) = (a.node ≡ id) × (p : Proc) × WaitsIn jobs id h a.name p
Allowed jobs id act h (frames.RangeAsk a) = a.node ≡ id
Allowed jobs id act h (frames.DirectAsk a) = a.node ≡ id
Allowed jobs id act h (frames.RefreshAsk a) = (a.ask.node ≡ id) × (a.request ≤ h.requests) × (a.ask.level ≤ level_at h.far a.ask.proc)
Allowed jobs id act h (frames.RefreshReply r) =
    (a : RefreshAsk) × (act ≡ Act.deliver (frames.RefreshAsk a)) × (home_of jobs a.ask.proc ≡ id) × (a.ask.level ≤ (sealer_of h a.ask.proc).level) × (r ≡ reply_anew h a)

-- another node has a participant in the fence
abbrev pub TakesPart : Jobs → ℕ → FenceName → ℕ → Type 0
TakesPart jobs id f node = (node ≡ id → ⊥) × (q : Proc) × In q (participants_of f) × (home_of jobs q ≡ node)

-- the commits for which an act asks an own process's home
abbrev pub asked_by : Act → Option CommitAsk
asked_by (Act.deliver (frames.RangeAsk a)) = Some a
asked_by (Act.deliver (frames.DirectAsk a)) = Some a
asked_by _ = None

-- A frame that a node owes after an act took it from old to new.
pub data Owes (jobs : Jobs) (id : ℕ) (old : NodeState) (a : Act) (new : NodeState) : Sent → Type 0 where
  -- its header, to each other node of the fence, when the header begins to exist or the fence's name arrives
  new_header : (f : FenceName) (locals : List Local) (node : ℕ) → own_header_of jobs id new f ≡ Some locals → own_header_of jobs id old f ≡ None
      → TakesPart jobs id f node → Owes jobs id old a new (sent node (frames.Header (header id f locals)))
  -- its existing header, to the node that asks for it
  asked_header : (ask : FenceAsk) (locals : List Local) → a ≡ Act.deliver (frames.FenceAsk ask) → is_taken jobs id old.table (frames.FenceAsk ask) ≡ true
      → own_header_of jobs id old ask.name ≡ Some locals → Owes jobs id old a new (sent ask.node (frames.Header (header id ask.name locals)))
  -- existing commits, to the node that asks for them
  asked_piece : (ask : CommitAsk) (frame : Frame) → a ≡ Act.deliver frame → asked_by a ≡ Some ask → is_taken jobs id old.table frame ≡ true
      → ask.level < (sealer_of new ask.proc).level → Owes jobs id old a new (sent ask.node (piece_from new ask.proc ask.level))
  -- the later commits, possibly empty, to a node that asks anew, unless it names a commit that was not made
  asked_reply : (ask : RefreshAsk) → a ≡ Act.deliver (frames.RefreshAsk ask) → is_taken jobs id old.table (frames.RefreshAsk ask) ≡ true
      → ask.ask.level ≤ (sealer_of new ask.ask.proc).level → Owes jobs id old a new (sent ask.ask.node (frames.RefreshReply (reply_anew new ask)))
  -- the next commit, to each node that waited for it
  held_piece : (p : Proc) (node level : ℕ) → held_at old.held p node ≡ Some level → level < (sealer_of new p).level
      → Owes jobs id old a new (sent node (piece_from new p level))
  -- a request for commits to the home of a process whose key a get begins to wait for
  parked_ask : (p : Proc) (get : Get) → call_of old p ≡ None → call_of new p ≡ Some (CallState.parked get) → (home_of jobs get.target ≡ id → ⊥)
      → Owes jobs id old a new (sent (home_of jobs get.target) (frames.DirectAsk (commit_ask id get.target (level_at new.far get.target))))
  -- a request for commits to the home of a process whose key a get asks for anew
  parked_anew : (p : Proc) (get : Get) (number : ℕ) → call_of old p ≡ None → call_of new p ≡ Some (CallState.refreshing get number)
      → (home_of jobs get.target ≡ id → ⊥) → Owes jobs id old a new (sent (home_of jobs get.target) (frames.RefreshAsk (ask_anew id new get.target number)))
  -- at a nudge, requests for the missing headers of a fence in which an own process waits
  nudged_header : (f : FenceName) (p : Proc) (node : ℕ) → a ≡ Act.request Request.nudge → WaitsIn jobs id new f p
      → TakesPart jobs id f node → header_at jobs id new.table f node ≡ None → Owes jobs id old a new (sent node (frames.FenceAsk (fence_ask id f)))
  -- at a nudge, requests for the missing commits of other nodes' processes that a header names
  nudged_range : (f : FenceName) (p q : Proc) (e : Entry) → a ≡ Act.request Request.nudge → WaitsIn jobs id new f p → f.signature.collect ≡ true
      → In q (participants_of f) → (home_of jobs q ≡ id → ⊥) → told_of jobs id new.table f q ≡ Some e → level_at new.far q < e.level
      → Owes jobs id old a new (sent (home_of jobs q) (frames.RangeAsk (commit_ask id q (level_at new.far q))))
  -- at a nudge, requests for commits of processes whose keys gets wait for
  nudged_ask : (p : Proc) (get : Get) → a ≡ Act.request Request.nudge → call_of new p ≡ Some (CallState.parked get) → (home_of jobs get.target ≡ id → ⊥)
      → Owes jobs id old a new (sent (home_of jobs get.target) (frames.DirectAsk (commit_ask id get.target (level_at new.far get.target))))
  -- at a nudge, requests for commits of processes whose keys gets ask for anew, under their old numbers
  nudged_anew : (p : Proc) (get : Get) (number : ℕ) → a ≡ Act.request Request.nudge → call_of new p ≡ Some (CallState.refreshing get number)
      → (home_of jobs get.target ≡ id → ⊥) → Owes jobs id old a new (sent (home_of jobs get.target) (frames.RefreshAsk (ask_anew id new get.target number)))
  -- at a nudge, a request for changes of the process sets
  nudged_sets : a ≡ Act.request Request.nudge → (id ≡ 0 → ⊥) → Owes jobs id old a new (sent 0 (frames.RangeAsk (commit_ask id host (level_at new.far host))))

-- a refused act sends nothing, and an ignored frame causes no frame
abbrev pub is_quiet : Reply → Bool
is_quiet (Reply.refused e) = true
is_quiet Reply.ignored = true
is_quiet _ = false

-- One step of a node. The act determines its reply and its new state. A refused act or an ignored frame sends nothing. Each sent frame goes
-- to another node of the group and is allowed, and all owed frames are sent.
pub record NodeStep (jobs : Jobs) (id : ℕ) (old : NodeState) (a : Act) (r : Reply) (new : NodeState) (out : List Sent) : Type 0 where
  pub replied : r ≡ (acts jobs id old a).reply
  pub left : new ≡ (acts jobs id old a).left
  pub quiet : is_quiet r ≡ true → out ≡ []
  pub peers : Each (λ s. is_peer jobs id s.to ≡ true) out
  pub allowed : Each (λ s. Allowed jobs id a new s.frame) out
  pub owed : (s : Sent) → Owes jobs id old a new s → In s out
