-- The frames that this program sends, and their order.
use Rattle.std.specs.Prelude.{ℕ, Bool, false, ◌&&◌, ◌==◌, not, nat_lt, nat_le, List, [], ◌∷◌, ◌++◌, map, length, Option, Some, None, is_some, is_none, if◌then◌else◌}
use Rattle.std.specs.FinMap as finite
use Rattle.std.specs.FinSet as set
use Rattle.std.specs.List.{filter, flat_map, list_any}
use Rattle.std.specs.Option.{unwrap_or, option_to_list}
use Rattle.pmg_value.specs.InOrder.{in_order}
use Rattle.pmg_value.specs.Signatures.{FenceName}
use Rattle.pmg_value.specs.declared.process.Proc.{Proc}
use Rattle.pmg_scope.specs.declared.scope.Reach.TheVariants as reach
use Rattle.pmg_commit.specs.Data.{level_at}
use Rattle.pmg_commit.specs.Sealed.{Sealed, piece_at}
use Rattle.pmg_pset.specs.Sets.{host}
use Rattle.pmg_frame.specs.FenceOrder.{name_cmp}
use Rattle.pmg_frame.specs.Fences.{CommitAsk, Header, header, fence_ask, commit_ask, participants_of}
use Rattle.pmg_frame.specs.Refreshing.{RefreshAsk}
use Rattle.pmg_frame.specs.declared.frame.Frame.{Frame}
use Rattle.pmg_frame.specs.declared.frame.Frame.TheVariants as frames
use Rattle.pmg_frame.specs.declared.local.Local.{Local}
use Rattle.pmg_jobinfo.specs.Expansion.{ranks}
use Rattle.pmg_jobinfo.specs.Jobs.{Jobs, home_of}
use Rattle.pmg_fence.specs.Changes.{next_name, news}
use Rattle.pmg_fence.specs.Entering.{locals_of, same_proc}
use Rattle.pmg_fence.specs.Tables.{header_at, told_of, names_of}
use Rattle.pmg_fence.specs.declared.entry.Entry.{Entry}
use Rattle.pmg_dmodex.specs.Levels.{Levels, levels_of, node_level as mark_at, with_level, below}
use Rattle.pmg_node_model.specs.Acts.{Request, Act, signature_of, acts}
use Rattle.pmg_node_model.specs.Holdings.{CallState, NodeState, sealer_of, call_of}
use Rattle.pmg_node_model.specs.Sending.{sent, own_header_of, piece_from, reply_anew, ask_anew, asked_by, is_quiet}
use Rattle.pmg_node_model.specs.declared.due.ToSend.{ToSend}
use Rattle.pmg_node_model.specs.declared.due.ToSend.TheVariants as sendings
use Rattle.pmg_node_model.specs.declared.sent.Sent.{Sent}

-- the other nodes of the group, rising
abbrev pub peers : Jobs → ℕ → List ℕ
peers jobs id = filter (λ m. not (m == id)) (ranks (length jobs.nodes))

-- the other nodes that have a participant in the fence
abbrev pub peers_in : Jobs → ℕ → FenceName → List ℕ
peers_in jobs id f = filter (λ m. list_any (λ q. home_of jobs q == m) (participants_of f)) (peers jobs id)

-- this node's header for one node, and, if the fence collects data, the commits of this node's own participants
abbrev pub telling : Jobs → ℕ → Header → ℕ → List ToSend
telling jobs id hd node =
    sendings.Whole (sent node (frames.Header hd)) ∷ (if hd.name.signature.collect then map (sendings.Rest node) (locals_of jobs hd.name id) else [])

-- this node's header for each other node of the fence
abbrev pub announcing : Jobs → ℕ → Header → List ToSend
announcing jobs id hd = flat_map (telling jobs id hd) (peers_in jobs id hd.name)

-- the process's commits above a level, for the node
abbrev pub piece_due : NodeState → Proc → ℕ → ℕ → ToSend
piece_due h p node from = sendings.Whole (sent node (piece_from h p from))

-- the process's new commits, for the nodes that waited for its next commit
abbrev pub settling : NodeState → NodeState → Proc → List ToSend
settling old new p = map (λ e. piece_due new p e.0 e.1) (below (sealer_of new p).level (levels_of old.held p))

-- the answer to a node that asks for commits: the existing ones above its level
abbrev pub answering : NodeState → ℕ → Proc → ℕ → List ToSend
answering new node p level = if nat_lt level (sealer_of new p).level then piece_due new p node level ∷ [] else []

-- the reply to a node that asks anew, unless it names a commit that was not made
abbrev pub replying : NodeState → RefreshAsk → List ToSend
replying new a =
    if nat_le a.ask.level (sealer_of new a.ask.proc).level then sendings.Whole (sent a.ask.node (frames.RefreshReply (reply_anew new a))) ∷ [] else []

-- the answer to a node that asks for a header: the header to this node, if it existed; otherwise the frames that its new existence causes
abbrev pub telling_of : Jobs → ℕ → ℕ → FenceName → Option (List Local) → List ToSend → List ToSend
telling_of jobs id node f (Some locals) others = telling jobs id (header id f locals) node
telling_of jobs id node f None others = others

-- a request to the process's home, if this is another node, for its commits above the known level
abbrev pub asking_home : Jobs → ℕ → NodeState → Proc → List ToSend
asking_home jobs id h q =
    if home_of jobs q == id then [] else sendings.Whole (sent (home_of jobs q) (frames.DirectAsk (commit_ask id q (level_at h.far q)))) ∷ []

-- a request anew to the process's home, if this is another node, under the request's number
abbrev pub asking_anew : Jobs → ℕ → NodeState → Proc → ℕ → List ToSend
asking_anew jobs id h q number =
    if home_of jobs q == id then [] else sendings.Whole (sent (home_of jobs q) (frames.RefreshAsk (ask_anew id h q number))) ∷ []

-- the request for a get that waits, to the home of its target, if this is another node
abbrev pub asking_for : Jobs → ℕ → NodeState → Option CallState → List ToSend
asking_for jobs id h (Some (CallState.parked get)) = asking_home jobs id h get.target
asking_for jobs id h (Some (CallState.refreshing get number)) = asking_anew jobs id h get.target number
asking_for jobs id h _ = []

-- a get that waits for the process's key
abbrev pub is_parked_on : Proc → CallState → Bool
is_parked_on q (CallState.parked get) = same_proc q get.target
is_parked_on q _ = false

-- one request to the process's home for each get that waits for the process's key
abbrev pub asking_again : Jobs → ℕ → NodeState → Proc → List ToSend
asking_again jobs id h q = flat_map (λ e. if is_parked_on q e.1 then asking_home jobs id h q else []) (finite.entries h.calls)

-- these requests, if the node knows more of the process than before
abbrev pub asking_risen : Jobs → ℕ → NodeState → NodeState → Proc → List ToSend
asking_risen jobs id old new q = if nat_lt (level_at old.far q) (level_at new.far q) then asking_again jobs id new q else []

-- ---- the frames of a nudge

-- the fence that the call is in, unless the fence released it
abbrev pub waited : CallState → List FenceName
waited (CallState.in_fence f) = f ∷ []
waited _ = []

-- the fences in which own processes wait, in the order of their names
abbrev pub waited_in : NodeState → List FenceName
waited_in h = in_order (set.from_list {R = name_cmp} (flat_map (λ e. waited e.1) (finite.entries h.calls)))

-- requests for the missing headers of the fence, to their nodes
abbrev pub asking_headers : Jobs → ℕ → NodeState → FenceName → List ToSend
asking_headers jobs id h f =
    map (λ m. sendings.Whole (sent m (frames.FenceAsk (fence_ask id f)))) (filter (λ m. is_none (header_at jobs id h.table f m)) (peers_in jobs id f))

-- the entry of a participant, if known, names commits above the level
abbrev pub is_behind : ℕ → Option Entry → Bool
is_behind level None = false
is_behind level (Some e) = nat_lt level e.level

-- requests for the missing commits that a header names, to the home of each participant of another node
abbrev pub asking_ranges : Jobs → ℕ → NodeState → FenceName → List ToSend
asking_ranges jobs id h f =
    map (λ q. sendings.Whole (sent (home_of jobs q) (frames.RangeAsk (commit_ask id q (level_at h.far q)))))
    (filter (λ q. not (home_of jobs q == id) && is_behind (level_at h.far q) (told_of jobs id h.table f q)) (participants_of f))

-- requests for a fence's missing headers, and, if the fence collects data, for the missing commits that headers name
abbrev pub asking_fence : Jobs → ℕ → NodeState → FenceName → List ToSend
asking_fence jobs id h f = asking_headers jobs id h f ++ (if f.signature.collect then asking_ranges jobs id h f else [])

-- a request to node 0 for changes of the process sets
abbrev pub asking_sets : ℕ → NodeState → List ToSend
asking_sets id h = if id == 0 then [] else sendings.Whole (sent 0 (frames.RangeAsk (commit_ask id host (level_at h.far host)))) ∷ []

-- all requests for the progress of own processes, and the request for changes of the process sets
abbrev pub nudging : Jobs → ℕ → NodeState → List ToSend
nudging jobs id h =
    flat_map (asking_fence jobs id h) (waited_in h) ++ (flat_map (λ e. asking_for jobs id h (Some e.1)) (finite.entries h.calls) ++ asking_sets id h)

-- ---- the frames that each act causes

-- the whole sets for each other node, after the answers to the nodes that waited
abbrev pub spreading : Jobs → ℕ → NodeState → NodeState → List ToSend
spreading jobs id old new = settling old new host ++ map (λ m. piece_due new host m 0) (peers jobs id)

-- the frames that are due after the request took the node from old to new
unfoldable pub due_by_request : Jobs → ℕ → NodeState → Request → NodeState → List ToSend
due_by_request jobs id old (Request.enter p list collect) new =
    flat_map (announcing jobs id) (news jobs id old.table new.table (next_name old.table (signature_of jobs p list collect) p))
due_by_request jobs id old (Request.leave p) new = []
due_by_request jobs id old (Request.ask p get mode) new = asking_for jobs id new (call_of new p)
due_by_request jobs id old (Request.take p) new = []
due_by_request jobs id old (Request.terminate p) new =
    settling old new p ++ flat_map (announcing jobs id) (flat_map (news jobs id old.table new.table) (names_of old.table))
due_by_request jobs id old (Request.define name list) new = spreading jobs id old new
due_by_request jobs id old (Request.delete name) new = spreading jobs id old new
due_by_request jobs id old Request.nudge new = nudging jobs id new

-- the frames that are due after the frame took the node from old to new
unfoldable pub due_by_frame : Jobs → ℕ → NodeState → Frame → NodeState → List ToSend
due_by_frame jobs id old (frames.Piece c) new = asking_risen jobs id old new c.proc
due_by_frame jobs id old (frames.Header hd) new = flat_map (announcing jobs id) (news jobs id old.table new.table hd.name)
due_by_frame jobs id old (frames.FenceAsk a) new =
    telling_of jobs id a.node a.name (own_header_of jobs id old a.name) (flat_map (announcing jobs id) (news jobs id old.table new.table a.name))
due_by_frame jobs id old (frames.RangeAsk a) new = answering new a.node a.proc a.level
due_by_frame jobs id old (frames.DirectAsk a) new = answering new a.node a.proc a.level
due_by_frame jobs id old (frames.RefreshAsk a) new = replying new a
due_by_frame jobs id old (frames.RefreshReply r) new = asking_risen jobs id old new r.told.proc

-- the frames that are due after the act took the node from old to new
unfoldable pub due_by : Jobs → ℕ → NodeState → Act → NodeState → List ToSend
due_by jobs id old (Act.request r) new = due_by_request jobs id old r new
due_by jobs id old (Act.commit p b) new = settling old new p
due_by jobs id old (Act.deliver frame) new = due_by_frame jobs id old frame new

-- ---- marks: the level up to which each node was sent an own process's commits, or said that it knows them

-- the mark of the process at the node, 0 without one
abbrev pub mark_of : Levels → ℕ → Proc → ℕ
mark_of marks node p = unwrap_or (mark_at marks p node) 0

-- sets a node's mark for the process to the level, if it has one; each process whose commits are sent has a mark at each other node
abbrev pub with_mark : Levels → Proc → ℕ → ℕ → Levels
with_mark marks p node level = if is_some (mark_at marks p node) then with_level marks p node level else marks

-- a sent piece or reply sets its receiver's mark to the last commit in it
abbrev pub marked_by : Levels → ℕ → Frame → Levels
marked_by marks to (frames.Piece c) = with_mark marks c.proc to c.to
marked_by marks to (frames.Header hd) = marks
marked_by marks to (frames.FenceAsk a) = marks
marked_by marks to (frames.RangeAsk a) = marks
marked_by marks to (frames.DirectAsk a) = marks
marked_by marks to (frames.RefreshAsk a) = marks
marked_by marks to (frames.RefreshReply r) = with_mark marks r.told.proc to r.told.to

-- the marks after the frame is sent
abbrev pub marked : Levels → Sent → Levels
marked marks s = marked_by marks s.to s.frame

-- the marks after a node asks for commits, because its request says its level
abbrev pub asked_marks : Levels → Option CommitAsk → Levels
asked_marks marks None = marks
asked_marks marks (Some a) = with_mark marks a.proc a.node a.level

-- the commits for which an act asks an own process's home, also anew
abbrev pub named_by : Act → Option CommitAsk
named_by (Act.deliver (frames.RefreshAsk a)) = Some a.ask
named_by a = asked_by a

-- the marks after the act arrives: a request for commits says the level that its node knows
unfoldable pub marked_by_act : Levels → Act → Levels
marked_by_act marks a = asked_marks marks (named_by a)

-- the frames that go out, and the marks after them
pub record Out : Type 0 where
  pub frames : List Sent
  pub marks : Levels

-- the frame for a due item, given the sealed state of each process; `None` if the node already has the commits
abbrev pub frame_for : (Proc → Sealed) → Levels → ToSend → Option Sent
frame_for sealer marks (sendings.Whole s) = Some s
frame_for sealer marks (sendings.Rest node p) =
    if nat_lt (mark_of marks node p) (sealer p).level then Some (sent node (frames.Piece (piece_at (sealer p) (mark_of marks node p) reach.Far))) else None

-- the marks after the frame is sent, if there is one
abbrev pub marked_if : Levels → Option Sent → Levels
marked_if marks None = marks
marked_if marks (Some s) = marked marks s

-- sends the due items one after the other
unfoldable pub sends : (Proc → Sealed) → Levels → List ToSend → Out
sends sealer marks [] = record { frames = []; marks = marks }
sends sealer marks (d ∷ ds) =
    let out = sends sealer (marked_if marks (frame_for sealer marks d)) ds in
    record { frames = option_to_list (frame_for sealer marks d) ++ out.frames; marks = out.marks }

-- The frames that an act sends, and the marks after them. A refused or ignored act sends nothing.
unfoldable pub chosen : Jobs → ℕ → NodeState → Levels → Act → Out
chosen jobs id old marks a =
    if is_quiet (acts jobs id old a).reply then record { frames = []; marks = marks }
    else sends (sealer_of (acts jobs id old a).left) (marked_by_act marks a) (due_by jobs id old a (acts jobs id old a).left)
