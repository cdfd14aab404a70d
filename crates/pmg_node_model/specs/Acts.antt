-- The acts of a node: the causes of refusal, the replies, and the state after each act.
use Rattle.std.specs.Prelude.{ℕ, suc, Bool, true, false, ◌&&◌, ◌||◌, ◌==◌, not, nat_lt, nat_le, List, [], ◌∷◌, map, length, Option, Some, None, is_some, is_err, Result, Ok, Err, if◌then◌else◌}
use Rattle.std.specs.FinSet as set
use Rattle.std.specs.List.{list_all, list_any}
use Rattle.std.specs.Ordering.{eq_by_cmp}
use Rattle.std.specs.Cmp.Lexicographic.{slice_cmp}
use Rattle.pmg_value.specs.CheckOrder.{first_of}
use Rattle.pmg_value.specs.InOrder.{in_order}
use Rattle.pmg_value.specs.Names.{is_reserved}
use Rattle.pmg_value.specs.Process.{proc_cmp, is_host, wildcard}
use Rattle.pmg_value.specs.Signatures.{Signature, FenceName}
use Rattle.pmg_value.specs.declared.process.Proc.{Proc}
use Rattle.pmg_value.specs.declared.refusal.Refusal.{Refusal}
use Rattle.pmg_value.specs.declared.refusal.Refusal.TheVariants as refusals
use Rattle.pmg_scope.specs.Cached.{Unsealed}
use Rattle.pmg_scope.specs.Scripts.{Call}
use Rattle.pmg_commit.specs.Data.{absorbed}
use Rattle.pmg_commit.specs.Sealed.{Sealed, sealed_with, ended_with, commit_answer}
use Rattle.pmg_pset.specs.Changes.{definition, deletion, script_of}
use Rattle.pmg_pset.specs.Refusing.{define_cause, delete_cause}
use Rattle.pmg_pset.specs.Sets.{host, set_changed}
use Rattle.pmg_frame.specs.Fences.{Header, participants_of}
use Rattle.pmg_frame.specs.Refreshing.{told_by}
use Rattle.pmg_frame.specs.declared.frame.Frame.{Frame}
use Rattle.pmg_frame.specs.declared.frame.Frame.TheVariants as frames
use Rattle.pmg_jobinfo.specs.Expansion.{expansion}
use Rattle.pmg_jobinfo.specs.Jobs.{Jobs, is_node, is_registered, is_member, home_of}
use Rattle.pmg_jobinfo.specs.Refusing.{expand_cause}
use Rattle.pmg_jobinfo.specs.Reserved.{is_general}
use Rattle.pmg_fence.specs.Changes.{learned, next_name, entered_by, ended_by, with_header}
use Rattle.pmg_fence.specs.Entering.{same_proc, locals_of}
use Rattle.pmg_fence.specs.Tables.{Fences, is_old, count_of}
use Rattle.pmg_get.specs.Gets.{Outcome}
use Rattle.pmg_get.specs.declared.view.Mode.{Mode}
use Rattle.pmg_get.specs.declared.view.Mode.TheVariants as modes
use Rattle.pmg_node_model.specs.Holdings.{Get, CallState, NodeState, sealer_of, call_of, answer_in, with_far, with_table, with_requests, called, uncalled, sealing, holding_ask, joined, settled, with_reply}
use Rattle.pmg_frame.specs.declared.signature.TheConstants.{MAX_PARTICIPANTS}
use Rattle.pmg_frame.specs.declared.fence_name.TheConstants.{MAX_INSTANCE}

-- A request to a node, by a process at home there or by the operator of the node. A process enters a fence and leaves it, gets a key of a
-- process and takes the answer, or ends. The operator defines a process set or deletes it, or makes the node ask other nodes again for
-- missing frames (PMIx Standard 5.0, PMIx_Fence, PMIx_Get, PMIX_GET_REFRESH_CACHE, PMIx_Finalize, process sets).
pub data Request : Type 0 where
  enter : Proc → List Proc → Bool → Request
  leave : Proc → Request
  ask : Proc → Get → Mode → Request
  take : Proc → Request
  terminate : Proc → Request
  define : List ℕ → List Proc → Request
  delete : List ℕ → Request
  nudge : Request

-- a request; a commit, with the puts that it seals; or the delivery of a frame
pub data Act : Type 0 where
  request : Request → Act
  commit : Proc → Unsealed → Act
  deliver : Frame → Act

-- the reply of a node to an act: a refusal, or the result of the act
pub data Reply : Type 0 where
  refused : Refusal → Reply
  done : Reply
  committed : ℕ → Reply
  entered : ℕ → Reply
  idle : Reply
  waiting : Reply
  released : ℕ → List Proc → Reply
  found : List ℕ → Reply
  parked : Reply
  taken : Reply
  ignored : Reply
  ended : ℕ → Reply
  defined : ℕ → Reply

-- ---- causes of refusal, which are looked for in the order of all calls

-- the union of two tests: a refusal has a cause if either test finds one
abbrev pub also : (Refusal → Bool) → (Refusal → Bool) → Refusal → Bool
also one other e = one e || other e

-- no refusal has a cause
abbrev pub no_cause : Refusal → Bool
no_cause e = false

-- the namespace is registered, and the process is not one of its processes
abbrev pub is_misnamed : Jobs → Proc → Bool
is_misnamed jobs p = is_registered jobs p.nspace && not (is_member jobs p)

-- the caller must be a process of the group, at home at the node, that has not ended
abbrev pub caller_cause : Jobs → ℕ → NodeState → Proc → Refusal → Bool
caller_cause jobs id h p refusals.BadParam = is_reserved p.nspace || is_misnamed jobs p
caller_cause jobs id h p refusals.UnknownNamespace = not (is_registered jobs p.nspace)
caller_cause jobs id h p refusals.NotMine = not (home_of jobs p == id)
caller_cause jobs id h p refusals.Terminated = (sealer_of h p).ended
caller_cause jobs id h p _ = false

-- the caller is in a call already
abbrev pub busy_cause : NodeState → Proc → Refusal → Bool
busy_cause h p refusals.Busy = is_some (call_of h p)
busy_cause h p _ = false

-- the caller's causes, and the cause that it is in a call
abbrev pub free_cause : Jobs → ℕ → NodeState → Proc → Refusal → Bool
free_cause jobs id h p = also (caller_cause jobs id h p) (busy_cause h p)

-- the commit would pass a limit
abbrev pub seal_cause : Sealed → Unsealed → Refusal → Bool
seal_cause z b refusals.TooMany = is_err (commit_answer z b)
seal_cause z b _ = false

-- a list of processes must name processes of the group, and no namespace that the standard reserves
abbrev pub list_cause : Jobs → List Proc → Refusal → Bool
list_cause jobs list refusals.BadParam = list_any (λ q. is_reserved q.nspace) list || expand_cause jobs list refusals.BadParam
list_cause jobs list e = expand_cause jobs list e

-- an empty list of participants means the caller's whole namespace
abbrev pub list_of : Proc → List Proc → List Proc
list_of p [] = record { nspace = p.nspace; rank = wildcard } ∷ []
list_of p (q ∷ qs) = q ∷ qs

-- the signature of the fence that the process enters with this list
abbrev pub signature_of : Jobs → Proc → List Proc → Bool → Signature
signature_of jobs p list collect = record { participants = expansion jobs (list_of p list); collect = collect }

-- the caller must take part; a fence has at most 4,096 participants, and a process enters it at most 4,294,967,295 times
abbrev pub signature_cause : NodeState → Signature → Proc → Refusal → Bool
signature_cause h g p refusals.NotAParticipant = not (set.contains g.participants p)
signature_cause h g p refusals.TooMany = nat_lt MAX_PARTICIPANTS (set.len g.participants) || nat_le MAX_INSTANCE (count_of h.table g p)
signature_cause h g p _ = false

-- The target of a get must be a process of the group, other than the caller. For a reserved key the target may also be the caller, or have
-- no particular rank.
abbrev pub target_cause : Jobs → Proc → Get → Refusal → Bool
target_cause jobs p get refusals.BadParam =
    is_reserved get.target.nspace
    || (if is_reserved get.key then not (is_general get.target) && is_misnamed jobs get.target
    else (is_general get.target || same_proc p get.target || is_misnamed jobs get.target))
target_cause jobs p get refusals.UnknownNamespace = not (is_registered jobs get.target.nspace)
target_cause jobs p get _ = false

-- the get asks the home of its target anew: its key is not reserved, and this home is another node
abbrev pub asks_anew : Jobs → ℕ → Get → Mode → Bool
asks_anew jobs id get modes.Wait = false
asks_anew jobs id get modes.Now = false
asks_anew jobs id get modes.Refresh = not (is_reserved get.key) && not (home_of jobs get.target == id)

-- a request's number must fit in eight bytes
abbrev pub number_cause : Jobs → ℕ → NodeState → Get → Mode → Refusal → Bool
number_cause jobs id h get mode refusals.TooMany = asks_anew jobs id get mode && nat_le 18446744073709551615 h.requests
number_cause jobs id h get mode _ = false

-- process sets change only at node 0
abbrev pub node_cause : ℕ → Refusal → Bool
node_cause id refusals.NotMine = not (id == 0)
node_cause id _ = false

-- the processes that a list selects, in their order
abbrev pub members_of : Jobs → List Proc → List Proc
members_of jobs list = in_order (expansion jobs list)

-- a set's definition: the name must not be reserved, and the list itself, rather than its selection, must not be empty
abbrev pub set_cause : Sealed → List ℕ → List Proc → List Proc → Refusal → Bool
set_cause z name list members refusals.BadParam = is_reserved name || (length list == 0)
set_cause z name list members e = define_cause z name members e

-- a set's name must not be reserved by the standard
abbrev pub name_cause : List ℕ → Refusal → Bool
name_cause name refusals.BadParam = is_reserved name
name_cause name _ = false

-- the causes to refuse a request
unfoldable pub request_cause : Jobs → ℕ → NodeState → Request → Refusal → Bool
request_cause jobs id h (Request.enter p list collect) =
    also (free_cause jobs id h p) (also (list_cause jobs (list_of p list)) (signature_cause h (signature_of jobs p list collect) p))
request_cause jobs id h (Request.leave p) = caller_cause jobs id h p
request_cause jobs id h (Request.ask p get mode) = also (free_cause jobs id h p) (also (target_cause jobs p get) (number_cause jobs id h get mode))
request_cause jobs id h (Request.take p) = caller_cause jobs id h p
request_cause jobs id h (Request.terminate p) = caller_cause jobs id h p
request_cause jobs id h (Request.define name list) =
    also (node_cause id) (also (list_cause jobs list) (set_cause h.sets name list (members_of jobs list)))
request_cause jobs id h (Request.delete name) = also (node_cause id) (also (name_cause name) (delete_cause h.sets name))
request_cause jobs id h Request.nudge = no_cause

-- the causes to refuse an act; the delivery of a frame has no cause
unfoldable pub cause : Jobs → ℕ → NodeState → Act → Refusal → Bool
cause jobs id h (Act.request r) = request_cause jobs id h r
cause jobs id h (Act.commit p b) = also (free_cause jobs id h p) (seal_cause (sealer_of h p) b)
cause jobs id h (Act.deliver frame) = no_cause

-- ---- frames that are ignored

-- a process of the group, or the process that represents its host
abbrev pub is_known : Jobs → Proc → Bool
is_known jobs p = is_member jobs p || is_host p

-- another node of the group
abbrev pub is_peer : Jobs → ℕ → ℕ → Bool
is_peer jobs id node = is_node jobs node && not (node == id)

-- the node has a participant in the fence, and each participant is of the group
abbrev pub is_concerned : Jobs → ℕ → FenceName → Bool
is_concerned jobs id f = list_all (is_member jobs) (participants_of f) && list_any (λ p. home_of jobs p == id) (participants_of f)

-- the header lists exactly the participants of its node
abbrev pub is_complete : Jobs → Header → Bool
is_complete jobs hd = eq_by_cmp (slice_cmp proc_cmp) (map (λ l. l.proc) hd.locals) (locals_of jobs hd.name hd.node)

-- Whether the node takes a frame. A sender named in the frame must be another node of the group. A piece must be of a known process with
-- another home. A header or a request for one must be of a fence that is not old, whose participants are all of the group, some at home
-- here. A header must be complete. A request for commits must be for a known process at home here. A reply must be addressed to this node,
-- about a known process with another home. The node ignores any other frame.
unfoldable pub is_taken : Jobs → ℕ → Fences → Frame → Bool
is_taken jobs id table (frames.Piece c) = is_known jobs c.proc && not (home_of jobs c.proc == id)
is_taken jobs id table (frames.Header hd) = is_peer jobs id hd.node && is_concerned jobs id hd.name && is_complete jobs hd && not (is_old table hd.name)
is_taken jobs id table (frames.FenceAsk a) = is_peer jobs id a.node && is_concerned jobs id a.name && not (is_old table a.name)
is_taken jobs id table (frames.RangeAsk a) = is_peer jobs id a.node && is_known jobs a.proc && (home_of jobs a.proc == id)
is_taken jobs id table (frames.DirectAsk a) = is_peer jobs id a.node && is_known jobs a.proc && (home_of jobs a.proc == id)
is_taken jobs id table (frames.RefreshAsk a) = is_peer jobs id a.ask.node && is_known jobs a.ask.proc && (home_of jobs a.ask.proc == id)
is_taken jobs id table (frames.RefreshReply r) = (r.node == id) && is_known jobs r.told.proc && not (home_of jobs r.told.proc == id)

-- ---- replies, and the state after an act

-- the result of an act: its reply, and the state of the node after it
pub record Done : Type 0 where
  pub reply : Reply
  pub left : NodeState

-- a result with this reply and this state
abbrev pub done_as : Reply → NodeState → Done
done_as reply left = record { reply = reply; left = left }

-- the reply to a get with this outcome
abbrev pub reply_of : Outcome → Reply
reply_of (Outcome.found value) = Reply.found value
reply_of Outcome.absent = Reply.refused refusals.NotFound
reply_of Outcome.outside = Reply.refused refusals.OutsideScope
reply_of Outcome.parks = Reply.parked

-- a process leaves the fence that released it
abbrev pub leaves : NodeState → Proc → Option CallState → Done
leaves h p (Some (CallState.in_fence f)) = done_as Reply.waiting h
leaves h p (Some (CallState.released f gone)) = done_as (Reply.released f.instance gone) (uncalled h p)
leaves h p (Some (CallState.parked get)) = done_as Reply.idle h
leaves h p (Some (CallState.answered get outcome)) = done_as Reply.idle h
leaves h p (Some (CallState.refreshing get number)) = done_as Reply.idle h
leaves h p (Some (CallState.refreshed get outcome)) = done_as Reply.idle h
leaves h p None = done_as Reply.idle h

-- a process takes the answer of the get that waited
abbrev pub takes : NodeState → Proc → Option CallState → Done
takes h p (Some (CallState.in_fence f)) = done_as Reply.idle h
takes h p (Some (CallState.released f gone)) = done_as Reply.idle h
takes h p (Some (CallState.parked get)) = done_as Reply.waiting h
takes h p (Some (CallState.answered get outcome)) = done_as (reply_of outcome) (uncalled h p)
takes h p (Some (CallState.refreshing get number)) = done_as Reply.waiting h
takes h p (Some (CallState.refreshed get outcome)) = done_as (reply_of outcome) (uncalled h p)
takes h p None = done_as Reply.idle h

-- the waiting call of a get, after n requests: a get that asks anew waits for the reply to request n + 1
abbrev pub waits_as : ℕ → Get → Mode → CallState
waits_as n get modes.Wait = CallState.parked get
waits_as n get modes.Now = CallState.parked get
waits_as n get modes.Refresh = CallState.refreshing get (suc n)

-- the number of requests after the get
abbrev pub requests_after : ℕ → Mode → ℕ
requests_after n modes.Wait = n
requests_after n modes.Now = n
requests_after n modes.Refresh = suc n

-- the state after the get parks
abbrev pub parks : NodeState → Proc → Get → Mode → NodeState
parks h p get mode = called (with_requests h (requests_after h.requests mode)) p (waits_as h.requests get mode)

-- a get that parks waits; any other get is answered at once
abbrev pub asks : NodeState → Proc → Get → Mode → Outcome → Done
asks h p get mode Outcome.parks = done_as Reply.parked (parks h p get mode)
asks h p get mode (Outcome.found value) = done_as (Reply.found value) h
asks h p get mode Outcome.absent = done_as (Reply.refused refusals.NotFound) h
asks h p get mode Outcome.outside = done_as (Reply.refused refusals.OutsideScope) h

-- a process enters its next fence of the signature, at its level
abbrev pub enters_fence : NodeState → Proc → Signature → Done
enters_fence h p g =
    done_as (Reply.entered (next_name h.table g p).instance)
    (called (with_table h (entered_by h.table g p (sealer_of h p).level)) p (CallState.in_fence (next_name h.table g p)))

-- a process makes its next commit, and this is its sealed state afterwards
abbrev pub commits_as : NodeState → Proc → Sealed → Done
commits_as h p z = done_as (Reply.committed z.level) (sealing h p z)

-- the process ends: the end is its last commit, and also ends its call
abbrev pub ends_as : NodeState → Proc → Sealed → Done
ends_as h p z = done_as (Reply.ended z.level) (uncalled (with_table (sealing h p z) (ended_by h.table p z.level)) p)

-- the process sets change
abbrev pub changes_as : NodeState → Sealed → Done
changes_as h z = done_as (Reply.defined z.level) (sealing h host z)

-- the result of a request that is not refused
unfoldable pub serves : Jobs → ℕ → NodeState → Request → Done
serves jobs id h (Request.enter p list collect) = enters_fence h p (signature_of jobs p list collect)
serves jobs id h (Request.leave p) = leaves h p (call_of h p)
serves jobs id h (Request.ask p get mode) = asks h p get mode (answer_in jobs id h get mode)
serves jobs id h (Request.take p) = takes h p (call_of h p)
serves jobs id h (Request.terminate p) = ends_as h p (ended_with (sealer_of h p))
serves jobs id h (Request.define name list) = let c = definition name (members_of jobs list) in changes_as h (set_changed h.sets c.name c.bytes)
serves jobs id h (Request.delete name) = let c = deletion name in changes_as h (set_changed h.sets c.name c.bytes)
serves jobs id h Request.nudge = done_as Reply.done h

-- a request for existing commits is answered at once; a request for later commits waits
abbrev pub holds_unless : Bool → NodeState → ℕ → Proc → ℕ → NodeState
holds_unless true h node p level = h
holds_unless false h node p level = holding_ask h node p level

-- the state after the node takes the frame; a reply answers the get that waits for it with the node's knowledge at that time
unfoldable pub receives : Jobs → ℕ → NodeState → Frame → NodeState
receives jobs id h (frames.Piece c) = with_far h (absorbed h.far c)
receives jobs id h (frames.Header hd) = with_table h (with_header h.table hd)
receives jobs id h (frames.FenceAsk a) = with_table h (learned h.table a.name)
receives jobs id h (frames.RangeAsk a) = h
receives jobs id h (frames.DirectAsk a) = holds_unless (nat_lt a.level (sealer_of h a.proc).level) h a.node a.proc a.level
receives jobs id h (frames.RefreshAsk a) = h
receives jobs id h (frames.RefreshReply r) = with_reply jobs id (with_far h (joined h.far (told_by r))) r.request r.told.proc

-- the result of an act that is not refused, before the waiting calls are settled
unfoldable pub does : Jobs → ℕ → NodeState → Act → Done
does jobs id h (Act.request r) = serves jobs id h r
does jobs id h (Act.commit p b) = commits_as h p (sealed_with (sealer_of h p) b)
does jobs id h (Act.deliver frame) = if is_taken jobs id h.table frame then done_as Reply.taken (receives jobs id h frame) else done_as Reply.ignored h

-- a refusal changes nothing; any other act then settles each waiting call that can be released or answered
abbrev pub over : Jobs → ℕ → NodeState → Result Done Refusal → Done
over jobs id h (Ok d) = done_as d.reply (settled jobs id d.left)
over jobs id h (Err e) = done_as (Reply.refused e) h

-- One act of a node: its reply, and the state of the node after it.
abbrev pub acts : Jobs → ℕ → NodeState → Act → Done
acts jobs id h a = over jobs id h (first_of (cause jobs id h a) (does jobs id h a))

-- ---- the calls that an act adds to a script, unless it is refused

-- a process, and calls to append to its script
pub record Said : Type 0 where
  pub proc : Proc
  pub calls : List Call

-- the process makes these calls
abbrev pub said_by : Proc → List Call → Option Said
said_by p calls = Some (record { proc = p; calls = calls })

-- the calls that an act appends to a script, unless it is refused
unfoldable pub says : Jobs → Act → Option Said
says jobs (Act.request (Request.enter p list collect)) = said_by p (Call.enter (signature_of jobs p list collect) ∷ [])
says jobs (Act.request (Request.leave p)) = None
says jobs (Act.request (Request.ask p get mode)) = None
says jobs (Act.request (Request.take p)) = None
says jobs (Act.request (Request.terminate p)) = said_by p (Call.terminate ∷ [])
says jobs (Act.request (Request.define name list)) = said_by host (script_of (definition name (members_of jobs list) ∷ []))
says jobs (Act.request (Request.delete name)) = said_by host (script_of (deletion name ∷ []))
says jobs (Act.request Request.nudge) = None
says jobs (Act.commit p b) = said_by p (Call.commit ∷ [])
says jobs (Act.deliver frame) = None

-- ---- the status of a process, which is not an act

-- the status of a process at a node: not at home there; in no call; in a fence or a get, waiting or complete; or ended
pub data Status : Type 0 where
  stranger : Status
  idle : Status
  in_fence : Status
  released : Status
  parked : Status
  answered : Status
  ended : Status

-- the status of a process that has not ended, by its call
abbrev pub status_by : Option CallState → Status
status_by None = Status.idle
status_by (Some (CallState.in_fence f)) = Status.in_fence
status_by (Some (CallState.released f gone)) = Status.released
status_by (Some (CallState.parked get)) = Status.parked
status_by (Some (CallState.answered get outcome)) = Status.answered
status_by (Some (CallState.refreshing get number)) = Status.parked
status_by (Some (CallState.refreshed get outcome)) = Status.answered

-- the status of the process at the node
unfoldable pub status_of : Jobs → ℕ → NodeState → Proc → Status
status_of jobs id h p =
    if is_member jobs p && (home_of jobs p == id) then (if (sealer_of h p).ended then Status.ended else status_by (call_of h p)) else Status.stranger
