-- The state of a node.
use Rattle.std.specs.Prelude.{ℕ, Bool, true, false, ◌==◌, ◌&&◌, List, map, Option, Some, None, is_some, if◌then◌else◌}
use Rattle.std.specs.FinMap as finite
use Rattle.std.specs.Option.{option_map, unwrap_or}
use Rattle.pmg_value.specs.Process.{proc_cmp, is_host}
use Rattle.pmg_value.specs.Signatures.{FenceName}
use Rattle.pmg_value.specs.Rows.{map_of, rows_of}
use Rattle.pmg_value.specs.Names.{is_reserved}
use Rattle.pmg_value.specs.Spelling.{spelling}
use Rattle.pmg_value.specs.declared.process.Proc.{Proc}
use Rattle.pmg_scope.specs.Scripts.{term_key}
use Rattle.pmg_scope.specs.declared.scope.Reach.TheVariants as reach
use Rattle.pmg_commit.specs.Data.{Data, absorbed, read_at, level_at}
use Rattle.pmg_commit.specs.Knowledge.{Contribution}
use Rattle.pmg_commit.specs.Sealed.{Sealed, fresh, piece_at}
use Rattle.pmg_pset.specs.Sets.{host}
use Rattle.pmg_jobinfo.specs.Jobs.{Jobs, home_of}
use Rattle.pmg_jobinfo.specs.Procs.{procs_at}
use Rattle.pmg_jobinfo.specs.Reserved.{reserved_value}
use Rattle.pmg_fence.specs.Entering.{same_proc}
use Rattle.pmg_fence.specs.Tables.{Fences, no_fences, is_ready, gone_by}
use Rattle.pmg_dmodex.specs.Levels.{Levels, node_level as held_at, with_level, without_below}
use Rattle.pmg_dmodex.specs.Requests.{least}
use Rattle.pmg_get.specs.Gets.{Seen, Outcome, resolve}
use Rattle.pmg_get.specs.declared.view.Mode.{Mode}
use Rattle.pmg_get.specs.declared.view.Mode.TheVariants as modes

-- a get of a key of another process
pub record Get : Type 0 where
  pub target : Proc
  pub key : List ℕ

-- The call of an own process (PMIx Standard 5.0, PMIx_Fence, PMIx_Get, PMIX_GET_REFRESH_CACHE). The process waits in a fence. Or the fence
-- released it, with the gone participants, until it leaves. Its get waits. Or its get has an answer, until it takes the answer. Its get
-- waits for the reply to the node's request of that number. Or this reply came and gave an answer, until the process takes the answer.
pub data CallState : Type 0 where
  in_fence : FenceName → CallState
  released : FenceName → List Proc → CallState
  parked : Get → CallState
  answered : Get → Outcome → CallState
  refreshing : Get → ℕ → CallState
  refreshed : Get → Outcome → CallState

-- The state of a node: its knowledge of all processes, for reads from their own node and from other nodes. The sealed state of its own
-- processes, and the process sets. Its table of fences, and the calls of its own processes. Also the nodes that wait for a process's next
-- commit, each with its known level; and the number of the last request of a get that asks anew.
pub record NodeState : Type 0 where
  pub near : Data
  pub far : Data
  pub sealers : finite.FinMap proc_cmp Sealed
  pub sets : Sealed
  pub table : Fences
  pub calls : finite.FinMap proc_cmp CallState
  pub held : Levels
  pub requests : ℕ

-- the state of a new node, whose own processes made no commit
abbrev pub new_holding : Jobs → ℕ → NodeState
new_holding jobs id = record {
  near = finite.empty;
  far = finite.empty;
  sealers = map_of (map (λ p. (p, fresh p)) (procs_at jobs id));
  sets = fresh host;
  table = no_fences;
  calls = finite.empty;
  held = finite.empty;
  requests = 0;
}

-- the sealed state of the process: the sets, if it represents the group's host
unfoldable pub sealer_in : Sealed → finite.FinMap proc_cmp Sealed → Proc → Sealed
sealer_in sets sealers p = if is_host p then sets else unwrap_or (finite.get sealers p) (fresh p)

-- the sealed state of the process in the node's state
abbrev pub sealer_of : NodeState → Proc → Sealed
sealer_of h p = sealer_in h.sets h.sealers p

-- the call of the process
abbrev pub call_of : NodeState → Proc → Option CallState
call_of h p = finite.get h.calls p

-- the fence is ready at the node
abbrev pub is_ready_at : Jobs → ℕ → NodeState → FenceName → Bool
is_ready_at jobs id h f = is_ready jobs id h.table f (level_at h.far)

-- the view of another process's key at the node, for a key that is not reserved, given the reads
abbrev pub plain_seen : Jobs → ℕ → (List ℕ → Option (List ℕ)) → (List ℕ → Option (List ℕ)) → Get → Seen
plain_seen jobs id nears fars get =
    if home_of jobs get.target == id then Seen.local (nears get.key) (fars get.key) (is_some (nears term_key)) else Seen.remote (fars get.key) (is_some (fars term_key))

-- the view of any key of another process
unfoldable pub seen_of : Jobs → ℕ → (List ℕ → Option (List ℕ)) → (List ℕ → Option (List ℕ)) → Get → Seen
seen_of jobs id nears fars get =
    if is_reserved get.key then Seen.reserved (option_map spelling (reserved_value jobs id get.target get.key)) else plain_seen jobs id nears fars get

-- the outcome of a get
abbrev pub answer_in : Jobs → ℕ → NodeState → Get → Mode → Outcome
answer_in jobs id h get mode = resolve (seen_of jobs id (read_at h.near get.target) (read_at h.far get.target) get) mode

-- the knowledge after the join with the contribution, if there is one
abbrev pub joined : Data → Option Contribution → Data
joined d None = d
joined d (Some c) = absorbed d c

-- ---- updates of the state
abbrev pub with_far : NodeState → Data → NodeState
with_far h far = record { near = h.near; far = far; sealers = h.sealers; sets = h.sets; table = h.table; calls = h.calls; held = h.held; requests = h.requests }

-- the state with this table of fences
abbrev pub with_table : NodeState → Fences → NodeState
with_table h table = record { near = h.near; far = h.far; sealers = h.sealers; sets = h.sets; table = table; calls = h.calls; held = h.held; requests = h.requests }

-- the state with these calls of own processes
abbrev pub with_calls : NodeState → finite.FinMap proc_cmp CallState → NodeState
with_calls h calls = record { near = h.near; far = h.far; sealers = h.sealers; sets = h.sets; table = h.table; calls = calls; held = h.held; requests = h.requests }

-- the state with these nodes that wait for a process's next commit
abbrev pub with_held : NodeState → Levels → NodeState
with_held h held = record { near = h.near; far = h.far; sealers = h.sealers; sets = h.sets; table = h.table; calls = h.calls; held = held; requests = h.requests }

-- the state with this number of requests
abbrev pub with_requests : NodeState → ℕ → NodeState
with_requests h requests = record { near = h.near; far = h.far; sealers = h.sealers; sets = h.sets; table = h.table; calls = h.calls; held = h.held; requests = requests }

-- the process is now in that call
abbrev pub called : NodeState → Proc → CallState → NodeState
called h p standing = with_calls h (finite.insert h.calls p standing)

-- the process is now in no call
abbrev pub uncalled : NodeState → Proc → NodeState
uncalled h p = with_calls h (finite.remove h.calls p)

-- the sealers with this sealed state of an own process
abbrev pub sealers_with : NodeState → Proc → Sealed → finite.FinMap proc_cmp Sealed
sealers_with h p z = if is_host p then h.sealers else finite.insert h.sealers p z

-- these are the sets now, if the process represents the group's host
abbrev pub sets_with : NodeState → Proc → Sealed → Sealed
sets_with h p z = if is_host p then z else h.sets

-- The next commit of an own process, or a change of the sets. The new sealed state replaces the old one, both stores join the new commit,
-- and the requests for it no longer wait.
abbrev pub sealing : NodeState → Proc → Sealed → NodeState
sealing h p z = record {
  near = absorbed h.near (piece_at z (sealer_of h p).level reach.Near);
  far = absorbed h.far (piece_at z (sealer_of h p).level reach.Far);
  sealers = sealers_with h p z;
  sets = sets_with h p z;
  table = h.table;
  calls = h.calls;
  held = without_below h.held p z.level;
  requests = h.requests;
}

-- a node waits for the process's next commit; the least level that it named counts
abbrev pub holding_ask : NodeState → ℕ → Proc → ℕ → NodeState
holding_ask h node p level = with_held h (with_level h.held p node (least (held_at h.held p node) level))

-- ---- calls that can be settled

-- a get that waits is answered as soon as its outcome is not `parks`
abbrev pub settled_by : Get → Outcome → CallState
settled_by get Outcome.parks = CallState.parked get
settled_by get (Outcome.found value) = CallState.answered get (Outcome.found value)
settled_by get Outcome.absent = CallState.answered get Outcome.absent
settled_by get Outcome.outside = CallState.answered get Outcome.outside

-- a process in a fence is released, with the gone participants, as soon as the fence is ready
abbrev pub released_by : Bool → FenceName → List Proc → CallState
released_by true f gone = CallState.released f gone
released_by false f gone = CallState.in_fence f

-- the call after its process is released or its get is answered, if this is possible
abbrev pub settle : Jobs → ℕ → NodeState → CallState → CallState
settle jobs id h (CallState.in_fence f) = released_by (is_ready_at jobs id h f) f (gone_by jobs id h.table f)
settle jobs id h (CallState.released f gone) = CallState.released f gone
settle jobs id h (CallState.parked get) = settled_by get (answer_in jobs id h get modes.Wait)
settle jobs id h (CallState.answered get outcome) = CallState.answered get outcome
settle jobs id h (CallState.refreshing get number) = CallState.refreshing get number
settle jobs id h (CallState.refreshed get outcome) = CallState.refreshed get outcome

-- applies f to the value of each key
unfoldable pub mapped : (CallState → CallState) → finite.FinMap proc_cmp CallState → finite.FinMap proc_cmp CallState
mapped f m = rows_of f (finite.entries m)

-- releases each process that can be released, and answers each get that can be answered
abbrev pub settled : Jobs → ℕ → NodeState → NodeState
settled jobs id h = with_calls h (mapped (settle jobs id h) h.calls)

-- ---- replies to gets that ask anew

-- the get, which waits for the reply to the request `waits_for`, waits for the request of this number about this process
abbrev pub is_replied : ℕ → Proc → Get → ℕ → Bool
is_replied number q get waits_for = (waits_for == number) && same_proc get.target q

-- a reply answers the get that waits for it, from the node's state
abbrev pub answer_reply : Jobs → ℕ → NodeState → ℕ → Proc → CallState → CallState
answer_reply jobs id h number q (CallState.refreshing get waits_for) =
    if is_replied number q get waits_for then CallState.refreshed get (answer_in jobs id h get modes.Now) else CallState.refreshing get waits_for
answer_reply jobs id h number q standing = standing

-- the state after the reply to the request of that number, which is about the process
abbrev pub with_reply : Jobs → ℕ → NodeState → ℕ → Proc → NodeState
with_reply jobs id h number q = with_calls h (mapped (answer_reply jobs id h number q) h.calls)
