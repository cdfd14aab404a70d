-- The calls of own processes, as a node keeps them.
use Rattle.std.specs.Prelude.{ℕ, Bool, false, List, [], ◌∷◌, Option, Some, None, if◌then◌else◌}
use Rattle.std.specs.FinMap as finite
use Rattle.std.specs.FinSet as set
use Rattle.std.specs.List.{flat_map}
use Rattle.std.specs.Option.{option_map, option_to_list}
use Rattle.std.specs.Ordering.{eq_by_cmp}
use Rattle.pmg_value.specs.InOrder.{in_order}
use Rattle.pmg_value.specs.Rows.{changed_at}
use Rattle.pmg_value.specs.Signatures.{FenceName}
use Rattle.pmg_value.specs.Spelling.{spelling}
use Rattle.pmg_value.specs.declared.process.Proc.{Proc}
use Rattle.pmg_frame.specs.FenceOrder.{name_cmp}
use Rattle.pmg_fence.specs.Entering.{same_proc}
use Rattle.pmg_get.specs.Gets.{Outcome}
use Rattle.pmg_node_model.specs.Choosing.{waited}
use Rattle.pmg_node_parts.specs.Codes.{Calls}
use Rattle.pmg_node_model.specs.Holdings.{Get, CallState}
use Rattle.pmg_node_parts.specs.declared.call.Call.{Call}
use Rattle.pmg_node_parts.specs.declared.call.Call.TheVariants as calls
use Rattle.pmg_node_parts.specs.declared.call.Completion.{Completion}
use Rattle.pmg_node_parts.specs.declared.call.Completion.TheVariants as settlings
use Rattle.pmg_node_parts.specs.declared.call.Found.{Found}
use Rattle.pmg_node_parts.specs.declared.call.Found.TheVariants as founds

-- ---- the meaning of a call

-- the answer to a get that waited, with the value as its canonical bytes
abbrev pub found_outcome : Found → Outcome
found_outcome (founds.Value value) = Outcome.found (spelling value)
found_outcome founds.NotFound = Outcome.absent
found_outcome founds.OutsideScope = Outcome.outside

-- a get of that key of the target
abbrev pub get_of : Proc → List ℕ → Get
get_of target key = record { target = target; key = key }

-- the call of an own process
abbrev pub standing_of : Call → CallState
standing_of (calls.InFence f) = CallState.in_fence f
standing_of (calls.Released f gone) = CallState.released f gone.items
standing_of (calls.Parked target key) = CallState.parked (get_of target key)
standing_of (calls.Answered target key found) = CallState.answered (get_of target key) (found_outcome found)
standing_of (calls.Refreshing target key number) = CallState.refreshing (get_of target key) number
standing_of (calls.Refreshed target key found) = CallState.refreshed (get_of target key) (found_outcome found)

-- the fence that released the process, and the gone participants
abbrev pub released_by_fence : CallState → Option (FenceName × List Proc)
released_by_fence (CallState.released f gone) = Some (f, gone)
released_by_fence _ = None

-- the answer to a get
abbrev pub answered_in : CallState → Option Outcome
answered_in (CallState.answered get outcome) = Some outcome
answered_in (CallState.refreshed get outcome) = Some outcome
answered_in _ = None

-- the get that asks anew, and the number of its request
abbrev pub anew_in : CallState → Option (Get × ℕ)
anew_in (CallState.refreshing get number) = Some (get, number)
anew_in _ = None

-- the get of the call that asks anew, if there is a call
abbrev pub anew_of : Option CallState → Option (Get × ℕ)
anew_of None = None
anew_of (Some standing) = anew_in standing

-- a completion, as the call of its process
abbrev pub standing_by : Completion → CallState
standing_by (settlings.Released f gone) = CallState.released f gone.items
standing_by (settlings.Answered target key found) = CallState.answered (get_of target key) (found_outcome found)
standing_by (settlings.Refreshed target key found) = CallState.refreshed (get_of target key) (found_outcome found)

-- ---- the waiting calls

-- the key of the process that a get waits for
abbrev pub key_on : Proc → CallState → Option (List ℕ)
key_on q (CallState.in_fence f) = None
key_on q (CallState.released f gone) = None
key_on q (CallState.parked get) = if same_proc q get.target then Some get.key else None
key_on q (CallState.answered get outcome) = None
key_on q (CallState.refreshing get number) = None
key_on q (CallState.refreshed get outcome) = None

-- the caller and the key, if its get waits for a key of the process
abbrev pub asks_on : Proc → Proc × CallState → List (Proc × List ℕ)
asks_on q e = option_to_list (option_map (λ key. (e.0, key)) (key_on q e.1))

-- the processes whose gets wait for a key of the process, with the keys, in their order
abbrev pub all_parked_on : Calls → Proc → List (Proc × List ℕ)
all_parked_on all q = flat_map (asks_on q) (finite.entries all)

-- the process whose key a get waits for, and the number of its request, if it asks anew
abbrev pub ask_of : CallState → Option (Proc × Option ℕ)
ask_of (CallState.in_fence f) = None
ask_of (CallState.released f gone) = None
ask_of (CallState.parked get) = Some (get.target, None)
ask_of (CallState.answered get outcome) = None
ask_of (CallState.refreshing get number) = Some (get.target, Some number)
ask_of (CallState.refreshed get outcome) = None

-- this process and number for each get that waits, in the order of the callers
abbrev pub all_asks : Calls → List (Proc × Option ℕ)
all_asks all = flat_map (λ e. option_to_list (ask_of e.1)) (finite.entries all)

-- the call is in the fence and not released
abbrev pub is_waiting_in : FenceName → CallState → Bool
is_waiting_in f (CallState.in_fence g) = eq_by_cmp name_cmp f g
is_waiting_in f _ = false

-- the caller, if the call is in the fence and not released
abbrev pub waits_in : FenceName → Proc × CallState → List Proc
waits_in f e = if is_waiting_in f e.1 then e.0 ∷ [] else []

-- the processes that are in the fence and not released, in their order
abbrev pub all_waiting_in : Calls → FenceName → List Proc
all_waiting_in all f = flat_map (waits_in f) (finite.entries all)

-- the fences in which unreleased processes are, in the order of their names
abbrev pub all_waited : Calls → List FenceName
all_waited all = in_order (set.from_list {R = name_cmp} (flat_map (λ e. waited e.1) (finite.entries all)))

-- ---- the answers to calls

-- the calls, with each completion in place of its process's call, if there is one; the first of several completions for one process counts
abbrev pub all_instead : Calls → List (Proc × Completion) → Calls
all_instead all [] = all
all_instead all (e ∷ es) = changed_at (all_instead all es) e.0 (standing_by e.1)
