-- The answer to each call that waits, call by call.
use Rattle.std.specs.Prelude.{◌≡◌, ℕ, Bool, true, false, List, [], ◌∷◌, ◌++◌, map, Option, Some, None, if◌then◌else◌}
use Rattle.std.specs.FinMap as finite
use Rattle.std.specs.FinSet as set
use Rattle.std.specs.List.{flat_map}
use Rattle.pmg_value.specs.Names.{is_reserved}
use Rattle.pmg_value.specs.Signatures.{FenceName}
use Rattle.pmg_value.specs.declared.process.Proc.{Proc}
use Rattle.pmg_commit.specs.Data.{Data, read_at, level_at}
use Rattle.pmg_frame.specs.Fences.{commit_ask}
use Rattle.pmg_frame.specs.declared.frame.Frame.TheVariants as frames
use Rattle.pmg_jobinfo.specs.Jobs.{Jobs, home_of}
use Rattle.pmg_fence.specs.Tables.{Fences, is_ready, gone_by}
use Rattle.pmg_get.specs.Gets.{Outcome, resolve}
use Rattle.pmg_get.specs.declared.view.Mode.TheVariants as modes
use Rattle.pmg_node_parts.specs.Calls.{get_of, anew_of, standing_by, found_outcome, all_parked_on, all_waiting_in, all_waited}
use Rattle.pmg_node_parts.specs.Codes.{Calls}
use Rattle.pmg_node_model.specs.Holdings.{Get, CallState, plain_seen, is_replied}
use Rattle.pmg_node_model.specs.Sending.{sent}
use Rattle.pmg_node_parts.specs.declared.call.Completion.{Completion}
use Rattle.pmg_node_parts.specs.declared.call.Found.{Found}
use Rattle.pmg_node_model.specs.declared.due.ToSend.{ToSend}
use Rattle.pmg_node_model.specs.declared.due.ToSend.TheVariants as sendings

-- each get that waits is a get of a key that is not reserved
abbrev pub ArePlain : Calls → Type 0
ArePlain all = (p : Proc) (get : Get) → finite.get all p ≡ Some (CallState.parked get) → is_reserved get.key ≡ false

-- each get that asks anew is a get of a key that is not reserved
abbrev pub ArePlainAnew : Calls → Type 0
ArePlainAnew all = (p : Proc) (get : Get) (number : ℕ) → finite.get all p ≡ Some (CallState.refreshing get number) → is_reserved get.key ≡ false

-- the only process that waits for the reply to the request of that number, about the process, is the asker
abbrev pub IsAsker : Calls → Option Proc → ℕ → Proc → Type 0
IsAsker all asker number q =
    (p : Proc) (get : Get) (waits_for : ℕ) → finite.get all p ≡ Some (CallState.refreshing get waits_for) → is_replied number q get waits_for ≡ true → asker ≡ Some p

-- each process with its call after the completion
abbrev pub standings : List (Proc × Completion) → List (Proc × CallState)
standings answers = map (λ e. (e.0, standing_by e.1)) answers

-- ---- gets

-- the outcome of a get of a key that is not reserved, with these stores
abbrev pub outcome_with : Jobs → ℕ → Data → Data → Get → Outcome
outcome_with jobs id near far get = resolve (plain_seen jobs id (read_at near get.target) (read_at far get.target) get) modes.Wait

-- the found answer; without one the get still waits
abbrev pub found_as : Option Found → Outcome
found_as None = Outcome.parks
found_as (Some found) = found_outcome found

-- the answer to the process's get, unless it still waits
abbrev pub answered_by : Proc → Get → Outcome → List (Proc × CallState)
answered_by p get Outcome.parks = []
answered_by p get (Outcome.found value) = (p, CallState.answered get (Outcome.found value)) ∷ []
answered_by p get Outcome.absent = (p, CallState.answered get Outcome.absent) ∷ []
answered_by p get Outcome.outside = (p, CallState.answered get Outcome.outside) ∷ []

-- the answered gets among these gets of the target's keys
abbrev pub gets_answered : Jobs → ℕ → Data → Data → Proc → List (Proc × List ℕ) → List (Proc × CallState)
gets_answered jobs id near far target asks = flat_map (λ e. answered_by e.0 (get_of target e.1) (outcome_with jobs id near far (get_of target e.1))) asks

-- the get still waits
abbrev pub still_waits : Outcome → Bool
still_waits Outcome.parks = true
still_waits (Outcome.found value) = false
still_waits Outcome.absent = false
still_waits Outcome.outside = false

-- the request to the process's home for its commits above the known level
abbrev pub home_ask : Jobs → ℕ → Data → Proc → ToSend
home_ask jobs id far q = sendings.Whole (sent (home_of jobs q) (frames.DirectAsk (commit_ask id q (level_at far q))))

-- one request to the home for each of these gets of the process's keys that still waits
abbrev pub asked_for : Jobs → ℕ → Data → Data → Proc → List (Proc × List ℕ) → List ToSend
asked_for jobs id near far q asks = flat_map (λ e. if still_waits (outcome_with jobs id near far (get_of q e.1)) then home_ask jobs id far q ∷ [] else []) asks

-- ---- gets that ask anew

-- the outcome of a get that asks anew, of a key that is not reserved, with these stores after the reply
abbrev pub outcome_then : Jobs → ℕ → Data → Data → Get → Outcome
outcome_then jobs id near far get = resolve (plain_seen jobs id (read_at near get.target) (read_at far get.target) get) modes.Now

-- the answer to p's get by the reply to the request of that number, about q, if the get waits for this reply
abbrev pub replied_by : Jobs → ℕ → Data → Data → Proc → ℕ → Proc → Option (Get × ℕ) → List (Proc × CallState)
replied_by jobs id near far p number q None = []
replied_by jobs id near far p number q (Some anew) =
    if is_replied number q anew.0 anew.1 then (p, CallState.refreshed anew.0 (outcome_then jobs id near far anew.0)) ∷ [] else []

-- the answer to the asker's get, if there is an asker
abbrev pub replied_to : Jobs → ℕ → Data → Data → Calls → Option Proc → ℕ → Proc → List (Proc × CallState)
replied_to jobs id near far all None number q = []
replied_to jobs id near far all (Some p) number q = replied_by jobs id near far p number q (anew_of (finite.get all p))

-- ---- fences

-- the release of these processes from the fence, with the gone participants
abbrev pub released_all : FenceName → List Proc → List Proc → List (Proc × CallState)
released_all f gone procs = map (λ p. (p, CallState.released f gone)) procs

-- the releases of the processes that wait in the fence, if it is ready
abbrev pub released_in : Jobs → ℕ → Fences → Data → Calls → FenceName → List (Proc × CallState)
released_in jobs id table far all f = if is_ready jobs id table f (level_at far) then released_all f (gone_by jobs id table f) (all_waiting_in all f) else []

-- the releases from each fence in which the process takes part
abbrev pub released_with : Jobs → ℕ → Fences → Data → Calls → Proc → List (Proc × CallState)
released_with jobs id table far all q =
    flat_map (λ f. if set.contains f.signature.participants q then released_in jobs id table far all f else []) (all_waited all)

-- the answers to the waiting calls after the node learns more of the process
abbrev pub answered_about : Jobs → ℕ → Fences → Data → Data → Calls → Proc → List (Proc × CallState)
answered_about jobs id table near far all q = gets_answered jobs id near far q (all_parked_on all q) ++ released_with jobs id table far all q
