-- The laws of every run, stated over its observable history: a list of events with their replies.
use Rattle.std.specs.Prelude.{◌≡◌, ℕ, ◌≤◌, true, false, List, [], ◌∷◌, ◌++◌, Some, None}
use Rattle.pmg_value.specs.Lists.{In}
use Rattle.pmg_value.specs.Signatures.{FenceName}
use Rattle.pmg_value.specs.declared.process.Proc.{Proc}
use Rattle.pmg_scope.specs.Scripts.{commits}
use Rattle.pmg_frame.specs.Fences.{participants_of}
use Rattle.pmg_jobinfo.specs.Jobs.{AreJobs, Jobs, home_of}
use Rattle.pmg_fence.specs.Entering.{same_proc, entry}
use Rattle.pmg_fence.specs.Rules.{Scripts, gone_of}
use Rattle.pmg_fence.specs.declared.entry.Entry.{Entry}
use Rattle.pmg_get.specs.Gets.{Outcome, resolve}
use Rattle.pmg_get.specs.declared.view.Mode.TheVariants as modes
use Rattle.pmg_node_model.specs.Acts.{Request, Reply}
use Rattle.pmg_node_model.specs.Fitting.{last_fence}
use Rattle.pmg_node_model.specs.Holdings.{Get}
use Rattle.pmg_group_model.specs.Laws.{AnswersRise, answers, reply_outcome, seen_at}
use Rattle.pmg_group_model.specs.Refreshes.{StaysIn, wanted_anew}
use Rattle.pmg_group_model.specs.Worlds.{Event, Happened, Run, World, scripts_after, start}

-- the scripts of all processes, by the events and replies of the history
abbrev pub scripts_told : Jobs → List Happened → Scripts
scripts_told jobs told = scripts_after jobs (λ _. []) told

-- the process leaves its fence; the reply has this instance and these gone participants
abbrev pub leaves_with : ℕ → Proc → ℕ → List Proc → Happened
leaves_with node p k gone = record { event = Event.request node (Request.leave p); reply = Reply.released k gone }

-- the process asks for a key anew, and has to wait
abbrev pub asks_with : ℕ → Proc → Get → Happened
asks_with node p get = record { event = Event.request node (Request.ask p get modes.Refresh); reply = Reply.parked }

-- the process takes the answer of its get, with this reply
abbrev pub takes_with : ℕ → Proc → Reply → Happened
takes_with node p r = record { event = Event.request node (Request.take p); reply = r }

-- The fence theorem (PMIx Standard 5.0, PMIx_Fence, PMIX_COLLECT_DATA). Let a process be released from a fence that collects data. Each
-- later get of another participant's keys is answered with the state after some commit of this participant. This commit is the last one
-- before the participant entered, or a later one.
unfoldable pub KeepsFence : Jobs → List Happened → Type 0
KeepsFence jobs told =
    (xs ys : List Happened) (node : ℕ) (p : Proc) (k : ℕ) (gone : List Proc) → told ≡ xs ++ leaves_with node p k gone ∷ ys
    → (f : FenceName) → last_fence (scripts_told jobs xs p) ≡ Some f → f.signature.collect ≡ true
    → (q : Proc) → In q (participants_of f) → same_proc p q ≡ false
    → (e : Entry) × (entry (scripts_told jobs xs q) f ≡ Some e) × AnswersRise jobs (home_of jobs p) (scripts_told jobs told q) e.level (answers p q None ys)

-- Safety of fences: no process is released before each participant has entered or is gone. A released process learns the fence's instance
-- and the gone participants.
unfoldable pub ReleasesWhole : Jobs → List Happened → Type 0
ReleasesWhole jobs told =
    (xs ys : List Happened) (node : ℕ) (p : Proc) (k : ℕ) (gone : List Proc) → told ≡ xs ++ leaves_with node p k gone ∷ ys
    → (f : FenceName) × (last_fence (scripts_told jobs xs p) ≡ Some f) × (k ≡ f.instance) × (gone ≡ gone_of (scripts_told jobs xs) f)
    × ((q : Proc) → In q (participants_of f) → (e : Entry) × (entry (scripts_told jobs xs q) f ≡ Some e))

-- Agreement: all processes that are released from one fence learn equal instances and gone participants.
unfoldable pub ReleasesAlike : Jobs → List Happened → Type 0
ReleasesAlike jobs told =
    (xs ys zs : List Happened) (m n : ℕ) (p q : Proc) (k j : ℕ) (gone others : List Proc)
    → told ≡ xs ++ leaves_with m p k gone ∷ (ys ++ leaves_with n q j others ∷ zs)
    → last_fence (scripts_told jobs xs p) ≡ last_fence (scripts_told jobs (xs ++ leaves_with m p k gone ∷ ys) q) → (k ≡ j) × (gone ≡ others)

-- Monotonic reads: the answers of one process about another never go back to an earlier commit.
unfoldable pub AnswersNeverFall : Jobs → List Happened → Type 0
AnswersNeverFall jobs told =
    (p q : Proc) → same_proc p q ≡ false → AnswersRise jobs (home_of jobs p) (scripts_told jobs told q) 0 (answers p q None told)

-- A get that asks anew, and has to wait, is answered with the state after a commit of its target. This commit is the last one that was made
-- when the get began, or a later one (PMIx Standard 5.0, PMIX_GET_REFRESH_CACHE).
unfoldable pub RefreshesAnew : Jobs → List Happened → Type 0
RefreshesAnew jobs told =
    (xs ys zs : List Happened) (node m : ℕ) (p : Proc) (get : Get) (r : Reply)
    → told ≡ xs ++ asks_with node p get ∷ (ys ++ takes_with m p r ∷ zs) → StaysIn p (wanted_anew get) ys
    → (o : Outcome) → reply_outcome r ≡ Some o
    → (n : ℕ) × (commits (scripts_told jobs xs get.target) ≤ n)
    × (n ≤ commits (scripts_told jobs (xs ++ asks_with node p get ∷ ys) get.target))
    × (o ≡ resolve (seen_at jobs (home_of jobs p) (scripts_told jobs (xs ++ asks_with node p get ∷ ys) get.target) n get) modes.Now)

-- all these laws
pub record IsLawful (jobs : Jobs) (told : List Happened) : Type 0 where
  pub keeps_fence : KeepsFence jobs told
  pub releases_whole : ReleasesWhole jobs told
  pub releases_alike : ReleasesAlike jobs told
  pub answers_never_fall : AnswersNeverFall jobs told
  pub refreshes_anew : RefreshesAnew jobs told

-- the law holds for the history of every run, for any choice of delivered frames, their order, repeats and losses
abbrev pub Always : (Jobs → List Happened → Type 0) → Type 0
Always Law = (jobs : Jobs) → AreJobs jobs → (told : List Happened) (w : World) → Run jobs (start jobs) told w → Law jobs told

-- the fence theorem, for every run
abbrev pub FenceTheorem : Type 0
FenceTheorem = Always KeepsFence
