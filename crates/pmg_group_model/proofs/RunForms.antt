-- The laws of every run, as they are proved: of runs that are cut where something happens.
use Rattle.std.specs.Prelude.{◌≡◌, ℕ, ◌≤◌, true, false, List, Some, None}
use Rattle.pmg_value.specs.Lists.{In}
use Rattle.pmg_value.specs.Signatures.{FenceName}
use Rattle.pmg_value.specs.declared.process.Proc.{Proc}
use Rattle.pmg_scope.specs.Scripts.{commits}
use Rattle.pmg_frame.specs.Fences.{participants_of}
use Rattle.pmg_jobinfo.specs.Jobs.{AreJobs, Jobs, home_of}
use Rattle.pmg_fence.specs.Entering.{same_proc, entry}
use Rattle.pmg_fence.specs.Rules.{gone_of}
use Rattle.pmg_fence.specs.declared.entry.Entry.{Entry}
use Rattle.pmg_get.specs.Gets.{Outcome, resolve}
use Rattle.pmg_get.specs.declared.view.Mode.TheVariants as modes
use Rattle.pmg_node_model.specs.Acts.{Request, Reply}
use Rattle.pmg_node_model.specs.Fitting.{last_fence}
use Rattle.pmg_node_model.specs.Holdings.{Get}
use Rattle.pmg_group_model.specs.Laws.{AnswersRise, Leaves, answers, reply_outcome, seen_at}
use Rattle.pmg_group_model.specs.Refreshes.{StaysIn, wanted_anew}
use Rattle.pmg_group_model.specs.Worlds.{Event, Happened, Run, Step, World, start}

abbrev pub FenceOnRuns : Type 0
FenceOnRuns =
    (jobs : Jobs) → AreJobs jobs → (xs : List Happened) (w : World) → Run jobs (start jobs) xs w
    → (p : Proc) (k : ℕ) (gone : List Proc) (v : World) → Leaves jobs w p k gone v
    → (f : FenceName) → last_fence (w.scripts p) ≡ Some f → f.signature.collect ≡ true
    → (q : Proc) → In q (participants_of f) → same_proc p q ≡ false
    → (ys : List Happened) (u : World) → Run jobs v ys u
    → (e : Entry) × (entry (w.scripts q) f ≡ Some e) × AnswersRise jobs (home_of jobs p) (u.scripts q) e.level (answers p q None ys)

abbrev pub WholeOnRuns : Type 0
WholeOnRuns =
    (jobs : Jobs) → AreJobs jobs → (xs : List Happened) (w : World) → Run jobs (start jobs) xs w
    → (p : Proc) (k : ℕ) (gone : List Proc) (v : World) → Leaves jobs w p k gone v
    → (f : FenceName) × (last_fence (w.scripts p) ≡ Some f) × (k ≡ f.instance) × (gone ≡ gone_of w.scripts f)
    × ((q : Proc) → In q (participants_of f) → (e : Entry) × (entry (w.scripts q) f ≡ Some e))

abbrev pub AlikeOnRuns : Type 0
AlikeOnRuns =
    (jobs : Jobs) → AreJobs jobs → (xs : List Happened) (w : World) → Run jobs (start jobs) xs w
    → (p : Proc) (k : ℕ) (gone : List Proc) (v : World) → Leaves jobs w p k gone v
    → (ys : List Happened) (x : World) → Run jobs v ys x
    → (q : Proc) (j : ℕ) (others : List Proc) (y : World) → Leaves jobs x q j others y
    → last_fence (w.scripts p) ≡ last_fence (x.scripts q) → (k ≡ j) × (gone ≡ others)

abbrev pub GetsOnRuns : Type 0
GetsOnRuns =
    (jobs : Jobs) → AreJobs jobs → (xs : List Happened) (w : World) → Run jobs (start jobs) xs w
    → (p q : Proc) → same_proc p q ≡ false → AnswersRise jobs (home_of jobs p) (w.scripts q) 0 (answers p q None xs)

abbrev pub RefreshOnRuns : Type 0
RefreshOnRuns =
    (jobs : Jobs) → AreJobs jobs → (xs : List Happened) (w : World) → Run jobs (start jobs) xs w
    → (p : Proc) (get : Get) (node : ℕ) (v : World) → Step jobs w (Event.request node (Request.ask p get modes.Refresh)) Reply.parked v
    → (ys : List Happened) (x : World) → Run jobs v ys x → StaysIn p (wanted_anew get) ys
    → (at : ℕ) (r : Reply) (u : World) → Step jobs x (Event.request at (Request.take p)) r u → (o : Outcome) → reply_outcome r ≡ Some o
    → (m : ℕ) × (commits (w.scripts get.target) ≤ m) × (m ≤ commits (x.scripts get.target))
    × (o ≡ resolve (seen_at jobs (home_of jobs p) (x.scripts get.target) m get) modes.Now)
