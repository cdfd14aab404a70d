-- The parts of a fence table, and its invariant.
use Rattle.std.specs.Prelude.{◌≡◌, ℕ, suc, ◌+◌, nat_lt, Bool, true, ◌==◌, List, [], ◌++◌, map, Option, Some, None, is_some, if◌then◌else◌}
use Rattle.std.specs.List.{filter, flat_map}
use Rattle.std.specs.FinMap as finite
use Rattle.std.specs.FinSet as set
use Rattle.std.specs.Option.{unwrap_or}
use Rattle.pmg_value.specs.Lists.{In}
use Rattle.pmg_value.specs.Signatures.{Signature, FenceName}
use Rattle.pmg_value.specs.declared.process.Proc.{Proc}
use Rattle.pmg_value.specs.InOrder.{in_order}
use Rattle.pmg_frame.specs.Fences.{Header, is_instance, is_level}
use Rattle.pmg_frame.specs.declared.local.Local.{Local}
use Rattle.pmg_fence.specs.declared.change.Change.{Change}
use Rattle.pmg_fence.specs.declared.change.Change.TheVariants as changes
use Rattle.pmg_fence.specs.declared.entry.Entry.{Entry}
use Rattle.pmg_fence.specs.Entering.{same_proc, entered, entry_by, local_of, locals_of, told_locals}
use Rattle.pmg_fence.specs.Tables.{Numbers, Fence, Series, Fences, no_fence, no_series, series_at, fence_of, has_name, is_old, fence_at, count_of, entry_at, entry_in}
use Rattle.pmg_fence.specs.Codes.{Instances, AllSeries, Known, Owns, Signatures, Index}
use Rattle.pmg_fence.specs.Changes.{greater_of, fence_placed, with_counts, forgotten, fence_entered, fence_told, present, newly}
use Rattle.pmg_jobinfo.specs.Jobs.{Jobs, home_of}

-- the knowledge of the fence after the change
abbrev pub fence_changed : Fence → Change → Fence
fence_changed fence changes.Learned = fence
fence_changed fence (changes.Entered p level) = fence_entered fence p level
fence_changed fence (changes.Told h) = fence_told fence h.node h.locals

-- the counts after the change; an entry is the process's k-th
abbrev pub counts_changed : Numbers → ℕ → Change → Numbers
counts_changed counts k changes.Learned = counts
counts_changed counts k (changes.Entered p level) = finite.insert counts p k
counts_changed counts k (changes.Told h) = counts

-- the knowledge of the fence of that instance, empty if it is not kept
abbrev pub fence_in : Instances → ℕ → Fence
fence_in fences k = unwrap_or (finite.get fences k) no_fence

-- the series after the instance changed, with these counts
abbrev pub series_placed : Series → ℕ → Change → Numbers → Series
series_placed s k change counts = record {
  counts = counts;
  fences = finite.insert s.fences k (fence_changed (fence_in s.fences k) change);
  top = greater_of s.top k;
}

-- the series with these counts, and nothing else changed
abbrev pub series_counted : Series → Numbers → Series
series_counted s counts = record { counts = counts; fences = s.fences; top = s.top }

-- the series after the change; a change of an old instance affects only the counts
unfoldable pub series_changed : Series → ℕ → Change → Series
series_changed s k change =
    if nat_lt (suc k) s.top then series_counted s (counts_changed s.counts k change) else series_placed s k change (counts_changed s.counts k change)

-- the series of the signature, empty without one
abbrev pub series_in : AllSeries → Signature → Series
series_in all g = unwrap_or (finite.get all g) no_series

-- the counts of the fence's signature after the change of the fence
abbrev pub counts_noted : Fences → FenceName → Change → Numbers
counts_noted t f change = counts_changed (series_at t f.signature).counts f.instance change

-- the table after the change of the fence, before old fences are forgotten; a change of an old fence affects only the counts
abbrev pub noted_by : Fences → FenceName → Change → Fences
noted_by t f change =
    if is_old t f then with_counts t f.signature (counts_noted t f change) else fence_placed t f (fence_changed (fence_at t f) change) (counts_noted t f change)

-- the table after the change of the fence, without the fences that become old
abbrev pub placed_by : Fences → FenceName → Change → Fences
placed_by t f change = forgotten (noted_by t f change) f.signature

-- the line of a process that the change adds
abbrev pub changed_local : Change → Option Local
changed_local changes.Learned = None
changed_local (changes.Entered p level) = Some (local_of p (entered level))
changed_local (changes.Told h) = None

-- the entry of a process in a fence, with this line in place of one process's entry
abbrev pub instead : Option Local → (Proc → Option Entry) → Proc → Option Entry
instead None stands q = stands q
instead (Some l) stands q = if same_proc q l.proc then Some (record { state = l.state; level = l.level }) else stands q

-- the entry of an own process in a fence with this knowledge
abbrev pub entry_with : Fence → Numbers → Proc → Option Entry
entry_with fence ends p = entry_by (finite.get fence.levels p) (finite.get ends p)

-- the knowledge of a fence that the table may not have
abbrev pub known_fence : Option Fence → Fence
known_fence fence = unwrap_or fence no_fence

-- the participants of the signature that are at home at the node
abbrev pub own_by : Jobs → ℕ → Signature → List Proc
own_by jobs node g = filter (λ p. home_of jobs p == node) (in_order g.participants)

-- the own participants of a fence of the signature
abbrev pub own_of : Known → Signature → List Proc
own_of k g = own_by k.jobs k.node g

-- the own header that begins to exist when the process has this line in the fence
abbrev pub told_with : Known → FenceName → Option Local → List Header
told_with k f l = newly k.node f (present k.jobs k.node k.fences f) (told_locals (instead l (entry_at k.fences f)) (locals_of k.jobs f k.node))

-- the own header that begins to exist, if the fence is not old; an old fence has no header
abbrev pub newly_told : Known → FenceName → Option Local → List Header
newly_told k f l = if is_old k.fences f then [] else told_with k f l

-- the table after the change of the fence, with the line of one process, before old fences are forgotten
abbrev pub changed_with : Known → FenceName → Change → Option Local → Known
changed_with k f change l = record { jobs = k.jobs; node = k.node; fences = noted_by k.fences f change; waiting = k.waiting ++ newly_told k f l }

-- the content of a table: these jobs and this node, these series and ends, and these headers that wait
abbrev pub known_of : Jobs → ℕ → AllSeries → Numbers → List Header → Known
known_of jobs node series ends waiting = record { jobs = jobs; node = node; fences = record { series = series; ends = ends }; waiting = waiting }

-- The entry of a participant in a fence with this knowledge. An own participant has an entry as soon as all own participants have one.
-- Another participant has the entry in the header of its home.
abbrev pub standing_in : Known → Fence → Bool → Proc → Option Entry
standing_in k fence whole q =
    if home_of k.jobs q == k.node then (if whole then entry_with fence k.fences.ends q else None) else entry_in q (finite.get fence.headers (home_of k.jobs q))

-- the own header that begins to exist when the process of the line ends, if this process had not entered the fence
abbrev pub ended_told : Known → Local → FenceName → List Header
ended_told k l f = if has_name k.fences f then (if is_some (finite.get (fence_at k.fences f).levels l.proc) then [] else told_with k f (Some l)) else []

-- the own headers of the fences of one signature that begin to exist by that end
abbrev pub series_told : Known → Local → Signature → List Header
series_told k l g = flat_map (ended_told k l) (map (fence_of g) (finite.keys (series_in k.fences.series g).fences))

-- ---- own participants, and the signatures of each

-- the signatures found for a process
abbrev pub found_signatures : Option Signatures → Signatures
found_signatures found = unwrap_or found set.empty

-- the index lists the signature for each of the processes
abbrev pub ListsEach : Index → Signature → List Proc → Type 0
ListsEach index g ps = (p : Proc) → In p ps → set.contains (found_signatures (finite.get index p)) g ≡ true

-- the index keeps each signature that it listed for a process
abbrev pub ListsMore : Index → Index → Type 0
ListsMore old new = (p : Proc) (g : Signature) → set.contains (found_signatures (finite.get old p)) g ≡ true
    → set.contains (found_signatures (finite.get new p)) g ≡ true

-- The index lists each signature for each of its kept own participants. It may also list a signature whose own participants are not kept,
-- because an allocation failed.
abbrev pub IsIndex : Owns → Index → Type 0
IsIndex owns index = (g : Signature) (ps : List Proc) → finite.get owns g ≡ Some ps → ListsEach index g ps

-- the signatures include all signatures that have the process among their own participants
abbrev pub HasSignaturesOf : Owns → Proc → Signatures → Type 0
HasSignaturesOf owns p found = (g : Signature) (ps : List Proc) → finite.get owns g ≡ Some ps → In p ps → set.contains found g ≡ true

-- ---- the invariant of a table

-- The invariant of a table. The kept own participants are correct, and they are kept for each signature of a fence in the table. The
-- numbers of instances and levels are within their limits.
pub record IsKept (k : Known) (owns : Owns) : Type 0 where
  pub own : (g : Signature) (ps : List Proc) → finite.get owns g ≡ Some ps → ps ≡ own_of k g
  pub held : (g : Signature) → is_some (finite.get k.fences.series g) ≡ true → is_some (finite.get owns g) ≡ true
  pub names : (f : FenceName) → has_name k.fences f ≡ true → is_instance f.instance ≡ true
  pub levels : (f : FenceName) (p : Proc) (n : ℕ) → finite.get (fence_at k.fences f).levels p ≡ Some n → is_level n ≡ true
  pub ends : (p : Proc) (n : ℕ) → finite.get k.fences.ends p ≡ Some n → is_level n ≡ true

-- the precondition of a change: an entry is the process's next of the signature, and its level is within the limit
abbrev pub CanChange : Fences → FenceName → Change → Type 0
CanChange t f changes.Learned = Unit {0}
CanChange t f (changes.Entered p level) = (is_level level ≡ true) × (f.instance ≡ suc (count_of t f.signature p))
CanChange t f (changes.Told h) = Unit {0}

-- the line of a process has a level within the limit
abbrev pub IsLine : Option Local → Type 0
IsLine None = Unit {0}
IsLine (Some l) = is_level l.level ≡ true

-- the greatest possible number of processes with a line, including one more line
abbrev pub most_told : Fence → Numbers → ℕ
most_told fence ends = finite.len fence.levels + finite.len ends + 1
