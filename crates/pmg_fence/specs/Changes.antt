-- Changes of a fence table.
use Rattle.std.specs.Prelude.{ℕ, suc, not, nat_le, nat_lt, List, [], ◌∷◌, ◌++◌, Option, Some, None, Result, Ok, Err, if◌then◌else◌}
use Rattle.std.specs.FinMap as finite
use Rattle.std.specs.List.{flat_map}
use Rattle.pmg_value.specs.Rows as rows
use Rattle.pmg_value.specs.Signatures.{Signature, FenceName}
use Rattle.pmg_value.specs.declared.process.Proc.{Proc}
use Rattle.pmg_value.specs.declared.refusal.Refusal.{Refusal}
use Rattle.pmg_value.specs.declared.refusal.Refusal.TheVariants as refusals
use Rattle.pmg_frame.specs.Fences.{Header, header}
use Rattle.pmg_frame.specs.declared.local.Local.{Local}
use Rattle.pmg_jobinfo.specs.Jobs.{Jobs}
use Rattle.pmg_fence.specs.Tables.{Numbers, Fence, Series, Fences, fence_of, series_at, has_name, is_old, fence_at, count_of, own_header, names_of}
use Rattle.pmg_fence.specs.Codes.{Known}
use Rattle.pmg_frame.specs.declared.fence_name.TheConstants.{MAX_INSTANCE}

-- the greater of two instances
abbrev pub greater_of : ℕ → ℕ → ℕ
greater_of m n = if nat_lt m n then n else m

-- An update of a fence, with this knowledge of it and these counts of its signature. It forgets nothing yet.
unfoldable pub fence_placed : Fences → FenceName → Fence → Numbers → Fences
fence_placed t f fence counts = record {
  series = finite.insert t.series f.signature (record {
    counts = counts;
    fences = finite.insert (series_at t f.signature).fences f.instance fence;
    top = greater_of (series_at t f.signature).top f.instance;
  });
  ends = t.ends;
}

-- an update that changes only the counts of the signature
unfoldable pub with_counts : Fences → Signature → Numbers → Fences
with_counts t g counts = record {
  series = finite.insert t.series g (record { counts = counts; fences = (series_at t g).fences; top = (series_at t g).top });
  ends = t.ends;
}

-- the fences of one signature with the greatest instance and the one before
abbrev pub series_kept : Series → Series
series_kept s = record { counts = s.counts; fences = finite.retain_keys s.fences (λ k. not (nat_lt (suc k) s.top)); top = s.top }

-- Forgets the signature's fences, except the greatest instance and the one before. The number of entries of each process stays.
unfoldable pub forgotten : Fences → Signature → Fences
forgotten t g = record { series = rows.changed_at t.series g (series_kept (series_at t g)); ends = t.ends }

-- updates the knowledge of a fence, and forgets the fences that become old; an old fence does not change
abbrev pub with_fence : Fences → FenceName → Fence → Fences
with_fence t f fence = if is_old t f then t else forgotten (fence_placed t f fence (series_at t f.signature).counts) f.signature

-- learns a name
abbrev pub learned : Fences → FenceName → Fences
learned t f = with_fence t f (fence_at t f)

-- the name of the fence of the signature that the process enters next
abbrev pub next_name : Fences → Signature → Proc → FenceName
next_name t g p = fence_of g (suc (count_of t g p))

-- the knowledge of the fence after the process entered at the level
abbrev pub fence_entered : Fence → Proc → ℕ → Fence
fence_entered fence p level = record { levels = finite.insert fence.levels p level; headers = fence.headers }

-- the number of entries of each process for the signature, after the process entered its next fence
abbrev pub counts_entered : Fences → Signature → Proc → Numbers
counts_entered t g p = finite.insert (series_at t g).counts p (suc (count_of t g p))

-- the fences after the process entered at its level, before old fences are forgotten; an entry into an old fence is only counted
abbrev pub noted_entry : Fences → Signature → Proc → ℕ → Fences
noted_entry t g p level =
    if is_old t (next_name t g p) then with_counts t g (counts_entered t g p)
    else fence_placed t (next_name t g p) (fence_entered (fence_at t (next_name t g p)) p level) (counts_entered t g p)

-- a process enters at its level
abbrev pub entered_by : Fences → Signature → Proc → ℕ → Fences
entered_by t g p level = forgotten (noted_entry t g p level) g

-- a process ends at its level
abbrev pub ended_by : Fences → Proc → ℕ → Fences
ended_by t p level = record { series = t.series; ends = finite.insert t.ends p level }

-- the lines of a node's first header: an earlier one, if there is one, else this one
abbrev pub first_locals : Option (List Local) → List Local → List Local
first_locals None locals = locals
first_locals (Some first) locals = first

-- the knowledge of the fence after the node's header arrived; the first header of each node counts
abbrev pub fence_told : Fence → ℕ → List Local → Fence
fence_told fence node locals = record { levels = fence.levels; headers = finite.insert fence.headers node (first_locals (finite.get fence.headers node) locals) }

-- a header arrives, and with it the fence's name
abbrev pub with_header : Fences → Header → Fences
with_header t h = with_fence t h.name (fence_told (fence_at t h.name) h.node h.locals)

-- ---- own headers

-- the own header of a fence in the table, as soon as it exists
unfoldable pub present : Jobs → ℕ → Fences → FenceName → Option (List Local)
present jobs node t f = if has_name t f then own_header jobs node t f else None

-- the node's header of the fence, if it did not exist before and exists now
abbrev pub newly : ℕ → FenceName → Option (List Local) → Option (List Local) → List Header
newly node f (Some before) now = []
newly node f None None = []
newly node f None (Some locals) = header node f locals ∷ []

-- the own header of the fence, if it begins to exist
unfoldable pub news : Jobs → ℕ → Fences → Fences → FenceName → List Header
news jobs node old new f = newly node f (present jobs node old f) (present jobs node new f)

-- the content of the table, with these fences
abbrev pub with_fences : Known → Fences → Known
with_fences k t = record { jobs = k.jobs; node = k.node; fences = t; waiting = k.waiting }

-- the content of the table after one fence changed: its own header waits if it begins to exist
abbrev pub fence_changed_at : Known → FenceName → Fences → Known
fence_changed_at k f t = record { jobs = k.jobs; node = k.node; fences = t; waiting = k.waiting ++ news k.jobs k.node k.fences t f }

-- the content of the table after any fences changed: each own header that begins to exist waits
abbrev pub changed : Known → Fences → Known
changed k t = record { jobs = k.jobs; node = k.node; fences = t; waiting = k.waiting ++ flat_map (news k.jobs k.node k.fences t) (names_of k.fences) }

-- the content without the header that waits in front
abbrev pub taken : Known → List Header → Known
taken k rest = record { jobs = k.jobs; node = k.node; fences = k.fences; waiting = rest }

-- The number of the process's next entry, which is the instance that it enters. After the last number, `TooMany`.
abbrev pub enter_answer : Fences → Signature → Proc → Result ℕ Refusal
enter_answer t g p = if nat_le MAX_INSTANCE (count_of t g p) then Err refusals.TooMany else Ok (suc (count_of t g p))
