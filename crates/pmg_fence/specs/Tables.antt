-- The fence table of a node, and its queries.
use Rattle.std.specs.Prelude.{ℕ, suc, Bool, false, ◌==◌, ◌&&◌, ◌||◌, not, nat_le, nat_lt, List, map, Option, Some, None, if◌then◌else◌}
use Rattle.std.specs.FinMap as finite
use Rattle.std.specs.List.{filter, find, flat_map, list_all}
use Rattle.std.specs.Option.{option_map, unwrap_or}
use Rattle.std.specs.Ordering.{nat_cmp}
use Rattle.pmg_value.specs.Process.{proc_cmp}
use Rattle.pmg_value.specs.Signatures.{Signature, FenceName}
use Rattle.pmg_value.specs.declared.process.Proc.{Proc}
use Rattle.pmg_frame.specs.FenceOrder.{signature_cmp}
use Rattle.pmg_frame.specs.Fences.{participants_of, is_gone}
use Rattle.pmg_frame.specs.declared.local.Local.{Local}
use Rattle.pmg_jobinfo.specs.Jobs.{Jobs, home_of}
use Rattle.pmg_fence.specs.declared.entry.Entry.{Entry}
use Rattle.pmg_fence.specs.Entering.{entry_by, locals_of, told_locals, same_proc}

-- a number for each of some processes
abbrev pub Numbers : Type 0
Numbers = finite.FinMap proc_cmp ℕ

-- The knowledge of one fence: the levels at which own processes entered it, and the headers of other nodes.
pub record Fence : Type 0 where
  pub levels : Numbers
  pub headers : finite.FinMap nat_cmp (List Local)

-- The fences of one signature: the number of entries of each own process; the known fences, by instance; and the greatest instance that was
-- learned or entered, 0 without one.
pub record Series : Type 0 where
  pub counts : Numbers
  pub fences : finite.FinMap nat_cmp Fence
  pub top : ℕ

-- The fences whose names the node keeps, by signature, and the levels at which own processes ended.
pub record Fences : Type 0 where
  pub series : finite.FinMap signature_cmp Series
  pub ends : Numbers

-- no knowledge of the fence
abbrev pub no_fence : Fence
no_fence = record { levels = finite.empty; headers = finite.empty }

-- no fence of the signature was learned or entered
abbrev pub no_series : Series
no_series = record { counts = finite.empty; fences = finite.empty; top = 0 }

-- no fence's name is kept, and no own process ended
abbrev pub no_fences : Fences
no_fences = record { series = finite.empty; ends = finite.empty }

-- the name of the fence of that signature and instance
abbrev pub fence_of : Signature → ℕ → FenceName
fence_of g k = record { signature = g; instance = k }

-- the series of the signature, empty without one
unfoldable pub series_at : Fences → Signature → Series
series_at t g = unwrap_or (finite.get t.series g) no_series

-- the node has the name
unfoldable pub has_name : Fences → FenceName → Bool
has_name t f = finite.contains_key (series_at t f.signature).fences f.instance

-- the instance is below the greatest one of its signature and the one before; the table keeps only these two
unfoldable pub is_old : Fences → FenceName → Bool
is_old t f = nat_lt (suc f.instance) (series_at t f.signature).top

-- the knowledge of the fence, empty if the table does not keep its name
unfoldable pub fence_at : Fences → FenceName → Fence
fence_at t f = unwrap_or (finite.get (series_at t f.signature).fences f.instance) no_fence

-- the number of entries of the own process into fences of the signature
unfoldable pub count_of : Fences → Signature → Proc → ℕ
count_of t g p = unwrap_or (finite.get (series_at t g).counts p) 0

-- the names in the table, in their order
abbrev pub names_of : Fences → List FenceName
names_of t = flat_map (λ e. map (fence_of e.0) (finite.keys e.1.fences)) (finite.entries t.series)

-- the entry of an own process in a fence, by the level at which it entered and the level at which it ended
unfoldable pub entry_at : Fences → FenceName → Proc → Option Entry
entry_at t f p = entry_by (finite.get (fence_at t f).levels p) (finite.get t.ends p)

-- the node's own header, as soon as it exists
unfoldable pub own_header : Jobs → ℕ → Fences → FenceName → Option (List Local)
own_header jobs node t f = told_locals (entry_at t f) (locals_of jobs f node)

-- a node's header, if it is known
unfoldable pub header_at : Jobs → ℕ → Fences → FenceName → ℕ → Option (List Local)
header_at jobs node t f other = if other == node then own_header jobs node t f else finite.get (fence_at t f).headers other

-- the entry of the process in a header
abbrev pub entry_in : Proc → Option (List Local) → Option Entry
entry_in q None = None
entry_in q (Some ls) = option_map (λ (l : Local). record { state = l.state; level = l.level }) (find (λ l. same_proc q l.proc) ls)

-- the entry of a participant in the header of its home
unfoldable pub told_of : Jobs → ℕ → Fences → FenceName → Proc → Option Entry
told_of jobs node t f q = entry_in q (header_at jobs node t f (home_of jobs q))

-- a participant has an entry in a header, and, if data is collected, its commits are known up to the entry's level
abbrev pub is_covered : Bool → ℕ → Option Entry → Bool
is_covered collect level None = false
is_covered collect level (Some e) = not collect || nat_le e.level level

-- The fence is ready (PMIx Standard 5.0, PMIx_Fence, PMIX_COLLECT_DATA): it is not old, and each participant has an entry in the header of
-- its home. If the fence collects data, all commits of the participant up to its entry or end are known.
unfoldable pub is_ready : Jobs → ℕ → Fences → FenceName → (Proc → ℕ) → Bool
is_ready jobs node t f level =
    not (is_old t f) && list_all (λ q. is_covered f.signature.collect (level q) (told_of jobs node t f q)) (participants_of f)

-- a participant with this entry is gone
abbrev pub says_gone : Option Entry → Bool
says_gone None = false
says_gone (Some e) = is_gone e.state

-- the participants that the headers call gone, in their order
unfoldable pub gone_by : Jobs → ℕ → Fences → FenceName → List Proc
gone_by jobs node t f = filter (λ q. says_gone (told_of jobs node t f q)) (participants_of f)
