-- Entries and headers of fences, by the calls of the processes.
use Rattle.std.specs.Prelude.{ℕ, zero, suc, Bool, ◌==◌, List, [], ◌∷◌, Option, Some, None, if◌then◌else◌}
use Rattle.std.specs.List.{filter}
use Rattle.std.specs.Option.{option_map}
use Rattle.std.specs.Ordering.{eq_by_cmp}
use Rattle.pmg_value.specs.Process.{proc_cmp}
use Rattle.pmg_value.specs.Signatures.{Signature, FenceName}
use Rattle.pmg_value.specs.declared.process.Proc.{Proc}
use Rattle.pmg_scope.specs.Scripts.{Call, Script, has_end, commits}
use Rattle.pmg_frame.specs.FenceOrder.{signature_cmp}
use Rattle.pmg_frame.specs.Fences.{participants_of}
use Rattle.pmg_frame.specs.declared.local.Local.{Local}
use Rattle.pmg_frame.specs.declared.local.State.TheVariants as states
use Rattle.pmg_jobinfo.specs.Jobs.{Jobs, home_of}
use Rattle.pmg_fence.specs.declared.entry.Entry.{Entry}

-- the processes are equal
abbrev pub same_proc : Proc → Proc → Bool
same_proc = eq_by_cmp proc_cmp

-- the signatures are equal
abbrev pub same_signature : Signature → Signature → Bool
same_signature = eq_by_cmp signature_cmp

-- the process entered, after so many commits
abbrev pub entered : ℕ → Entry
entered level = record { state = states.Entered; level = level }

-- the process ended, after so many commits
abbrev pub gone : ℕ → Entry
gone level = record { state = states.Gone; level = level }

-- the number of entries of the process into fences of the signature
abbrev pub enters : Script → Signature → ℕ
enters [] g = 0
enters (Call.put scope key value ∷ cs) g = enters cs g
enters (Call.commit ∷ cs) g = enters cs g
enters (Call.enter h ∷ cs) g = if same_signature g h then suc (enters cs g) else enters cs g
enters (Call.terminate ∷ cs) g = 0

-- the number of commits of the process before its k-th entry, if it made this entry
unfoldable pub level_before : Script → Signature → ℕ → Option ℕ
level_before [] g k = None
level_before (Call.put scope key value ∷ cs) g k = level_before cs g k
level_before (Call.commit ∷ cs) g k = option_map suc (level_before cs g k)
level_before (Call.enter h ∷ cs) g zero = None
level_before (Call.enter h ∷ cs) g (suc k) = if same_signature g h then (if k == 0 then Some 0 else level_before cs g k) else level_before cs g (suc k)
level_before (Call.terminate ∷ cs) g k = None

-- entered at that level; else gone with the level at the end; else neither
abbrev pub entry_by : Option ℕ → Option ℕ → Option Entry
entry_by (Some level) end = Some (entered level)
entry_by None (Some last) = Some (gone last)
entry_by None None = None

-- the number of commits of the process, if it has ended
abbrev pub level_at_end : Script → Option ℕ
level_at_end s = if has_end s then Some (commits s) else None

-- The entry of a process in a fence (PMIx Standard 5.0, PMIx_Fence). The process entered, after a number of commits. Or it ended and will
-- never enter, after a number of commits. Or it did neither yet.
unfoldable pub entry : Script → FenceName → Option Entry
entry s f = entry_by (level_before s f.signature f.instance) (level_at_end s)

-- the participants at home at the node, in their order
unfoldable pub locals_of : Jobs → FenceName → ℕ → List Proc
locals_of jobs f node = filter (λ p. home_of jobs p == node) (participants_of f)

-- the line of a process in a header
abbrev pub local_of : Proc → Entry → Local
local_of p e = record { proc = p; state = e.state; level = e.level }

-- the line of the process in front of the other lines; nothing if either is missing
abbrev pub with_line : Proc → Option Entry → Option (List Local) → Option (List Local)
with_line p None others = None
with_line p (Some e) None = None
with_line p (Some e) (Some ls) = Some (local_of p e ∷ ls)

-- the lines of these processes, as soon as each has an entry
abbrev pub collected_locals : (Proc → Option Entry) → List Proc → Option (List Local)
collected_locals stands [] = Some []
collected_locals stands (p ∷ ps) = with_line p (stands p) (collected_locals stands ps)

-- the lines of these processes, as soon as each has an entry; nothing for an empty list of processes
abbrev pub told_locals : (Proc → Option Entry) → List Proc → Option (List Local)
told_locals stands [] = None
told_locals stands (p ∷ ps) = collected_locals stands (p ∷ ps)

-- The node's header of the fence: the entry of each of its participants, as soon as each has entered or is gone. A node without
-- participants has no header.
unfoldable pub header_of : Jobs → (Proc → Script) → FenceName → ℕ → Option (List Local)
header_of jobs scripts f node = told_locals (λ p. entry (scripts p) f) (locals_of jobs f node)
