-- The members of a process set, as a value.
use Rattle.std.specs.Prelude.{ℕ, ◌+◌, Bool, ◌&&◌, nat_le, length, List, [], ◌∷◌, Option, Some, None, map, nat_eq, if◌then◌else◌}
use Rattle.std.specs.FinSet as set
use Rattle.std.specs.List.{starts_with}
use Rattle.std.specs.Str.{bytes_eq}
use Rattle.pmg_value.specs.declared.process.Proc.{Proc}
use Rattle.pmg_value.specs.declared.value.Value.TheVariants as values
use Rattle.pmg_value.specs.Elements.{Elements}
use Rattle.pmg_value.specs.Plain.{Plain}
use Rattle.pmg_value.specs.InOrder.{in_order}
use Rattle.pmg_value.specs.Process.{proc_cmp}
use Rattle.pmg_value.specs.Spelling.{spelling}

-- the processes of a list, each once, in their order
unfoldable pub each_once : List Proc → List Proc
each_once list = in_order (set.from_list {R = proc_cmp} list)

-- the array of these processes (PMIx Standard 5.0, pmix_data_array_t, PMIX_PROC)
abbrev pub proc_array : List Proc → Elements
proc_array procs = record { tag = 16; plains = map Plain.proc procs }

-- the bytes of a process in its array: one of length, the namespace, and four of rank
abbrev pub proc_size : Proc → ℕ
proc_size p = length p.nspace + 5

-- its canonical bytes as a value
abbrev pub proc_bytes : List Proc → List ℕ
proc_bytes procs = spelling (values.Array (proc_array procs))

-- what a deletion puts: the array of no process
abbrev pub no_members : List ℕ
no_members = proc_bytes []

-- the bytes can be those of an array of processes: its tag, the tag of its items, and four bytes of their number
abbrev pub are_procs : List ℕ → Bool
are_procs bytes = starts_with nat_eq bytes (19 ∷ 16 ∷ []) && nat_le 6 (length bytes)

-- the bytes of an array that has members, and none of one that a deletion put
abbrev pub live_of : List ℕ → Option (List ℕ)
live_of bytes = if bytes_eq bytes no_members then None else Some bytes

-- the bytes of the members' array that a value tells of, where it is an array of processes that has some
abbrev pub members_told : List ℕ → Option (List ℕ)
members_told bytes = if are_procs bytes then live_of bytes else None
