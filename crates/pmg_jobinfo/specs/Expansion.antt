-- The processes that a list of processes stands for.
use Rattle.std.specs.Prelude.{ℕ, Bool, ◌+◌, List, [], ◌∷◌, map, length, if◌then◌else◌}
use Rattle.std.specs.List.{flat_map, range_with_len, sum_by}
use Rattle.std.specs.FinSet as set
use Rattle.std.specs.Ordering.{is_lt}
use Rattle.pmg_value.specs.declared.process.Proc.{Proc}
use Rattle.pmg_value.specs.InOrder.{in_order}
use Rattle.pmg_value.specs.Process.{proc_cmp, is_undef, is_wildcard}
use Rattle.pmg_jobinfo.specs.Jobs.{Jobs, size_of}

-- no rank is named (PMIX_RANK_UNDEF)
abbrev pub is_undefined : Proc → Bool
is_undefined p = is_undef p.rank

-- all processes of the namespace are meant (PMIX_RANK_WILDCARD)
abbrev pub is_all : Proc → Bool
is_all p = is_wildcard p.rank

-- the one process comes before the other: by namespace, then by rank
abbrev pub is_before : Proc → Proc → Bool
is_before p q = is_lt (proc_cmp p q)

-- the ranks 0, 1, .. of so many processes
abbrev pub ranks : ℕ → List ℕ
ranks count = range_with_len 0 count

-- so many processes of the namespace: those of the ranks 0, 1, ..
unfoldable pub members : List ℕ → ℕ → List Proc
members name count = map (λ rank. record { nspace = name; rank = rank }) (ranks count)

-- whom a process in a list stands for: all of its namespace, or itself
abbrev pub meant : Jobs → Proc → List Proc
meant jobs p = if is_all p then members p.nspace (size_of jobs p.nspace) else p ∷ []

-- the set of those whom the list stands for
unfoldable pub expansion : Jobs → List Proc → set.FinSet proc_cmp
expansion jobs list = set.from_list (flat_map (meant jobs) list)

-- the bytes that those whom the list stands for have in an array, each once: of each one of length, the namespace, and four of rank
abbrev pub expansion_size : Jobs → List Proc → ℕ
expansion_size jobs list = sum_by (λ p. length p.nspace + 5) (in_order (expansion jobs list))
