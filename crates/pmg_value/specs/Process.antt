-- Processes in definitions, and their order.
use Rattle.std.specs.Prelude.{ℕ, Bool, ◌&&◌, ◌||◌, ◌==◌, not, nat_eq, nat_le, List, codes, refl}
use Rattle.std.specs.Ordering.{nat_cmp, ordering_then}
use Rattle.std.specs.Cmp.Lexicographic.{slice_cmp, pointwise}
use Rattle.std.specs.declared.cmp.Ordering.{Ordering}
use Rattle.std.specs.Coded.{Coded, code_by, coded×, coded_list, coded_ℕ}
use Rattle.pmg_value.specs.declared.process.Proc.{Proc}
use Rattle.std.specs.Str.{bytes_eq}
use Rattle.pmg_value.specs.Names.{is_reserved}
use Rattle.pmg_value.specs.declared.process.TheConstants.{MAX_RANK}

-- the rank that names no process (PMIx Standard 5.0, pmix_rank_t: PMIX_RANK_UNDEF); it is the greatest number of a rank
abbrev pub undef : ℕ
undef = 4294967295

-- the rank that means all processes of the namespace (PMIx Standard 5.0, pmix_rank_t: PMIX_RANK_WILDCARD)
abbrev pub wildcard : ℕ
wildcard = 4294967294

-- no rank is named
abbrev pub is_undef : ℕ → Bool
is_undef rank = rank == undef

-- all ranks of the namespace are meant
abbrev pub is_wildcard : ℕ → Bool
is_wildcard rank = rank == wildcard

-- the order by the bytes of the namespace, then by rank (PMIx Standard 5.0, data types: pmix_proc_t)
abbrev pub proc_cmp : Proc → Proc → Ordering
proc_cmp p q = ordering_then (slice_cmp nat_cmp p.nspace q.nspace) (nat_cmp p.rank q.rank)

-- the processes are equal
abbrev pub is_same_proc : Proc → Proc → Bool
is_same_proc p q = pointwise nat_eq p.nspace q.nspace && nat_eq p.rank q.rank

-- a process as a pair
abbrev pub coded_proc : Coded Proc
coded_proc =
    code_by (List ℕ × ℕ) (coded× (coded_list coded_ℕ) coded_ℕ) (λ p. (p.nspace, p.rank)) (λ p. record { nspace = p.0; rank = p.1 })
    (λ _. refl)

-- A process that a group may register: its namespace is not reserved, and its rank is one of 4096.
abbrev pub is_client : Proc → Bool
is_client p = not (is_reserved p.nspace) && nat_le p.rank MAX_RANK

-- The namespace of the one process that stands for the group's host.
abbrev pub host_name : List ℕ
host_name = codes "pmix.host"

-- The process `pmix.host 0`, whose puts are the process sets.
abbrev pub is_host : Proc → Bool
is_host p = bytes_eq p.nspace host_name && (p.rank == 0)

-- A process that commits: a group may register it, or it stands for the group's host.
abbrev pub can_commit : Proc → Bool
can_commit p = is_client p || is_host p
