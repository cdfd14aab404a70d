-- Where each call of a registry has a cause to be refused. The causes are looked for in the order of all calls.
use Rattle.std.specs.Prelude.{ℕ, Bool, false, ◌&&◌, ◌||◌, ◌==◌, not, nat_lt, nat_le, List, length, is_none}
use Rattle.std.specs.List.{list_all, list_any}
use Rattle.std.specs.Set.{distinct_count}
use Rattle.std.specs.Ordering.{nat_cmp, eq_by_cmp}
use Rattle.std.specs.Cmp.Lexicographic.{slice_cmp}
use Rattle.std.specs.FinMap as map
use Rattle.pmg_value.specs.declared.process.Proc.{Proc}
use Rattle.pmg_value.specs.declared.refusal.Refusal.{Refusal}
use Rattle.pmg_value.specs.declared.refusal.Refusal.TheVariants as refusals
use Rattle.pmg_value.specs.Names.{is_nspace, is_reserved}
use Rattle.pmg_value.specs.Process.{is_host}
use Rattle.pmg_jobinfo.specs.Jobs.{Jobs, is_node, is_registered, is_member}
use Rattle.pmg_jobinfo.specs.Expansion.{is_all, is_undefined}
use Rattle.pmg_jobinfo.specs.Reserved.{is_general, reserved_value}
use Rattle.pmg_jobinfo.specs.declared.registry.TheConstants.{MAX_NODES, MAX_RANKS, MAX_SPACES}

-- there are as many different names as names: no two are equal
abbrev pub are_distinct : List (List ℕ) → Bool
are_distinct names = distinct_count (eq_by_cmp (slice_cmp nat_cmp)) names == length names

-- each name is one of a node: 1 to 255 bytes of 0x21 to 0x7E, as a namespace's; and no two are equal
abbrev pub are_names : List (List ℕ) → Bool
are_names names = list_all is_nspace names && are_distinct names

-- a new registry: some node has to be there, and at most 64
abbrev pub new_cause : List (List ℕ) → Refusal → Bool
new_cause names refusals.BadParam = (length names == 0) || not (are_names names)
new_cause names refusals.TooMany = nat_lt MAX_NODES (length names)
new_cause names _ = false

-- a registration: no name that begins with `pmix`, some rank, each at home at a node; at most 4096 ranks, and 16 namespaces
abbrev pub register_cause : Jobs → List ℕ → List ℕ → Refusal → Bool
register_cause jobs name homes refusals.BadParam = is_reserved name || ((length homes == 0) || not (list_all (is_node jobs) homes))
register_cause jobs name homes refusals.Exists = is_registered jobs name
register_cause jobs name homes refusals.TooMany = nat_lt MAX_RANKS (length homes) || nat_le MAX_SPACES (map.len jobs.spaces)
register_cause jobs name homes _ = false

-- a size
abbrev pub size_cause : Jobs → List ℕ → Refusal → Bool
size_cause jobs name refusals.UnknownNamespace = not (is_registered jobs name)
size_cause jobs name _ = false

-- a home: the process is one of its namespace, or that of the group's host, which is registered nowhere
abbrev pub home_cause : Jobs → Proc → Refusal → Bool
home_cause jobs p refusals.BadParam = is_registered jobs p.nspace && not (is_member jobs p)
home_cause jobs p refusals.UnknownNamespace = not (is_registered jobs p.nspace) && not (is_host p)
home_cause jobs p _ = false

-- a reserved key: the asking node is one of the group; the process is one of its namespace, or all of it
abbrev pub reserved_cause : Jobs → ℕ → Proc → List ℕ → Refusal → Bool
reserved_cause jobs asking p key refusals.BadParam = not (is_node jobs asking) || (is_registered jobs p.nspace && (not (is_general p) && not (is_member jobs p)))
reserved_cause jobs asking p key refusals.UnknownNamespace = not (is_registered jobs p.nspace)
reserved_cause jobs asking p key refusals.NotFound = is_none (reserved_value jobs asking p key)
reserved_cause jobs asking p key _ = false

-- a process in a list: its rank is named, and is one of its namespace unless all are meant
abbrev pub is_bad : Jobs → Proc → Bool
is_bad jobs p = is_undefined p || (is_registered jobs p.nspace && (not (is_all p) && not (is_member jobs p)))

-- a list of processes
abbrev pub expand_cause : Jobs → List Proc → Refusal → Bool
expand_cause jobs list refusals.BadParam = list_any (is_bad jobs) list
expand_cause jobs list refusals.UnknownNamespace = list_any (λ p. not (is_registered jobs p.nspace)) list
expand_cause jobs list _ = false
