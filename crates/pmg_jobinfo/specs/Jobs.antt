-- What the servers of a group know of its jobs before anybody puts anything.
use Rattle.std.specs.Prelude.{ℕ, Bool, false, ◌≡◌, ◌<◌, ◌≤◌, nat_lt, List, [], length, get_or, IsTrue, refl}
use Rattle.std.specs.List.{list_all}
use Rattle.std.specs.Option.{IfSome, unwrap_or}
use Rattle.std.specs.Ordering.{nat_cmp}
use Rattle.std.specs.Cmp.Lexicographic.{slice_cmp}
use Rattle.std.specs.Coded.{Coded, code_by, coded×, coded_list, coded_ℕ}
use Rattle.std.specs.FinMap as map
use Rattle.pmg_value.specs.Rows.{map_of}
use Rattle.pmg_value.specs.declared.process.Proc.{Proc}
use Rattle.pmg_value.specs.Names.{is_reserved}
use Rattle.pmg_jobinfo.specs.declared.registry.TheConstants.{MAX_NODES, MAX_RANKS, MAX_SPACES}

-- The homes of a namespace's ranks 0, 1, .., by namespace. A process's home is the node that hosts it, by its index.
abbrev pub Spaces : Type 0
Spaces = map.FinMap (slice_cmp nat_cmp) (List ℕ)

-- The names of the nodes in the order of their indexes, and the namespaces that are registered
-- (PMIx Standard 5.0, PMIx_server_register_nspace).
pub record Jobs : Type 0 where
  pub nodes : List (List ℕ)
  pub spaces : Spaces

-- jobs as a pair
abbrev pub coded_jobs : Coded Jobs
coded_jobs =
    code_by (List (List ℕ) × Spaces) (coded× (coded_list (coded_list coded_ℕ)) (map.code (coded_list coded_ℕ) (coded_list coded_ℕ))) (λ j. (j.nodes, j.spaces))
    (λ p. record { nodes = p.0; spaces = p.1 }) (λ _. refl)

-- the namespaces that a table holds
abbrev pub spaces_of : List (List ℕ × List ℕ) → Spaces
spaces_of table = map_of table

-- the jobs that a table of namespaces holds
abbrev pub jobs_of : List (List ℕ) → List (List ℕ × List ℕ) → Jobs
jobs_of names table = record { nodes = names; spaces = spaces_of table }

-- the group with these nodes, and no namespace yet
abbrev pub opened : List (List ℕ) → Jobs
opened names = record { nodes = names; spaces = map.empty }

-- the namespace is registered too, with these homes
abbrev pub registered : Jobs → List ℕ → List ℕ → Jobs
registered jobs name homes = record { nodes = jobs.nodes; spaces = map.insert jobs.spaces name homes }

-- the index is that of a node
abbrev pub is_node : Jobs → ℕ → Bool
is_node jobs node = nat_lt node (length jobs.nodes)

-- the namespace is registered
abbrev pub is_registered : Jobs → List ℕ → Bool
is_registered jobs name = map.contains_key jobs.spaces name

-- the homes of the namespace's ranks, none where it is not registered
abbrev pub homes_of : Jobs → List ℕ → List ℕ
homes_of jobs name = unwrap_or (map.get jobs.spaces name) []

-- how many processes the namespace has
abbrev pub size_of : Jobs → List ℕ → ℕ
size_of jobs name = length (homes_of jobs name)

-- the process's rank is one of its namespace: 0 to its size - 1
abbrev pub is_member : Jobs → Proc → Bool
is_member jobs p = nat_lt p.rank (size_of jobs p.nspace)

-- the process's home: node 0 for one that is not registered, as that of the group's host is not
abbrev pub home_of : Jobs → Proc → ℕ
home_of jobs p = get_or (homes_of jobs p.nspace) p.rank 0

-- what holds of each registered namespace of a group of so many nodes: its name does not begin with `pmix`, and it has
-- 1 to 4096 ranks, each at home at a node
pub record IsSpace (nodes : ℕ) (name homes : List ℕ) : Type 0 where
  pub named : is_reserved name ≡ false
  pub some : 0 < length homes
  pub few : length homes ≤ MAX_RANKS
  pub at_nodes : IsTrue (list_all (λ home. nat_lt home nodes) homes)

-- what holds of the jobs of every group: 1 to 64 nodes, and at most 16 namespaces, each of which may be registered
pub record AreJobs (jobs : Jobs) : Type 0 where
  pub some : 0 < length jobs.nodes
  pub few : length jobs.nodes ≤ MAX_NODES
  pub few_spaces : map.len jobs.spaces ≤ MAX_SPACES
  pub spaces : (name : List ℕ) → IfSome (map.get jobs.spaces name) (IsSpace (length jobs.nodes) name)
