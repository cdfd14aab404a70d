-- Knowledge of all processes.
use Rattle.std.specs.Prelude.{ℕ, Bool, Option, Some, None, List}
use Rattle.std.specs.Coded.{Coded}
use Rattle.std.specs.FinMap as map
use Rattle.std.specs.FinSet as set
use Rattle.pmg_value.specs.declared.process.Proc.{Proc}
use Rattle.pmg_value.specs.Process.{proc_cmp, coded_proc}
use Rattle.pmg_value.specs.Maps.{join_maps}
use Rattle.pmg_commit.specs.Levels.{level}
use Rattle.pmg_commit.specs.Knowledge.{Contribution, Knowledge, nothing, knowledge_of, read}
use Rattle.pmg_commit.specs.Cores.{Core, core_of, join_cores, coded_core}

-- For each process of a taken contribution, the core of what is known of it.
abbrev pub Data : Type 0
Data = map.FinMap proc_cmp Core

-- the code of such data
abbrev pub coded_data : Coded Data
coded_data = map.code coded_proc coded_core

-- everything that either has
abbrev pub join_data : Data → Data → Data
join_data = join_maps join_cores

-- the data of one contribution
unfoldable pub of_contribution : Contribution → Data
of_contribution c = map.insert map.empty c.proc (core_of (knowledge_of c))

-- the data with one more contribution
abbrev pub absorbed : Data → Contribution → Data
absorbed d c = join_data d (of_contribution c)

-- the knowledge in a core, or no knowledge without a core
abbrev pub knowledge_in : Option Core → Knowledge
knowledge_in None = nothing
knowledge_in (Some c) = c.knowledge

-- the knowledge of the process
unfoldable pub known : Data → Proc → Knowledge
known d p = knowledge_in (map.get d p)

-- the process's level
abbrev pub level_at : Data → Proc → ℕ
level_at d p = level (known d p).numbers

-- the value that is read of the process under the key, as canonical bytes
abbrev pub read_at : Data → Proc → List ℕ → Option (List ℕ)
read_at d p key = read (known d p) key

-- whether the process's commit of that number was taken
abbrev pub taken_at : Data → Proc → ℕ → Bool
taken_at d p n = set.contains (known d p).numbers n
