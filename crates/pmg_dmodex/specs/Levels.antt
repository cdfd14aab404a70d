-- Levels by process and node.
use Rattle.std.specs.Prelude.{ℕ, List, Option, nat_le, nat_lt, filter, if◌then◌else◌}
use Rattle.std.specs.Option.{unwrap_or}
use Rattle.std.specs.Ordering.{nat_cmp}
use Rattle.std.specs.FinMap as finite
use Rattle.std.specs.Coded.{Coded, coded_ℕ}
use Rattle.pmg_value.specs.declared.process.Proc.{Proc}
use Rattle.pmg_value.specs.Process.{proc_cmp, coded_proc}
use Rattle.pmg_value.specs.Rows.{map_of}

-- a level for each of some nodes, by the nodes' indexes
abbrev pub NodeLevels : Type 0
NodeLevels = finite.FinMap nat_cmp ℕ

-- a level for each of some nodes, for each of some processes
abbrev pub Levels : Type 0
Levels = finite.FinMap proc_cmp NodeLevels

-- the code of levels by node
abbrev pub coded_node_levels : Coded NodeLevels
coded_node_levels = finite.code coded_ℕ coded_ℕ

-- the code of levels by process
abbrev pub coded_levels : Coded Levels
coded_levels = finite.code coded_proc coded_node_levels

-- the levels of the process
abbrev pub levels_of : Levels → Proc → NodeLevels
levels_of levels p = unwrap_or (finite.get levels p) finite.empty

-- the level of the process at the node
abbrev pub node_level : Levels → Proc → ℕ → Option ℕ
node_level levels p node = finite.get (levels_of levels p) node

-- the levels, with this one of the process at the node
abbrev pub with_level : Levels → Proc → ℕ → ℕ → Levels
with_level levels p node level = finite.insert levels p (finite.insert (levels_of levels p) node level)

-- the nodes whose level is below that one, with their levels, by node
abbrev pub below : ℕ → NodeLevels → List (ℕ × ℕ)
below level m = filter (λ e. nat_lt e.1 level) (finite.entries m)

-- the levels that are not below that one
abbrev pub not_below : ℕ → NodeLevels → NodeLevels
not_below level m = map_of (filter (λ e. nat_le level e.1) (finite.entries m))

-- the levels, of the process only those that are not below that one
abbrev pub without_below : Levels → Proc → ℕ → Levels
without_below levels p level =
    if finite.contains_key levels p then finite.insert levels p (not_below level (levels_of levels p)) else levels
