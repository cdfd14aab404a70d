-- The orders of namespaces, keys, ranks and processes.
use Rattle.std.specs.Prelude.{◌≡◌, ℕ, List}
use Rattle.std.specs.Ordering.{nat_cmp}
use Rattle.std.specs.Cmp.Lexicographic.{slice_cmp}
use Rattle.pmg_value.specs.Process.{proc_cmp}
use Rattle.pmg_value.specs.declared.process.Proc.{Proc}
use Rattle.pmg_value.specs.contracts.names.NspaceOrd.TheImpl as nspace_order
use Rattle.pmg_value.specs.contracts.names.KeyOrd.TheImpl as key_order
use Rattle.pmg_value.specs.contracts.process.RankOrd.TheImpl as rank_order
use Rattle.pmg_value.specs.contracts.process.ProcOrd.TheImpl as proc_order

-- namespaces compare by their bytes
abbrev pub AreNspacesByBytes : Type 0
AreNspacesByBytes = (m n : List ℕ) → nspace_order.ghosts.cmp m n ≡ slice_cmp nat_cmp m n

-- keys compare by their bytes
abbrev pub AreKeysByBytes : Type 0
AreKeysByBytes = (k l : List ℕ) → key_order.ghosts.cmp k l ≡ slice_cmp nat_cmp k l

-- ranks compare by their numbers
abbrev pub AreRanksByNumber : Type 0
AreRanksByNumber = (m n : ℕ) → rank_order.ghosts.cmp m n ≡ nat_cmp m n

-- processes compare by the bytes of the namespace, then by rank
abbrev pub AreProcsByNspaceThenRank : Type 0
AreProcsByNspaceThenRank = (p q : Proc) → proc_order.ghosts.cmp p q ≡ proc_cmp p q
