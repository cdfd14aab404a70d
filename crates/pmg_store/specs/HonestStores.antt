-- The reads of stores of honest pieces.
use Rattle.std.specs.Prelude.{◌≡◌, ℕ, List, true}
use Rattle.pmg_value.specs.Lists.{Each}
use Rattle.pmg_value.specs.declared.process.Proc.{Proc}
use Rattle.pmg_scope.specs.declared.scope.Reach.{Reach}
use Rattle.pmg_scope.specs.Scripts.{Script, value_at}
use Rattle.pmg_commit.specs.Knowledge.{Contribution}
use Rattle.pmg_commit.specs.Honest.{IsHonest}
use Rattle.pmg_commit.specs.Data.{level_at, read_at}
use Rattle.pmg_store.specs.Pieces.{data_of, is_of}

-- the pieces of the process are pieces of its script for the reach; pieces of other processes are arbitrary
abbrev pub AreHonest : Script → Reach → Proc → List Contribution → Type 0
AreHonest s r p pieces = Each (λ c. is_of p c ≡ true → IsHonest s r c) pieces

-- such a store reads, of the process, the state after its own commit at the level
abbrev pub StoreReadsHonestly : Type 0
StoreReadsHonestly =
    (s : Script) (r : Reach) (p : Proc) (pieces : List Contribution) → AreHonest s r p pieces
    → (key : List ℕ) → read_at (data_of pieces) p key ≡ value_at s (level_at (data_of pieces) p) r key

-- Servers at equal levels of a process read equal values of it, for any pieces that each took.
abbrev pub EqualStoresReadAlike : Type 0
EqualStoresReadAlike =
    (s : Script) (r : Reach) (p : Proc) (xs ys : List Contribution) → AreHonest s r p xs → AreHonest s r p ys
    → level_at (data_of xs) p ≡ level_at (data_of ys) p → (key : List ℕ) → read_at (data_of xs) p key ≡ read_at (data_of ys) p key
