-- Knowledge of one process that comes from the process's own commits.
use Rattle.std.specs.Prelude.{◌≡◌, ◌≤◌, ℕ, List, ◌++◌, true}
use Rattle.std.specs.FinMap as finite
use Rattle.pmg_value.specs.Lists.{Each}
use Rattle.pmg_value.specs.declared.process.Proc.{Proc}
use Rattle.pmg_scope.specs.declared.scope.Reach.{Reach}
use Rattle.pmg_scope.specs.Scripts.{Script, commits, value_at}
use Rattle.pmg_commit.specs.Knowledge.{Contribution, core}
use Rattle.pmg_commit.specs.Honest.{IsHonest, known_from}
use Rattle.pmg_commit.specs.Data.{Data, absorbed, join_data, known, level_at, read_at}
use Rattle.pmg_store.specs.Pieces.{is_of}

-- The data is honest for a process: its knowledge of the process is the core of contributions of the process's script for the reach.
pub record IsHonestData (s : Script) (r : Reach) (p : Proc) (d : Data) : Type 0 where
  pub told : List Contribution
  pub honest : Each (IsHonest s r) told
  pub is : known d p ≡ core (known_from told)

-- empty data is honest
abbrev pub EmptyIsHonest : Type 0
EmptyIsHonest = (s : Script) (r : Reach) (p : Proc) → IsHonestData s r p finite.empty

-- honest data stays honest with a contribution that is honest or of another process
abbrev pub AbsorbedIsHonest : Type 0
AbsorbedIsHonest =
    (s : Script) (r : Reach) (p : Proc) (d : Data) (c : Contribution) → (is_of p c ≡ true → IsHonest s r c) → IsHonestData s r p d
    → IsHonestData s r p (absorbed d c)

-- the join of honest data is honest
abbrev pub JoinedIsHonest : Type 0
JoinedIsHonest = (s : Script) (r : Reach) (p : Proc) (d e : Data) → IsHonestData s r p d → IsHonestData s r p e → IsHonestData s r p (join_data d e)

-- honest data stays honest after later calls of the process
abbrev pub LongerIsHonest : Type 0
LongerIsHonest = (s later : Script) (r : Reach) (p : Proc) (d : Data) → IsHonestData s r p d → IsHonestData (s ++ later) r p d

-- a read gives the value after the process's own commit at the level
abbrev pub HonestDataReads : Type 0
HonestDataReads =
    (s : Script) (r : Reach) (p : Proc) (d : Data) → IsHonestData s r p d → (key : List ℕ) → read_at d p key ≡ value_at s (level_at d p) r key

-- the level is one of its commits
abbrev pub HonestLevelIsMade : Type 0
HonestLevelIsMade = (s : Script) (r : Reach) (p : Proc) (d : Data) → IsHonestData s r p d → level_at d p ≤ commits s

-- levels never fall when data is joined
abbrev pub LevelsRise : Type 0
LevelsRise = (d e : Data) (p : Proc) → level_at d p ≤ level_at (join_data d e) p
