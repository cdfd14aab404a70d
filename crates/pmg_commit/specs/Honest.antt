-- Honest knowledge: knowledge from a process's own commits.
use Rattle.std.specs.Prelude.{◌≡◌, ℕ, ◌<◌, ◌≤◌, ◌↔◌, ◌++◌, List, [], ◌∷◌}
use Rattle.pmg_value.specs.Lists.{In, Each}
use Rattle.pmg_scope.specs.declared.scope.Reach.{Reach}
use Rattle.pmg_scope.specs.Scripts.{Script, commits, value_at}
use Rattle.pmg_scope.specs.Sealing.{IsSealed}
use Rattle.pmg_commit.specs.Entries.{Entry}
use Rattle.pmg_commit.specs.Levels.{level}
use Rattle.pmg_commit.specs.Knowledge.{Contribution, Knowledge, nothing, union, knowledge_of, read}

-- The contribution has the puts that the process's commits from+1 to to, which were made, sealed for the reach. Under each such key it has
-- the put that was sealed last, with the number of its commit.
pub record IsHonest (s : Script) (r : Reach) (c : Contribution) : Type 0 where
  pub made : c.to ≤ commits s
  pub entries : (e : Entry) → In e c.entries ↔ (IsSealed s r e.key c.to e.number e.bytes × (c.from < e.number))

-- the knowledge from several contributions
abbrev pub known_from : List Contribution → Knowledge
known_from [] = nothing
known_from (c ∷ cs) = union (knowledge_of c) (known_from cs)

-- Honest knowledge reads the value that the commit at its level left.
abbrev pub HonestReading : Type 0
HonestReading =
    (s : Script) (r : Reach) (cs : List Contribution) → Each (IsHonest s r) cs
    → (key : List ℕ) → read (known_from cs) key ≡ value_at s (level (known_from cs).numbers) r key

-- Therefore equal levels read alike, whatever the contributions were.
abbrev pub EqualLevelsReadAlike : Type 0
EqualLevelsReadAlike =
    (s : Script) (r : Reach) (cs ds : List Contribution) → Each (IsHonest s r) cs → Each (IsHonest s r) ds
    → level (known_from cs).numbers ≡ level (known_from ds).numbers → (key : List ℕ) → read (known_from cs) key ≡ read (known_from ds) key

-- Honest knowledge stays honest, whatever is called later.
abbrev pub HonestStays : Type 0
HonestStays = (s later : Script) (r : Reach) (c : Contribution) → IsHonest s r c → IsHonest (s ++ later) r c

-- Two honest contributions of the same commits have the same entries.
abbrev pub HonestIsOne : Type 0
HonestIsOne =
    (s : Script) (r : Reach) (c d : Contribution) → IsHonest s r c → IsHonest s r d → c.from ≡ d.from → c.to ≡ d.to
    → (e : Entry) → In e c.entries ↔ In e d.entries

-- The level of honest knowledge is the number of a commit that was made, or 0; therefore the values at it stay.
abbrev pub LevelIsMade : Type 0
LevelIsMade = (s : Script) (r : Reach) (cs : List Contribution) → Each (IsHonest s r) cs → level (known_from cs).numbers ≤ commits s
