-- The order of knowledge: the conditions for one to be within another.
use Rattle.std.specs.Prelude.{ℕ, true, ◌≡◌, ◌⊎◌}
use Rattle.std.specs.FinSet as set
use Rattle.pmg_commit.specs.Entries.{Entry}
use Rattle.pmg_commit.specs.EntryOrder.{Superseded}
use Rattle.pmg_commit.specs.Levels.{level}
use Rattle.pmg_commit.specs.Knowledge.{Knowledge}
use Rattle.pmg_commit.specs.CoreLaws.{Has}
use Rattle.pmg_commit.specs.Cores.{Core}

-- the knowledge has an entry that supersedes e at its level
abbrev pub Supersedes : Knowledge → Entry → Type 0
Supersedes k e = (f : Entry) × Has k f × Superseded (level k.numbers) e f

-- each number of the one is a number of the other
abbrev pub NumbersWithin : Knowledge → Knowledge → Type 0
NumbersWithin k l = (n : ℕ) → set.contains k.numbers n ≡ true → set.contains l.numbers n ≡ true

-- each entry of the one is in the other, or superseded there
abbrev pub EntriesWithin : Knowledge → Knowledge → Type 0
EntriesWithin k l = (e : Entry) → Has k e → Has l e ⊎ Supersedes l e

-- The one core is within the other: its numbers are in the other, and each of its entries is there or is superseded there.
abbrev pub CoreWithin : Core → Core → Type 0
CoreWithin a b = NumbersWithin a.knowledge b.knowledge × EntriesWithin a.knowledge b.knowledge
