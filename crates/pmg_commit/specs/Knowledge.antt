-- Knowledge of one process: the sum of contributions, and its reads.
use Rattle.std.specs.Prelude.{ℕ, zero, suc, Bool, ◌&&◌, not, List, Option, refl}
use Rattle.std.specs.Option.{option_map}
use Rattle.std.specs.List.{list_any, find}
use Rattle.std.specs.Ordering.{nat_cmp}
use Rattle.std.specs.FinSet as set
use Rattle.std.specs.Coded.{Coded, code_by, coded×, coded_ℕ}
use Rattle.pmg_value.specs.declared.process.Proc.{Proc}
use Rattle.pmg_commit.specs.Entries.{Entry, entry_cmp, coded_entry, is_later, is_readable, is_superseded}
use Rattle.pmg_commit.specs.Levels.{level}

-- A contribution has the puts that a process sealed in its commits from+1 to to.
pub record Contribution : Type 0 where
  pub proc : Proc
  pub from : ℕ
  pub to : ℕ
  pub entries : List Entry

-- Knowledge of a process: the numbers of the commits that are known, and all their entries.
pub record Knowledge : Type 0 where
  pub numbers : set.FinSet nat_cmp
  pub entries : set.FinSet entry_cmp

-- knowledge as a pair
abbrev pub coded_knowledge : Coded Knowledge
coded_knowledge =
    code_by (set.FinSet nat_cmp × set.FinSet entry_cmp) (coded× (set.code coded_ℕ) (set.code coded_entry)) (λ k. (k.numbers, k.entries))
    (λ p. record { numbers = p.0; entries = p.1 }) (λ _. refl)

-- nothing is known
abbrev pub nothing : Knowledge
nothing = record { numbers = set.empty; entries = set.empty }

-- everything that either knows
abbrev pub union : Knowledge → Knowledge → Knowledge
union k l = record { numbers = set.union k.numbers l.numbers; entries = set.union k.entries l.entries }

-- the numbers 1 to n
unfoldable pub numbers_to : ℕ → set.FinSet nat_cmp
numbers_to zero = set.empty
numbers_to (suc n) = set.insert (numbers_to n) (suc n)

-- the numbers from+1 to to
unfoldable pub numbers_between : ℕ → ℕ → set.FinSet nat_cmp
numbers_between from to = set.difference (numbers_to to) (numbers_to from)

-- the knowledge from one contribution
unfoldable pub knowledge_of : Contribution → Knowledge
knowledge_of c = record { numbers = numbers_between c.from c.to; entries = set.from_list c.entries }

-- e is the entry that is read under the key: a readable entry, and no readable entry is later
abbrev pub is_read : Knowledge → List ℕ → Entry → Bool
is_read k key e =
    is_readable (level k.numbers) key e
    && not (list_any (λ f. is_readable (level k.numbers) key f && is_later e f) (set.items k.entries))

-- The value that is read under the key, as its canonical bytes. The entry with the greatest number up to the level counts, and at equal
-- numbers the greater bytes.
unfoldable pub read : Knowledge → List ℕ → Option (List ℕ)
read k key = option_map (λ e. e.bytes) (find (is_read k key) (set.items k.entries))

-- The core of knowledge: the numbers of the knowledge, and the entries that no entry supersedes at the level.
unfoldable pub core : Knowledge → Knowledge
core k = record {
  numbers = k.numbers;
  entries = set.retain k.entries (λ e. not (list_any (is_superseded (level k.numbers) e) (set.items k.entries)));
}
