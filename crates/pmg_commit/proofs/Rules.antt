-- The rules of knowledge, in the words of their statements.
use Rattle.std.proofs.Common.{ℕ, zero, suc, ◌≡◌, ◌+◌, ◌<◌, Bool, false, nat_lt, nat_le, ◌&&◌, ◌||◌, not, List, Option, inl, inr, None, Some, sym, ap, subst, ◌∙◌, arith}
use Rattle.std.specs.Ordering.{nat_cmp, eq_by_cmp}
use Rattle.std.specs.FinSet as set
use Rattle.std.proofs.lemmas.Cmp.{nat_cmp_total}
use Rattle.std.proofs.lemmas.Bool.{false≢true, false_from_ne_true, and_from, or_right, cases_lt, lt-ltb, le-leb}
use Rattle.std.proofs.lemmas.Bool.Decides.{nat_tests}
use Rattle.pmg_commit.specs.EntryOrder.{is_later-Decides, is_readable-Decides, is_superseded-Decides}
use Rattle.pmg_commit.specs.Levels.{level}
use Rattle.pmg_commit.specs.LevelLaws.{level_is, level_unique}
use Rattle.pmg_commit.specs.Knowledge.{Contribution, numbers_to, numbers_between, knowledge_of, union, read}
use Rattle.pmg_commit.specs.CoreLaws.{level-union, numbers-core, core_keeps}
use Rattle.pmg_commit.specs.Rules.{NumbersBetween, LevelIsReach, LevelGrows, LevelReaches, ReadIsLatest, ReadIsNone, CoreReadsAlike, CoreIsLeast, AlikeNow}
use Rattle.pmg_commit.proofs.ReadLaws.{latest_of, read_latest, read_none, read-core}

tie_up : (n m : ℕ) (rest : Bool) → rest ≡ (nat_lt 0 n && nat_le n m) → (eq_by_cmp nat_cmp n (suc m) || rest) ≡ (nat_lt 0 n && nat_le n (suc m))
tie_up n m rest h = grind (arith, nat_tests)

none_yet : (n : ℕ) → false ≡ (nat_lt 0 n && nat_le n 0)
none_yet n = grind (arith, nat_tests)

contains-numbers_to : (m n : ℕ) → set.contains (numbers_to m) n ≡ (nat_lt 0 n && nat_le n m)
unfolding numbers_to
contains-numbers_to zero n = set.contains-empty nat_cmp n ∙ none_yet n
contains-numbers_to (suc m) n = set.contains-insert nat_cmp_total (numbers_to m) (suc m) n ∙ tie_up n m _ (contains-numbers_to m n)

apart : (from to n : ℕ) → ((nat_lt 0 n && nat_le n to) && not (nat_lt 0 n && nat_le n from)) ≡ (nat_lt from n && nat_le n to)
apart from to n = grind (arith, nat_tests)

pub numbers_are_between : NumbersBetween
unfolding numbers_between
numbers_are_between from to n =
    set.contains-difference nat_cmp_total (numbers_to to) (numbers_to from) n
    ∙ (λ i. contains-numbers_to to n i && not (contains-numbers_to from n i))
    ∙ apart from to n

-- the numbers of one contribution
pub numbers_of_one : (c : Contribution) (n : ℕ) → set.contains (knowledge_of c).numbers n ≡ (nat_lt c.from n && nat_le n c.to)
unfolding knowledge_of
numbers_of_one c n = numbers_are_between c.from c.to n

pub level_is_reach : LevelIsReach
level_is_reach numbers = (level_is numbers, level_unique numbers)

pub level_grows : LevelGrows
level_grows k l = level-union k l

pub level_reaches : LevelReaches
level_reaches k c h =
    let m : ℕ = level (union k (knowledge_of c)).numbers in
    elim (cases_lt m c.to) [
      | inl past ↦
          let above : c.from < m + 1 = omega (arith, h, level-union k (knowledge_of c)) in
          let own = numbers_of_one c (m + 1) ∙ and_from (nat_lt c.from (m + 1)) (nat_le (m + 1) c.to) (lt-ltb c.from (m + 1) above) (le-leb (m + 1) c.to (omega (arith, past))) in
          absurd (false≢true (sym (level_is (union k (knowledge_of c)).numbers).1 ∙ (set.contains-union nat_cmp_total k.numbers (knowledge_of c).numbers (m + 1) ∙ or_right _ _ own)))
      | inr within ↦ within
    ]

pub read_is_latest : ReadIsLatest
read_is_latest k key e h r last =
    read_latest k key e (record {
      has = h;
      readable = (is_readable-Decides (level k.numbers) key e).0 r;
      last = λ f has readable later. false≢true (sym (last f has ((is_readable-Decides (level k.numbers) key f).1 readable)) ∙ (is_later-Decides e f).1 later);
    })

IsNothing : Option (List ℕ) → Type 0
IsNothing None = Unit {0}
IsNothing (Some bytes) = ⊥

pub read_is_none : ReadIsNone
unfolding IsNothing
read_is_none k key = (
  λ is e h. elim (latest_of k key) [
    | inl latest ↦ absurd (subst IsNothing (sym is ∙ read_latest k key latest.0 latest.1) tt)
    | inr none ↦ false_from_ne_true _ (λ r. none e h ((is_readable-Decides (level k.numbers) key e).0 r))
  ],
  λ none. read_none k key (λ e h r. false≢true (sym (none e h) ∙ (is_readable-Decides (level k.numbers) key e).1 r)),
)

pub core_reads_alike : CoreReadsAlike
core_reads_alike k = (ap level (numbers-core k), read-core k)

pub core_is_least : CoreIsLeast
core_is_least k e f in_e in_f =
    false_from_ne_true _ (λ h. (core_keeps k e in_e).1 f (core_keeps k f in_f).0 ((is_superseded-Decides (level k.numbers) e f).0 h))

pub alike_now : AlikeNow
alike_now k l e =
    (ap level (sym (numbers-core k) ∙ ap (λ c. c.numbers) e ∙ numbers-core l), λ key. sym (read-core k key) ∙ ap (λ c. read c key) e ∙ read-core l key)
