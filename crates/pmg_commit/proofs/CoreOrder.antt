-- The order of cores is one, and in it the join of two cores is the least that both are within.
use Rattle.std.proofs.Common.{ℕ, ◌≡◌, ◌≤◌, ◌⊎◌, inl, inr, ◌||◌, sym, ap, ◌∙◌, subst}
use Rattle.std.specs.FinSet as set
use Rattle.std.specs.FinMap.{nat_cmp-IsAntisymmetric}
use Rattle.std.proofs.lemmas.Cmp.{nat_cmp_total}
use Rattle.std.proofs.lemmas.Bool.{or_cases, or_left}
use Rattle.pmg_value.proofs.SetLemmas.{same_members}
use Rattle.pmg_commit.specs.Entries.{Entry}
use Rattle.pmg_commit.specs.EntryOrder.{Superseded, entries_total, exact_entries, superseded_trans, superseded_more}
use Rattle.pmg_commit.specs.Levels.{level}
use Rattle.pmg_commit.specs.LevelLaws.{level_more}
use Rattle.pmg_commit.specs.Knowledge.{Knowledge, union, core}
use Rattle.pmg_commit.specs.CoreLaws.{Has, Kept, same_knowledge, has_union, union_has_left, numbers-core, core_keeps, kept_in_core, above_of}
use Rattle.pmg_commit.specs.Cores.{Core, join_cores, same_core}
use Rattle.pmg_commit.specs.Within.{Supersedes, NumbersWithin, CoreWithin}
use Rattle.pmg_commit.proofs.Joining.{cores_comm}

level_within : (k l : Knowledge) → NumbersWithin k l → level k.numbers ≤ level l.numbers
level_within k l h = level_more k.numbers l.numbers h

-- a core keeps each entry that it has
kept_of : (a : Core) (e : Entry) → Has a.knowledge e → Kept a.knowledge e
kept_of a e h = core_keeps a.knowledge e (subst (λ k. Has k e) (sym a.is_core) h)

pub cores_reflexive : (a : Core) → CoreWithin a a
cores_reflexive a = (λ n h. h, λ e h. inl h)

-- what supersedes in the one, does so in what the one is within
supersedes_in : (a b : Core) → CoreWithin a b → (e : Entry) → Supersedes a.knowledge e → Supersedes b.knowledge e
supersedes_in a b within e (f, has, s) =
    let more = superseded_more _ _ e f (level_within a.knowledge b.knowledge within.0) s in
    elim (within.1 f has) [
      | inl there ↦ (f, there, more)
      | inr g ↦ (g.0, g.1, superseded_trans (level b.knowledge.numbers) e f g.0 more g.2)
    ]

pub cores_transitive : (a b c : Core) → CoreWithin a b → CoreWithin b c → CoreWithin a c
cores_transitive a b c p q = (
  λ n h. q.0 n (p.0 n h),
  λ e h. elim (p.1 e h) [ inl there ↦ q.1 e there | inr s ↦ inr (supersedes_in b c q e s) ],
)

-- of two that are within one another, the one has what the other has
has_back : (a b : Core) → CoreWithin a b → CoreWithin b a → (e : Entry) → Has a.knowledge e → Has b.knowledge e
has_back a b p q e h = elim (p.1 e h) [
  | inl there ↦ there
  | inr s ↦ let t = supersedes_in b a q e s in absurd ((kept_of a e h).1 t.0 t.1 t.2)
]

pub cores_antisymmetric : (a b : Core) → CoreWithin a b → CoreWithin b a → a ≡ b
cores_antisymmetric a b p q =
    same_core a b (same_knowledge a.knowledge b.knowledge
    (same_members nat_cmp_total nat_cmp-IsAntisymmetric a.knowledge.numbers b.knowledge.numbers p.0 q.0)
    (same_members entries_total exact_entries a.knowledge.entries b.knowledge.entries (has_back a b p q) (has_back b a q p)))

contains-numbers : (a b : Core) (n : ℕ) → set.contains (join_cores a b).knowledge.numbers n ≡ (set.contains a.knowledge.numbers n || set.contains b.knowledge.numbers n)
contains-numbers a b n = ap (λ s. set.contains s n) (numbers-core (union a.knowledge b.knowledge)) ∙ set.contains-union nat_cmp_total a.knowledge.numbers b.knowledge.numbers n

-- an entry of knowledge is in its core, or superseded there
core_has : (k : Knowledge) (e : Entry) → Has k e → Has (core k) e ⊎ Supersedes (core k) e
core_has k e h = elim (above_of k e h) [
  | inl kept ↦ inl (kept_in_core k e kept)
  | inr g ↦ inr (g.0, kept_in_core k g.0 g.1, subst (λ n. Superseded n e g.0) (sym (ap level (numbers-core k))) g.2)
]

pub cores_left : (a b : Core) → CoreWithin a (join_cores a b)
cores_left a b = (
  λ n h. contains-numbers a b n ∙ or_left _ _ h,
  λ e h. core_has (union a.knowledge b.knowledge) e (union_has_left a.knowledge b.knowledge e h),
)

pub cores_right : (a b : Core) → CoreWithin b (join_cores a b)
cores_right a b = subst (CoreWithin b) (cores_comm b a) (cores_left b a)

pub cores_least : (a b c : Core) → CoreWithin a c → CoreWithin b c → CoreWithin (join_cores a b) c
cores_least a b c p q = (
  λ n h. elim (or_cases _ _ (sym (contains-numbers a b n) ∙ h)) [ inl s ↦ p.0 n s | inr t ↦ q.0 n t ],
  λ e h. elim (has_union a.knowledge b.knowledge e (core_keeps (union a.knowledge b.knowledge) e h).0) [ inl s ↦ p.1 e s | inr t ↦ q.1 e t ],
)
