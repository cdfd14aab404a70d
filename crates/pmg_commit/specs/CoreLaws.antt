-- Laws of cores: a core keeps what counts, and cores can be joined in place of their knowledge.
use Rattle.std.proofs.Common.{◌≡◌, ◌≤◌, ◌⊎◌, inl, inr, Bool, true, false, ◌&&◌, ◌||◌, not, refl, sym, ap, ◌∙◌, subst}
use Rattle.std.specs.List.{list_any}
use Rattle.std.specs.FinSet as set
use Rattle.std.proofs.lemmas.Cmp.{nat_cmp_total}
use Rattle.std.proofs.lemmas.Bool.{false≢true, false_from_ne_true, and_parts, and_from, or_cases, or_left, or_right, not-true}
use Rattle.pmg_value.specs.Lists.{In}
use Rattle.pmg_value.proofs.ListLemmas.{not_in_list_any, list_any_none}
use Rattle.pmg_value.proofs.SetLemmas.{in_items, contains_in, same_members}
use Rattle.pmg_commit.specs.Entries.{Entry, is_superseded}
use Rattle.pmg_commit.specs.Levels.{level}
use Rattle.pmg_commit.specs.Knowledge.{Knowledge, union, core}
use Rattle.pmg_commit.specs.EntryOrder.{entries_total, exact_entries, Superseded, is_superseded-Decides, superseded_itself, superseded_trans, superseded_more}
use Rattle.pmg_commit.specs.LevelLaws.{level_more}
use Rattle.pmg_commit.specs.Tops.{top_of}

-- e is one of the entries
abbrev pub Has : Knowledge → Entry → Type 0
Has k e = set.contains k.entries e ≡ true

-- e is one of the entries, and no entry supersedes it
abbrev pub Kept : Knowledge → Entry → Type 0
Kept k e = Has k e × ((f : Entry) → Has k f → Superseded (level k.numbers) e f → ⊥)

pub same_knowledge : (k l : Knowledge) → k.numbers ≡ l.numbers → k.entries ≡ l.entries → k ≡ l
same_knowledge k l p q i = record { numbers = p i; entries = q i }

pub has_in : (k : Knowledge) (e : Entry) → Has k e → In e (set.items k.entries)
has_in k e h = in_items entries_total exact_entries k.entries e h

pub in_has : (k : Knowledge) (e : Entry) → In e (set.items k.entries) → Has k e
in_has k e i = contains_in entries_total exact_entries k.entries e i

-- ---- unions
pub contains-union : (k l : Knowledge) (e : Entry) → set.contains (union k l).entries e ≡ (set.contains k.entries e || set.contains l.entries e)
contains-union k l e = set.contains-union entries_total k.entries l.entries e

pub has_union : (k l : Knowledge) (e : Entry) → Has (union k l) e → Has k e ⊎ Has l e
has_union k l e h = or_cases _ _ (sym (contains-union k l e) ∙ h)

pub union_has_left : (k l : Knowledge) (e : Entry) → Has k e → Has (union k l) e
union_has_left k l e h = contains-union k l e ∙ or_left _ _ h

pub union_has_right : (k l : Knowledge) (e : Entry) → Has l e → Has (union k l) e
union_has_right k l e h = contains-union k l e ∙ or_right _ _ h

pub level-union : (k l : Knowledge) → level k.numbers ≤ level (union k l).numbers
level-union k l = level_more k.numbers (union k l).numbers (λ i h. set.contains-union nat_cmp_total k.numbers l.numbers i ∙ or_left _ _ h)

-- ---- what a core keeps
pub numbers-core : (k : Knowledge) → (core k).numbers ≡ k.numbers
unfolding core
numbers-core k = refl

is_gone : Knowledge → Entry → Bool
is_gone k e = list_any (is_superseded (level k.numbers) e) (set.items k.entries)

contains-core : (k : Knowledge) (e : Entry) → set.contains (core k).entries e ≡ (set.contains k.entries e && not (is_gone k e))
unfolding core is_gone
contains-core k e = set.contains-retain k.entries _ e (λ f tie. ap (λ g. not (list_any (is_superseded (level k.numbers) g) (set.items k.entries))) (sym (exact_entries e f tie)))

none_supersedes : (k : Knowledge) (e : Entry) → is_gone k e ≡ false → (f : Entry) → Has k f → Superseded (level k.numbers) e f → ⊥
unfolding is_gone
none_supersedes k e t f h s =
    false≢true (sym (not_in_list_any (is_superseded (level k.numbers) e) (set.items k.entries) t f (has_in k f h)) ∙ (is_superseded-Decides (level k.numbers) e f).1 s)

is_not_gone : (k : Knowledge) (e : Entry) → ((f : Entry) → Has k f → Superseded (level k.numbers) e f → ⊥) → is_gone k e ≡ false
unfolding is_gone
is_not_gone k e none =
    list_any_none (is_superseded (level k.numbers) e) (set.items k.entries) (λ f i. false_from_ne_true _ (λ h. none f (in_has k f i) ((is_superseded-Decides (level k.numbers) e f).0 h)))

pub core_keeps : (k : Knowledge) (e : Entry) → Has (core k) e → Kept k e
core_keeps k e h =
    let parts = and_parts (set.contains k.entries e) (not (is_gone k e)) (sym (contains-core k e) ∙ h) in
    (parts.0, none_supersedes k e (not-true (is_gone k e) parts.1))

pub kept_in_core : (k : Knowledge) (e : Entry) → Kept k e → Has (core k) e
kept_in_core k e kept = contains-core k e ∙ and_from _ _ kept.0 (ap not (is_not_gone k e kept.1))

-- an entry is kept, or superseded by one that is kept
pub above_of : (k : Knowledge) (e : Entry) → Has k e → Kept k e ⊎ ((g : Entry) × Kept k g × Superseded (level k.numbers) e g)
unfolding is_gone
above_of k e h =
    let n = level k.numbers in
    let decides : (f g : Entry) → is_superseded n f g ≡ true → Superseded n f g = λ f g. (is_superseded-Decides n f g).0 in
    elim (top_of (is_superseded n) (λ f s. superseded_itself n f (decides f f s))
    (λ a b c s t. (is_superseded-Decides n a c).1 (superseded_trans n a b c (decides a b s) (decides b c t))) (set.items k.entries) e) [
      | inl none ↦ inl (h, none_supersedes k e none)
      | inr top ↦ inr (top.0, (in_has k top.0 top.1, none_supersedes k top.0 top.3), decides e top.0 top.2)
    ]

-- what invents no entry and loses no kept one has the same core
pub same_kept : (k l : Knowledge) → k.numbers ≡ l.numbers → ((e : Entry) → Has k e → Has l e) → ((e : Entry) → Kept l e → Has k e) → core k ≡ core l
same_kept k l numbers fewer enough =
    let levels : level k.numbers ≡ level l.numbers = ap level numbers in
    let to_k : (e f : Entry) → Superseded (level l.numbers) e f → Superseded (level k.numbers) e f = λ e f. subst (λ n. Superseded n e f) (sym levels) in
    let to_l : (e f : Entry) → Superseded (level k.numbers) e f → Superseded (level l.numbers) e f = λ e f. subst (λ n. Superseded n e f) levels in
    same_knowledge (core k) (core l) (numbers-core k ∙ numbers ∙ sym (numbers-core l))
    (same_members entries_total exact_entries (core k).entries (core l).entries
    (λ e h.
    let kept = core_keeps k e h in
    kept_in_core l e (
      fewer e kept.0,
      λ f has s. elim (above_of l f has) [
        | inl top ↦ kept.1 f (enough f top) (to_k e f s)
        | inr top ↦ kept.1 top.0 (enough top.0 top.1) (to_k e top.0 (superseded_trans (level l.numbers) e f top.0 s top.2))
      ],
    ))
    (λ e h.
    let kept = core_keeps l e h in
    kept_in_core k e (enough e kept, λ f has s. kept.1 f (fewer f has) (to_l e f s))))

-- ---- the laws
pub core-core : (k : Knowledge) → core (core k) ≡ core k
core-core k = same_kept (core k) k (numbers-core k) (λ e h. (core_keeps k e h).0) (λ e kept. kept_in_core k e kept)

pub core-union_left : (k l : Knowledge) → core (union (core k) l) ≡ core (union k l)
core-union_left k l =
    same_kept (union (core k) l) (union k l) (ap (λ n. set.union n l.numbers) (numbers-core k))
    (λ e h. elim (has_union (core k) l e h) [ inl a ↦ union_has_left k l e (core_keeps k e a).0 | inr b ↦ union_has_right k l e b ])
    (λ e kept. elim (has_union k l e kept.0) [
      | inl a ↦ union_has_left (core k) l e (kept_in_core k e (a, λ f has s. kept.1 f (union_has_left k l f has) (superseded_more _ _ e f (level-union k l) s)))
      | inr b ↦ union_has_right (core k) l e b
    ])
