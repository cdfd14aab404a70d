-- What a track knows before and after it takes more.
use Rattle.std.proofs.Common.{arith, ℕ, suc, ◌+◌, List, [], ◌∷◌, map, ◌≡◌, ◌<◌, ◌≤◌, ◌⊎◌, inl, inr, ◌||◌, refl, sym, ap, ◌∙◌, subst}
use Rattle.std.specs.Prelude.{Option, Some, None, IfSome}
use Rattle.std.specs.Option.{option_map}
use Rattle.std.specs.FinSet as set
use Rattle.std.specs.FinMap.{nat_cmp-IsAntisymmetric}
use Rattle.std.proofs.lemmas.Cmp.{nat_cmp_total}
use Rattle.std.proofs.lemmas.Bool.{false≢true, cases_lt}
use Rattle.std.specs.BTreeMap.{BTreeMap, is_at}
use Rattle.std.specs.Map.{lookup}
use Rattle.std.specs.Ordering.{nat_cmp}
use Rattle.pmg_value.specs.Lists.{In}
use Rattle.pmg_value.proofs.SetLemmas.{in_from_list, from_list_in, same_members}
use Rattle.pmg_join.specs.Ranges.{set_of, HasRange, Covers, LieIn, AreApart, Between, Spans}
use Rattle.pmg_join.proofs.RangeLemmas.{set_of-Decides, covers_kept, same_cover, not_covered, no_cover, cover_added, cover_joined, entries_lie, spans_cover}
use Rattle.pmg_join.proofs.RangeSteps.{lie_in_itself}
use Rattle.pmg_commit.specs.Entries.{Entry}
use Rattle.pmg_commit.specs.EntryOrder.{entries_total, exact_entries, Superseded, Readable, Later, later_itself}
use Rattle.pmg_commit.specs.Levels.{level}
use Rattle.pmg_commit.specs.LevelLaws.{level_unique, level_is, level_more}
use Rattle.pmg_commit.specs.Pieces.{entry_of}
use Rattle.pmg_commit.specs.declared.piece.PieceEntry.{PieceEntry}
use Rattle.pmg_commit.specs.Knowledge.{Knowledge, nothing, union, core, read, numbers_between}
use Rattle.pmg_commit.specs.CoreLaws.{Has, same_kept, same_knowledge, has_union, union_has_left, union_has_right}
use Rattle.pmg_commit.proofs.Rules.{numbers_are_between}
use Rattle.pmg_commit.proofs.ReadLaws.{read_latest, read_none}
use Rattle.pmg_lane.specs.Entries.{read_under, late_at, HoldAlike, ReadsWithin, LatePast, LateFrom, NoneLeft}
use Rattle.pmg_lane.specs.Waiting.{waiting_at, AccountsFor, AreAllFrom, IsStocked, Stocks, WaitPast}
use Rattle.pmg_lane.specs.Merged.{merged_knowledge, merged_level, told, IsMerged, level_with, level_joined}
use Rattle.pmg_lane.specs.declared.entries.Entries.{Entries}
use Rattle.pmg_lane.specs.declared.merged.Merged.{Merged}
use Rattle.pmg_lane.specs.declared.waiting.Waiting.{Waiting}
use Rattle.pmg_lane.proofs.Settling.{key_read, some_is}
use Rattle.pmg_lane.proofs.Knowing.{has_holds, holds_has, level_known}

-- ---- levels
pub level_reached :
    (ends : BTreeMap ℕ ℕ) (n : ℕ) → ((i : ℕ) → 0 < i → i ≤ n → Covers ends i) → (Covers ends (suc n) → ⊥) → n ≡ level (set_of ends)
level_reached ends n reached no_more =
    let next : n + 1 ≡ suc n = omega arith in
    level_unique (set_of ends) n (λ i a b. (set_of-Decides ends i).1 (reached i a b), ap (set.contains (set_of ends)) next ∙ not_covered ends (suc n) no_more)

pub level_covered : (ends : BTreeMap ℕ ℕ) (i : ℕ) → 0 < i → i ≤ level (set_of ends) → Covers ends i
level_covered ends i a b = (set_of-Decides ends i).0 ((level_is (set_of ends)).0 i a b)

pub level_up : (m n : BTreeMap ℕ ℕ) → LieIn m n → level (set_of m) ≤ level (set_of n)
level_up m n kept = level_more (set_of m) (set_of n) (λ i h. (set_of-Decides n i).1 (covers_kept m n kept i ((set_of-Decides m i).0 h)))

pub level_bound : (ends : BTreeMap ℕ ℕ) (most : ℕ) → ((n : ℕ) → Covers ends n → n ≤ most) → level (set_of ends) ≤ most
level_bound ends most bound = elim (cases_lt 0 (level (set_of ends))) [
  | inl some ↦ bound (level (set_of ends)) (level_covered ends (level (set_of ends)) some (omega arith))
  | inr none ↦ omega (arith, none)
]

-- ---- the same knowledge
pub within_up : (m n : ℕ) (a : Entries) → m ≤ n → ReadsWithin m a → ReadsWithin n a
within_up m n a le within key = go (read_under a key) (within key)
  where
    go : (o : Option Entry) → IfSome o (λ e. e.number ≤ m) → IfSome o (λ e. e.number ≤ n)
    go None h = tt
    go (Some e) h = omega (arith, h, le)

pub make_merged :
    (t : Merged) → AreApart t.taken.ends → ReadsWithin (level (set_of t.taken.ends)) t.entries → LatePast (level (set_of t.taken.ends)) t.entries
    → WaitPast (level (set_of t.taken.ends)) t.waiting.lists → AreAllFrom t.waiting.lists → ((n : ℕ) → Covers t.taken.ends n → n ≤ 4294967295) → IsMerged t
unfolding merged_level
make_merged t apart within past waits numbered bound = record { apart = apart; within = within; past = past; waits = waits; numbered = numbered; bound = bound }

pub level_is_of : (t : Merged) → merged_level t ≡ level (set_of t.taken.ends)
unfolding merged_level
level_is_of t = refl

pub numbers_is : (t : Merged) → (merged_knowledge t).numbers ≡ set_of t.taken.ends
unfolding merged_knowledge
numbers_is t = refl

module _ (t u : Merged) (kept : LieIn t.taken.ends u.taken.ends) (no_more : (n : ℕ) → Covers u.taken.ends n → Covers t.taken.ends n) (alike : HoldAlike t.entries u.entries)
    (same : (n : ℕ) → waiting_at u.waiting.lists n ≡ waiting_at t.waiting.lists n) where
  same_set : set_of u.taken.ends ≡ set_of t.taken.ends
  same_set = same_cover u.taken.ends t.taken.ends no_more (covers_kept t.taken.ends u.taken.ends kept)

  pub roomy_known : merged_knowledge u ≡ merged_knowledge t
  roomy_known =
      same_knowledge (merged_knowledge u) (merged_knowledge t) (numbers_is u ∙ same_set ∙ sym (numbers_is t))
      (same_members entries_total exact_entries (merged_knowledge u).entries (merged_knowledge t).entries (λ e h. holds_has t e (back e (has_holds u e h))) (λ e h. holds_has u e (there e (has_holds t e h))))
    where
      back : (e : Entry) → IsStocked u.entries u.waiting.lists e → IsStocked t.entries t.waiting.lists e
      back e (inl (inl h)) = inl (inl (sym (alike.0 e.key) ∙ h))
      back e (inl (inr h)) = inl (inr (sym (alike.1 (e.number, e.key)) ∙ h))
      back e (inr (n, i)) = inr (n, subst (λ es. In e (map entry_of es)) (same n) i)

      there : (e : Entry) → IsStocked t.entries t.waiting.lists e → IsStocked u.entries u.waiting.lists e
      there e (inl (inl h)) = inl (inl (alike.0 e.key ∙ h))
      there e (inl (inr h)) = inl (inr (alike.1 (e.number, e.key) ∙ h))
      there e (inr (n, i)) = inr (n, subst (λ es. In e (map entry_of es)) (sym (same n)) i)

  pub roomy_level_with : (from to : ℕ) → level_with t from to ≡ level_with u from to
  roomy_level_with from to = ap (λ k. level (set.union k.numbers (numbers_between from to))) (sym roomy_known)

  pub roomy_level_joined : (other : Merged) → level_joined t other ≡ level_joined u other
  roomy_level_joined other = ap (λ k. level (set.union k.numbers (merged_knowledge other).numbers)) (sym roomy_known)

  pub roomy_merged : AreApart u.taken.ends → IsMerged t → IsMerged u
  roomy_merged apart is =
      let at : merged_level t ≡ level (set_of u.taken.ends) = level_is_of t ∙ ap level (sym same_set) in
      make_merged u apart
      (λ key. subst (λ o. IfSome o (λ e. e.number ≤ level (set_of u.taken.ends))) (sym (alike.0 key)) (subst (λ n. IfSome (read_under t.entries key) (λ e. e.number ≤ n)) at (is.within key)))
      (λ place. subst (λ o. IfSome o (λ _. level (set_of u.taken.ends) < place.0)) (sym (alike.1 place)) (subst (λ n. IfSome (late_at t.entries place) (λ _. n < place.0)) at (is.past place)))
      (λ n e i. subst (λ m. m < n) at (is.waits n e (subst (In e) (same n) i)))
      (λ n e i. is.numbered n e (subst (In e) (same n) i))
      (λ n h. is.bound n (no_more n h))

-- more room alone: it is kept well, and knows the same
pub roomy_both :
    (t u : Merged) → LieIn t.taken.ends u.taken.ends → ((n : ℕ) → Covers u.taken.ends n → Covers t.taken.ends n) → HoldAlike t.entries u.entries
    → ((n : ℕ) → waiting_at u.waiting.lists n ≡ waiting_at t.waiting.lists n) → AreApart u.taken.ends → IsMerged t
    → IsMerged u × (merged_knowledge u ≡ merged_knowledge t)
roomy_both t u kept no_more alike same apart is = (roomy_merged t u kept no_more alike same apart is, roomy_known t u kept no_more alike same)

-- more room among the entries and in the lists alone
pub roomier :
    (t : Merged) (entries : Entries) (waiting : Waiting) → HoldAlike t.entries entries → ((n : ℕ) → waiting_at waiting.lists n ≡ waiting_at t.waiting.lists n)
    → IsMerged t
    → (let u : Merged = record { taken = t.taken; entries = entries; waiting = waiting } in IsMerged u × (merged_knowledge u ≡ merged_knowledge t))
roomier t entries waiting alike same is =
    roomy_both t (record { taken = t.taken; entries = entries; waiting = waiting }) (lie_in_itself t.taken.ends t.taken.ends (λ q. refl)) (λ n h. h) alike same
    is.apart is

-- ---- nothing
pub none_known :
    (t : Merged) → ((n : ℕ) → Covers t.taken.ends n → ⊥) → ((key : List ℕ) → read_under t.entries key ≡ None) → ((place : ℕ × List ℕ) → late_at t.entries place ≡ None)
    → ((n : ℕ) → waiting_at t.waiting.lists n ≡ []) → merged_knowledge t ≡ nothing
none_known t none reads late waits =
    same_knowledge (merged_knowledge t) nothing (numbers_is t ∙ no_cover t.taken.ends none)
    (same_members entries_total exact_entries (merged_knowledge t).entries set.empty
    (λ e h. absurd (gone e (has_holds t e h)))
    (λ e h. absurd (false≢true (sym (set.contains-empty _ e) ∙ h))))
  where
    gone : (e : Entry) → IsStocked t.entries t.waiting.lists e → ⊥
    gone e (inl (inl h)) = absurd (let bad : None ≡ Some e = sym (reads e.key) ∙ h in cc)
    gone e (inl (inr h)) = absurd (let bad : None ≡ Some e = sym (late (e.number, e.key)) ∙ h in cc)
    gone e (inr (n, i)) = subst (λ es. In e (map entry_of es)) (waits n) i

pub none_merged :
    (t : Merged) → AreApart t.taken.ends → ((n : ℕ) → Covers t.taken.ends n → ⊥) → ((key : List ℕ) → read_under t.entries key ≡ None) → ((place : ℕ × List ℕ) → late_at t.entries place ≡ None)
    → ((n : ℕ) → waiting_at t.waiting.lists n ≡ []) → IsMerged t
none_merged t apart none reads late waits =
    make_merged t apart
    (λ key. subst (λ o. IfSome o (λ e. e.number ≤ level (set_of t.taken.ends))) (sym (reads key)) tt)
    (λ place. subst (λ o. IfSome o (λ _. level (set_of t.taken.ends) < place.0)) (sym (late place)) tt)
    (λ n e i. absurd (subst (In e) (waits n) i))
    (λ n e i. absurd (subst (In e) (waits n) i))
    (λ n h. absurd (none n h))

-- ---- more
-- what invents nothing and accounts for all has the same core
pub core_settled :
    (k l : Knowledge) → k.numbers ≡ l.numbers → ((e : Entry) → Has k e → Has l e)
    → ((e : Entry) → Has l e → Has k e ⊎ ((f : Entry) × Has k f × Superseded (level l.numbers) e f)) → core k ≡ core l
core_settled k l numbers fewer enough =
    same_kept k l numbers fewer (λ e kept. elim (enough e kept.0) [
      | inl h ↦ h
      | inr sup ↦ absurd (kept.1 sup.0 (fewer sup.0 sup.1) sup.2)
    ])

pub has_told : (from to : ℕ) (es : List Entry) (e : Entry) → Has (told from to es) e → In e es
unfolding told
has_told from to es e h = in_from_list entries_total exact_entries es e h

pub told_has : (from to : ℕ) (es : List Entry) (e : Entry) → In e es → Has (told from to es) e
unfolding told
told_has from to es e i = from_list_in entries_total exact_entries es e i

pub told_numbers : (from to : ℕ) (es : List Entry) → (told from to es).numbers ≡ numbers_between from to
unfolding told
told_numbers from to es = refl

-- the track u after the track t has taken more knowledge
module _ (t u : Merged) (more : Knowledge) (IsOne : Entry → Type 0)
    (numbers : (merged_knowledge u).numbers ≡ set.union (merged_knowledge t).numbers more.numbers)
    (listed : (e : Entry) → IsOne e → Has more e) (all : (e : Entry) → Has more e → IsOne e)
    (stocks : Stocks (level (set_of u.taken.ends)) t.entries t.waiting.lists IsOne u.entries u.waiting.lists NoneLeft) where
  fewer : (e : Entry) → Has (merged_knowledge u) e → Has (union (merged_knowledge t) more) e
  fewer e h = elim (stocks.fewer e (has_holds u e h)) [
    | inr i ↦ union_has_right (merged_knowledge t) more e (listed e i)
    | inl o ↦ union_has_left (merged_knowledge t) more e (holds_has t e o)
  ]

  enough : (e : Entry) → Has (union (merged_knowledge t) more) e → AccountsFor (level (set_of u.taken.ends)) u.entries u.waiting.lists e
  enough e h = elim (stocks.enough e (elim (has_union (merged_knowledge t) more e h) [ inl a ↦ inl (has_holds t e a) | inr b ↦ inr (all e b) ])) [
    | inl a ↦ a
    | inr n ↦ absurd n
  ]

  pub more_core : core (merged_knowledge u) ≡ core (union (merged_knowledge t) more)
  more_core =
      core_settled (merged_knowledge u) (union (merged_knowledge t) more) numbers fewer (λ e h. elim (enough e h) [
        | inl i ↦ inl (holds_has u e i)
        | inr sup ↦ inr (sup.0, holds_has u sup.0 sup.1, subst (λ n. Superseded n e sup.0) (ap level (sym (numbers_is u) ∙ numbers)) sup.2)
      ])

-- the ranges of a track once that of the commits from+1 to to is filled
module _ (t : Merged) (ends : BTreeMap ℕ ℕ) (from to : ℕ) (kept : LieIn t.taken.ends ends) (added : Spans ends from to)
    (no_more : (n : ℕ) → Covers ends n → Covers t.taken.ends n ⊎ Between from to n) where
  filled_set : set_of ends ≡ set.union (merged_knowledge t).numbers (numbers_between from to)
  filled_set =
      set.same_set nat_cmp_total nat_cmp-IsAntisymmetric (set_of ends) (set.union (set_of t.taken.ends) (numbers_between from to)) (λ n.
      cover_added t.taken.ends ends from to no_more
      (λ k h. elim h [ inl a ↦ covers_kept t.taken.ends ends kept k a | inr b ↦ spans_cover ends from to k added b ]) n
      ∙ ap (λ b. set.contains (set_of t.taken.ends) n || b) (sym (numbers_are_between from to n))
      ∙ sym (set.contains-union nat_cmp_total (set_of t.taken.ends) (numbers_between from to) n))
      ∙ ap (λ s. set.union s (numbers_between from to)) (sym (numbers_is t))

  pub filled_level : level (set_of ends) ≡ level_with t from to
  filled_level = ap level filled_set

  -- the level that is reached then
  pub filled_reached : (n : ℕ) → ((i : ℕ) → 0 < i → i ≤ n → Covers ends i) → (Covers ends (suc n) → ⊥) → n ≡ level_with t from to
  filled_reached n reached past = level_reached ends n reached past ∙ filled_level

-- the ranges of a track once those of another are filled
module _ (t o : Merged) (ends : BTreeMap ℕ ℕ) (kept : LieIn t.taken.ends ends) (added : (n : ℕ) → Covers o.taken.ends n → Covers ends n)
    (no_more : (n : ℕ) → Covers ends n → Covers t.taken.ends n ⊎ Covers o.taken.ends n) where
  joined_set : set_of ends ≡ set.union (merged_knowledge t).numbers (merged_knowledge o).numbers
  joined_set = cover_joined t.taken.ends o.taken.ends ends no_more kept added ∙ sym (λ i. set.union (numbers_is t i) (numbers_is o i))

  pub joined_level : level (set_of ends) ≡ level_joined t o
  joined_level = ap level joined_set

  -- the level that is reached then
  pub joined_reached : (n : ℕ) → ((i : ℕ) → 0 < i → i ≤ n → Covers ends i) → (Covers ends (suc n) → ⊥) → n ≡ level_joined t o
  joined_reached n reached past = level_reached ends n reached past ∙ joined_level

module _ (t u : Merged) (from to : ℕ) (es : List Entry)
    (kept : LieIn t.taken.ends u.taken.ends) (added : Spans u.taken.ends from to)
    (no_more : (n : ℕ) → Covers u.taken.ends n → Covers t.taken.ends n ⊎ Between from to n)
    (stocks : Stocks (level (set_of u.taken.ends)) t.entries t.waiting.lists (λ e. In e es) u.entries u.waiting.lists NoneLeft) where
  pub taken_core : core (merged_knowledge u) ≡ core (union (merged_knowledge t) (told from to es))
  taken_core =
      more_core t u (told from to es) (λ e. In e es)
      (numbers_is u ∙ filled_set t u.taken.ends from to kept added no_more ∙ ap (set.union (merged_knowledge t).numbers) (sym (told_numbers from to es)))
      (told_has from to es) (has_told from to es) stocks

module _ (t o u : Merged)
    (kept : LieIn t.taken.ends u.taken.ends) (added : (n : ℕ) → Covers o.taken.ends n → Covers u.taken.ends n)
    (no_more : (n : ℕ) → Covers u.taken.ends n → Covers t.taken.ends n ⊎ Covers o.taken.ends n)
    (stocks : Stocks (level (set_of u.taken.ends)) t.entries t.waiting.lists (IsStocked o.entries o.waiting.lists) u.entries u.waiting.lists NoneLeft) where
  pub joined_core : core (merged_knowledge u) ≡ core (union (merged_knowledge t) (merged_knowledge o))
  joined_core =
      more_core t u (merged_knowledge o) (IsStocked o.entries o.waiting.lists)
      (numbers_is u ∙ joined_set t o u.taken.ends kept added no_more)
      (holds_has o) (has_holds o) stocks

pub past_from : (level : ℕ) (a b : Entries) → LatePast level a → LateFrom level a b → LatePast level b
past_from level a b past from place = elim (from place) [
  | inl same ↦ subst (λ o. IfSome o (λ _. level < place.0)) (sym same) (past place)
  | inr over ↦ any (late_at b place) over
]
  where
    any : (o : Option Entry) → level < place.0 → IfSome o (λ _. level < place.0)
    any None over = tt
    any (Some e) over = over

-- ---- what is read
-- one of the entries of a list
pub in_entries_of : (es : List PieceEntry) (f : Entry) → In f (map entry_of es) → (e : PieceEntry) × In e es × (entry_of e ≡ f)
in_entries_of [] f i = absurd i
in_entries_of (e ∷ es) f (inl same) = (e, inl refl, sym same)
in_entries_of (e ∷ es) f (inr i) = let one = in_entries_of es f i in (one.0, inr one.1, one.2)

pub read_known : (t : Merged) → IsMerged t → (key : List ℕ) → read (merged_knowledge t) key ≡ option_map (λ e. e.bytes) (read_under t.entries key)
read_known t is key = go (read_under t.entries key) refl
  where
    level_here : level (merged_knowledge t).numbers ≡ merged_level t
    level_here = level_known t

    up : (e : Entry) → read_under t.entries key ≡ Some e → e.number ≤ level (merged_knowledge t).numbers
    up e at = subst (λ n. e.number ≤ n) (sym level_here) (subst (λ o. IfSome o (λ e. e.number ≤ merged_level t)) at (is.within key))

    -- what can be read under the key is what is there
    readable : (f : Entry) → Has (merged_knowledge t) f → Readable (level (merged_knowledge t).numbers) key f → read_under t.entries key ≡ Some f
    readable f h r = elim (has_holds t f h) [
      | inl (inl at) ↦ ap (read_under t.entries) r.0 ∙ at
      | inl (inr late) ↦
          let over : merged_level t < f.number = subst (λ o. IfSome o (λ _. merged_level t < f.number)) late (is.past (f.number, f.key)) in
          absurd (omega (arith, r.1, level_here, over))
      | inr (n, i) ↦
          let one = in_entries_of (waiting_at t.waiting.lists n) f i in
          let over : merged_level t < n = is.waits n one.0 one.1 in
          let low : n ≤ one.0.number = is.numbered n one.0 one.1 in
          let same : one.0.number ≡ f.number = ap (λ (e : Entry). e.number) one.2 in
          absurd (omega (arith, r.1, level_here, over, low, same))
    ]

    go : (o : Option Entry) → read_under t.entries key ≡ o → read (merged_knowledge t) key ≡ option_map (λ e. e.bytes) (read_under t.entries key)
    go None at = read_none (merged_knowledge t) key (λ f h r. let bad : None ≡ Some f = sym at ∙ readable f h r in absurd cc) ∙ sym (ap (option_map (λ e. e.bytes)) at)
    go (Some e) at =
        let same = key_read t.entries key e at in
        read_latest (merged_knowledge t) key e (record {
          has = holds_has t e (inl (inl (ap (read_under t.entries) (sym same) ∙ at)));
          readable = (same, up e at);
          last = λ f h r l. later_itself e (subst (Later e) (some_is (sym (readable f h r) ∙ at)) l);
        })
        ∙ sym (ap (option_map (λ e. e.bytes)) at)

-- ---- a copy
module _ (t u : Merged) (ends : u.taken.ends.entries ≡ t.taken.ends.entries) (alike : HoldAlike t.entries u.entries)
    (same : (n : ℕ) → waiting_at u.waiting.lists n ≡ waiting_at t.waiting.lists n) where
  there : (m n : BTreeMap ℕ ℕ) → m.entries ≡ n.entries → (from to : ℕ) → HasRange m from to → HasRange n from to
  there m n e from to h = ap (λ es. lookup (is_at (nat_cmp from)) es) (sym e) ∙ h

  apart_too : AreApart t.taken.ends → AreApart u.taken.ends
  apart_too apart from to h =
      let was = apart from to (there u.taken.ends t.taken.ends ends from to h) in
      (was.0, λ start end other. was.1 start end (there u.taken.ends t.taken.ends ends start end other))

  kept_ends : LieIn t.taken.ends u.taken.ends
  kept_ends = entries_lie t.taken.ends u.taken.ends (sym ends)

  no_more_ends : (n : ℕ) → Covers u.taken.ends n → Covers t.taken.ends n
  no_more_ends n (from, to, h, b) = (from, to, there u.taken.ends t.taken.ends ends from to h, b)

  pub copied_known : merged_knowledge u ≡ merged_knowledge t
  copied_known = roomy_known t u kept_ends no_more_ends alike same

  pub copied_merged : IsMerged t → IsMerged u
  copied_merged is = roomy_merged t u kept_ends no_more_ends alike same (apart_too is.apart) is
