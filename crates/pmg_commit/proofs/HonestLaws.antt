-- What is read of honest knowledge.
use Rattle.std.proofs.Common.{◌≡◌, inl, inr, ℕ, ◌+◌, ◌≤◌, ◌<◌, true, ◌&&◌, nat_lt, nat_le, List, [], ◌∷◌, ◌++◌, Some, None, refl, sym, ap, subst, ◌∙◌, arith}
use Rattle.std.specs.FinSet as set
use Rattle.std.proofs.lemmas.Cmp.{nat_cmp_total}
use Rattle.std.proofs.lemmas.Bool.{false≢true, and_parts, and_from, or_cases, or_left, or_right, ltb-true, leb-true, lt-ltb, le-leb, cases_lt}
use Rattle.pmg_value.specs.Lists.{In, Each}
use Rattle.pmg_value.proofs.SetLemmas.{in_from_list, from_list_in}
use Rattle.pmg_scope.specs.declared.scope.Reach.{Reach}
use Rattle.pmg_scope.specs.Scripts.{Script, commits, last_put, value_at}
use Rattle.pmg_scope.specs.Sealing.{part_of, IsSealed, NoneSealed}
use Rattle.pmg_scope.proofs.ScriptLaws.{commits_never_fall}
use Rattle.pmg_scope.proofs.SealingLaws.{part_still, value_sealed, value_none, sealed_or_none, sealed_among_fewer}
use Rattle.pmg_commit.specs.Entries.{Entry}
use Rattle.pmg_commit.specs.EntryOrder.{Below, Readable, Later, below_itself, entries_total, exact_entries}
use Rattle.pmg_commit.specs.Levels.{level}
use Rattle.pmg_commit.specs.LevelLaws.{level_is}
use Rattle.pmg_commit.specs.Knowledge.{Contribution, knowledge_of, read}
use Rattle.pmg_commit.specs.CoreLaws.{Has, has_union, union_has_left, union_has_right}
use Rattle.pmg_commit.specs.Honest.{IsHonest, known_from, HonestReading, EqualLevelsReadAlike, HonestStays, HonestIsOne, LevelIsMade}
use Rattle.pmg_commit.proofs.ReadLaws.{IsLatest, NoneReadable, read_latest, read_none}
use Rattle.pmg_commit.proofs.Rules.{numbers_of_one}

-- ---- what several contributions add up to

each_of : {A : Type 0} (P : A → Type 0) (xs : List A) (x : A) → Each P xs → In x xs → P x
each_of P [] x all i = absurd i
each_of P (y ∷ ys) x all (inl same) = subst P (sym same) all.0
each_of P (y ∷ ys) x all (inr i) = each_of P ys x all.1 i

entry_of_one : (c : Contribution) (e : Entry) → Has (knowledge_of c) e → In e c.entries
unfolding knowledge_of
entry_of_one c e h = in_from_list entries_total exact_entries c.entries e h

one_has_entry : (c : Contribution) (e : Entry) → In e c.entries → Has (knowledge_of c) e
unfolding knowledge_of
one_has_entry c e i = from_list_in entries_total exact_entries c.entries e i

entry_from : (cs : List Contribution) (e : Entry) → Has (known_from cs) e → (c : Contribution) × In c cs × In e c.entries
entry_from [] e h = absurd (false≢true (sym (set.contains-empty _ e) ∙ h))
entry_from (c ∷ cs) e h =
    elim (has_union (knowledge_of c) (known_from cs) e h) [
      | inl own ↦ (c, inl refl, entry_of_one c e own)
      | inr others ↦ let found = entry_from cs e others in (found.0, inr found.1, found.2)
    ]

entry_in : (cs : List Contribution) (c : Contribution) (e : Entry) → In c cs → In e c.entries → Has (known_from cs) e
entry_in [] c e i j = absurd i
entry_in (d ∷ cs) c e (inl same) j = union_has_left (knowledge_of d) (known_from cs) e (one_has_entry d e (subst (λ (x : Contribution). In e x.entries) same j))
entry_in (d ∷ cs) c e (inr i) j = union_has_right (knowledge_of d) (known_from cs) e (entry_in cs c e i j)

covered : (cs : List Contribution) (n : ℕ) → set.contains (known_from cs).numbers n ≡ true → (c : Contribution) × In c cs × (c.from < n) × (n ≤ c.to)
covered [] n h = absurd (false≢true (sym (set.contains-empty _ n) ∙ h))
covered (c ∷ cs) n h =
    elim (or_cases _ _ (sym (set.contains-union nat_cmp_total (knowledge_of c).numbers (known_from cs).numbers n) ∙ h)) [
      | inl own ↦
          let parts = and_parts (nat_lt c.from n) (nat_le n c.to) (sym (numbers_of_one c n) ∙ own) in
          (c, inl refl, ltb-true c.from n parts.0, leb-true n c.to parts.1)
      | inr others ↦ let found = covered cs n others in (found.0, inr found.1, found.2, found.3)
    ]

covers : (cs : List Contribution) (c : Contribution) (n : ℕ) → In c cs → c.from < n → n ≤ c.to → set.contains (known_from cs).numbers n ≡ true
covers [] c n i lt le = absurd i
covers (d ∷ cs) c n (inl same) lt le =
    let own = subst (λ (x : Contribution). (nat_lt x.from n && nat_le n x.to) ≡ true) same (and_from (nat_lt c.from n) (nat_le n c.to) (lt-ltb c.from n lt) (le-leb n c.to le)) in
    set.contains-union nat_cmp_total (knowledge_of d).numbers (known_from cs).numbers n ∙ or_left _ _ (numbers_of_one d n ∙ own)
covers (d ∷ cs) c n (inr i) lt le =
    set.contains-union nat_cmp_total (knowledge_of d).numbers (known_from cs).numbers n ∙ or_right _ _ (covers cs c n i lt le)

-- a contribution of a commit up to the level goes no further than the level
capped : (cs : List Contribution) (c : Contribution) (j : ℕ) → In c cs → c.from < j → j ≤ level (known_from cs).numbers → c.to ≤ level (known_from cs).numbers
capped cs c j i lt le =
    let n = level (known_from cs).numbers in
    elim (cases_lt n c.to) [
      | inl past ↦ absurd (false≢true (sym (level_is (known_from cs).numbers).1 ∙ covers cs c (n + 1) i (omega (arith, lt, le)) (omega (arith, past))))
      | inr within ↦ within
    ]

-- ---- reading

pub not_none : {A : Type 0} {a : A} → None ≡ Some a → ⊥
not_none e = cc

pub some_is : {A : Type 0} {a b : A} → Some a ≡ Some b → a ≡ b
some_is e = cc

module _ (s : Script) (r : Reach) (cs : List Contribution) (honest : Each (IsHonest s r) cs) where
  n : ℕ
  n = level (known_from cs).numbers

  -- an entry that can be read was sealed, up to the level
  sealed_entry : (key : List ℕ) (f : Entry) → Has (known_from cs) f → Readable (level (known_from cs).numbers) key f → (0 < f.number) × (last_put r key (part_of s f.number) ≡ Some f.bytes)
  sealed_entry key f h readable =
      let found = entry_from cs f h in
      let told = ((each_of (IsHonest s r) cs found.0 honest found.1).entries f).0 found.2 in
      (told.0.some, subst (λ (k : List ℕ). last_put r k (part_of s f.number) ≡ Some f.bytes) (sym readable.0) told.0.put)

  -- the put that was sealed last up to the level is an entry
  entry_there : (key : List ℕ) (j : ℕ) (bytes : List ℕ) → IsSealed s r key (level (known_from cs).numbers) j bytes → Has (known_from cs) (record { key = key; number = j; bytes = bytes })
  entry_there key j bytes h =
      let found = covered cs j ((level_is (known_from cs).numbers).0 j h.some h.within) in
      let short = capped cs found.0 j found.1 found.2 h.within in
      let told = ((each_of (IsHonest s r) cs found.0 honest found.1).entries (record { key = key; number = j; bytes = bytes })).1 in
      entry_in cs found.0 _ found.1 (told (sealed_among_fewer r key s found.0.to (level (known_from cs).numbers) j bytes short found.3 h, found.2))

  latest_there : (key : List ℕ) (j : ℕ) (bytes : List ℕ) → IsSealed s r key (level (known_from cs).numbers) j bytes → IsLatest (known_from cs) key (record { key = key; number = j; bytes = bytes })
  latest_there key j bytes h = record {
    has = entry_there key j bytes h;
    readable = (refl, h.within);
    last = λ f has readable later. not_later f (sealed_entry key f has readable) readable later;
  }
    where
      not_later : (f : Entry) → (0 < f.number) × (last_put r key (part_of s f.number) ≡ Some f.bytes) → Readable (level (known_from cs).numbers) key f
          → Later (record { key = key; number = j; bytes = bytes }) f → ⊥
      not_later f put readable (inl less) = not_none (sym (h.last f.number less readable.1) ∙ put.1)
      not_later f put readable (inr alike) =
          let same : bytes ≡ f.bytes = some_is (sym h.put ∙ ap (λ (i : ℕ). last_put r key (part_of s i)) alike.0 ∙ put.1) in
          below_itself f.bytes (subst (λ (b : List ℕ). Below b f.bytes) same alike.1)

  reads : (key : List ℕ) → read (known_from cs) key ≡ value_at s (level (known_from cs).numbers) r key
  reads key =
      elim (sealed_or_none r key s (level (known_from cs).numbers)) [
        | inl found ↦ read_latest (known_from cs) key _ (latest_there key found.0 found.1 found.2) ∙ sym (value_sealed r key s _ found.0 found.1 found.2)
        | inr none ↦ read_none (known_from cs) key (none_there key none) ∙ sym (value_none r key s _ none)
      ]
    where
      none_there : (key : List ℕ) → NoneSealed s r key (level (known_from cs).numbers) → NoneReadable (known_from cs) key
      none_there key none e has readable =
          let put = sealed_entry key e has readable in
          not_none (sym (none e.number put.0 readable.1) ∙ put.1)

-- ---- the rules

pub honest_reading : HonestReading
honest_reading s r cs honest key = reads s r cs honest key

pub equal_levels_read_alike : EqualLevelsReadAlike
equal_levels_read_alike s r cs ds a b same key =
    honest_reading s r cs a key ∙ ap (λ (n : ℕ). value_at s n r key) same ∙ sym (honest_reading s r ds b key)

pub sealed_still_last : (s t : Script) (r : Reach) (k : List ℕ) (n j : ℕ) (bytes : List ℕ) → n ≤ commits s → IsSealed s r k n j bytes → IsSealed (s ++ t) r k n j bytes
sealed_still_last s t r k n j bytes le h = record {
  some = h.some;
  within = h.within;
  put = ap (last_put r k) (part_still s t j (omega (arith, le, h.within))) ∙ h.put;
  last = λ i lt few. ap (last_put r k) (part_still s t i (omega (arith, le, few))) ∙ h.last i lt few;
}

pub sealed_before_last : (s t : Script) (r : Reach) (k : List ℕ) (n j : ℕ) (bytes : List ℕ) → n ≤ commits s → IsSealed (s ++ t) r k n j bytes → IsSealed s r k n j bytes
sealed_before_last s t r k n j bytes le h = record {
  some = h.some;
  within = h.within;
  put = ap (last_put r k) (sym (part_still s t j (omega (arith, le, h.within)))) ∙ h.put;
  last = λ i lt few. ap (last_put r k) (sym (part_still s t i (omega (arith, le, few)))) ∙ h.last i lt few;
}

pub honest_stays : HonestStays
honest_stays s t r c h = record {
  made = omega (arith, h.made, commits_never_fall s t);
  entries = λ e. (
    λ i. let told = (h.entries e).0 i in (sealed_still_last s t r e.key c.to e.number e.bytes h.made told.0, told.1),
    λ told. (h.entries e).1 (sealed_before_last s t r e.key c.to e.number e.bytes h.made told.0, told.1),
  );
}

pub honest_is_one : HonestIsOne
honest_is_one s r c d a b from to e = (
  λ i.
      let told = (a.entries e).0 i in
      (b.entries e).1 (subst (λ (n : ℕ). IsSealed s r e.key n e.number e.bytes) to told.0, subst (λ (n : ℕ). n < e.number) from told.1),
  λ i.
      let told = (b.entries e).0 i in
      (a.entries e).1 (subst (λ (n : ℕ). IsSealed s r e.key n e.number e.bytes) (sym to) told.0, subst (λ (n : ℕ). n < e.number) (sym from) told.1),
)

pub level_is_made : LevelIsMade
level_is_made s r cs honest =
    let n : ℕ = level (known_from cs).numbers in
    elim (cases_lt 0 n) [
      | inl some ↦
          let found = covered cs n ((level_is (known_from cs).numbers).0 n some (omega arith)) in
          let made = (each_of (IsHonest s r) cs found.0 honest found.1).made in
          omega (arith, found.3, made)
      | inr none ↦ omega (arith, none)
    ]
