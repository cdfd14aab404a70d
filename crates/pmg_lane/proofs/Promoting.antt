-- Late entries that are read from now on.
use Rattle.std.proofs.Common.{arith, ℕ, List, [], ◌∷◌, length, ◌≡◌, ◌<◌, ◌≤◌, ◌⊎◌, inl, inr, Bool, true, false, cond, refl, sym, ap, ◌∙◌, subst}
use Rattle.std.specs.Prelude.{Option, Some, None, IfSome, IsSome}
use Rattle.std.specs.Option.{option_map}
use Rattle.std.specs.List.{AllByRecursion}
use Rattle.std.specs.Cmp.{Equal-is, ranked}
use Rattle.std.specs.Cmp.Lexicographic.{slice_cmp}
use Rattle.std.specs.Ordering.{nat_cmp, is_gt, ordering_then}
use Rattle.std.specs.declared.cmp.Ordering.{Ordering}
use Rattle.std.specs.declared.cmp.Ordering.TheVariants.{Less, Equal, Greater}
use Rattle.std.specs.BTreeMap.{get, is_at}
use Rattle.std.specs.Map.{lookup}
use Rattle.std.proofs.lemmas.Bool.{false≢true}
use Rattle.pmg_value.specs.Lists.{In}
use Rattle.pmg_value.specs.declared.value.Value.{Value}
use Rattle.pmg_commit.specs.Entries.{Entry}
use Rattle.pmg_join.specs.Places.{placed, there_at, HasPlace}
use Rattle.pmg_lane.specs.Entries.{late_cmp, late_entry, read_under, late_at, HasEntry, HasPlaces, ReadsWithin, IsRoomyTo, Settles, NoneLeft}
use Rattle.pmg_lane.specs.declared.entries.Entries.{Entries}
use Rattle.pmg_lane.proofs.Settling.{exact_late, some_is, accounts_more}

pub number_first : (p q : ℕ × List ℕ) → is_gt (late_cmp p q) ≡ false → p.0 ≤ q.0
number_first p q h = go (nat_cmp p.0 q.0) refl h
  where
    go : (r : Ordering) → r ≡ nat_cmp p.0 q.0 → is_gt (ordering_then r (slice_cmp nat_cmp p.1 q.1)) ≡ false → p.0 ≤ q.0
    go Less e h = let l : p.0 < q.0 = ranked p.0 q.0 Less e in omega (arith, l)
    go Equal e h = let l : p.0 ≡ q.0 = ranked p.0 q.0 Equal e in omega (arith, l)
    go Greater e h = absurd (false≢true (sym h))

-- no place is reached from one past the level on
pub not_reached :
    (level : ℕ) (place : ℕ × List ℕ) (places : List (ℕ × List ℕ)) (q : ℕ × List ℕ) → level < place.0 → AllByRecursion (λ p. late_cmp place p ≡ Less) places → In q (place ∷ places)
    → q.0 ≤ level → ⊥
not_reached level place places q over all (inl same) up = let eq : q.0 ≡ place.0 = λ i. (same i).0 in omega (arith, over, eq, up)
not_reached level place places q over all (inr there) up = later places all there
  where
    later : (ps : List (ℕ × List ℕ)) → AllByRecursion (λ p. late_cmp place p ≡ Less) ps → In q ps → ⊥
    later [] h i = i
    later (p ∷ ps) h (inl same) = let more = number_first place p (ap is_gt h.0) in let eq : q.0 ≡ p.0 = λ i. (same i).0 in omega (arith, over, more, eq, up)
    later (p ∷ ps) h (inr i) = later ps h.1 i

pub no_places : {K X : Type 0} (test : K → Bool) (es : List (K × X)) → (0 < length es → ⊥) → IsSome (lookup test es) → ⊥
no_places test [] none h = absurd (false≢true h)
no_places test (e ∷ es) none h = none (omega arith)

module _ (a b : Entries) (level : ℕ) (place : ℕ × List ℕ) (reached : place.0 ≤ level)
    (taken : (q : ℕ × List ℕ) → get late_cmp b.late q ≡ cond (is_at (late_cmp place) q) None (get late_cmp a.late q)) (reads : b.reads ≡ a.reads) where
  others : (q : ℕ × List ℕ) → (place ≡ q) × (get late_cmp b.late q ≡ None) ⊎ (get late_cmp b.late q ≡ get late_cmp a.late q)
  others q =
      elim (is_at (late_cmp place) q) as (λ t. is_at (late_cmp place) q ≡ t → (place ≡ q) × (get late_cmp b.late q ≡ None) ⊎ (get late_cmp b.late q ≡ get late_cmp a.late q)) [
        | true ↦ λ t. inl (exact_late place q ((Equal-is _).0 t), taken q ∙ ap (λ b. cond b None (get late_cmp a.late q)) t)
        | false ↦ λ t. inr (taken q ∙ ap (λ b. cond b None (get late_cmp a.late q)) t)
      ] refl

  none_there : {X : Type 0} (o : Option X) → o ≡ None → IsSome o → ⊥
  none_there o is h = false≢true (subst IsSome is h)

  same_read : (key : List ℕ) → read_under b key ≡ read_under a key
  same_read key = ap (λ t. read_under (record { reads = t; late = a.late }) key) reads

  late_was : (q : ℕ × List ℕ) (e : Entry) → late_at b q ≡ Some e → late_at a q ≡ Some e
  late_was q e h = elim (others q) [
    | inl gone ↦ absurd (let bad : None ≡ Some e = sym (ap (λ o. option_map (late_entry q) (placed o)) gone.1) ∙ h in cc)
    | inr same ↦ sym (ap (λ o. option_map (late_entry q) (placed o)) same) ∙ h
  ]

  late_is : (q : ℕ × List ℕ) (e : Entry) → late_at a q ≡ Some e → (late_at b q ≡ Some e) ⊎ (place ≡ q)
  late_is q e h = elim (others q) [
    | inl gone ↦ inr gone.0
    | inr same ↦ inl (ap (λ o. option_map (late_entry q) (placed o)) same ∙ h)
  ]

  pub popped_within : ReadsWithin level a → ReadsWithin level b
  popped_within within key = subst (λ o. IfSome o (λ e. e.number ≤ level)) (sym (same_read key)) (within key)

  pub popped_roomy : IsRoomyTo level a → IsRoomyTo level b
  popped_roomy roomy q has up = elim (others q) [
    | inl gone ↦ absurd (none_there (get late_cmp b.late q) gone.1 has)
    | inr same ↦ subst (λ t. HasPlace (slice_cmp nat_cmp) t q.1) (sym reads) (roomy q (subst IsSome same has) up)
  ]

  pub popped_places : (n : ℕ) (key : List ℕ) → HasPlaces a level n key → HasPlaces b level n key
  popped_places n key has = (
    λ up. subst (λ t. HasPlace (slice_cmp nat_cmp) t key) (sym reads) (has.0 up),
    λ past. elim (others (n, key)) [
      | inl gone ↦ absurd (let same : place.0 ≡ n = λ i. (gone.0 i).0 in omega (arith, reached, same, past))
      | inr same ↦ subst IsSome (sym same) (has.1 past)
    ],
  )

  few : (e : Entry) → HasEntry b e → HasEntry a e
  few e (inl h) = inl (sym (same_read e.key) ∙ h)
  few e (inr h) = inr (late_was (e.number, e.key) e h)

  -- an empty place was taken
  pub popped_none : there_at late_cmp a.late place ≡ None → Settles level a NoneLeft b NoneLeft
  popped_none none = record {
    fewer = λ e h. inl (few e h);
    enough = λ e h. elim h [
      | inr n ↦ absurd n
      | inl (inl r) ↦ inl (inl (inl (same_read e.key ∙ r)))
      | inl (inr l) ↦ elim (late_is (e.number, e.key) e l) [
        | inl i ↦ inl (inl (inr i))
        | inr same ↦ absurd (let bad : None ≡ Some e = sym (ap (option_map (late_entry place)) none) ∙ ap (late_at a) same ∙ l in cc)
      ]
    ];
  }

  -- the entry that was taken was put where it is read
  pub popped_some :
      (v : Value) (c : Entries) → there_at late_cmp a.late place ≡ Some v → Settles level b (λ e. e ≡ late_entry place v) c NoneLeft
      → Settles level a NoneLeft c NoneLeft
  popped_some v c there s = record {
    fewer = λ e h. elim (s.fewer e h) [
      | inl i ↦ inl (few e i)
      | inr is ↦ inl (subst (HasEntry a) (sym is) (inr (ap (option_map (late_entry place)) there)))
    ];
    enough = λ e h. elim h [
      | inr n ↦ absurd n
      | inl (inl r) ↦ s.enough e (inl (inl (same_read e.key ∙ r)))
      | inl (inr l) ↦ elim (late_is (e.number, e.key) e l) [
        | inl i ↦ s.enough e (inl (inr i))
        | inr same ↦ s.enough e (inr (some_is (sym (ap (late_at a) same ∙ l) ∙ ap (option_map (late_entry place)) there)))
      ]
    ];
  }

pub settles_trans :
    (level : ℕ) (a b c : Entries) → Settles level a NoneLeft b NoneLeft → Settles level b NoneLeft c NoneLeft → Settles level a NoneLeft c NoneLeft
settles_trans level a b c s t = record {
  fewer = λ e h. elim (t.fewer e h) [ inl i ↦ s.fewer e i | inr n ↦ absurd n ];
  enough = λ e h. elim (s.enough e h) [ inl i ↦ inl (accounts_more level b c NoneLeft t e i) | inr n ↦ absurd n ];
}
