-- Maps of places while room is made, while parts are taken, and while they are copied.
use Rattle.std.proofs.Common.{◌≡◌, List, [], ◌∷◌, ◌⊎◌, inl, inr, true, false, cond, refl, sym, ap, ◌∙◌, subst}
use Rattle.std.specs.Prelude.{Option, Some, None, is_some, IfSome, IsSome}
use Rattle.std.specs.Option.{option_map}
use Rattle.std.specs.Cmp.{IsTotalOrder, Equal-is}
use Rattle.std.specs.Ordering.{is_eq}
use Rattle.std.specs.BTreeMap.{BTreeMap, get, is_at}
use Rattle.std.specs.Map.{lookup}
use Rattle.std.specs.FinMap.{IsAntisymmetric}
use Rattle.std.specs.declared.cmp.Ordering.{Ordering}
use Rattle.std.proofs.lemmas.Bool.{false≢true}
use Rattle.std.proofs.lemmas.Cmp.{tied_itself}
use Rattle.pmg_value.specs.Maps.{join_options}
use Rattle.pmg_join.specs.Maps.{meant_at, IsRoomFor, HaveRoomFor}
use Rattle.pmg_join.specs.Places.{placed, there_at}

join_options-None : {M : Type 0} (join : M → M → M) (a : Option M) → join_options join a None ≡ a
join_options-None join None = refl
join_options-None join (Some a) = refl

if_some : {J : Type 0} (o : Option J) (P Q : J → Type 0) → ((t : J) → P t → Q t) → IfSome o P → IfSome o Q
if_some None P Q f h = tt
if_some (Some t) P Q f h = f t h

module _ {K J : Type 0} (R : K → K → Ordering) where
  -- the key is that of one of the places, which were not seen yet
  abbrev pub IsLeft : List (K × Option J) → K → Type 0
  IsLeft left q = IsSome (lookup (is_at (R q)) left)

  -- there is room in the table for the part under the key
  abbrev pub HasRoomAt : (J → J → Type 0) → BTreeMap K (Option J) → BTreeMap K (Option J) → K → Type 0
  HasRoomAt HasRoom parts table q = IfSome (there_at R parts q) (λ part. IsRoomFor HasRoom part (get R table q))

  -- there is room for the part under the key, or its place was not seen yet
  abbrev pub IsSeen : (J → J → Type 0) → BTreeMap K (Option J) → BTreeMap K (Option J) → List (K × Option J) → K → Type 0
  IsSeen HasRoom parts table left q = HasRoomAt HasRoom parts table q ⊎ IsLeft left q

  -- the key has the meaning that it has in the table, or its place was not seen yet and there is nothing under it
  abbrev pub IsCopied : {M : Type 0} → (J → M) → BTreeMap K (Option J) → BTreeMap K (Option J) → List (K × Option J) → K → Type 0
  IsCopied meaning table copies left q = (meant_at R meaning copies q ≡ meant_at R meaning table q) ⊎ ((meant_at R meaning copies q ≡ None) × IsLeft left q)

module _ {K : Type 0} {R : K → K → Ordering} (order : IsTotalOrder R) (exact : IsAntisymmetric R) where
  at_cases : (p q : K) (A : Type 0) → (is_at (R p) q ≡ true → p ≡ q → A) → (is_at (R p) q ≡ false → A) → A
  at_cases p q A here there =
      elim (is_at (R p) q) as (λ t. is_at (R p) q ≡ t → A) [
        | true ↦ λ t. here t (exact p q ((Equal-is _).0 t))
        | false ↦ λ t. there t
      ] refl

  at_itself : (p : K) → is_at (R p) p ≡ true
  at_itself p = ap is_eq (tied_itself order p)

  left_cases : {J : Type 0} (q p : K) (place : Option J) (left : List (K × Option J)) → IsLeft R ((p, place) ∷ left) q → (q ≡ p) ⊎ IsLeft R left q
  left_cases q p place left h =
      elim (is_at (R q) p) as (λ t. is_at (R q) p ≡ t → (q ≡ p) ⊎ IsLeft R left q) [
        | true ↦ λ t. inl (exact q p ((Equal-is _).0 t))
        | false ↦ λ t. inr (subst IsSome (ap (λ b. cond b (Some place) (lookup (is_at (R q)) left)) t) h)
      ] refl

  -- ---- room is made for one part after the other
  module _ {J : Type 0} (HasRoom : J → J → Type 0) (parts : BTreeMap K (Option J)) where
    -- at the start all that is there is left
    pub room_start : (table : BTreeMap K (Option J)) (q : K) → IsSeen R HasRoom parts table parts.entries q
    room_start table q = go (get R parts q) refl
      where
        go : (o : Option (Option J)) → get R parts q ≡ o → IsSeen R HasRoom parts table parts.entries q
        go None is = inl (subst (λ o. IfSome (placed o) (λ part. IsRoomFor HasRoom part (get R table q))) (sym is) tt)
        go (Some place) is = inr (ap is_some is)

    -- room was made for the first part that is left
    pub room_next :
        (old new : BTreeMap K (Option J)) (p : K) (place : Option J) (all left : List (K × Option J)) → all ≡ (p, place) ∷ left → HasRoomAt R HasRoom parts new p
        → ((q : K) (t : J) → is_at (R p) q ≡ false → IsRoomFor HasRoom t (get R old q) → IsRoomFor HasRoom t (get R new q))
        → ((q : K) → IsSeen R HasRoom parts old all q) → (q : K) → IsSeen R HasRoom parts new left q
    room_next old new p place all left is made stay so_far q = elim (so_far q) [
      | inl has ↦ inl (at_cases p q (HasRoomAt R HasRoom parts new q) (λ t same. subst (HasRoomAt R HasRoom parts new) same made)
          (λ t. if_some (there_at R parts q) (λ part. IsRoomFor HasRoom part (get R old q)) (λ part. IsRoomFor HasRoom part (get R new q)) (λ part h. stay q part t h) has))
      | inr l ↦ elim (left_cases q p place left (subst (λ es. IsLeft R es q) is l)) [
        | inl same ↦ inl (subst (HasRoomAt R HasRoom parts new) (sym same) made)
        | inr behind ↦ inr behind
      ]
    ]

    pub room_made : (new : BTreeMap K (Option J)) (p : K) (part : J) → get R parts p ≡ Some (Some part) → IsRoomFor HasRoom part (get R new p) → HasRoomAt R HasRoom parts new p
    room_made new p part there room = subst (λ o. IfSome (placed o) (λ part. IsRoomFor HasRoom part (get R new p))) (sym there) room

    pub room_none : (new : BTreeMap K (Option J)) (p : K) → get R parts p ≡ Some None → HasRoomAt R HasRoom parts new p
    room_none new p there = subst (λ o. IfSome (placed o) (λ part. IsRoomFor HasRoom part (get R new p))) (sym there) tt

    -- at the end none is left
    pub room_end : (table : BTreeMap K (Option J)) (left : List (K × Option J)) → left ≡ [] → ((q : K) → IsSeen R HasRoom parts table left q) → HaveRoomFor R HasRoom table parts
    room_end table left none so_far q = elim (so_far q) [
      | inl has ↦ has
      | inr some ↦ absurd (false≢true (subst (λ es. IsLeft R es q) none some))
    ]

  -- ---- a part is taken out of m, which leaves n, and into the other map
  module _ {J : Type 0} (m n old new : BTreeMap K (Option J)) (p : K) (place : Option J)
      (there : get R m p ≡ Some place) (popped : (q : K) → get R n q ≡ cond (is_at (R p) q) None (get R m q)) where
    gone : (q : K) → is_at (R p) q ≡ true → get R n q ≡ None
    gone q t = popped q ∙ ap (λ b. cond b None (get R m q)) t

    stays : (q : K) → is_at (R p) q ≡ false → get R n q ≡ get R m q
    stays q t = popped q ∙ ap (λ b. cond b None (get R m q)) t

    pub popped_room : (HasRoom : J → J → Type 0) → ((q : K) → is_at (R p) q ≡ false → get R new q ≡ get R old q) → HaveRoomFor R HasRoom old m → HaveRoomFor R HasRoom new n
    popped_room HasRoom stay room q = at_cases p q (HasRoomAt R HasRoom n new q)
        (λ t same. subst (λ o. IfSome (placed o) (λ part. IsRoomFor HasRoom part (get R new q))) (sym (gone q t)) tt)
        (λ t. subst (λ o. IfSome (placed o) (λ part. IsRoomFor HasRoom part (get R new q))) (sym (stays q t))
        (subst (λ o. IfSome (there_at R m q) (λ part. IsRoomFor HasRoom part o)) (sym (stay q t)) (room q)))

    module _ {M : Type 0} (join : M → M → M) (meaning : J → M) where
      abbrev meant : BTreeMap K (Option J) → K → Option M
      meant table q = meant_at R meaning table q

      popped_joined :
          ((q : K) → meant new q ≡ cond (is_at (R p) q) (join_options join (meant old p) (option_map meaning place)) (meant old q))
          → (q : K) → join_options join (meant new q) (meant n q) ≡ join_options join (meant old q) (meant m q)
      popped_joined joined q = at_cases p q (join_options join (meant new q) (meant n q) ≡ join_options join (meant old q) (meant m q))
          (λ t same.
          ap (λ o. join_options join (meant new q) (option_map meaning (placed o))) (gone q t)
          ∙ join_options-None join (meant new q)
          ∙ joined q
          ∙ ap (λ b. cond b (join_options join (meant old p) (option_map meaning place)) (meant old q)) t
          ∙ ap (λ o. join_options join (meant old p) (option_map meaning (placed o))) (sym there)
          ∙ ap (λ q. join_options join (meant old q) (meant m q)) same)
          (λ t. (λ i. join_options join ((joined q ∙ ap (λ b. cond b (join_options join (meant old p) (option_map meaning place)) (meant old q)) t) i) (option_map meaning (placed (stays q t i)))))

      pub popped_part : (t : J) → place ≡ Some t
          → ((q : K) → meant new q ≡ cond (is_at (R p) q) (join_options join (meant old p) (Some (meaning t))) (meant old q))
          → (q : K) → join_options join (meant new q) (meant n q) ≡ join_options join (meant old q) (meant m q)
      popped_part t is joined = popped_joined (λ q. joined q ∙ ap (λ o. cond (is_at (R p) q) (join_options join (meant old p) (option_map meaning o)) (meant old q)) (sym is))

      pub popped_none : place ≡ None → (q : K) → join_options join (meant old q) (meant n q) ≡ join_options join (meant old q) (meant m q)
      popped_none none q = at_cases p q (join_options join (meant old q) (meant n q) ≡ join_options join (meant old q) (meant m q))
          (λ t same.
          ap (λ o. join_options join (meant old q) (option_map meaning (placed o))) (gone q t)
          ∙ ap (λ o. join_options join (meant old q) (option_map meaning o)) (sym none)
          ∙ ap (λ o. join_options join (meant old q) (option_map meaning (placed o))) (sym there)
          ∙ ap (λ r. join_options join (meant old q) (meant m r)) same)
          (λ t. ap (λ o. join_options join (meant old q) (option_map meaning (placed o))) (stays q t))

  pub nothing_left :
      {J M : Type 0} (join : M → M → M) (meaning : J → M) (table others : BTreeMap K (Option J)) → ((q : K) → get R others q ≡ None)
      → (q : K) → join_options join (meant_at R meaning table q) (meant_at R meaning others q) ≡ meant_at R meaning table q
  nothing_left join meaning table others none q =
      ap (λ o. join_options join (meant_at R meaning table q) (option_map meaning (placed o))) (none q) ∙ join_options-None join (meant_at R meaning table q)

  -- ---- copies
  module _ {J M : Type 0} (meaning : J → M) (table : BTreeMap K (Option J)) where
    pub copied_start : (copies : BTreeMap K (Option J)) → ((q : K) → meant_at R meaning copies q ≡ None) → (q : K) → IsCopied R meaning table copies table.entries q
    copied_start copies none q = go (get R table q) refl
      where
        go : (o : Option (Option J)) → get R table q ≡ o → IsCopied R meaning table copies table.entries q
        go None is = inl (none q ∙ sym (ap (λ o. option_map meaning (placed o)) is))
        go (Some place) is = inr (none q, ap is_some is)

    -- the first part that is left is copied
    pub copied_part :
        (old new : BTreeMap K (Option J)) (p : K) (place : Option J) (all left : List (K × Option J)) (t : J) (m : M) → all ≡ (p, place) ∷ left
        → get R table p ≡ Some place → place ≡ Some t → m ≡ meaning t
        → ((q : K) → meant_at R meaning new q ≡ cond (is_at (R p) q) (Some m) (meant_at R meaning old q))
        → ((q : K) → IsCopied R meaning table old all q) → (q : K) → IsCopied R meaning table new left q
    copied_part old new p place all left t m is there some alike put so_far q = at_cases p q (IsCopied R meaning table new left q)
        (λ e same. inl (subst (λ r. meant_at R meaning new r ≡ meant_at R meaning table r) same (
        put p
        ∙ ap (λ b. cond b (Some m) (meant_at R meaning old p)) (at_itself p)
        ∙ ap Some alike
        ∙ ap (option_map meaning) (sym some)
        ∙ sym (ap (λ o. option_map meaning (placed o)) there))))
        (λ e. let stays : meant_at R meaning new q ≡ meant_at R meaning old q = put q ∙ ap (λ b. cond b (Some m) (meant_at R meaning old q)) e in
        elim (so_far q) [
          | inl before ↦ inl (stays ∙ before)
          | inr none ↦ elim (left_cases q p place left (subst (λ es. IsLeft R es q) is none.1)) [
            | inl same ↦ absurd (false≢true (sym e ∙ ap (is_at (R p)) same ∙ at_itself p))
            | inr behind ↦ inr (stays ∙ none.0, behind)
          ]
        ])

    -- an empty place needs no copy
    pub copied_none :
        (copies : BTreeMap K (Option J)) (p : K) (place : Option J) (all left : List (K × Option J)) → all ≡ (p, place) ∷ left
        → get R table p ≡ Some place → place ≡ None → ((q : K) → IsCopied R meaning table copies all q) → (q : K) → IsCopied R meaning table copies left q
    copied_none copies p place all left is there no_part so_far q = elim (so_far q) [
      | inl alike ↦ inl alike
      | inr none ↦ elim (left_cases q p place left (subst (λ es. IsLeft R es q) is none.1)) [
        | inl same ↦ inl (none.0 ∙ sym (ap (meant_at R meaning table) same ∙ ap (λ o. option_map meaning (placed o)) there ∙ ap (option_map meaning) no_part))
        | inr behind ↦ inr (none.0, behind)
      ]
    ]

    pub copied_end : (copies : BTreeMap K (Option J)) (left : List (K × Option J)) → left ≡ [] → ((q : K) → IsCopied R meaning table copies left q)
        → (q : K) → meant_at R meaning copies q ≡ meant_at R meaning table q
    copied_end copies left none so_far q = elim (so_far q) [
      | inl alike ↦ alike
      | inr some ↦ absurd (false≢true (subst (λ es. IsLeft R es q) none some.1))
    ]
