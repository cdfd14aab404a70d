-- What a tree of places has, in a list.
use Rattle.std.proofs.Common.{List, [], ◌∷◌, ◌≡◌, inl, inr, true, false, cond, refl, sym, ap, ◌∙◌, subst}
use Rattle.std.specs.Prelude.{Option, Some, None}
use Rattle.std.specs.Option.{option_map}
use Rattle.std.specs.List.{AllByRecursion}
use Rattle.std.specs.List.Sorted.{IsStrictlySortedBy}
use Rattle.std.specs.Cmp.{Equal-is}
use Rattle.std.specs.declared.cmp.Ordering.{Ordering}
use Rattle.std.specs.declared.cmp.Ordering.TheVariants.{Less}
use Rattle.std.specs.BTreeMap.{is_at}
use Rattle.std.specs.Map.{lookup, keys_of}
use Rattle.std.proofs.lemmas.Map.Keys.{sorted_head, sorted_tail}
use Rattle.std.proofs.lemmas.Map.Lookups.{CmpEqualImpliesEq}
use Rattle.pmg_value.specs.Lists.{In}
use Rattle.pmg_commit.specs.Entries.{Entry}
use Rattle.pmg_join.specs.Places.{placed}
use Rattle.pmg_lane.proofs.Settling.{some_is}

-- ---- rows, of which the first was taken
-- the keys of the others are in order too
pub rows_sorted :
    {K V : Type 0} (R : K → K → Ordering) {row : K × V} {rows rest : List (K × V)} → rows ≡ row ∷ rest → IsStrictlySortedBy R (keys_of rows)
    → IsStrictlySortedBy R (keys_of rest)
rows_sorted R {row} {rows} {rest} step sorted = sorted_tail R row.0 (keys_of rest) (subst (λ es. IsStrictlySortedBy R (keys_of es)) step sorted)

-- they are all greater than the first
pub rows_above :
    {K V : Type 0} (R : K → K → Ordering) {row : K × V} {rows rest : List (K × V)} → rows ≡ row ∷ rest → IsStrictlySortedBy R (keys_of rows)
    → AllByRecursion (λ k. R row.0 k ≡ Less) (keys_of rest)
rows_above R {row} {rows} {rest} step sorted = sorted_head R row.0 (keys_of rest) (subst (λ es. IsStrictlySortedBy R (keys_of es)) step sorted)

-- ---- what is in places
-- what is in a place, if it is not empty, before others
abbrev pub made_before : {K V : Type 0} → (K → V → Entry) → K → Option V → List Entry → List Entry
made_before make key None es = es
made_before make key (Some v) es = make key v ∷ es

-- what is in the places that are not empty
abbrev pub made_of : {K V : Type 0} → (K → V → Entry) → List (K × Option V) → List Entry
made_of make [] = []
made_of make (place ∷ places) = made_before make place.0 place.1 (made_of make places)

module _ {K V : Type 0} {R : K → K → Ordering} (exact : CmpEqualImpliesEq R) (make : K → V → Entry) where
  there_made : (es : List (K × Option V)) (k : K) (v : V) → lookup (is_at (R k)) es ≡ Some (Some v) → In (make k v) (made_of make es)
  there_made [] k v h = absurd (let bad = h in cc)
  there_made (x ∷ xs) k v h =
      elim (is_at (R k) x.0) as (λ t. is_at (R k) x.0 ≡ t → In (make k v) (made_before make x.0 x.1 (made_of make xs))) [
        | true ↦ λ t.
            let same = exact k x.0 ((Equal-is _).0 t) in
            let is : x.1 ≡ Some v = some_is (sym (ap (λ b. cond b (Some x.1) (lookup (is_at (R k)) xs)) t) ∙ h) in
            subst (λ p. In (make k v) (made_before make x.0 p (made_of make xs))) (sym is) (inl (ap (λ q. make q v) same))
        | false ↦ λ t. later x.1 (there_made xs k v (sym (ap (λ b. cond b (Some x.1) (lookup (is_at (R k)) xs)) t) ∙ h))
      ] refl
    where
      later : (p : Option V) → In (make k v) (made_of make xs) → In (make k v) (made_before make x.0 p (made_of make xs))
      later None i = i
      later (Some w) i = inr i

  -- what is placed under a key is found there
  pub placed_found : (es : List (K × Option V)) (k : K) (e : Entry) → option_map (make k) (placed (lookup (is_at (R k)) es)) ≡ Some e → In e (made_of make es)
  placed_found es k e h = go (lookup (is_at (R k)) es) refl h
    where
      go : (p : Option (Option V)) → lookup (is_at (R k)) es ≡ p → option_map (make k) (placed p) ≡ Some e → In e (made_of make es)
      go None is h = absurd (let bad = h in cc)
      go (Some None) is h = absurd (let bad = h in cc)
      go (Some (Some v)) is h = subst (λ e. In e (made_of make es)) (some_is h) (there_made es k v is)

  -- it is found in rows that are those of the tree
  pub found_in_rows :
      (rows es : List (K × Option V)) → rows ≡ es → (k : K) (e : Entry) → option_map (make k) (placed (lookup (is_at (R k)) es)) ≡ Some e → In e (made_of make rows)
  found_in_rows rows es all k e h = subst (λ xs. In e (made_of make xs)) (sym all) (placed_found es k e h)
