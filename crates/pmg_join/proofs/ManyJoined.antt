-- A join of many under the laws of a join.
use Rattle.std.proofs.Common.{List, [], ◌∷◌, ◌++◌, ◌≡◌, inl, inr, refl, sym, ap, ◌∙◌}
use Rattle.pmg_value.specs.Lists.{In}
use Rattle.pmg_join.specs.Joins.{JoinLaws, join_all}
use Rattle.pmg_join.specs.Laws.{IsFreeInOrder, IsFreeInGrouping, IsFreeInRepeats}

pub join_all-append : {M : Type 0} (join : M → M → M) (first : M) (xs ys : List M) → join_all join first (xs ++ ys) ≡ join_all join (join_all join first xs) ys
join_all-append join first [] ys = refl
join_all-append join first (x ∷ xs) ys = join_all-append join (join first x) xs ys

module _ {M : Type 0} {join : M → M → M} (laws : JoinLaws join) where
  -- what the first has taken, the join of many has taken
  taken_first : (first a : M) (xs : List M) → join first a ≡ first → join (join_all join first xs) a ≡ join_all join first xs
  taken_first first a [] h = h
  taken_first first a (x ∷ xs) h =
      taken_first (join first x) a xs (laws.assoc first x a ∙ ap (join first) (laws.comm x a) ∙ sym (laws.assoc first a x) ∙ ap (λ m. join m x) h)

  pub taken_item : IsFreeInRepeats join
  taken_item first a [] i = absurd i
  taken_item first a (x ∷ xs) (inl e) =
      taken_first (join first x) a xs (laws.assoc first x a ∙ ap (λ m. join first (join x m)) e ∙ ap (join first) (laws.idem x))
  taken_item first a (x ∷ xs) (inr i) = taken_item (join first x) a xs i

  -- what has taken each of them has taken their join
  taken_all : (whole first : M) (xs : List M) → join whole first ≡ whole → ((x : M) → In x xs → join whole x ≡ whole) → join whole (join_all join first xs) ≡ whole
  taken_all whole first [] h each = h
  taken_all whole first (x ∷ xs) h each =
      taken_all whole (join first x) xs (sym (laws.assoc whole first x) ∙ ap (λ m. join m x) h ∙ each x (inl refl)) (λ y i. each y (inr i))

  pub free_in_order : IsFreeInOrder join
  free_in_order first xs ys same =
      let whole = join_all join first xs in
      let other = join_all join first ys in
      let one : join whole other ≡ whole = taken_all whole first ys (taken_first first first xs (laws.idem first)) (λ y i. taken_item first y xs ((same y).1 i)) in
      let two : join other whole ≡ other = taken_all other first xs (taken_first first first ys (laws.idem first)) (λ x i. taken_item first x ys ((same x).0 i)) in
      sym one ∙ laws.comm whole other ∙ two

  joined_before : (a first : M) (xs : List M) → join a (join_all join first xs) ≡ join_all join (join a first) xs
  joined_before a first [] = refl
  joined_before a first (x ∷ xs) = joined_before a (join first x) xs ∙ ap (λ m. join_all join m xs) (sym (laws.assoc a first x))

  joined_behind : (first a : M) (xs : List M) → join (join_all join first xs) a ≡ join_all join (join first a) xs
  joined_behind first a xs = laws.comm (join_all join first xs) a ∙ joined_before a first xs ∙ ap (λ m. join_all join m xs) (laws.comm a first)

  pub free_in_grouping : IsFreeInGrouping join
  free_in_grouping first second xs ys =
      joined_before (join_all join first xs) second ys
      ∙ ap (λ m. join_all join m ys) (joined_behind first second xs)
      ∙ sym (join_all-append join (join first second) xs ys)
