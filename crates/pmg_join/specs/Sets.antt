-- Sets are joined by their union.
use Rattle.std.specs.Prelude.{◌≡◌, true}
use Rattle.std.proofs.Common.{inl, inr, sym, ◌∙◌}
use Rattle.std.specs.Cmp.{IsTotalOrder}
use Rattle.std.specs.declared.cmp.Ordering.{Ordering}
use Rattle.std.specs.BTreeSet.{BTreeSet}
use Rattle.std.specs.FinSet as set
use Rattle.std.specs.FinMap.{IsAntisymmetric}
use Rattle.std.proofs.lemmas.Bool.{or_cases, or_left, or_right}
use Rattle.pmg_value.proofs.SetLemmas.{union_assoc, union_comm, union_idem, same_members}
use Rattle.pmg_join.specs.Joins.{JoinLaws, JoinOrder}

-- the set of a tree's keys
unfoldable pub set_in : {K : Type 0} (R : K → K → Ordering) → BTreeSet K → set.FinSet R
set_in R tree = set.from_list tree.keys

-- each element of the one is an element of the other
abbrev pub SetWithin : {K : Type 0} {R : K → K → Ordering} → set.FinSet R → set.FinSet R → Type 0
SetWithin {K} s t = (q : K) → set.contains s q ≡ true → set.contains t q ≡ true

module _ {K : Type 0} {R : K → K → Ordering} (o : IsTotalOrder R) (exact : IsAntisymmetric R) where
  pub sets_joined : JoinLaws (set.union {R = R})
  sets_joined = record { assoc = union_assoc o exact; comm = union_comm o exact; idem = union_idem o exact }

  pub sets_ordered : JoinOrder (set.union {R = R}) (SetWithin {R = R})
  sets_ordered = record {
    reflexive = λ s q h. h;
    transitive = λ s t u a b q h. b q (a q h);
    antisymmetric = λ s t a b. same_members o exact s t a b;
    left = λ s t q h. set.contains-union o s t q ∙ or_left _ _ h;
    right = λ s t q h. set.contains-union o s t q ∙ or_right _ _ h;
    least = λ s t u a b q h. elim (or_cases (set.contains s q) (set.contains t q) (sym (set.contains-union o s t q) ∙ h)) [ inl x ↦ a q x | inr y ↦ b q y ];
  }
