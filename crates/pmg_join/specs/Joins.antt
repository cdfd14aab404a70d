-- Joins: the laws by which a join of many does not depend on order, grouping and repeats, and by which a join is a least upper bound.
use Rattle.std.specs.Prelude.{List, [], ◌∷◌, ◌≡◌}
use Rattle.pmg_value.specs.Operations.{IsAssociative, IsCommutative, IsIdempotent}

-- the laws of a join
pub record JoinLaws {M : Type 0} (join : M → M → M) : Type 0 where
  pub assoc : IsAssociative join
  pub comm : IsCommutative join
  pub idem : IsIdempotent join

-- The laws of an order, and of a join in it. The order is reflexive, transitive and antisymmetric. The join of two is their least upper
-- bound.
pub record JoinOrder {M : Type 0} (join : M → M → M) (Within : M → M → Type 0) : Type 0 where
  pub reflexive : (a : M) → Within a a
  pub transitive : (a b c : M) → Within a b → Within b c → Within a c
  pub antisymmetric : (a b : M) → Within a b → Within b a → a ≡ b
  pub left : (a b : M) → Within a (join a b)
  pub right : (a b : M) → Within b (join a b)
  pub least : (a b c : M) → Within a c → Within b c → Within (join a b) c

-- many joined to the first, one after the other
abbrev pub join_all : {M : Type 0} → (M → M → M) → M → List M → M
join_all join first [] = first
join_all join first (next ∷ others) = join_all join (join first next) others
