-- Numbers are joined as the greater one.
use Rattle.std.specs.Prelude.{max, ◌≤◌}
use native.Mathlib.Omega.{arith}
use Rattle.pmg_join.specs.Joins.{JoinLaws, JoinOrder}

pub numbers_joined : JoinLaws max
numbers_joined = record { assoc = λ a b c. omega arith; comm = λ a b. omega arith; idem = λ a. omega arith }

pub numbers_ordered : JoinOrder max (λ m n. m ≤ n)
numbers_ordered = record {
  reflexive = λ a. omega arith;
  transitive = λ a b c p q. omega arith;
  antisymmetric = λ a b p q. omega arith;
  left = λ a b. omega arith;
  right = λ a b. omega arith;
  least = λ a b c p q. omega arith;
}
