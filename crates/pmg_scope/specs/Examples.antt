-- Scripts by example.
use Rattle.std.specs.Prelude.{◌≡◌, ℕ, List, [], ◌∷◌, Some, None, codes}
use Rattle.pmg_scope.specs.declared.scope.Scope.TheVariants as scopes
use Rattle.pmg_scope.specs.declared.scope.Reach.TheVariants as reach
use Rattle.pmg_scope.specs.Scripts.{Call, Script, term_key, commits, value_at}

-- the canonical bytes of a u8
abbrev pub u8_of : ℕ → List ℕ
u8_of n = 9 ∷ n ∷ []

-- one put of each scope, and a commit
abbrev pub each_scope : Script
each_scope =
    Call.put scopes.Internal (codes "x") (u8_of 1) ∷ Call.put scopes.Local (codes "y") (u8_of 2)
    ∷ Call.put scopes.Remote (codes "z") (u8_of 3) ∷ Call.put scopes.Global (codes "w") (u8_of 4) ∷ Call.commit ∷ []

-- the reads of it by others on the node and by processes on other nodes
abbrev pub EachScope : Type 0
EachScope =
    (value_at each_scope 1 reach.Own (codes "x") ≡ Some (u8_of 1))
    × (value_at each_scope 1 reach.Near (codes "x") ≡ None)
    × (value_at each_scope 1 reach.Near (codes "y") ≡ Some (u8_of 2))
    × (value_at each_scope 1 reach.Near (codes "z") ≡ None)
    × (value_at each_scope 1 reach.Near (codes "w") ≡ Some (u8_of 4))
    × (value_at each_scope 1 reach.Far (codes "x") ≡ None)
    × (value_at each_scope 1 reach.Far (codes "y") ≡ None)
    × (value_at each_scope 1 reach.Far (codes "z") ≡ Some (u8_of 3))
    × (value_at each_scope 1 reach.Far (codes "w") ≡ Some (u8_of 4))

-- one key has a value for the node and another for other nodes
abbrev pub two_values : Script
two_values = Call.put scopes.Local (codes "addr") (u8_of 1) ∷ Call.put scopes.Remote (codes "addr") (u8_of 2) ∷ Call.commit ∷ []

-- others on the node see the one value, and processes on other nodes the other
abbrev pub TwoValues : Type 0
TwoValues = (value_at two_values 1 reach.Near (codes "addr") ≡ Some (u8_of 1)) × (value_at two_values 1 reach.Far (codes "addr") ≡ Some (u8_of 2))

-- a put after a commit, which the next commit seals
abbrev pub put_again : Script
put_again = Call.put scopes.Global (codes "a") (u8_of 1) ∷ Call.commit ∷ Call.put scopes.Global (codes "a") (u8_of 2) ∷ Call.commit ∷ []

-- processes on other nodes see nothing before a commit, and after each commit the put that it sealed
abbrev pub PutAgain : Type 0
PutAgain =
    (value_at put_again 0 reach.Far (codes "a") ≡ None)
    × (value_at put_again 1 reach.Far (codes "a") ≡ Some (u8_of 1))
    × (value_at put_again 2 reach.Far (codes "a") ≡ Some (u8_of 2))

-- a process that ends with a put that no commit sealed: the put is lost, and the end is sealed
abbrev pub lost_put : Script
lost_put = Call.put scopes.Global (codes "a") (u8_of 5) ∷ Call.commit ∷ Call.put scopes.Global (codes "a") (u8_of 6) ∷ Call.terminate ∷ []

-- the end is the second commit: `pmix.term` is seen from it on, and the value of the first commit stays
abbrev pub LostPut : Type 0
LostPut =
    (commits lost_put ≡ 2)
    × (value_at lost_put 2 reach.Far (codes "a") ≡ Some (u8_of 5))
    × (value_at lost_put 2 reach.Near term_key ≡ Some (1 ∷ 1 ∷ []))
    × (value_at lost_put 1 reach.Near term_key ≡ None)
