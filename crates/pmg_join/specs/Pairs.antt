-- Pairs are joined side by side.
use Rattle.pmg_join.specs.Joins.{JoinLaws, JoinOrder}

-- the firsts joined, and the seconds
abbrev pub join_pairs : {A B : Type 0} → (A → A → A) → (B → B → B) → A × B → A × B → A × B
join_pairs f g p q = (f p.0 q.0, g p.1 q.1)

-- the first is within the first, and the second within the second
abbrev pub BothWithin : {A B : Type 0} → (A → A → Type 0) → (B → B → Type 0) → A × B → A × B → Type 0
BothWithin P Q p q = P p.0 q.0 × Q p.1 q.1

module _ {A B : Type 0} {f : A → A → A} {g : B → B → B} where
  pub pairs_joined : JoinLaws f → JoinLaws g → JoinLaws (join_pairs f g)
  pairs_joined l m = record {
    assoc = λ p q r i. (l.assoc p.0 q.0 r.0 i, m.assoc p.1 q.1 r.1 i);
    comm = λ p q i. (l.comm p.0 q.0 i, m.comm p.1 q.1 i);
    idem = λ p i. (l.idem p.0 i, m.idem p.1 i);
  }

  pub pairs_ordered : {P : A → A → Type 0} {Q : B → B → Type 0} → JoinOrder f P → JoinOrder g Q → JoinOrder (join_pairs f g) (BothWithin P Q)
  pairs_ordered l m = record {
    reflexive = λ p. (l.reflexive p.0, m.reflexive p.1);
    transitive = λ p q r a b. (l.transitive p.0 q.0 r.0 a.0 b.0, m.transitive p.1 q.1 r.1 a.1 b.1);
    antisymmetric = λ p q a b i. (l.antisymmetric p.0 q.0 a.0 b.0 i, m.antisymmetric p.1 q.1 a.1 b.1 i);
    left = λ p q. (l.left p.0 q.0, m.left p.1 q.1);
    right = λ p q. (l.right p.0 q.0, m.right p.1 q.1);
    least = λ p q r a b. (l.least p.0 q.0 r.0 a.0 b.0, m.least p.1 q.1 r.1 a.1 b.1);
  }
