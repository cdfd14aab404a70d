-- Maps whose values have a lawful join are joined lawfully, key by key.
use Rattle.std.proofs.Common.{◌≡◌, sym, ap, ◌∙◌, subst}
use Rattle.std.specs.Cmp.{IsTotalOrder}
use Rattle.std.specs.declared.cmp.Ordering.{Ordering}
use Rattle.std.specs.FinMap as map
use Rattle.std.specs.FinMap.{IsAntisymmetric}
use Rattle.pmg_value.specs.Maps.{join_options, join_maps}
use Rattle.pmg_value.proofs.MapLemmas.{get-join_maps}
use Rattle.pmg_join.specs.Joins.{JoinLaws, JoinOrder}
use Rattle.pmg_join.specs.Maps.{OptionWithin, WithinAtKeys, options_joined, options_ordered}

module _ {K X : Type 0} {R : K → K → Ordering} (o : IsTotalOrder R) (exact : IsAntisymmetric R) where
  get-joined : (join : X → X → X) (m n : map.FinMap R X) (q : K) → map.get (join_maps join m n) q ≡ join_options join (map.get m q) (map.get n q)
  get-joined join m n q = get-join_maps o join m n q

  pub maps_joined : {join : X → X → X} → JoinLaws join → JoinLaws (join_maps {R = R} join)
  maps_joined {join} laws = record {
    assoc = λ a b c. map.same_map o exact _ _ (λ q.
        get-joined join (join_maps join a b) c q ∙ ap (λ x. join_options join x (map.get c q)) (get-joined join a b q)
        ∙ (options_joined laws).assoc (map.get a q) (map.get b q) (map.get c q)
        ∙ sym (get-joined join a (join_maps join b c) q ∙ ap (join_options join (map.get a q)) (get-joined join b c q)));
    comm = λ a b. map.same_map o exact _ _ (λ q. get-joined join a b q ∙ (options_joined laws).comm (map.get a q) (map.get b q) ∙ sym (get-joined join b a q));
    idem = λ a. map.same_map o exact _ _ (λ q. get-joined join a a q ∙ (options_joined laws).idem (map.get a q));
  }

  pub maps_ordered : {join : X → X → X} {Within : X → X → Type 0} → JoinOrder join Within → JoinOrder (join_maps {R = R} join) (λ m n. WithinAtKeys Within (map.get m) (map.get n))
  maps_ordered {join} {Within} order =
      let options = options_ordered order in
      record {
        reflexive = λ a q. options.reflexive (map.get a q);
        transitive = λ a b c s t q. options.transitive (map.get a q) (map.get b q) (map.get c q) (s q) (t q);
        antisymmetric = λ a b s t. map.same_map o exact a b (λ q. options.antisymmetric (map.get a q) (map.get b q) (s q) (t q));
        left = λ a b q. subst (OptionWithin Within (map.get a q)) (sym (get-joined join a b q)) (options.left (map.get a q) (map.get b q));
        right = λ a b q. subst (OptionWithin Within (map.get b q)) (sym (get-joined join a b q)) (options.right (map.get a q) (map.get b q));
        least = λ a b c s t q. subst (λ x. OptionWithin Within x (map.get c q)) (sym (get-joined join a b q)) (options.least (map.get a q) (map.get b q) (map.get c q) (s q) (t q));
      }
