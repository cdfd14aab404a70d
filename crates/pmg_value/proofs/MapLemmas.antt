-- What two joined maps have at a key.
use Rattle.std.proofs.Common.{List, [], ◌∷◌, ◌≡◌, true, false, cond, refl, sym, ap, ◌∙◌}
use Rattle.std.specs.Prelude.{Option, Some, None}
use Rattle.std.specs.Cmp.{IsTotalOrder, Equal-is}
use Rattle.std.specs.Ordering.{eq_by_cmp}
use Rattle.std.specs.declared.cmp.Ordering.{Ordering}
use Rattle.std.specs.FinMap as map
use Rattle.std.specs.FinMap.Entries.{find}
use Rattle.pmg_value.specs.Maps.{join_options, join_to, with_entries, join_maps}

Some-join_to : {A : Type 0} (join : A → A → A) (o : Option A) (b : A) → Some (join_to join o b) ≡ join_options join o (Some b)
Some-join_to join None b = refl
Some-join_to join (Some a) b = refl

join_options-None : {A : Type 0} (join : A → A → A) (o : Option A) → o ≡ join_options join o None
join_options-None join None = refl
join_options-None join (Some a) = refl

module _ {K X : Type 0} {R : K → K → Ordering} (o : IsTotalOrder R) (join : X → X → X) (m : map.FinMap R X) where
  get-with_entries : (es : List (K × X)) (q : K) → map.get (with_entries join m es) q ≡ join_options join (map.get m q) (find R q es)
  get-with_entries [] q = join_options-None join (map.get m q)
  get-with_entries (e ∷ es) q =
      map.get-insert o (with_entries join m es) e.0 _ q
      ∙ elim (eq_by_cmp R q e.0) as (λ b. eq_by_cmp R q e.0 ≡ b → cond b (Some (join_to join (map.get m e.0) e.1)) (map.get (with_entries join m es) q) ≡ join_options join (map.get m q) (cond b (Some e.1) (find R q es))) [
        | true ↦ λ t. Some-join_to join (map.get m e.0) e.1 ∙ ap (λ x. join_options join x (Some e.1)) (map.get_tied o m q e.0 ((Equal-is _).0 t))
        | false ↦ λ t. get-with_entries es q
      ] refl

  pub get-join_maps : (n : map.FinMap R X) (q : K) → map.get (join_maps join m n) q ≡ join_options join (map.get m q) (map.get n q)
  unfolding join_maps
  get-join_maps n q = get-with_entries (map.entries n) q ∙ ap (join_options join (map.get m q)) (sym (map.get-entries n q))
