-- Elements put one by one into a set.
use Rattle.std.proofs.Common.{◌≡◌, Bool, true, false, cond, ◌||◌, List, [], ◌∷◌, refl, sym, ap, ◌∙◌}
use Rattle.std.proofs.Math.Bool.{or-false}
use Rattle.std.specs.Cmp.{IsTotalOrder, eq_by_cmp_equiv}
use Rattle.std.specs.List.{list_any}
use Rattle.std.specs.Ordering.{eq_by_cmp}
use Rattle.std.specs.declared.cmp.Ordering.{Ordering}
use Rattle.std.specs.BTreeMap.{is_at}
use Rattle.std.specs.BTreeSet as tree
use Rattle.std.specs.BTreeSet.{BTreeSet}
use Rattle.std.specs.FinSet as set
use Rattle.std.specs.FinMap.{IsAntisymmetric}
use Rattle.pmg_join.specs.Sets.{set_in}

module _ {K : Type 0} {R : K → K → Ordering} (o : IsTotalOrder R) where
  -- the set of a tree's keys has what the tree has
  pub contains-set_in : (s : BTreeSet K) (q : K) → set.contains (set_in R s) q ≡ tree.contains R s q
  unfolding set_in
  contains-set_in s q = set.contains-from_list o s.keys q

  cond_or : (a b : Bool) (x : Bool) → a ≡ b → cond a true x ≡ (b || x)
  cond_or true b x e = ap (λ c. c || x) e
  cond_or false b x e = ap (λ c. c || x) e

  pub inserted : IsAntisymmetric R → (s n : BTreeSet K) (k : K) → ((q : K) → tree.contains R n q ≡ cond (is_at (R k) q) true (tree.contains R s q)) → set_in R n ≡ set.insert (set_in R s) k
  inserted exact s n k updates = set.same_set o exact _ _ (λ q.
      contains-set_in n q
      ∙ updates q
      ∙ cond_or (eq_by_cmp R k q) (eq_by_cmp R q k) (tree.contains R s q) ((eq_by_cmp_equiv o).symm k q)
      ∙ sym (set.contains-insert o (set_in R s) k q ∙ ap (λ b. eq_by_cmp R q k || b) (contains-set_in s q)))

  or_swap : (a b c : Bool) → ((a || b) || c) ≡ (b || (a || c))
  or_swap true true c = refl
  or_swap true false c = refl
  or_swap false b c = refl

  -- two sets together: at first, with one more of the keys put, and at the end
  pub union_first : (s t : BTreeSet K) (q : K) → (set.contains (set_in R s) q || list_any (eq_by_cmp R q) t.keys) ≡ set.contains (set.union (set_in R s) (set_in R t)) q
  union_first s t q = ap (λ b. set.contains (set_in R s) q || b) (sym (contains-set_in t q)) ∙ sym (set.contains-union o (set_in R s) (set_in R t) q)

  pub union_next : (s : set.FinSet R) (k : K) (ks : List K) (q : K) → (set.contains (set.insert s k) q || list_any (eq_by_cmp R q) ks) ≡ (set.contains s q || list_any (eq_by_cmp R q) (k ∷ ks))
  union_next s k ks q = ap (λ b. b || list_any (eq_by_cmp R q) ks) (set.contains-insert o s k q) ∙ or_swap (eq_by_cmp R q k) (set.contains s q) (list_any (eq_by_cmp R q) ks)

  pub union_last : IsAntisymmetric R → (s t : set.FinSet R) → ((q : K) → (set.contains s q || list_any (eq_by_cmp R q) []) ≡ set.contains t q) → s ≡ t
  union_last exact s t h = set.same_set o exact s t (λ q. sym (or-false (set.contains s q)) ∙ h q)
