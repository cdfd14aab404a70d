-- Small trees in memory, as finite maps and sets.
use Rattle.std.proofs.Common.{◌≡◌, Bool, true, false, ◌||◌, cond, List, Option, Some, None, refl, sym, ap, ◌∙◌, Bor}
use Rattle.std.specs.BTreeSet as tree
use Rattle.std.specs.BTreeSet.{BTreeSet}
use Rattle.std.specs.FinMap as finite
use Rattle.std.specs.FinSet as set
use Rattle.std.specs.FinMap.{IsAntisymmetric}
use Rattle.std.specs.BTreeMap.{is_at}
use Rattle.std.specs.Option.{option_map, option_copied}
use Rattle.std.specs.Cmp.{IsTotalOrder, eq_by_cmp_equiv}
use Rattle.std.specs.Ordering.{eq_by_cmp}
use Rattle.std.specs.declared.cmp.Ordering.{Ordering}
use Rattle.pmg_value.specs.Rows.{rows_of, map_of}
use Rattle.pmg_value.proofs.RowLemmas.{at_key, rows_with, rows_without, read_rows, get-rows_of, same_option}

module _ {K V X : Type 0} {R : K → K → Ordering} (o : IsTotalOrder R) (exact : IsAntisymmetric R) (f : V → X) where
  pub put_in : (old new : List (K × V)) (m : finite.FinMap R X) (k : K) (v : V) → rows_of f old ≡ m
      → ((q : K) → at_key R q new ≡ cond (is_at (R k) q) (Some v) (at_key R q old)) → rows_of f new ≡ finite.insert m k (f v)
  put_in old new m k v same updates = rows_with o exact f old new k v updates ∙ ap (λ (t : finite.FinMap R X). finite.insert t k (f v)) same

  pub taken_out : (old new : List (K × V)) (m : finite.FinMap R X) (k : K) → rows_of f old ≡ m
      → ((q : K) → at_key R q new ≡ cond (is_at (R k) q) None (at_key R q old)) → rows_of f new ≡ finite.remove m k
  taken_out old new m k same updates = rows_without o exact f old new k updates ∙ ap (λ (t : finite.FinMap R X). finite.remove t k) same

  -- what a look-up gives
  pub read : (rows : List (K × V)) (m : finite.FinMap R X) (k : K) (found : Option (Bor V)) → rows_of f rows ≡ m → option_copied found ≡ at_key R k rows → option_map (λ v. f v.now) found ≡ finite.get m k
  read = read_rows o f

  pub get_at : (rows : List (K × V)) (m : finite.FinMap R X) (k : K) → rows_of f rows ≡ m → finite.get m k ≡ option_map f (at_key R k rows)
  get_at rows m k same = sym (ap (λ (t : finite.FinMap R X). finite.get t k) same) ∙ get-rows_of o f rows k

-- a tree of values as they are, where the one under the key has become another one
module _ {K V : Type 0} {R : K → K → Ordering} (o : IsTotalOrder R) (exact : IsAntisymmetric R) where
  pub changed_in : (old new : List (K × V)) (m : finite.FinMap R V) (k : K) (x v : V) → map_of old ≡ m → at_key R k old ≡ Some x
      → ((q : K) → at_key R q new ≡ cond (is_at (R k) q) (Some v) (at_key R q old)) → (finite.get m k ≡ Some x) × (map_of new ≡ finite.insert m k v)
  changed_in old new m k x v same there updates = (get_at o exact (λ v. v) old m k same ∙ same_option (at_key R k old) ∙ there, put_in o exact (λ v. v) old new m k v same updates)

-- a value that is read as it is
pub copied_there : {V : Type 0} (found : Option (Bor V)) → option_map (λ v. v.now) found ≡ option_copied found
copied_there None = refl
copied_there (Some v) = refl

pub lent_there : {V : Type 0} (found : Option (Bor V)) (o line : Option V) → option_copied found ≡ o → o ≡ line → option_map (λ v. v.now) found ≡ line
lent_there found o line e is = copied_there found ∙ e ∙ is

-- ---- a value, given back

itself : {K : Type 0} {R : K → K → Ordering} → IsTotalOrder R → (k : K) → eq_by_cmp R k k ≡ true
itself o k = (eq_by_cmp_equiv o).refl k

module _ {K X : Type 0} {R : K → K → Ordering} (o : IsTotalOrder R) (exact : IsAntisymmetric R) where
  pub get_put : (m : finite.FinMap R X) (k : K) (x : X) → finite.get (finite.insert m k x) k ≡ Some x
  get_put m k x = finite.get-insert o m k x k ∙ ap (λ b. cond b (Some x) (finite.get m k)) (itself o k)

-- ---- a tree of keys, as a finite set

cond_or : (a b x : Bool) → a ≡ b → cond a true x ≡ (b || x)
cond_or true b x e = ap (λ c. c || x) e
cond_or false b x e = ap (λ c. c || x) e

module _ {K : Type 0} {R : K → K → Ordering} (o : IsTotalOrder R) (exact : IsAntisymmetric R) where
  pub put_among : (old new : BTreeSet K) (m : set.FinSet R) (k : K) → set.from_list old.keys ≡ m
      → ((q : K) → tree.contains R new q ≡ cond (is_at (R k) q) true (tree.contains R old q)) → set.from_list new.keys ≡ set.insert m k
  put_among old new m k same updates =
      set.same_set o exact (set.from_list new.keys) (set.insert (set.from_list old.keys) k) (λ q.
      set.contains-from_list o new.keys q ∙ updates q
      ∙ cond_or (is_at (R k) q) (eq_by_cmp R q k) (tree.contains R old q) ((eq_by_cmp_equiv o).symm k q)
      ∙ ap (λ b. eq_by_cmp R q k || b) (sym (set.contains-from_list o old.keys q)) ∙ sym (set.contains-insert o (set.from_list old.keys) k q))
      ∙ ap (λ (t : set.FinSet R). set.insert t k) same
