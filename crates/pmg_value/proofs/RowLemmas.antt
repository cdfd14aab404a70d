-- Rows of keys and values in memory, and what stands under a key.
use Rattle.std.proofs.Common.{◌≡◌, Bool, true, false, cond, ◌&&◌, List, [], ◌∷◌, ◌++◌, map, length, Option, Some, None, is_some, IsSome, refl, sym, ap, subst, ◌∙◌, inl, inr, Bor, MutBor, arith}
use Rattle.std.specs.FinMap as finite
use Rattle.std.specs.FinMap.{IsAntisymmetric}
use Rattle.std.specs.FinMap.Entries.{find, put}
use Rattle.std.specs.Map.{lookup, keys_of, update_all}
use Rattle.std.proofs.lemmas.Map.Keys.{IsDistinct-from_sorted}
use Rattle.std.proofs.lemmas.Map.Made.{update_all_none}
use Rattle.std.specs.BTreeMap.{is_at}
use Rattle.std.specs.Option.{option_map, option_copied, option_copied_mut}
use Rattle.std.specs.List.{AllByRecursion}
use Rattle.std.specs.List.Sorted.{IsStrictlySortedBy}
use Rattle.std.specs.declared.cmp.Ordering.{Ordering}
use Rattle.std.specs.declared.cmp.Ordering.TheVariants.{Less}
use Rattle.std.specs.Ordering.{eq_by_cmp, match_ordering}
use Rattle.std.specs.Cmp.{IsTotalOrder, Equal-is, eq_by_cmp_equiv}
use Rattle.std.proofs.lemmas.List.{length-map}
use Rattle.std.proofs.lemmas.Bool.{false≢true}
use Rattle.pmg_value.specs.Lists.{In}
use Rattle.pmg_value.specs.Rows.{AreRising, map_of, rows_of, changed_at, put_back, back_at}

-- what stands under a key in the rows
abbrev pub at_key : {K V : Type 0} → (K → K → Ordering) → K → List (K × V) → Option V
at_key R q rows = lookup (is_at (R q)) rows

-- what is found under a key is under one of the keys
pub key_there : {K V : Type 0} {R : K → K → Ordering} (exact : IsAntisymmetric R) (rows : List (K × V)) (key : K) → IsSome (at_key R key rows) → In key (keys_of rows)
key_there exact [] key h = absurd (false≢true h)
key_there {K} {V} {R} exact (e ∷ rows) key h =
    elim (is_at (R key) e.0) as (λ t. is_at (R key) e.0 ≡ t → In key (keys_of (e ∷ rows))) [
      | true ↦ λ t. inl (exact key e.0 ((Equal-is _).0 t))
      | false ↦ λ t. inr (key_there exact rows key (subst IsSome (ap (λ b. cond b (Some e.1) (at_key R key rows)) t) h))
    ] refl

no_items : {A : Type 0} (xs : List A) → length xs ≡ 0 → xs ≡ []
no_items [] e = refl
no_items (x ∷ xs) e = absurd (omega (arith, e))

pub entries_of_nothing : {K X : Type 0} (R : K → K → Ordering) → finite.entries (finite.empty {X = X} {R = R}) ≡ []
entries_of_nothing {X = X} R = no_items _ (sym (finite.len-entries finite.empty) ∙ finite.len-empty R X)

-- one row rises
pub one_rises : {K V : Type 0} (R : K → K → Ordering) (row : K × V) (rows : List (K × V)) → rows ≡ row ∷ [] → AreRising R rows
unfolding IsStrictlySortedBy
one_rises R row rows e = subst (AreRising R) (sym e) (tt, tt)

-- the query's test, asked the other way round
turned : {K : Type 0} {R : K → K → Ordering} (o : IsTotalOrder R) (k q : K) → is_at (R k) q ≡ eq_by_cmp R q k
turned o k q = (eq_by_cmp_equiv o).symm k q

module _ {K X : Type 0} {R : K → K → Ordering} (o : IsTotalOrder R) where
  -- to insert what is there changes nothing
  pub insert_same : IsAntisymmetric R → (m : finite.FinMap R X) (k : K) (x : X) → finite.get m k ≡ Some x → finite.insert m k x ≡ m
  insert_same exact m k x there = finite.same_map o exact (finite.insert m k x) m (λ q.
      finite.get-insert o m k x q
      ∙ elim (eq_by_cmp R q k) as (λ b. eq_by_cmp R q k ≡ b → cond b (Some x) (finite.get m q) ≡ finite.get m q) [
        | true ↦ λ t. sym there ∙ ap (finite.get m) (sym (exact q k ((Equal-is _).0 t)))
        | false ↦ λ t. refl
      ] refl)

  -- to remove what was not there before it was inserted undoes the insertion
  pub remove_inserted : IsAntisymmetric R → (m : finite.FinMap R X) (k : K) (x : X) → finite.get m k ≡ None → finite.remove (finite.insert m k x) k ≡ m
  remove_inserted exact m k x none = finite.same_map o exact (finite.remove (finite.insert m k x) k) m (λ q.
      finite.get-remove o (finite.insert m k x) k q
      ∙ elim (eq_by_cmp R q k) as (λ b. eq_by_cmp R q k ≡ b → cond b None (finite.get (finite.insert m k x) q) ≡ finite.get m q) [
        | true ↦ λ t. sym none ∙ ap (finite.get m) (sym (exact q k ((Equal-is _).0 t)))
        | false ↦ λ t. finite.get-insert o m k x q ∙ ap (λ b. cond b (Some x) (finite.get m q)) t
      ] refl)

-- ---- a change, taken back

shadowed : {X : Type 0} (b : Bool) (x : Option X) (v : X) (y : Option X) → (b ≡ true → x ≡ y) → cond b x (cond b (Some v) y) ≡ y
shadowed true x v y same = same refl
shadowed false x v y same = refl

module _ {K X : Type 0} {R : K → K → Ordering} (o : IsTotalOrder R) (exact : IsAntisymmetric R) where
  there_inserted : (m : finite.FinMap R X) (k : K) (x : X) → finite.contains_key (finite.insert m k x) k ≡ true
  there_inserted m k x = ap is_some (finite.get-insert o m k x k ∙ ap (λ (b : Bool). cond b (Some x) (finite.get m k)) ((eq_by_cmp_equiv o).refl k))

  -- what stands under a key that ties
  at_tied : (m : finite.FinMap R X) (k q : K) (x : Option X) → x ≡ finite.get m k → eq_by_cmp R q k ≡ true → x ≡ finite.get m q
  at_tied m k q x e t = e ∙ finite.get_tied o m q k ((Equal-is _).0 t)

  insert_again : (m : finite.FinMap R X) (k : K) (x y : X) → Some y ≡ finite.get m k → finite.insert (finite.insert m k x) k y ≡ m
  insert_again m k x y e = finite.same_map o exact (finite.insert (finite.insert m k x) k y) m (λ q.
      finite.get-insert o (finite.insert m k x) k y q
      ∙ ap (cond (eq_by_cmp R q k) (Some y)) (finite.get-insert o m k x q)
      ∙ shadowed (eq_by_cmp R q k) (Some y) x (finite.get m q) (at_tied m k q (Some y) e))

  -- what was there before an insertion, put back
  pub inserted_back : (m : finite.FinMap R X) (k : K) (x : X) (before : Option X) → before ≡ finite.get m k → put_back (finite.insert m k x) k before ≡ m
  inserted_back m k x None e = remove_inserted o exact m k x (sym e)
  inserted_back m k x (Some y) e =
      ap (λ (b : Bool). cond b (finite.insert (finite.insert m k x) k y) (finite.insert m k x)) (there_inserted m k x) ∙ insert_again m k x y e

  -- what is there, put back
  pub same_back : (m : finite.FinMap R X) (k : K) (before : Option X) → before ≡ finite.get m k → put_back m k before ≡ m
  same_back m k None e = finite.same_map o exact (finite.remove m k) m (λ q.
      finite.get-remove o m k q ∙ none_there (eq_by_cmp R q k) (finite.get m q) (at_tied m k q None e))
    where
      none_there : {X : Type 0} (b : Bool) (y : Option X) → (b ≡ true → None ≡ y) → cond b None y ≡ y
      none_there true y same = same refl
      none_there false y same = refl
  same_back m k (Some y) e =
      ap (λ (b : Bool). cond b (finite.insert m k y) m) (ap is_some (sym e)) ∙ insert_same o exact m k y (sym e)

-- rows, with their values as they are seen
abbrev pub shown : {K V X : Type 0} → (V → X) → List (K × V) → List (K × X)
shown f rows = map (λ e. (e.0, f e.1)) rows

module _ {K V X : Type 0} {R : K → K → Ordering} (f : V → X) where
  -- the map with each of the rows put, the first of them last
  abbrev pub put_all : List (K × V) → finite.FinMap R X → finite.FinMap R X
  put_all [] m = m
  put_all (e ∷ rows) m = finite.insert (put_all rows m) e.0 (f e.1)

  pub put_all-push : (rows : List (K × V)) (k : K) (v : V) (m : finite.FinMap R X) → put_all (rows ++ (k, v) ∷ []) m ≡ put_all rows (finite.insert m k (f v))
  put_all-push [] k v m = refl
  put_all-push (e ∷ rows) k v m = ap (λ (t : finite.FinMap R X). finite.insert t e.0 (f e.1)) (put_all-push rows k v m)

  pub put_all-empty : (rows : List (K × V)) → put_all rows finite.empty ≡ rows_of f rows
  put_all-empty [] = refl
  put_all-empty (e ∷ rows) = ap (λ (t : finite.FinMap R X). finite.insert t e.0 (f e.1)) (put_all-empty rows)

module _ {K V X : Type 0} (R : K → K → Ordering) (f : V → X) where
  find-shown : (rows : List (K × V)) (q : K) → find R q (shown f rows) ≡ option_map f (at_key R q rows)
  find-shown [] q = refl
  find-shown (e ∷ rows) q =
      elim (eq_by_cmp R q e.0) as (λ b. cond b (Some (f e.1)) (find R q (shown f rows)) ≡ option_map f (cond b (Some e.1) (at_key R q rows))) [
        | true ↦ refl
        | false ↦ find-shown rows q
      ]

  put_first : (e : K × V) (rows : List (K × V)) → AllByRecursion (λ y. R e.0 y ≡ Less) (keys_of rows)
      → put R e.0 (f e.1) (shown f rows) ≡ (e.0, f e.1) ∷ shown f rows
  put_first e [] all = refl
  put_first e (g ∷ rows) all =
      ap (λ (c : Ordering). match_ordering c ((e.0, f e.1) ∷ shown f (g ∷ rows)) ((g.0, f e.1) ∷ shown f rows) ((g.0, f g.1) ∷ put R e.0 (f e.1) (shown f rows))) all.0

-- the value under a key, read where a query finds it
read_there : {V X : Type 0} (f : V → X) (found : Option (Bor V)) (x : Option V) → option_copied found ≡ x → option_map (λ v. f v.now) found ≡ option_map f x
read_there f None x e = ap (option_map f) e
read_there f (Some v) x e = ap (option_map f) e

-- what stands after a `get_mut`
pub found_is : {V : Type 0} (o : Option (MutBor V)) (kept : MutBor V) (x : Option V) → o ≡ Some kept → option_copied_mut o ≡ x → x ≡ Some kept.now
found_is o kept x some e = sym e ∙ ap option_copied_mut some

pub some_found : {V : Type 0} {x : Option V} {v : V} → x ≡ Some v → IsSome x
some_found e = ap is_some e

pub same_option : {V : Type 0} (o : Option V) → option_map (λ v. v) o ≡ o
same_option None = refl
same_option (Some v) = refl

same_list : {K V : Type 0} (rows : List (K × V)) → shown (λ (v : V). v) rows ≡ rows
same_list [] = refl
same_list (e ∷ rows) = ap (λ (t : List _). e ∷ t) (same_list rows)

map_cond : {V X : Type 0} (f : V → X) (b : Bool) (x y : Option V) → option_map f (cond b x y) ≡ cond b (option_map f x) (option_map f y)
map_cond f true x y = refl
map_cond f false x y = refl

module _ {K V X : Type 0} {R : K → K → Ordering} (o : IsTotalOrder R) (f : V → X) where
  pub get-rows_of : (rows : List (K × V)) (q : K) → finite.get (rows_of {R = R} f rows) q ≡ option_map f (at_key R q rows)
  get-rows_of rows q = finite.get-from_entries o (shown f rows) q ∙ find-shown R f rows q

  pub read_rows : (rows : List (K × V)) (m : finite.FinMap R X) (k : K) (found : Option (Bor V)) → rows_of f rows ≡ m → option_copied found ≡ at_key R k rows → option_map (λ v. f v.now) found ≡ finite.get m k
  read_rows rows m k found same e = read_there f found (at_key R k rows) e ∙ sym (get-rows_of rows k) ∙ ap (λ (t : finite.FinMap R X). finite.get t k) same

  -- rows that rise stand in the map as they are
  pub entries_rising : (rows : List (K × V)) → AreRising R rows → finite.entries (rows_of {R = R} f rows) ≡ shown f rows
  unfolding IsStrictlySortedBy
  entries_rising [] rising = entries_of_nothing R
  entries_rising (e ∷ rows) rising =
      finite.entries-insert o (rows_of f rows) e.0 (f e.1)
      ∙ ap (put R e.0 (f e.1)) (entries_rising rows rising.1)
      ∙ put_first R f e rows rising.0

  pub len_rising : (rows : List (K × V)) → AreRising R rows → finite.len (rows_of {R = R} f rows) ≡ length rows
  len_rising rows rising = finite.len-entries (rows_of f rows) ∙ ap length (entries_rising rows rising) ∙ length-map rows (λ e. (e.0, f e.1))

module _ {K V X : Type 0} {R : K → K → Ordering} (o : IsTotalOrder R) (exact : IsAntisymmetric R) (f : V → X) where
  -- rows that answer alike are one map
  pub same_rows : (old new : List (K × V)) → ((q : K) → at_key R q old ≡ at_key R q new) → rows_of {R = R} f old ≡ rows_of f new
  same_rows old new same = finite.same_map o exact _ _ (λ q. get-rows_of o f old q ∙ ap (option_map f) (same q) ∙ sym (get-rows_of o f new q))

  -- rows that have the value under the key, and else what they had
  pub rows_with : (old new : List (K × V)) (k : K) (v : V)
      → ((q : K) → at_key R q new ≡ cond (is_at (R k) q) (Some v) (at_key R q old))
      → rows_of {R = R} f new ≡ finite.insert (rows_of f old) k (f v)
  rows_with old new k v updates =
      finite.same_map o exact (rows_of f new) (finite.insert (rows_of f old) k (f v)) (λ q.
      get-rows_of o f new q
      ∙ ap (option_map f) (updates q)
      ∙ map_cond f (is_at (R k) q) (Some v) (at_key R q old)
      ∙ (λ i. cond (turned o k q i) (Some (f v)) (sym (get-rows_of o f old q) i))
      ∙ sym (finite.get-insert o (rows_of f old) k (f v) q))

  -- rows that have nothing under the key, and else what they had
  pub rows_without : (old new : List (K × V)) (k : K)
      → ((q : K) → at_key R q new ≡ cond (is_at (R k) q) None (at_key R q old))
      → rows_of {R = R} f new ≡ finite.remove (rows_of f old) k
  rows_without old new k updates =
      finite.same_map o exact (rows_of f new) (finite.remove (rows_of f old) k) (λ q.
      get-rows_of o f new q
      ∙ ap (option_map f) (updates q)
      ∙ map_cond f (is_at (R k) q) None (at_key R q old)
      ∙ (λ i. cond (turned o k q i) None (sym (get-rows_of o f old q) i))
      ∙ sym (finite.get-remove o (rows_of f old) k q))

module _ {K V X : Type 0} {R : K → K → Ordering} (o : IsTotalOrder R) (exact : IsAntisymmetric R) (f : V → X) where
  has_row : (rows : List (K × V)) (k : K) (v : Option V) → at_key R k rows ≡ v → finite.contains_key (rows_of {R = R} f rows) k ≡ is_some (option_map f v)
  has_row rows k v e = ap is_some (get-rows_of o f rows k ∙ ap (option_map f) e)

  -- rows whose value under the key was changed in place
  pub changed_there : (old new : List (K × V)) (m : finite.FinMap R X) (k : K) (v w : V) → rows_of f old ≡ m → at_key R k old ≡ Some w
      → ((q : K) → at_key R q new ≡ cond (is_at (R k) q) (Some v) (at_key R q old)) → rows_of f new ≡ changed_at m k (f v)
  changed_there old new m k v w same e updates =
      rows_with o exact f old new k v updates
      ∙ sym (ap (λ (b : Bool). cond b (finite.insert (rows_of {R = R} f old) k (f v)) (rows_of f old)) (has_row old k (Some w) e))
      ∙ ap (λ (t : finite.FinMap R X). changed_at t k (f v)) same

  pub changed_nowhere : (old : List (K × V)) (m : finite.FinMap R X) (k : K) (v : V) → rows_of f old ≡ m → None ≡ at_key R k old → rows_of f old ≡ changed_at m k (f v)
  changed_nowhere old m k v same e =
      sym (ap (λ (b : Bool). cond b (finite.insert (rows_of {R = R} f old) k (f v)) (rows_of f old)) (has_row old k None (sym e)))
      ∙ ap (λ (t : finite.FinMap R X). changed_at t k (f v)) same

-- ---- rows in which what was under a key is put back

module _ {K V X : Type 0} {R : K → K → Ordering} (o : IsTotalOrder R) (exact : IsAntisymmetric R) (f : V → X) where
  -- nothing is changed where there is nothing
  back_nowhere : (old new : List (K × V)) (m : finite.FinMap R X) (k : K) (v : V) → rows_of f old ≡ m → at_key R k old ≡ None
      → ((q : K) → at_key R q new ≡ at_key R q old) → rows_of f new ≡ changed_at m k (f v)
  back_nowhere old new m k v same none updates = same_rows o exact f new old updates ∙ changed_nowhere o exact f old m k v same (sym none)

  pub rows_back : (old new : List (K × V)) (m : finite.FinMap R X) (k : K) (before : Option V) → rows_of f old ≡ m
      → ((q : K) → at_key R q new ≡ back_at R k before (λ p. at_key R p old) q) → rows_of f new ≡ put_back m k (option_map f before)
  rows_back old new m k None same updates = rows_without o exact f old new k updates ∙ ap (λ (t : finite.FinMap R X). finite.remove t k) same
  rows_back old new m k (Some v) same updates =
      elim (at_key R k old) as (λ x. at_key R k old ≡ x → rows_of {R = R} f new ≡ changed_at m k (f v)) [
        | None ↦ λ e. back_nowhere old new m k v same e (λ q. updates q ∙ ap (λ (x : Option V). cond (is_some x && is_at (R k) q) (Some v) (at_key R q old)) e)
        | Some w ↦ λ e. changed_there o exact f old new m k v w same e (λ q. updates q ∙ ap (λ (x : Option V). cond (is_some x && is_at (R k) q) (Some v) (at_key R q old)) e)
      ] refl

module _ {K V : Type 0} {R : K → K → Ordering} (o : IsTotalOrder R) where
  pub get-map_of : (rows : List (K × V)) (q : K) → finite.get (map_of {R = R} rows) q ≡ at_key R q rows
  get-map_of rows q = get-rows_of o (λ v. v) rows q ∙ same_option (at_key R q rows)

  pub entries-map_of : (rows : List (K × V)) → AreRising R rows → finite.entries (map_of {R = R} rows) ≡ rows
  entries-map_of rows rising = entries_rising o (λ v. v) rows rising ∙ same_list rows

-- ---- rows that are the whole map, and what stands under a key of it

module _ {K X : Type 0} {R : K → K → Ordering} (o : IsTotalOrder R) (exact : IsAntisymmetric R) (entries : List (K × X)) (whole : finite.FinMap R X) (k : K) (same : map_of entries ≡ whole) where
  -- what is kept under the key is what the whole has
  pub kept_is : (there : Option X) → at_key R k entries ≡ there → finite.get whole k ≡ there
  kept_is there e = ap (λ (m : finite.FinMap R X). finite.get m k) (sym same) ∙ get-map_of o entries k ∙ e

  -- another in the place of what is kept there
  pub put_there : (new : List (K × X)) (after : X) → ((q : K) → at_key R q new ≡ cond (is_at (R k) q) (Some after) (at_key R q entries)) → map_of {R = R} new ≡ finite.insert whole k after
  put_there new after updates = rows_with o exact (λ (x : X). x) entries new k after updates ∙ ap (λ (m : finite.FinMap R X). finite.insert m k after) same

  -- the same in its place
  pub put_same : (new : List (K × X)) (there after : X) → at_key R k entries ≡ Some there → after ≡ there
      → ((q : K) → at_key R q new ≡ cond (is_at (R k) q) (Some after) (at_key R q entries)) → map_of {R = R} new ≡ whole
  put_same new there after at is updates = put_there new after updates ∙ insert_same o exact whole k after (kept_is (Some there) at ∙ ap Some (sym is))

  -- what a `get_mut` found is what the whole has
  pub found_there : (found : Option (MutBor X)) (kept : MutBor X) → found ≡ Some kept → option_copied_mut found ≡ at_key R k entries → finite.get whole k ≡ Some kept.now
  found_there found kept some value = kept_is (Some kept.now) (found_is found kept (at_key R k entries) some value)

  -- another in the place of what a `get_mut` found
  pub put_found : (found : Option (MutBor X)) (kept : MutBor X) (new : List (K × X)) (after : X) → found ≡ Some kept → option_copied_mut found ≡ at_key R k entries
      → (IsSome (at_key R k entries) → (q : K) → at_key R q new ≡ cond (is_at (R k) q) (Some after) (at_key R q entries)) → map_of {R = R} new ≡ finite.insert whole k after
  put_found found kept new after some value updates =
      put_there new after (updates (some_found (found_is found kept (at_key R k entries) some value)))

  -- as the whole had them, where they answer alike
  pub kept_whole : (new : List (K × X)) → ((q : K) → at_key R q new ≡ at_key R q entries) → map_of {R = R} new ≡ whole
  kept_whole new alike = same_rows o exact (λ (x : X). x) new entries alike ∙ same

-- ---- rows that are copied one by one

-- what the copies have at the key, once what is left of the rows is put too
abbrev pub with_rest : {K V : Type 0} → (K → K → Ordering) → List (K × V) → List (K × V) → K → Option V
with_rest R copies rest q = update_all (eq_by_cmp R) (λ k. at_key R k copies) rest q

pub one_copied : {K V : Type 0} (R : K → K → Ordering) (old new rest left : List (K × V)) (k : K) (v : V) (there : Option V) (key : K) (value : V) → left ≡ (k, v) ∷ rest → key ≡ k → value ≡ v
    → ((q : K) → at_key R q new ≡ cond (is_at (R key) q) (Some value) (at_key R q old))
    → (q : K) → with_rest R old left q ≡ there → with_rest R new rest q ≡ there
one_copied {K = K} {V = V} R old new rest left k v there key value next same_key same_value put q so_far =
    ap (λ (f : K → Option V). update_all (eq_by_cmp R) f rest q) (λ i p. put p i)
    ∙ (λ i. with_rest R old ((same_key i, same_value i) ∷ rest) q)
    ∙ ap (λ (t : List (K × V)). with_rest R old t q) (sym next)
    ∙ so_far

module _ {K V : Type 0} {R : K → K → Ordering} (o : IsTotalOrder R) where
  pub none_copied : (copies rows : List (K × V)) → copies ≡ [] → AreRising R rows → (q : K) → with_rest R copies rows q ≡ at_key R q rows
  none_copied copies rows none sorted q =
      ap (λ (t : List (K × V)). with_rest R t rows q) none
      ∙ update_all_none (eq_by_cmp_equiv o) (eq_by_cmp R) (λ x y. refl) rows q (IsDistinct-from_sorted R (keys_of rows) sorted)
