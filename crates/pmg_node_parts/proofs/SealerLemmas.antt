-- What own processes sealed, and what stands under one of them.
use Rattle.std.proofs.Common.{◌≡◌, Bool, true, false, ◌&&◌, cond, List, [], ◌∷◌, ◌++◌, map, Option, Some, None, is_some, IsSome, Result, Ok, Err, OnOk, OnErr, refl, sym, ap, subst, ◌∙◌, MutBor}
use Rattle.std.specs.List.{list_all}
use Rattle.std.specs.FinMap as finite
use Rattle.std.specs.BTreeMap.{is_at}
use Rattle.std.specs.Cmp.{eq_by_cmp_equiv}
use Rattle.std.specs.Ordering.{eq_by_cmp}
use Rattle.std.specs.Option.{option_copied_mut, unwrap_or}
use Rattle.std.proofs.lemmas.Bool.{false≢true}
use Rattle.pmg_value.specs.declared.process.Proc.{Proc}
use Rattle.pmg_value.specs.Process.{proc_cmp}
use Rattle.pmg_value.specs.Rows.{map_of}
use Rattle.pmg_value.proofs.ProcessOrder.{procs_total, exact_procs}
use Rattle.pmg_value.proofs.RowLemmas.{at_key, found_there, get-map_of, insert_same, kept_is, put_found, rows_with}
use Rattle.pmg_scope.specs.Cached.{Unsealed}
use Rattle.pmg_commit.specs.Sealed.{Sealed, fresh, sealed_with}
use Rattle.pmg_node_parts.specs.Sealers.{AllSealed, sealed_by, NoneEnded, with_fresh}

-- what was put there is there
pub sealed-insert : (all : AllSealed) (p : Proc) (z : Sealed) → sealed_by (finite.insert all p z) p ≡ z
sealed-insert all p z = ap (λ (o : Option Sealed). unwrap_or o (fresh p)) (finite.get-insert procs_total all p z p ∙ ap (λ (b : Bool). cond b (Some z) (finite.get all p)) ((eq_by_cmp_equiv procs_total).refl p))

module _ (old : List (Proc × Sealed)) (all : AllSealed) (p : Proc) (same : map_of old ≡ all) where
  -- an own process is there
  pub not_there : {P : Type 0} → is_some (finite.get all p) ≡ true → at_key proc_cmp p old ≡ None → P
  not_there own e = absurd (false≢true (sym (ap is_some (kept_is procs_total exact_procs old all p same None e)) ∙ own))

-- what is so once what an own process sealed was changed where it stands
pub record IsResealed (all new : AllSealed) (p : Proc) (was now : Sealed) : Type 0 where
  pub put : new ≡ finite.insert all p now
  pub was_there : sealed_by all p ≡ was
  pub now_there : sealed_by new p ≡ now
  pub same : now ≡ was → new ≡ all

pub resealed : (old : List (Proc × Sealed)) (all : AllSealed) (p : Proc) → map_of old ≡ all → (o : Option (MutBor Sealed)) (kept : MutBor Sealed) → o ≡ Some kept → option_copied_mut o ≡ at_key proc_cmp p old
    → (new : List (Proc × Sealed)) (now : Sealed) → (IsSome (at_key proc_cmp p old) → (q : Proc) → at_key proc_cmp q new ≡ cond (is_at (proc_cmp p) q) (Some now) (at_key proc_cmp q old))
    → IsResealed all (map_of new) p kept.now now
resealed old all p view o kept some value new now updates =
    let there = found_there procs_total exact_procs old all p view o kept some value in
    let put = put_found procs_total exact_procs old all p view o kept new now some value updates in
    record {
      put = put;
      was_there = ap (λ (z : Option Sealed). unwrap_or z (fresh p)) there;
      now_there = ap (λ (m : AllSealed). sealed_by m p) put ∙ sealed-insert all p now;
      same = λ is. put ∙ insert_same procs_total exact_procs all p now (there ∙ ap Some (sym is));
    }

-- ---- none of them has ended

-- where there is none
pub none_of_nothing : (rows : List (Proc × Sealed)) → rows ≡ [] → NoneEnded (map_of rows)
none_of_nothing rows empty q = ap (λ (o : Option Sealed). (unwrap_or o (fresh q)).ended) (get-map_of procs_total rows q ∙ ap (at_key proc_cmp q) empty)

-- with one more that has not
pub none_with : (all : AllSealed) (p : Proc) (z : Sealed) → NoneEnded all → z.ended ≡ false → NoneEnded (finite.insert all p z)
none_with all p z none alive q = ap (λ (o : Option Sealed). (unwrap_or o (fresh q)).ended) (finite.get-insert procs_total all p z q) ∙ either (eq_by_cmp proc_cmp q p)
  where
    either : (b : Bool) → (unwrap_or (cond b (Some z) (finite.get all q)) (fresh q)).ended ≡ false
    either true = alive
    either false = none q

-- after a commit, which ends nobody
pub none_committed : {T E : Type 0} (r : Result T E) (all new : AllSealed) (p : Proc) (was now : Sealed) (b : Unsealed) → IsResealed all new p was now
    → OnOk r (now ≡ sealed_with was b) → OnErr r (now ≡ was) → NoneEnded all → NoneEnded new
none_committed r all new p was now b its ok err none =
    subst NoneEnded (sym its.put) (none_with all p now none (kept r ok err ∙ ap (λ (z : Sealed). z.ended) (sym its.was_there) ∙ none p))
  where
    kept : {T E : Type 0} (r : Result T E) → OnOk r (now ≡ sealed_with was b) → OnErr r (now ≡ was) → now.ended ≡ was.ended
    kept (Ok _) ok err = ap (λ (z : Sealed). z.ended) ok
    kept (Err _) ok err = ap (λ (z : Sealed). z.ended) err

-- one more that made no commit
pub fresh_snoc : (ps : List Proc) (p : Proc) (all : AllSealed) → with_fresh (ps ++ p ∷ []) all ≡ with_fresh ps (finite.insert all p (fresh p))
fresh_snoc [] p all = refl
fresh_snoc (q ∷ ps) p all = ap (λ (m : AllSealed). finite.insert m q (fresh q)) (fresh_snoc ps p all)

-- all but the last, and the last
pub all_snoc : (test : Proc → Bool) (ps : List Proc) (p : Proc) → list_all test (ps ++ p ∷ []) ≡ true → (list_all test ps ≡ true) × (test p ≡ true)
all_snoc test [] p h = (refl, last (test p) h)
  where
    last : (b : Bool) → (b && true) ≡ true → b ≡ true
    last true h = refl
    last false h = h
all_snoc test (q ∷ ps) p h = both (test q) (list_all test (ps ++ p ∷ [])) h (all_snoc test ps p)
  where
    both : (b c : Bool) → (b && c) ≡ true → (c ≡ true → (list_all test ps ≡ true) × (test p ≡ true)) → ((b && list_all test ps) ≡ true) × (test p ≡ true)
    both true c h rest = rest h
    both false c h rest = absurd (false≢true h)

-- the places of these processes, which made no commit
pub fresh_is : (ps : List Proc) → with_fresh ps finite.empty ≡ map_of (map (λ p. (p, fresh p)) ps)
fresh_is [] = finite.same_map procs_total exact_procs finite.empty (map_of []) (λ q. finite.get-empty proc_cmp q ∙ sym (get-map_of procs_total [] q))
fresh_is (p ∷ ps) =
    ap (λ (m : AllSealed). finite.insert m p (fresh p)) (fresh_is ps)
    ∙ sym (rows_with procs_total exact_procs (λ (z : Sealed). z) (map (λ p. (p, fresh p)) ps) ((p, fresh p) ∷ map (λ p. (p, fresh p)) ps) p (fresh p)
    (λ q. ap (λ (b : Bool). cond b (Some (fresh p)) (at_key proc_cmp q (map (λ p. (p, fresh p)) ps))) (sym ((eq_by_cmp_equiv procs_total).symm p q))))
