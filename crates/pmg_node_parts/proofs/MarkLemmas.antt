-- Marks that are set, and how they are set back.
use Rattle.std.proofs.Common.{◌≡◌, ℕ, Bool, true, false, cond, List, [], ◌∷◌, ◌++◌, Option, Some, None, Result, Ok, Err, OnOk, OnErr, is_some, refl, sym, ap, ◌∙◌}
use Rattle.std.specs.FinMap as finite
use Rattle.std.specs.FinMap.{IsAntisymmetric, nat_cmp-IsAntisymmetric}
use Rattle.std.specs.Option.{unwrap_or}
use Rattle.std.specs.Ordering.{nat_cmp, eq_by_cmp}
use Rattle.std.specs.Cmp.{IsTotalOrder, nat_cmp_total, Equal-is, eq_by_cmp_equiv}
use Rattle.std.specs.declared.cmp.Ordering.{Ordering}
use Rattle.std.proofs.lemmas.Bool.{false≢true}
use Rattle.pmg_value.specs.Process.{proc_cmp}
use Rattle.pmg_value.specs.declared.process.Proc.{Proc}
use Rattle.pmg_value.proofs.ProcessOrder.{procs_total, exact_procs}
use Rattle.pmg_dmodex.specs.Levels.{NodeLevels, Levels, levels_of, node_level, with_level}
use Rattle.pmg_node_parts.specs.Marking.{marks_back, AreSet}
use Rattle.pmg_node_parts.specs.declared.due.MarkUndo.{MarkUndo}

-- what is kept again under a key that has it
pub inserted_again : {K X : Type 0} {R : K → K → Ordering} → IsTotalOrder R → IsAntisymmetric R → (m : finite.FinMap R X) (k : K) (x y : X) → finite.get m k ≡ Some x
    → finite.insert (finite.insert m k y) k x ≡ m
inserted_again {K} {X} {R} o exact m k x y there = finite.same_map o exact (finite.insert (finite.insert m k y) k x) m (λ q.
    finite.get-insert o (finite.insert m k y) k x q
    ∙ elim (eq_by_cmp R q k) as (λ b. eq_by_cmp R q k ≡ b → cond b (Some x) (finite.get (finite.insert m k y) q) ≡ finite.get m q) [
      | true ↦ λ t. sym there ∙ ap (finite.get m) (sym (exact q k ((Equal-is _).0 t)))
      | false ↦ λ t. finite.get-insert o m k y q ∙ ap (λ (b : Bool). cond b (Some y) (finite.get m q)) t
    ] refl)

module _ (m : Levels) (p : Proc) (n : ℕ) where
  -- a level is there, so the process has levels
  has_levels : (x : ℕ) → node_level m p n ≡ Some x → finite.get m p ≡ Some (levels_of m p)
  has_levels x e = by_levels (finite.get m p) refl e
    where
      by_levels : (o : Option NodeLevels) → finite.get m p ≡ o → finite.get (unwrap_or o finite.empty) n ≡ Some x → o ≡ Some (unwrap_or o finite.empty)
      by_levels None is e = absurd (false≢true (ap is_some (sym (finite.get-empty nat_cmp n) ∙ e)))
      by_levels (Some levels) is e = refl

  inner_is : (y : ℕ) → levels_of (with_level m p n y) p ≡ finite.insert (levels_of m p) n y
  inner_is y = ap (λ (o : Option NodeLevels). unwrap_or o finite.empty)
      (finite.get-insert procs_total m p (finite.insert (levels_of m p) n y) p
      ∙ ap (λ (b : Bool). cond b (Some (finite.insert (levels_of m p) n y)) (finite.get m p)) ((eq_by_cmp_equiv procs_total).refl p))

  -- a level that is set is there
  pub set_there : (y : ℕ) → is_some (node_level (with_level m p n y) p n) ≡ true
  set_there y =
      ap (λ (l : NodeLevels). is_some (finite.get l n)) (inner_is y) ∙ ap is_some (finite.get-insert nat_cmp_total (levels_of m p) n y n)
      ∙ ap (λ (b : Bool). is_some (cond b (Some y) (finite.get (levels_of m p) n))) ((eq_by_cmp_equiv nat_cmp_total).refl n)

  -- a level that is set back is as it was
  pub set_back_is : (x y : ℕ) → node_level m p n ≡ Some x → with_level (with_level m p n y) p n x ≡ m
  set_back_is x y e =
      ap (λ (l : NodeLevels). finite.insert (with_level m p n y) p l)
      (ap (λ (l : NodeLevels). finite.insert l n x) (inner_is y) ∙ inserted_again nat_cmp_total nat_cmp-IsAntisymmetric (levels_of m p) n x y e)
      ∙ inserted_again procs_total exact_procs m p (levels_of m p) (finite.insert (levels_of m p) n y) (has_levels x e)

  -- what is set stays set
  pub set_stays : (y : ℕ) (q : Proc) (k : ℕ) → is_some (node_level m q k) ≡ true → is_some (node_level (with_level m p n y) q k) ≡ true
  set_stays y q k h = by_proc (eq_by_cmp proc_cmp q p) refl
    where
      by_node : (b : Bool) → is_some (node_level m p k) ≡ true → is_some (cond b (Some y) (node_level m p k)) ≡ true
      by_node true h = refl
      by_node false h = h

      inner : is_some (node_level m p k) ≡ true → is_some (finite.get (finite.insert (levels_of m p) n y) k) ≡ true
      inner h = ap is_some (finite.get-insert nat_cmp_total (levels_of m p) n y k) ∙ by_node (eq_by_cmp nat_cmp k n) h

      by_proc : (b : Bool) → eq_by_cmp proc_cmp q p ≡ b → is_some (node_level (with_level m p n y) q k) ≡ true
      by_proc true t =
          let same : q ≡ p = exact_procs q p ((Equal-is _).0 t) in
          ap (λ (o : Option NodeLevels). is_some (finite.get (unwrap_or o finite.empty) k))
          (finite.get-insert procs_total m p (finite.insert (levels_of m p) n y) q ∙ ap (λ (b : Bool). cond b (Some (finite.insert (levels_of m p) n y)) (finite.get m q)) t)
          ∙ inner (ap (λ (x : Proc). is_some (node_level m x k)) (sym same) ∙ h)
      by_proc false t =
          ap (λ (o : Option NodeLevels). is_some (finite.get (unwrap_or o finite.empty) k))
          (finite.get-insert procs_total m p (finite.insert (levels_of m p) n y) q ∙ ap (λ (b : Bool). cond b (Some (finite.insert (levels_of m p) n y)) (finite.get m q)) t)
          ∙ h

-- the last that was set is set back first
pub back_snoc : (m : Levels) (bs : List MarkUndo) (b : MarkUndo) → marks_back m (bs ++ b ∷ []) ≡ marks_back (with_level m b.proc b.node b.level) bs
back_snoc m [] b = refl
back_snoc m (c ∷ bs) b = ap (λ (x : Levels). with_level x c.proc c.node c.level) (back_snoc m bs b)

-- they are set, and stay set
pub each_front : (m : Levels) (bs : List MarkUndo) (b : MarkUndo) → AreSet m (bs ++ b ∷ []) → AreSet m bs × (is_some (node_level m b.proc b.node) ≡ true)
each_front m [] b (h, _) = (tt, h)
each_front m (c ∷ bs) b (h, hs) = let rest = each_front m bs b hs in ((h, rest.0), rest.1)

pub each_stays : (m : Levels) (p : Proc) (n y : ℕ) (bs : List MarkUndo) → AreSet m bs → AreSet (with_level m p n y) bs
each_stays m p n y [] h = tt
each_stays m p n y (b ∷ bs) (h, hs) = (set_stays m p n y b.proc b.node h, each_stays m p n y bs hs)

pub each_snoc : (m : Levels) (bs : List MarkUndo) (b : MarkUndo) → AreSet m bs → is_some (node_level m b.proc b.node) ≡ true → AreSet m (bs ++ b ∷ [])
each_snoc m [] b h is = (is, tt)
each_snoc m (c ∷ bs) b (h, hs) is = (h, each_snoc m bs b hs is)

-- setting what is set does not fail
pub never_fails : {X E : Type 0} (r : Result X E) {P : Type 0} (o : Option ℕ) → OnOk r P → OnErr r (o ≡ None) → is_some o ≡ true → P
never_fails (Ok x) o ok err is = ok
never_fails (Err e) o ok err is = absurd (false≢true (sym (ap is_some err) ∙ is))
