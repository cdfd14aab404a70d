-- Who waits in fences, in memory.
use Rattle.std.proofs.Common.{◌≡◌, ℕ, Bool, true, false, ◌&&◌, not, cond, Option, Some, None, is_some, refl, sym, ap, ◌∙◌}
use Rattle.std.specs.Prelude.{◌==◌, ◌-◌, []}
use Rattle.std.specs.BTreeMap.{is_at}
use Rattle.std.specs.BTreeSet as tree
use Rattle.std.specs.BTreeSet.{BTreeSet}
use Rattle.std.specs.Cmp.{IsTotalOrder, eq_by_cmp_equiv}
use Rattle.std.specs.FinMap as finite
use Rattle.std.specs.FinMap.{IsAntisymmetric}
use Rattle.std.specs.FinSet as set
use Rattle.std.specs.List.Sorted.{IsStrictlySortedBy}
use Rattle.std.specs.Option.{unwrap_or}
use Rattle.std.specs.Ordering.{eq_by_cmp}
use Rattle.std.specs.declared.cmp.Ordering.{Ordering}
use Rattle.std.proofs.lemmas.Bool.{false≢true}
use Rattle.pmg_value.specs.Process.{proc_cmp}
use Rattle.pmg_value.specs.Rows.{changed_at}
use Rattle.pmg_value.specs.Signatures.{FenceName}
use Rattle.pmg_value.specs.declared.process.Proc.{Proc}
use Rattle.pmg_value.specs.InOrder.{in_order}
use Rattle.pmg_value.proofs.ProcessOrder.{procs_total, exact_procs}
use Rattle.pmg_value.proofs.SetOrder.{in_order-from_list}
use Rattle.pmg_frame.specs.FenceOrder.{name_cmp, name_total}
use Rattle.pmg_frame.proofs.FenceOrderLemmas.{names_exact}
use Rattle.pmg_node_parts.specs.Waiters.{Procs, Waiters, waiters_in, waiting_too, waiting_less}

cond_not : (a b x : Bool) → a ≡ b → cond a false x ≡ (not b && x)
cond_not true b x e = ap (λ c. not c && x) e
cond_not false b x e = ap (λ c. not c && x) e

module _ {K : Type 0} {R : K → K → Ordering} (o : IsTotalOrder R) (exact : IsAntisymmetric R) where
  -- a tree of keys from which one was taken
  pub taken_among : (old new : BTreeSet K) (m : set.FinSet R) (k : K) → set.from_list old.keys ≡ m
      → ((q : K) → tree.contains R new q ≡ cond (is_at (R k) q) false (tree.contains R old q)) → set.from_list new.keys ≡ set.remove m k
  taken_among old new m k same updates =
      set.same_set o exact (set.from_list new.keys) (set.remove (set.from_list old.keys) k) (λ q.
      set.contains-from_list o new.keys q ∙ updates q
      ∙ cond_not (is_at (R k) q) (eq_by_cmp R q k) (tree.contains R old q) ((eq_by_cmp_equiv o).symm k q)
      ∙ ap (λ b. not (eq_by_cmp R q k) && b) (sym (set.contains-from_list o old.keys q)) ∙ sym (set.contains-remove o (set.from_list old.keys) k q))
      ∙ ap (λ (t : set.FinSet R). set.remove t k) same

-- ---- who waits in a fence

module _ (whole : Waiters) (f : FenceName) (p : Proc) where
  -- one more where somebody waits
  pub one_more : (there after : Procs) (new : Waiters) → finite.get whole f ≡ Some there → after ≡ set.insert there p → new ≡ finite.insert whole f after
      → new ≡ waiting_too whole f p
  one_more there after new is put made =
      made ∙ ap (finite.insert whole f) (put ∙ ap (λ (o : Option Procs). set.insert (unwrap_or o set.empty) p) (sym is))

  -- and where nobody did
  pub first_one : (first : Procs) (new : Waiters) → finite.get whole f ≡ None → first ≡ set.insert set.empty p → new ≡ finite.insert whole f first
      → new ≡ waiting_too whole f p
  first_one first new is put made =
      made ∙ ap (finite.insert whole f) (put ∙ ap (λ (o : Option Procs). set.insert (unwrap_or o set.empty) p) (sym is))

  abbrev left : Procs
  left = set.remove (waiters_in whole f) p

  -- those that wait in it, without the process
  pub left_is : (there after : Procs) → finite.get whole f ≡ Some there → after ≡ set.remove there p → after ≡ left
  left_is there after is less = less ∙ ap (λ (o : Option Procs). set.remove (unwrap_or o set.empty) p) (sym is)

  -- where nobody waits, nobody is left
  pub nobody_left : finite.get whole f ≡ None → (set.len left == 0) ≡ true
  nobody_left is =
      ap (λ (o : Option Procs). set.len (set.remove (unwrap_or o set.empty) p) == 0) is
      ∙ ap (λ (n : ℕ). n == 0) (set.len-remove procs_total set.empty p
      ∙ ap (λ (b : Bool). cond b (set.len (set.empty {R = proc_cmp}) - 1) (set.len (set.empty {R = proc_cmp}))) (set.contains-empty proc_cmp p)
      ∙ set.len-empty proc_cmp)

  removed_changed : (s : Procs) → finite.remove (changed_at whole f s) f ≡ finite.remove whole f
  removed_changed s = by_there (finite.contains_key whole f)
    where
      hidden : (b : Bool) (x y : Option Procs) → cond b None (cond b x y) ≡ cond b None y
      hidden true x y = refl
      hidden false x y = refl

      by_there : (b : Bool) → finite.remove (cond b (finite.insert whole f s) whole) f ≡ finite.remove whole f
      by_there true = finite.same_map name_total names_exact (finite.remove (finite.insert whole f s) f) (finite.remove whole f) (λ q.
          finite.get-remove name_total (finite.insert whole f s) f q
          ∙ ap (cond (eq_by_cmp name_cmp q f) None) (finite.get-insert name_total whole f s q)
          ∙ hidden (eq_by_cmp name_cmp q f) (Some s) (finite.get whole q)
          ∙ sym (finite.get-remove name_total whole f q))
      by_there false = refl

  -- where nobody is left, the fence is not listed any more
  pub less_none : (changed : Waiters) → changed ≡ changed_at whole f left → (set.len left == 0) ≡ true → finite.remove changed f ≡ waiting_less whole f p
  less_none changed is none =
      ap (λ (m : Waiters). finite.remove m f) is ∙ removed_changed left ∙ sym (ap (λ (b : Bool). cond b (finite.remove whole f) (finite.insert whole f left)) none)

  -- and where somebody is, it is
  pub less_some : (changed : Waiters) → changed ≡ changed_at whole f left → (set.len left == 0) ≡ false → changed ≡ waiting_less whole f p
  less_some changed is some =
      is ∙ by_there (finite.get whole f) refl ∙ sym (ap (λ (b : Bool). cond b (finite.remove whole f) (finite.insert whole f left)) some)
    where
      by_there : (o : Option Procs) → finite.get whole f ≡ o → cond (is_some o) (finite.insert whole f left) whole ≡ finite.insert whole f left
      by_there None there = absurd (false≢true (sym some ∙ nobody_left there))
      by_there (Some procs) there = refl

-- ---- nobody

rises : IsStrictlySortedBy proc_cmp []
unfolding IsStrictlySortedBy
rises = tt

pub nobody_in_order : in_order {R = proc_cmp} set.empty ≡ []
nobody_in_order = in_order-from_list procs_total exact_procs [] rises
