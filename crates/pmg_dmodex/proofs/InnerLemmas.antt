-- Maps by process that hold small maps: what stands under a process, and what is changed there.
use Rattle.std.proofs.Common.{◌≡◌, cond, List, Option, Some, None, is_some, IsSome, refl, sym, ap, ◌∙◌, MutBor}
use Rattle.std.specs.FinMap as finite
use Rattle.std.specs.BTreeMap.{is_at}
use Rattle.std.specs.Option.{option_copied_mut, unwrap_or}
use Rattle.std.specs.declared.cmp.Ordering.{Ordering}
use Rattle.pmg_value.specs.declared.process.Proc.{Proc}
use Rattle.pmg_value.specs.Process.{proc_cmp}
use Rattle.pmg_value.specs.Rows.{grown_at, map_of}
use Rattle.pmg_value.proofs.ProcessOrder.{procs_total, exact_procs}
use Rattle.pmg_value.proofs.RowLemmas as rows
use Rattle.pmg_value.proofs.RowLemmas.{at_key, found_there, put_found}

module _ {X : Type 0} (entries : List (Proc × X)) (whole : finite.FinMap proc_cmp X) (p : Proc) (same : map_of entries ≡ whole) where
  -- what is kept under the process is what the whole has
  pub kept_is : (there : Option X) → at_key proc_cmp p entries ≡ there → finite.get whole p ≡ there
  kept_is = rows.kept_is procs_total exact_procs entries whole p same

  -- another in the place of what is kept there
  pub put_there : (new : List (Proc × X)) (after : X) → ((q : Proc) → at_key proc_cmp q new ≡ cond (is_at (proc_cmp p) q) (Some after) (at_key proc_cmp q entries)) → map_of {R = proc_cmp} new ≡ finite.insert whole p after
  put_there = rows.put_there procs_total exact_procs entries whole p same

  -- the same in its place
  pub put_same : (new : List (Proc × X)) (there after : X) → at_key proc_cmp p entries ≡ Some there → after ≡ there
      → ((q : Proc) → at_key proc_cmp q new ≡ cond (is_at (proc_cmp p) q) (Some after) (at_key proc_cmp q entries)) → map_of {R = proc_cmp} new ≡ whole
  put_same = rows.put_same procs_total exact_procs entries whole p same

module _ {K X : Type 0} {R : K → K → Ordering} (entries : List (Proc × finite.FinMap R X)) (whole : finite.FinMap proc_cmp (finite.FinMap R X)) (p : Proc) (same : map_of entries ≡ whole) where
  -- what the process has
  abbrev pub inner : finite.FinMap R X
  inner = unwrap_or (finite.get whole p) finite.empty

  -- one more under a key, where the process has some or none
  pub grown_there : (k : K) (x : X) (first : finite.FinMap R X) (new : List (Proc × finite.FinMap R X)) → first ≡ finite.empty
      → ((q : Proc) → at_key proc_cmp q new ≡ grown_at proc_cmp first (λ (m : finite.FinMap R X) (e : K × X). finite.insert m e.0 e.1) p (k, x) (λ r. at_key proc_cmp r entries) q)
      → map_of {R = proc_cmp} new ≡ finite.insert whole p (finite.insert inner k x)
  grown_there k x first new none updates =
      let kept = sym (rows.kept_is procs_total exact_procs entries whole p same _ refl) in
      rows.put_there procs_total exact_procs entries whole p same new (finite.insert (unwrap_or (at_key proc_cmp p entries) first) k x) updates
      ∙ (λ i. finite.insert whole p (finite.insert (unwrap_or (kept i) (none i)) k x))

  -- what the process has nothing under, where it has none
  pub absent_there : (k : K) (first : finite.FinMap R X) → first ≡ finite.empty → finite.get (unwrap_or (at_key proc_cmp p entries) first) k ≡ None → finite.get inner k ≡ None
  absent_there k first none absent =
      let kept = rows.kept_is procs_total exact_procs entries whole p same _ refl in
      (λ i. finite.get (unwrap_or (kept i) (sym none i)) k) ∙ absent

  -- what the process has, changed, where it has something
  pub changed_found : (f : finite.FinMap R X → finite.FinMap R X) (found : Option (MutBor (finite.FinMap R X))) (kept : MutBor (finite.FinMap R X)) (after : finite.FinMap R X) (new : List (Proc × finite.FinMap R X))
      → found ≡ Some kept → option_copied_mut found ≡ at_key proc_cmp p entries → after ≡ f kept.now
      → (IsSome (at_key proc_cmp p entries) → (q : Proc) → at_key proc_cmp q new ≡ cond (is_at (proc_cmp p) q) (Some after) (at_key proc_cmp q entries))
      → map_of {R = proc_cmp} new ≡ cond (finite.contains_key whole p) (finite.insert whole p (f inner)) whole
  changed_found f found kept after new some value changed updates =
      let is = found_there procs_total exact_procs entries whole p same found kept some value in
      put_found procs_total exact_procs entries whole p same found kept new after some value updates
      ∙ ap (finite.insert whole p) (changed ∙ ap (λ (o : Option (finite.FinMap R X)). f (unwrap_or o finite.empty)) (sym is))
      ∙ sym (ap (λ (o : Option (finite.FinMap R X)). cond (is_some o) (finite.insert whole p (f inner)) whole) is)

  -- and where it has nothing
  pub changed_none : (f : finite.FinMap R X → finite.FinMap R X) → None ≡ at_key proc_cmp p entries → map_of {R = proc_cmp} entries ≡ cond (finite.contains_key whole p) (finite.insert whole p (f inner)) whole
  changed_none f none =
      same ∙ sym (ap (λ (o : Option (finite.FinMap R X)). cond (is_some o) (finite.insert whole p (f inner)) whole) (rows.kept_is procs_total exact_procs entries whole p same _ (sym none)))
