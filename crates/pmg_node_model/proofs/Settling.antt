-- What a call was before it was settled.
use Rattle.std.proofs.Common.{◌≡◌, ◌⊎◌, ℕ, Bool, true, false, List, Option, Some, None, inl, inr, refl, sym, ap, ◌∙◌}
use Rattle.std.specs.Option.{option_map}
use Rattle.pmg_value.specs.Signatures.{FenceName}
use Rattle.pmg_value.specs.declared.process.Proc.{Proc}
use Rattle.pmg_jobinfo.specs.Jobs.{Jobs}
use Rattle.pmg_fence.specs.Tables.{gone_by}
use Rattle.pmg_get.specs.Gets.{Outcome}
use Rattle.pmg_get.specs.declared.view.Mode.TheVariants as modes
use Rattle.pmg_node_model.specs.Holdings.{Get, CallState, NodeState, call_of, is_ready_at, answer_in, settled_by, released_by, settle, settled}
use Rattle.pmg_node_model.proofs.CallFacts.{call-settled}

module _ (jobs : Jobs) (id : ℕ) (h : NodeState) where
  -- who is in a fence then was in it, and it is not ready
  fence_by : (f x : FenceName) (gone : List Proc) (b : Bool) → is_ready_at jobs id h x ≡ b → Some (released_by b x gone) ≡ Some (CallState.in_fence f)
      → (x ≡ f) × (is_ready_at jobs id h f ≡ false)
  fence_by f x gone true ready e = absurd cc
  fence_by f x gone false ready e =
      let same : x ≡ f = cc in
      (same, ap (is_ready_at jobs id h) (sym same) ∙ ready)

  get_is_none : (f : FenceName) (get : Get) (o : Outcome) → Some (settled_by get o) ≡ Some (CallState.in_fence f) → ⊥
  get_is_none f get Outcome.parks e = cc
  get_is_none f get (Outcome.found value) e = cc
  get_is_none f get Outcome.absent e = cc
  get_is_none f get Outcome.outside e = cc

  in_fence_before : (f : FenceName) (c : Option CallState) → option_map (settle jobs id h) c ≡ Some (CallState.in_fence f) → (c ≡ Some (CallState.in_fence f)) × (is_ready_at jobs id h f ≡ false)
  in_fence_before f None e = absurd cc
  in_fence_before f (Some (CallState.in_fence x)) e =
      let found = fence_by f x (gone_by jobs id h.table x) (is_ready_at jobs id h x) refl e in
      (ap (λ y. Some (CallState.in_fence y)) found.0, found.1)
  in_fence_before f (Some (CallState.released x gone)) e = absurd cc
  in_fence_before f (Some (CallState.parked get)) e = absurd (get_is_none f get (answer_in jobs id h get modes.Wait) e)
  in_fence_before f (Some (CallState.answered get outcome)) e = absurd cc
  in_fence_before f (Some (CallState.refreshing get number)) e = absurd cc
  in_fence_before f (Some (CallState.refreshed get outcome)) e = absurd cc

  pub settled_in_fence : (p : Proc) (f : FenceName) → call_of (settled jobs id h) p ≡ Some (CallState.in_fence f) → (call_of h p ≡ Some (CallState.in_fence f)) × (is_ready_at jobs id h f ≡ false)
  settled_in_fence p f e = in_fence_before f (call_of h p) (sym (call-settled jobs id h p) ∙ e)

  -- who is released then was so, or was in the fence, and it is ready
  abbrev pub Freeing : FenceName → List Proc → Option CallState → Type 0
  Freeing f gone c = (c ≡ Some (CallState.released f gone)) ⊎ ((c ≡ Some (CallState.in_fence f)) × (is_ready_at jobs id h f ≡ true) × (gone ≡ gone_by jobs id h.table f))

  freed_by : (f x : FenceName) (gone : List Proc) (b : Bool) → is_ready_at jobs id h x ≡ b → Some (released_by b x (gone_by jobs id h.table x)) ≡ Some (CallState.released f gone)
      → Freeing f gone (Some (CallState.in_fence x))
  freed_by f x gone true ready e =
      let same : x ≡ f = cc in
      let told : gone_by jobs id h.table x ≡ gone = cc in
      inr (ap (λ y. Some (CallState.in_fence y)) same, ap (is_ready_at jobs id h) (sym same) ∙ ready, sym told ∙ ap (gone_by jobs id h.table) same)
  freed_by f x gone false ready e = absurd cc

  get_frees_none : (f : FenceName) (gone : List Proc) (get : Get) (o : Outcome) → Some (settled_by get o) ≡ Some (CallState.released f gone) → ⊥
  get_frees_none f gone get Outcome.parks e = cc
  get_frees_none f gone get (Outcome.found value) e = cc
  get_frees_none f gone get Outcome.absent e = cc
  get_frees_none f gone get Outcome.outside e = cc

  released_before : (f : FenceName) (gone : List Proc) (c : Option CallState) → option_map (settle jobs id h) c ≡ Some (CallState.released f gone) → Freeing f gone c
  released_before f gone None e = absurd cc
  released_before f gone (Some (CallState.in_fence x)) e = freed_by f x gone (is_ready_at jobs id h x) refl e
  released_before f gone (Some (CallState.released x others)) e = inl e
  released_before f gone (Some (CallState.parked get)) e = absurd (get_frees_none f gone get (answer_in jobs id h get modes.Wait) e)
  released_before f gone (Some (CallState.answered get outcome)) e = absurd cc
  released_before f gone (Some (CallState.refreshing get number)) e = absurd cc
  released_before f gone (Some (CallState.refreshed get outcome)) e = absurd cc

  pub settled_released : (p : Proc) (f : FenceName) (gone : List Proc) → call_of (settled jobs id h) p ≡ Some (CallState.released f gone) → Freeing f gone (call_of h p)
  settled_released p f gone e = released_before f gone (call_of h p) (sym (call-settled jobs id h p) ∙ e)

  -- a get that waits then waited, and has no answer
  released_is_none : (get : Get) (f : FenceName) (gone : List Proc) (b : Bool) → Some (released_by b f gone) ≡ Some (CallState.parked get) → ⊥
  released_is_none get f gone true e = cc
  released_is_none get f gone false e = cc

  parked_by : (get x : Get) (o : Outcome) → answer_in jobs id h x modes.Wait ≡ o → Some (settled_by x o) ≡ Some (CallState.parked get)
      → (x ≡ get) × (answer_in jobs id h get modes.Wait ≡ Outcome.parks)
  parked_by get x Outcome.parks is e =
      let same : x ≡ get = cc in
      (same, ap (λ y. answer_in jobs id h y modes.Wait) (sym same) ∙ is)
  parked_by get x (Outcome.found value) is e = absurd cc
  parked_by get x Outcome.absent is e = absurd cc
  parked_by get x Outcome.outside is e = absurd cc

  parked_before : (get : Get) (c : Option CallState) → option_map (settle jobs id h) c ≡ Some (CallState.parked get)
      → (c ≡ Some (CallState.parked get)) × (answer_in jobs id h get modes.Wait ≡ Outcome.parks)
  parked_before get None e = absurd cc
  parked_before get (Some (CallState.in_fence x)) e = absurd (released_is_none get x (gone_by jobs id h.table x) (is_ready_at jobs id h x) e)
  parked_before get (Some (CallState.released x gone)) e = absurd cc
  parked_before get (Some (CallState.parked x)) e =
      let found = parked_by get x (answer_in jobs id h x modes.Wait) refl e in
      (ap (λ y. Some (CallState.parked y)) found.0, found.1)
  parked_before get (Some (CallState.answered x outcome)) e = absurd cc
  parked_before get (Some (CallState.refreshing x number)) e = absurd cc
  parked_before get (Some (CallState.refreshed x outcome)) e = absurd cc

  pub settled_parked : (p : Proc) (get : Get) → call_of (settled jobs id h) p ≡ Some (CallState.parked get)
      → (call_of h p ≡ Some (CallState.parked get)) × (answer_in jobs id h get modes.Wait ≡ Outcome.parks)
  settled_parked p get e = parked_before get (call_of h p) (sym (call-settled jobs id h p) ∙ e)

  -- a get that is answered then was so, or waited, and that is its answer
  abbrev pub Answering : Get → Outcome → Option CallState → Type 0
  Answering get outcome c =
      (c ≡ Some (CallState.answered get outcome)) ⊎ ((c ≡ Some (CallState.parked get)) × (answer_in jobs id h get modes.Wait ≡ outcome) × (outcome ≡ Outcome.parks → ⊥))

  released_has_none : (get : Get) (outcome : Outcome) (f : FenceName) (gone : List Proc) (b : Bool) → Some (released_by b f gone) ≡ Some (CallState.answered get outcome) → ⊥
  released_has_none get outcome f gone true e = cc
  released_has_none get outcome f gone false e = cc

  answered_as : (get x : Get) (outcome o : Outcome) → answer_in jobs id h x modes.Wait ≡ o → (o ≡ Outcome.parks → ⊥) → Some (CallState.answered x o) ≡ Some (CallState.answered get outcome)
      → Answering get outcome (Some (CallState.parked x))
  answered_as get x outcome o is not e =
      let same : x ≡ get = cc in
      let told : o ≡ outcome = cc in
      inr (ap (λ y. Some (CallState.parked y)) same, ap (λ y. answer_in jobs id h y modes.Wait) (sym same) ∙ is ∙ told, λ z. not (told ∙ z))

  answered_by : (get x : Get) (outcome o : Outcome) → answer_in jobs id h x modes.Wait ≡ o → Some (settled_by x o) ≡ Some (CallState.answered get outcome)
      → Answering get outcome (Some (CallState.parked x))
  answered_by get x outcome Outcome.parks is e = absurd cc
  answered_by get x outcome (Outcome.found value) is e = answered_as get x outcome (Outcome.found value) is (λ z. absurd cc) e
  answered_by get x outcome Outcome.absent is e = answered_as get x outcome Outcome.absent is (λ z. absurd cc) e
  answered_by get x outcome Outcome.outside is e = answered_as get x outcome Outcome.outside is (λ z. absurd cc) e

  answered_before : (get : Get) (outcome : Outcome) (c : Option CallState) → option_map (settle jobs id h) c ≡ Some (CallState.answered get outcome) → Answering get outcome c
  answered_before get outcome None e = absurd cc
  answered_before get outcome (Some (CallState.in_fence x)) e = absurd (released_has_none get outcome x (gone_by jobs id h.table x) (is_ready_at jobs id h x) e)
  answered_before get outcome (Some (CallState.released x gone)) e = absurd cc
  answered_before get outcome (Some (CallState.parked x)) e = answered_by get x outcome (answer_in jobs id h x modes.Wait) refl e
  answered_before get outcome (Some (CallState.answered x o)) e = inl e
  answered_before get outcome (Some (CallState.refreshing x number)) e = absurd cc
  answered_before get outcome (Some (CallState.refreshed x o)) e = absurd cc

  pub settled_answered : (p : Proc) (get : Get) (outcome : Outcome) → call_of (settled jobs id h) p ≡ Some (CallState.answered get outcome) → Answering get outcome (call_of h p)
  settled_answered p get outcome e = answered_before get outcome (call_of h p) (sym (call-settled jobs id h p) ∙ e)
