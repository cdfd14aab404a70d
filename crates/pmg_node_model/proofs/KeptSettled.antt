-- Calls that are settled already, and those that have to be looked at again.
use Rattle.std.proofs.Common.{List, ◌≡◌, ◌⊎◌, ◌==◌, ℕ, Bool, true, false, Option, Some, None, is_some, inl, inr, refl, sym, ap, ◌∙◌}
use Rattle.std.specs.Prelude.{if◌then◌else◌}
use Rattle.std.specs.FinMap as finite
use Rattle.std.specs.Option.{option_map}
use Rattle.pmg_value.specs.Process.{proc_cmp}
use Rattle.pmg_value.specs.Signatures.{FenceName}
use Rattle.pmg_value.specs.declared.process.Proc.{Proc}
use Rattle.pmg_value.proofs.ProcessOrder.{procs_total, exact_procs}
use Rattle.pmg_fence.specs.Tables.{gone_by}
use Rattle.pmg_commit.specs.Data.{read_at}
use Rattle.pmg_get.specs.Gets.{Seen, Outcome, resolve, found_or}
use Rattle.pmg_get.specs.declared.view.Mode.{Mode}
use Rattle.pmg_get.specs.declared.view.Mode.TheVariants as modes
use Rattle.pmg_jobinfo.specs.Jobs.{Jobs, home_of}
use Rattle.pmg_jobinfo.specs.Reserved.{reserved_value}
use Rattle.pmg_scope.specs.Scripts.{term_key}
use Rattle.pmg_value.specs.Names.{is_reserved}
use Rattle.pmg_value.specs.Spelling.{spelling}
use Rattle.pmg_node_model.specs.Holdings.{Get, answer_in, seen_of, called, uncalled, holding_ask, CallState, NodeState, call_of, mapped, released_by, settled_by, settle, settled, with_calls}
use Rattle.pmg_node_model.specs.Kept.{IsSettled, SettledSame}
use Rattle.pmg_node_model.proofs.KeptBasics.{get-mapped, put_cases, removed_some}

option_alike : {A B : Type 0} (f g : A → B) (o : Option A) → ((x : A) → o ≡ Some x → f x ≡ g x) → option_map f o ≡ option_map g o
option_alike f g None same = refl
option_alike f g (Some x) same = ap Some (same x refl)

option_same : {A : Type 0} (f : A → A) (o : Option A) → ((x : A) → o ≡ Some x → f x ≡ x) → option_map f o ≡ o
option_same f None same = refl
option_same f (Some x) same = ap Some (same x refl)

module _ (m : finite.FinMap proc_cmp CallState) where
  pub mapped_alike : (f g : CallState → CallState) → ((p : Proc) (s : CallState) → finite.get m p ≡ Some s → f s ≡ g s) → mapped f m ≡ mapped g m
  mapped_alike f g same =
      finite.same_map procs_total exact_procs (mapped f m) (mapped g m) (λ q. get-mapped f m q ∙ option_alike f g (finite.get m q) (same q) ∙ sym (get-mapped g m q))

  pub mapped_same : (f : CallState → CallState) → ((p : Proc) (s : CallState) → finite.get m p ≡ Some s → f s ≡ s) → mapped f m ≡ m
  mapped_same f same = finite.same_map procs_total exact_procs (mapped f m) m (λ q. get-mapped f m q ∙ option_same f (finite.get m q) (same q))

-- a call that is settled stays
pub settle_same : (jobs : Jobs) (id : ℕ) (h : NodeState) → IsSettled jobs id h → (p : Proc) (s : CallState) → call_of h p ≡ Some s → settle jobs id h s ≡ s
settle_same jobs id h settled p (CallState.in_fence f) e = ap (λ b. released_by b f (gone_by jobs id h.table f)) (settled.fences p f e)
settle_same jobs id h settled p (CallState.released f gone) e = refl
settle_same jobs id h settled p (CallState.parked get) e = ap (settled_by get) (settled.gets p get e)
settle_same jobs id h settled p (CallState.answered get outcome) e = refl
settle_same jobs id h settled p (CallState.refreshing get number) e = refl
settle_same jobs id h settled p (CallState.refreshed get outcome) e = refl

pub settled_same : SettledSame
settled_same jobs id h is = ap (with_calls h) (mapped_same h.calls (settle jobs id h) (settle_same jobs id h is))

-- ---- changes after which nothing is looked at again

module _ (jobs : Jobs) (id : ℕ) (h : NodeState) (is : IsSettled jobs id h) where
  -- a process is in its call no more
  pub uncalled_settled : (p : Proc) → IsSettled jobs id (uncalled h p)
  uncalled_settled p = record {
    fences = λ q f e. is.fences q f (removed_some h.calls p q (CallState.in_fence f) e);
    gets = λ q get e. is.gets q get (removed_some h.calls p q (CallState.parked get) e);
  }

  -- a get comes to wait, which parks
  pub parked_settled : (p : Proc) (get : Get) → answer_in jobs id h get modes.Wait ≡ Outcome.parks → IsSettled jobs id (called h p (CallState.parked get))
  parked_settled p get parks = record {
    fences = λ q f e. put_cases h.calls p q (CallState.parked get) (CallState.in_fence f) e (λ same it. absurd (not_fence f it)) (is.fences q f);
    gets = λ q other e. put_cases h.calls p q (CallState.parked get) (CallState.parked other) e
        (λ same it. ap (λ (x : Get). answer_in jobs id h x modes.Wait) (sym (one_get other it)) ∙ parks) (is.gets q other);
  }
    where
      not_fence : (f : FenceName) → CallState.parked get ≡ CallState.in_fence f → ⊥
      not_fence f it = cc

      one_get : (other : Get) → CallState.parked get ≡ CallState.parked other → get ≡ other
      one_get other it = cc

  -- a node comes to wait for commits
  pub asked_settled : (node : ℕ) (p : Proc) (level : ℕ) → IsSettled jobs id (holding_ask h node p level)
  asked_settled node p level = record { fences = is.fences; gets = is.gets }

-- a get that parks is one that waits
found_parks : (o : Option (List ℕ)) (other : Outcome) → found_or o other ≡ Outcome.parks → other ≡ Outcome.parks
found_parks None other e = e
found_parks (Some value) other e = absurd cc

not_absent : Outcome.absent ≡ Outcome.parks → ⊥
not_absent it = cc

pub resolve_parks : (seen : Seen) (mode : Mode) → resolve seen mode ≡ Outcome.parks → (mode ≡ modes.Wait) ⊎ (mode ≡ modes.Refresh)
unfolding resolve
resolve_parks (Seen.reserved value) mode e = absurd (not_absent (found_parks value Outcome.absent e))
resolve_parks (Seen.own value) mode e = absurd (not_absent (found_parks value Outcome.absent e))
resolve_parks (Seen.local (Some value) other ended) mode e = absurd cc
resolve_parks (Seen.local None (Some value) ended) mode e = absurd cc
resolve_parks (Seen.local None None ended) modes.Wait e = inl refl
resolve_parks (Seen.local None None ended) modes.Now e = absurd cc
resolve_parks (Seen.local None None ended) modes.Refresh e = inr refl
resolve_parks (Seen.remote value ended) modes.Wait e = inl refl
resolve_parks (Seen.remote value ended) modes.Now e = absurd (not_absent (found_parks value Outcome.absent e))
resolve_parks (Seen.remote value ended) modes.Refresh e = inr refl

-- and where it does not ask anew, it waits until there is something to answer
pub parks_waiting : (jobs : Jobs) (id : ℕ) (h : NodeState) (get : Get) (mode : Mode) → answer_in jobs id h get mode ≡ Outcome.parks → (mode ≡ modes.Refresh → ⊥)
    → answer_in jobs id h get modes.Wait ≡ Outcome.parks
parks_waiting jobs id h get mode e other = elim (resolve_parks (seen_of jobs id (read_at h.near get.target) (read_at h.far get.target) get) mode e) [
  | inl is ↦ ap (answer_in jobs id h get) (sym is) ∙ e
  | inr is ↦ absurd (other is)
]

-- a get that asks anew and has to wait is of a key that is not reserved, of a process of another node
pub anew_by : (reserved own : Bool) (value : Option (List ℕ)) (near far : Option (List ℕ)) (ended gone : Bool)
    → resolve (if reserved then Seen.reserved value else (if own then Seen.local near far ended else Seen.remote far gone)) modes.Refresh ≡ Outcome.parks
    → (reserved ≡ false) × (own ≡ false)
unfolding resolve
anew_by true own value near far ended gone e = absurd (not_absent (found_parks value Outcome.absent e))
anew_by false true value (Some x) far ended gone e = absurd cc
anew_by false true value None (Some x) ended gone e = absurd cc
anew_by false true value None None ended gone e = absurd (not_absent e)
anew_by false false value near far ended gone e = (refl, refl)

pub parks_anew : (jobs : Jobs) (id : ℕ) (h : NodeState) (get : Get) → answer_in jobs id h get modes.Refresh ≡ Outcome.parks
    → (is_reserved get.key ≡ false) × ((home_of jobs get.target == id) ≡ false)
unfolding seen_of
parks_anew jobs id h get e =
    anew_by (is_reserved get.key) (home_of jobs get.target == id) (option_map spelling (reserved_value jobs id get.target get.key)) (read_at h.near get.target get.key)
    (read_at h.far get.target get.key) (is_some (read_at h.near get.target term_key)) (is_some (read_at h.far get.target term_key)) e
