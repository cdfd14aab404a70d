-- What an act does to the call of a get that asks anew.
use Rattle.std.proofs.Common.{◌≡◌, ℕ, Bool, true, false, List, Option, Some, None, refl, sym, ap, subst, ◌∙◌}
use Rattle.std.specs.Option.{option_map}
use Rattle.std.proofs.lemmas.Bool.{false≢true}
use Rattle.pmg_value.specs.Signatures.{FenceName}
use Rattle.pmg_value.specs.declared.process.Proc.{Proc}
use Rattle.pmg_frame.specs.Refreshing.{RefreshReply, told_by}
use Rattle.pmg_frame.specs.declared.frame.Frame.TheVariants as frames
use Rattle.pmg_jobinfo.specs.Jobs.{Jobs}
use Rattle.pmg_fence.specs.Tables.{gone_by}
use Rattle.pmg_get.specs.Gets.{Outcome}
use Rattle.pmg_get.specs.declared.view.Mode.TheVariants as modes
use Rattle.pmg_node_model.specs.Acts.{Act, is_taken, receives, does}
use Rattle.pmg_node_model.specs.Holdings.{Get, CallState, NodeState, call_of, with_far, joined, answer_in, is_ready_at, settled_by, released_by, settle, settled}
use Rattle.pmg_node_model.proofs.CallFacts.{call-settled}
use Rattle.pmg_node_model.proofs.AnewCalls.{replied_to, was_taken}

-- the call of a get that asks anew
abbrev pub is_anew : CallState → Bool
is_anew (CallState.refreshing get number) = true
is_anew (CallState.refreshed get outcome) = true
is_anew _ = false

-- ---- settling leaves it

module _ (jobs : Jobs) (id : ℕ) (h : NodeState) (c : CallState) (anew : is_anew c ≡ true) where
  other_call : (d : CallState) → is_anew d ≡ false → Some d ≡ Some c → ⊥
  other_call d other e = let same : d ≡ c = cc in false≢true (sym other ∙ ap is_anew same ∙ anew)

  released_other : (b : Bool) (f : FenceName) (gone : List Proc) → Some (released_by b f gone) ≡ Some c → ⊥
  released_other true f gone e = other_call (CallState.released f gone) refl e
  released_other false f gone e = other_call (CallState.in_fence f) refl e

  waiting_other : (get : Get) (o : Outcome) → Some (settled_by get o) ≡ Some c → ⊥
  waiting_other get Outcome.parks e = other_call (CallState.parked get) refl e
  waiting_other get (Outcome.found value) e = other_call (CallState.answered get (Outcome.found value)) refl e
  waiting_other get Outcome.absent e = other_call (CallState.answered get Outcome.absent) refl e
  waiting_other get Outcome.outside e = other_call (CallState.answered get Outcome.outside) refl e

  anew_before : (o : Option CallState) → option_map (settle jobs id h) o ≡ Some c → o ≡ Some c
  anew_before None e = absurd cc
  anew_before (Some (CallState.in_fence f)) e = absurd (released_other (is_ready_at jobs id h f) f (gone_by jobs id h.table f) e)
  anew_before (Some (CallState.released f gone)) e = absurd (other_call (CallState.released f gone) refl e)
  anew_before (Some (CallState.parked get)) e = absurd (waiting_other get (answer_in jobs id h get modes.Wait) e)
  anew_before (Some (CallState.answered get outcome)) e = absurd (other_call (CallState.answered get outcome) refl e)
  anew_before (Some (CallState.refreshing get number)) e = e
  anew_before (Some (CallState.refreshed get outcome)) e = e

  pub settled_anew : (p : Proc) → call_of (settled jobs id h) p ≡ Some c → call_of h p ≡ Some c
  settled_anew p e = anew_before (call_of h p) (sym (call-settled jobs id h p) ∙ e)

pub refreshed_settled : (jobs : Jobs) (id : ℕ) (h : NodeState) (p : Proc) (get : Get) (outcome : Outcome) → call_of h p ≡ Some (CallState.refreshed get outcome)
    → call_of (settled jobs id h) p ≡ Some (CallState.refreshed get outcome)
refreshed_settled jobs id h p get outcome e = call-settled jobs id h p ∙ ap (option_map (settle jobs id h)) e

-- ---- a reply answers it

module _ (jobs : Jobs) (id : ℕ) (h : NodeState) (p : Proc) (r : RefreshReply) (get : Get) (number : ℕ) (outcome : Outcome) (was : call_of h p ≡ Some (CallState.refreshing get number)) where
  -- with what is known then
  known_then : (b : Bool) → b ≡ true → answer_in jobs id (with_far h (joined h.far (told_by r))) get modes.Now ≡ answer_in jobs id (replied_to jobs id h r b) get modes.Now
  unfolding receives
  known_then true is = refl
  known_then false is = absurd (false≢true is)

  pub answer_anew : (a : Act) → a ≡ Act.deliver (frames.RefreshReply r) → call_of (does jobs id h a).left p ≡ Some (CallState.refreshed get outcome)
      → answer_in jobs id (with_far h (joined h.far (told_by r))) get modes.Now ≡ answer_in jobs id (does jobs id h a).left get modes.Now
  unfolding does
  answer_anew a is now =
      subst (λ x. answer_in jobs id (with_far h (joined h.far (told_by r))) get modes.Now ≡ answer_in jobs id (does jobs id h x).left get modes.Now) (sym is)
      (known_then (is_taken jobs id h.table (frames.RefreshReply r)) (was_taken jobs id h p r get number outcome was a is now))

  far_of : (b : Bool) → b ≡ true → joined h.far (told_by r) ≡ (replied_to jobs id h r b).far
  unfolding receives
  far_of true is = refl
  far_of false is = absurd (false≢true is)

  pub far_then : (a : Act) → a ≡ Act.deliver (frames.RefreshReply r) → call_of (does jobs id h a).left p ≡ Some (CallState.refreshed get outcome)
      → joined h.far (told_by r) ≡ (does jobs id h a).left.far
  unfolding does
  far_then a is now = subst (λ x. joined h.far (told_by r) ≡ (does jobs id h x).left.far) (sym is) (far_of (is_taken jobs id h.table (frames.RefreshReply r)) (was_taken jobs id h p r get number outcome was a is now))
