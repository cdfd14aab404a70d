-- Who waits after an act waits rightly, and who is released stays so.
use Rattle.std.proofs.Common.{◌≡◌, ◌⊎◌, ℕ, true, List, Option, Some, None, Result, inl, inr, sym, ap, subst, ◌∙◌}
use Rattle.std.specs.Option.{option_map}
use Rattle.pmg_value.specs.Signatures.{FenceName}
use Rattle.pmg_value.specs.declared.process.Proc.{Proc}
use Rattle.pmg_value.specs.declared.refusal.Refusal.{Refusal}
use Rattle.pmg_jobinfo.specs.Jobs.{Jobs}
use Rattle.pmg_fence.specs.Tables.{gone_by}
use Rattle.pmg_get.specs.Gets.{Outcome}
use Rattle.pmg_get.specs.declared.view.Mode.{Mode}
use Rattle.pmg_get.specs.declared.view.Mode.TheVariants as modes
use Rattle.pmg_node_model.specs.Acts.{Request, Act, Done, cause, waits_as, does, over, acts}
use Rattle.pmg_node_model.specs.Holdings.{Get, CallState, NodeState, call_of, is_ready_at, settle, settled}
use Rattle.pmg_node_model.specs.Kept.{AreUnready}
use Rattle.pmg_node_model.specs.NodeLaws.{HaveNoAnswer, ParkedWait, ReadyFrees, FreedByReady, FreedStays}
use Rattle.pmg_node_model.proofs.CallFacts.{call-settled}
use Rattle.pmg_node_model.proofs.CauseFacts.{NoCause, by_causes}
use Rattle.pmg_node_model.proofs.Moving.{Moves, StaysOrMoves, does_call}
use Rattle.pmg_node_model.proofs.Settling.{Freeing, settled_in_fence, settled_released, settled_parked}

-- what holds of what a node holds, where the act is refused, and once it is done and settled, holds after the act
pub after_act : (jobs : Jobs) (id : ℕ) (h : NodeState) (a : Act) (P : NodeState → Type 0) → P h → (NoCause (cause jobs id h a) → P (settled jobs id (does jobs id h a).left))
    → P (acts jobs id h a).left
after_act jobs id h a P refused done = elim (by_causes (cause jobs id h a) (does jobs id h a)) [
  | inl found ↦ subst (λ (x : Result Done Refusal). P (over jobs id h x).left) (sym found.2) refused
  | inr free ↦ subst (λ (x : Result Done Refusal). P (over jobs id h x).left) (sym free.0) (done free.1)
]

pub parked_wait : ParkedWait
parked_wait jobs id h a before =
    after_act jobs id h a (HaveNoAnswer jobs id) before (λ _ p get e. (settled_parked jobs id (does jobs id h a).left p get e).1)

pub ready_frees : ReadyFrees
ready_frees jobs id h a before = after_act jobs id h a (AreUnready jobs id) before (λ _ p f e. (settled_in_fence jobs id (does jobs id h a).left p f e).1)

-- a get that waits is no release
not_released : (mode : Mode) (n : ℕ) (get : Get) (f : FenceName) (gone : List Proc) → Some (waits_as n get mode) ≡ Some (CallState.released f gone) → ⊥
not_released modes.Wait n get f gone e = cc
not_released modes.Now n get f gone e = cc
not_released modes.Refresh n get f gone e = cc

-- a call that no act of the process comes to was there before
module _
    (jobs : Jobs)
    (id : ℕ)
    (h : NodeState)
    (p : Proc)
    (s : CallState)
    (enters : (f : FenceName) → Some (CallState.in_fence f) ≡ Some s → ⊥)
    (waits : (mode : Mode) (n : ℕ) (get : Get) → Some (waits_as n get mode) ≡ Some s → ⊥)
    (answers : (get : Get) (o : Outcome) → Some (CallState.refreshed get o) ≡ Some s → ⊥) where
  over_not : None ≡ Some s → ⊥
  over_not z = cc

  pub called_before : (a : Act) (c : Option CallState) → StaysOrMoves jobs id h p a c → c ≡ Some s → call_of h p ≡ Some s
  called_before a c (inl same) e = sym same ∙ e
  called_before a c (inr (Moves.entering list collect is was now)) e = absurd (enters _ (sym now ∙ e))
  called_before a c (inr (Moves.parking get mode is was answer now)) e = absurd (waits mode h.requests get (sym now ∙ e))
  called_before a c (inr (Moves.leaving f gone is was now)) e = absurd (over_not (sym now ∙ e))
  called_before a c (inr (Moves.taking get outcome is was now)) e = absurd (over_not (sym now ∙ e))
  called_before a c (inr (Moves.taking_anew get outcome is was now)) e = absurd (over_not (sym now ∙ e))
  called_before a c (inr (Moves.answering r get number is was its now)) e = absurd (answers get _ (sym now ∙ e))
  called_before a c (inr (Moves.ending is now)) e = absurd (over_not (sym now ∙ e))

-- no act makes a process released
module _ (jobs : Jobs) (id : ℕ) (h : NodeState) (p : Proc) (f : FenceName) (gone : List Proc) where
  pub does_frees : (a : Act) → NoCause (cause jobs id h a) → call_of (does jobs id h a).left p ≡ Some (CallState.released f gone) → call_of h p ≡ Some (CallState.released f gone)
  does_frees a none e =
      called_before jobs id h p (CallState.released f gone) (λ x z. cc) (λ mode n get z. not_released mode n get f gone z) (λ get o z. cc) a (call_of (does jobs id h a).left p)
      (does_call jobs id h p a none) e

  -- who is released stays so, unless it leaves or ends
  released_goes_on : (a : Act) (c : Option CallState) → call_of h p ≡ Some (CallState.released f gone) → (a ≡ Act.request (Request.leave p) → ⊥) → (a ≡ Act.request (Request.terminate p) → ⊥)
      → StaysOrMoves jobs id h p a c → c ≡ Some (CallState.released f gone)
  released_goes_on a c was leaves ends (inl same) = same ∙ was
  released_goes_on a c was leaves ends (inr (Moves.entering list collect is none now)) = absurd (elsewhere (sym none ∙ was))
    where
      elsewhere : None ≡ Some (CallState.released f gone) → ⊥
      elsewhere z = cc
  released_goes_on a c was leaves ends (inr (Moves.parking get mode is none answer now)) = absurd (elsewhere (sym none ∙ was))
    where
      elsewhere : None ≡ Some (CallState.released f gone) → ⊥
      elsewhere z = cc
  released_goes_on a c was leaves ends (inr (Moves.leaving x others is there now)) = absurd (leaves is)
  released_goes_on a c was leaves ends (inr (Moves.taking get outcome is there now)) = absurd (elsewhere (sym there ∙ was))
    where
      elsewhere : Some (CallState.answered get outcome) ≡ Some (CallState.released f gone) → ⊥
      elsewhere z = cc
  released_goes_on a c was leaves ends (inr (Moves.taking_anew get outcome is there now)) = absurd (elsewhere (sym there ∙ was))
    where
      elsewhere : Some (CallState.refreshed get outcome) ≡ Some (CallState.released f gone) → ⊥
      elsewhere z = cc
  released_goes_on a c was leaves ends (inr (Moves.answering r get number is there its now)) = absurd (elsewhere (sym there ∙ was))
    where
      elsewhere : Some (CallState.refreshing get number) ≡ Some (CallState.released f gone) → ⊥
      elsewhere z = cc
  released_goes_on a c was leaves ends (inr (Moves.ending is now)) = absurd (ends is)

pub freed_stays : FreedStays
freed_stays jobs id h a p f gone was leaves ends =
    after_act jobs id h a (λ g. call_of g p ≡ Some (CallState.released f gone)) was (λ none.
    call-settled jobs id (does jobs id h a).left p
    ∙ ap (option_map (settle jobs id (does jobs id h a).left))
    (released_goes_on jobs id h p f gone a (call_of (does jobs id h a).left p) was leaves ends (does_call jobs id h p a none)))

-- who is released then was so, or the fence is ready
abbrev pub FreedAt : Jobs → ℕ → NodeState → Proc → FenceName → List Proc → NodeState → Type 0
FreedAt jobs id h p f gone g =
    call_of g p ≡ Some (CallState.released f gone)
    → (call_of h p ≡ Some (CallState.released f gone)) ⊎ ((is_ready_at jobs id g f ≡ true) × (gone ≡ gone_by jobs id g.table f))

freed_so : (jobs : Jobs) (id : ℕ) (h : NodeState) (a : Act) (p : Proc) (f : FenceName) (gone : List Proc) → NoCause (cause jobs id h a)
    → Freeing jobs id (does jobs id h a).left f gone (call_of (does jobs id h a).left p)
    → (call_of h p ≡ Some (CallState.released f gone)) ⊎ ((is_ready_at jobs id (does jobs id h a).left f ≡ true) × (gone ≡ gone_by jobs id (does jobs id h a).left.table f))
freed_so jobs id h a p f gone none (inl still) = inl (does_frees jobs id h p f gone a none still)
freed_so jobs id h a p f gone none (inr now) = inr (now.1, now.2)

pub freed_by_ready : FreedByReady
freed_by_ready jobs id h a p f gone =
    after_act jobs id h a (FreedAt jobs id h p f gone) (λ e. inl e) (λ none e.
    freed_so jobs id h a p f gone none (settled_released jobs id (does jobs id h a).left p f gone e))
