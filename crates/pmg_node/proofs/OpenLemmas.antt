-- Gets that wait for replies, after an act.
use Rattle.std.proofs.Common.{◌≡◌, ◌⊎◌, ◌≤◌, ℕ, suc, arith, Bool, true, false, Some, inl, inr, sym, ap, ◌∙◌}
use Rattle.std.specs.Prelude.{nat_lt}
use Rattle.pmg_value.specs.declared.process.Proc.{Proc}
use Rattle.pmg_value.specs.Signatures.{FenceName}
use Rattle.pmg_frame.specs.Refreshing.{told_by}
use Rattle.pmg_frame.specs.declared.frame.Frame.{Frame}
use Rattle.pmg_frame.specs.declared.frame.Frame.TheVariants as frames
use Rattle.pmg_get.specs.declared.view.Mode.{Mode}
use Rattle.pmg_get.specs.declared.view.Mode.TheVariants as modes
use Rattle.pmg_jobinfo.specs.Jobs.{Jobs}
use Rattle.pmg_fence.specs.Changes.{next_name}
use Rattle.pmg_dmodex.specs.Refreshes.{Refreshes, asker_at}
use Rattle.pmg_node_model.specs.Acts.{Act, Request, waits_as, signature_of, serves, does, is_taken, holds_unless, receives, acts}
use Rattle.pmg_node_model.specs.Holdings.{Get, CallState, NodeState, sealer_of, call_of, with_far, joined, uncalled, answer_in, settled}
use Rattle.pmg_node_model.proofs.CallEnds.{ends_left, asks_left}
use Rattle.pmg_node_model.proofs.KeptBasics.{act_cases, put_cases, removed_some}
use Rattle.pmg_node_model.proofs.KeptChanges.{settled_some, settle_refreshing, replied_some, reply_refreshing}
use Rattle.pmg_node.specs.Content.{AreOpen}
use Rattle.pmg_node.specs.Servers.{Server, IsNode, after}
use Rattle.pmg_node.proofs.NodeKept.{delivered, node_stays}

module _ (jobs : Jobs) (id : ℕ) (h : NodeState) where
  -- each get that waits for a reply there did so before, or its request is the next one
  abbrev AreOld : NodeState → Type 0
  AreOld g = (p : Proc) (get : Get) (number : ℕ) → call_of g p ≡ Some (CallState.refreshing get number)
      → (call_of h p ≡ Some (CallState.refreshing get number)) ⊎ (number ≡ suc h.requests)

  settled_old : (g : NodeState) → AreOld g → AreOld (settled jobs id g)
  settled_old g old p get number e =
      let was = settled_some jobs id g p (CallState.refreshing get number) e in old p get number (was.1 ∙ ap Some (settle_refreshing jobs id g was.0 get number was.2))

  same_old : AreOld h
  same_old p get number e = inl e

  uncalled_old : (by : Proc) → AreOld (uncalled h by)
  uncalled_old by p get number e = inl (removed_some h.calls by p (CallState.refreshing get number) e)

  waits_next : (n : ℕ) (get other : Get) (number : ℕ) (mode : Mode) → waits_as n get mode ≡ CallState.refreshing other number → number ≡ suc n
  waits_next n get other number modes.Wait is = absurd cc
  waits_next n get other number modes.Now is = absurd cc
  waits_next n get other number modes.Refresh is = cc

  apart : {A : Type 0} (f : FenceName) (get : Get) (number : ℕ) → CallState.in_fence f ≡ CallState.refreshing get number → A
  apart f get number is = absurd cc

  serves_old : (r : Request) → AreOld (serves jobs id h r).left
  unfolding serves
  serves_old (Request.enter by list collect) = λ p get number e.
      let f = next_name h.table (signature_of jobs by list collect) by in
      put_cases h.calls by p (CallState.in_fence f) (CallState.refreshing get number) e (λ same is. apart f get number is) (λ is. inl is)
  serves_old (Request.leave by) = (ends_left h by AreOld same_old (uncalled_old by) (call_of h by)).0
  serves_old (Request.ask by get mode) =
      asks_left h by get mode AreOld same_old (λ p other number e.
      put_cases h.calls by p (waits_as h.requests get mode) (CallState.refreshing other number) e (λ same is. inr (waits_next h.requests get other number mode is)) (λ is. inl is))
      (answer_in jobs id h get mode)
  serves_old (Request.take by) = (ends_left h by AreOld same_old (uncalled_old by) (call_of h by)).1
  serves_old (Request.terminate by) = λ p get number e. inl (removed_some h.calls by p (CallState.refreshing get number) e)
  serves_old (Request.define name list) = λ p get number e. inl e
  serves_old (Request.delete name) = λ p get number e. inl e
  serves_old Request.nudge = same_old

  held_old : (b : Bool) (node : ℕ) (q : Proc) (level : ℕ) → AreOld (holds_unless b h node q level)
  held_old true node q level p get number e = inl e
  held_old false node q level p get number e = inl e

  receives_old : (frame : Frame) → AreOld (receives jobs id h frame)
  unfolding receives
  receives_old (frames.Piece c) = λ p get number e. inl e
  receives_old (frames.Header hd) = λ p get number e. inl e
  receives_old (frames.FenceAsk a) = λ p get number e. inl e
  receives_old (frames.RangeAsk a) = λ p get number e. inl e
  receives_old (frames.DirectAsk a) = held_old (nat_lt a.level (sealer_of h a.proc).level) a.node a.proc a.level
  receives_old (frames.RefreshAsk a) = λ p get number e. inl e
  receives_old (frames.RefreshReply r) = λ p get number e.
      let g = with_far h (joined h.far (told_by r)) in
      let was = replied_some jobs id g r.request r.told.proc p (CallState.refreshing get number) e in
      inl (was.1 ∙ ap Some (reply_refreshing jobs id g r.request r.told.proc was.0 get number was.2))

  does_old : (a : Act) → AreOld (does jobs id h a).left
  unfolding does
  does_old (Act.request r) = serves_old r
  does_old (Act.commit by b) = λ p get number e. inl e
  does_old (Act.deliver frame) = delivered jobs id h AreOld frame (is_taken jobs id h.table frame) (receives_old frame) same_old

  acts_old : (a : Act) → AreOld (acts jobs id h a).left
  acts_old a = act_cases jobs id h a (λ d. AreOld d.left) (λ free. settled_old (does jobs id h a).left (does_old a)) (λ e. same_old)

-- replies find the gets that wait for them after an act too, if it sends no request of a new number
pub still_open : (t s : Server) → t ≡ s → (a : Act) → IsNode s → (new : Server) → new ≡ after s a → new.holding.requests ≡ t.holding.requests
    → (anew last : Refreshes) → last ≡ anew → AreOpen t.holding.calls anew → AreOpen new.holding.calls last
still_open t s view a kept new is count anew last same are p get number e =
    let e_then = ap (λ (x : Server). call_of x.holding p) (sym is) ∙ e in
    let low = (node_stays s a kept).server.holds.anew p get number e_then in
    let counted : (after s a).holding.requests ≡ s.holding.requests = ap (λ (x : Server). x.holding.requests) (sym is) ∙ count ∙ ap (λ (x : Server). x.holding.requests) view in
    elim (acts_old s.jobs s.id s.holding a p get number e_then) [
      | inl was ↦
          let its = are p get number (ap (λ (x : Server). call_of x.holding p) view ∙ was) in (its.0, ap (λ (r : Refreshes). asker_at r number get.target) same ∙ its.1)
      | inr next ↦ absurd (not_yet number (after s a).holding.requests s.holding.requests low.1 counted next)
    ]
  where
    not_yet : (k now before : ℕ) → k ≤ now → now ≡ before → k ≡ suc before → ⊥
    not_yet k now before low same is = omega (arith, low, same, is)
