-- A get that asks anew waits until the reply comes, or its process ends.
use Rattle.std.proofs.Common.{◌≡◌, ℕ, Bool, true, false, ◌==◌, cond, Some, inl, inr, refl, sym, ap, subst, ◌∙◌, arith}
use Rattle.std.proofs.lemmas.Bool.{and_parts}
use Rattle.std.proofs.lemmas.Bool.Decides.{nat_tests}
use Rattle.std.specs.Cmp.{Equal-is}
use Rattle.std.specs.Option.{option_map}
use Rattle.pmg_value.specs.declared.process.Proc.{Proc}
use Rattle.pmg_value.proofs.ProcessOrder.{exact_procs}
use Rattle.pmg_frame.specs.Refreshing.{RefreshReply}
use Rattle.pmg_frame.specs.declared.frame.Frame.TheVariants as frames
use Rattle.pmg_jobinfo.specs.Jobs.{Jobs}
use Rattle.pmg_fence.specs.Entering.{same_proc}
use Rattle.pmg_get.specs.Gets.{Outcome}
use Rattle.pmg_node_model.specs.Acts.{Request, Act, Reply, is_taken, done_as, receives, does}
use Rattle.pmg_node_model.specs.Holdings.{Get, CallState, NodeState, call_of, is_replied, settle, settled}
use Rattle.pmg_node_model.specs.NodeLaws.{BringsReply, RefreshingStays}
use Rattle.pmg_node_model.proofs.AfterActs.{after_act}
use Rattle.pmg_node_model.proofs.CallFacts.{call-settled}
use Rattle.pmg_node_model.proofs.Moving.{Moves, StaysOrMoves, does_call}

-- settling leaves it
pub refreshing_settled : (jobs : Jobs) (id : ℕ) (h : NodeState) (p : Proc) (get : Get) (number : ℕ) → call_of h p ≡ Some (CallState.refreshing get number)
    → call_of (settled jobs id h) p ≡ Some (CallState.refreshing get number)
refreshing_settled jobs id h p get number e = call-settled jobs id h p ∙ ap (option_map (settle jobs id h)) e

-- once the reply is taken
abbrev pub replied_to : Jobs → ℕ → NodeState → RefreshReply → Bool → NodeState
replied_to jobs id h r taken = (cond taken (done_as Reply.taken (receives jobs id h (frames.RefreshReply r))) (done_as Reply.ignored h)).left

module _ (jobs : Jobs) (id : ℕ) (h : NodeState) (p : Proc) (r : RefreshReply) (get : Get) (number : ℕ) (outcome : Outcome) (was : call_of h p ≡ Some (CallState.refreshing get number)) where
  -- where the get is answered, the reply was taken
  taken_if : (b : Bool) → is_taken jobs id h.table (frames.RefreshReply r) ≡ b → call_of (replied_to jobs id h r b) p ≡ Some (CallState.refreshed get outcome)
      → is_taken jobs id h.table (frames.RefreshReply r) ≡ true
  taken_if true is now = is
  taken_if false is now = absurd (apart (sym was ∙ now))
    where
      apart : Some (CallState.refreshing get number) ≡ Some (CallState.refreshed get outcome) → ⊥
      apart e = cc

  pub was_taken : (a : Act) → a ≡ Act.deliver (frames.RefreshReply r) → call_of (does jobs id h a).left p ≡ Some (CallState.refreshed get outcome)
      → is_taken jobs id h.table (frames.RefreshReply r) ≡ true
  unfolding does
  was_taken a is now =
      taken_if (is_taken jobs id h.table (frames.RefreshReply r)) refl (subst (λ x. call_of (does jobs id h x).left p ≡ Some (CallState.refreshed get outcome)) is now)

-- ---- no other act ends it

module _
    (jobs : Jobs)
    (id : ℕ)
    (h : NodeState)
    (a : Act)
    (p : Proc)
    (get : Get)
    (number : ℕ)
    (was : call_of h p ≡ Some (CallState.refreshing get number))
    (unreplied : BringsReply jobs id h get number a → ⊥)
    (goes_on : a ≡ Act.request (Request.terminate p) → ⊥) where
  same_number : (m n : ℕ) → (m == n) ≡ true → n ≡ m
  same_number m n e = grind (arith, nat_tests)

  -- a reply that answered it would be the one to its request
  answers_not : (r : RefreshReply) (g : Get) (k : ℕ) (o : Outcome) → a ≡ Act.deliver (frames.RefreshReply r) → call_of h p ≡ Some (CallState.refreshing g k)
      → is_replied r.request r.told.proc g k ≡ true → call_of (does jobs id h a).left p ≡ Some (CallState.refreshed g o) → ⊥
  answers_not r g k o is there its now = unreplied (
    r,
    is,
    was_taken jobs id h p r g k o there a is now,
    same_number k r.request parts.0 ∙ the_number,
    sym (exact_procs g.target r.told.proc ((Equal-is _).0 parts.1)) ∙ ap (λ (x : Get). x.target) the_get,
  )
    where
      same : Some (CallState.refreshing g k) ≡ Some (CallState.refreshing get number)
      same = sym there ∙ was

      the_get : g ≡ get
      the_get = cc

      the_number : k ≡ number
      the_number = cc

      parts : ((k == r.request) ≡ true) × (same_proc g.target r.told.proc ≡ true)
      parts = and_parts (k == r.request) (same_proc g.target r.told.proc) its

  stays_on : StaysOrMoves jobs id h p a (call_of (does jobs id h a).left p) → call_of (does jobs id h a).left p ≡ Some (CallState.refreshing get number)
  stays_on (inl same) = same ∙ was
  stays_on (inr (Moves.entering list collect is there now)) = absurd cc
  stays_on (inr (Moves.parking g mode is there answer now)) = absurd cc
  stays_on (inr (Moves.leaving f gone is there now)) = absurd cc
  stays_on (inr (Moves.taking g o is there now)) = absurd cc
  stays_on (inr (Moves.taking_anew g o is there now)) = absurd cc
  stays_on (inr (Moves.answering r g k is there its now)) = absurd (answers_not r g k _ is there its now)
  stays_on (inr (Moves.ending is now)) = absurd (goes_on is)

pub refreshing_stays : RefreshingStays
refreshing_stays jobs id h a p get number was unreplied ends =
    after_act jobs id h a (λ g. call_of g p ≡ Some (CallState.refreshing get number)) was (λ none.
    refreshing_settled jobs id (does jobs id h a).left p get number (stays_on jobs id h a p get number was unreplied ends (does_call jobs id h p a none)))
