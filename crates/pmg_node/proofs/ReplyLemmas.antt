-- Answers as replies, and that no call is due NoMemory.
use Rattle.std.proofs.Common.{◌≡◌, ℕ, Bool, true, false, cond, Option, Some, None, Result, Ok, Err, inl, refl, sym, ap, subst, ◌∙◌}
use Rattle.std.specs.Prelude.{if◌then◌else◌, IfOk}
use Rattle.pmg_value.specs.CheckOrder.{first_of}
use Rattle.pmg_value.specs.declared.process.Proc.{Proc}
use Rattle.pmg_value.specs.declared.refusal.Refusal.{Refusal}
use Rattle.pmg_value.specs.declared.refusal.Refusal.TheVariants as refusals
use Rattle.pmg_scope.specs.declared.scope.Reach.{Reach}
use Rattle.pmg_scope.specs.declared.scope.Reach.TheVariants as reach
use Rattle.pmg_commit.specs.Knowledge.{Contribution}
use Rattle.pmg_commit.specs.Sealed.{Sealed, ended_with, piece_at}
use Rattle.pmg_pset.specs.Sets.{host}
use Rattle.pmg_frame.specs.declared.frame.Frame.{Frame}
use Rattle.pmg_jobinfo.specs.Jobs.{Jobs}
use Rattle.pmg_get.specs.Gets.{Outcome}
use Rattle.pmg_node.specs.Acting.{acted_reply, commit_joins, joins_in, joins_none, SameAnswer}
use Rattle.pmg_node_model.specs.Acts.{Act, Request, Reply, Done, done_as, reply_of, cause, request_cause, is_taken, receives, serves, does, ends_as, leaves, takes, over, acts}
use Rattle.pmg_node_model.specs.Holdings.{CallState, NodeState, sealer_in, sealer_of, call_of}
use Rattle.pmg_node.specs.Servers.{Server, reply_to, after, reply_in, Refuses, Replies, RefusesAct, RepliesAct, IsAnswered, IsAccepted}
use Rattle.pmg_node.specs.Joining.{Joins, no_joins, seal_joins, act_joins, joins}
use Rattle.pmg_node_model.specs.Sending.{is_quiet}
use Rattle.pmg_node.specs.declared.act.Acted.{Acted}
use Rattle.pmg_node.specs.declared.committing.Committed.{Committed}
use Rattle.pmg_node.specs.Replies.{ended_reply}
use Rattle.pmg_node.proofs.JoiningLemmas.{joins_loud}
use Rattle.pmg_node_model.proofs.KeptChanges.{sealer_there}
use Rattle.pmg_node.proofs.SilentLemmas.{then_answer, acts_by}

module _ (s : Server) (a : Act) where
  -- a refusal that is due is told
  pub refuses_due : (e : Refusal) → (reply_to s a ≡ Reply.refused refusals.NoMemory → ⊥) → reply_to s a ≡ Reply.refused e → RefusesAct s a e
  refuses_due refusals.NoMemory never is = absurd (never is)
  refuses_due refusals.BadParam never is = is
  refuses_due refusals.NotFound never is = is
  refuses_due refusals.OutsideScope never is = is
  refuses_due refusals.UnknownNamespace never is = is
  refuses_due refusals.NotMine never is = is
  refuses_due refusals.Busy never is = is
  refuses_due refusals.Terminated never is = is
  refuses_due refusals.NotAParticipant never is = is
  refuses_due refusals.TooMany never is = is
  refuses_due (refusals.BadFrame fault) never is = is
  refuses_due refusals.Exists never is = is
  refuses_due refusals.Collision never is = is
  refuses_due refusals.Stale never is = is
  refuses_due refusals.Unordered never is = is
  refuses_due refusals.Closed never is = is

  -- NoMemory is told where no refusal is due
  refuses_act : (e : Refusal) → Refuses e (reply_to s a) → RefusesAct s a e
  refuses_act refusals.NoMemory is = inl is
  refuses_act refusals.BadParam is = is
  refuses_act refusals.NotFound is = is
  refuses_act refusals.OutsideScope is = is
  refuses_act refusals.UnknownNamespace is = is
  refuses_act refusals.NotMine is = is
  refuses_act refusals.Busy is = is
  refuses_act refusals.Terminated is = is
  refuses_act refusals.NotAParticipant is = is
  refuses_act refusals.TooMany is = is
  refuses_act (refusals.BadFrame fault) is = is
  refuses_act refusals.Exists is = is
  refuses_act refusals.Collision is = is
  refuses_act refusals.Stale is = is
  refuses_act refusals.Unordered is = is
  refuses_act refusals.Closed is = is

module _ {X : Type 0} (view : X → Reply) (s : Server) (a : Act) where
  -- an answer that is due, unless an allocation fails, is an answer to the act
  pub act_replies : (r : Result X Refusal) → Replies view r (reply_to s a) → RepliesAct view r s a
  act_replies (Ok x) is = is
  act_replies (Err e) is = refuses_act s a e is

  -- an answer that is due is an answer to the act, where NoMemory never is due
  pub entry_replies : (r : Result X Refusal) → reply_in view r ≡ reply_to s a → (reply_to s a ≡ Reply.refused refusals.NoMemory → ⊥) → RepliesAct view r s a
  entry_replies (Ok x) is never = sym is
  entry_replies (Err e) is never = refuses_due s a e never (sym is)

module _ {X : Type 0} (view : X → Reply) (gives : X → Joins) where
  -- the same answer is the one that is due, which is never NoMemory
  pub entry_told : (r : Result X Refusal) (q : Result Acted Refusal) (s : Server) (a : Act) → SameAnswer view gives r q → reply_in view r ≡ reply_to s a
      → (reply_to s a ≡ Reply.refused refusals.NoMemory → ⊥) → RepliesAct acted_reply q s a
  entry_told (Ok x) (Ok acted) s a same is never = sym is ∙ same.0
  entry_told (Err e) (Err f) s a same is never = refuses_due s a f never (sym is ∙ ap Reply.refused same)
  entry_told (Ok x) (Err f) s a same is never = absurd same
  entry_told (Err e) (Ok acted) s a same is never = absurd same

  -- or the one that is due, where no allocation failed
  pub act_told : (r : Result X Refusal) (q : Result Acted Refusal) (s : Server) (a : Act) → SameAnswer view gives r q → Replies view r (reply_to s a) → RepliesAct acted_reply q s a
  act_told (Ok x) (Ok acted) s a same is = is ∙ same.0
  act_told (Err e) (Err f) s a same is = refuses_act s a f (subst (λ x. Refuses x (reply_to s a)) same is)
  act_told (Ok x) (Err f) s a same is = absurd same
  act_told (Err e) (Ok acted) s a same is = absurd same

  -- or that of the same act
  pub same_told : (r : Result X Refusal) (q : Result Acted Refusal) (s : Server) (a : Act) → SameAnswer view gives r q → RepliesAct view r s a → RepliesAct acted_reply q s a
  same_told (Ok x) (Ok acted) s a same is = is ∙ same.0
  same_told (Err e) (Err f) s a same is = subst (RefusesAct s a) same is
  same_told (Ok x) (Err f) s a same is = absurd same
  same_told (Err e) (Ok acted) s a same is = absurd same

  -- and where it is NoMemory, that was the answer
  entry_short : (r : Result X Refusal) (q : Result Acted Refusal) → SameAnswer view gives r q → q ≡ Err refusals.NoMemory → r ≡ Err refusals.NoMemory
  entry_short (Ok x) (Ok acted) same is = absurd cc
  entry_short (Err e) (Err f) same is = ap Err same ∙ cc
  entry_short (Ok x) (Err f) same is = absurd same
  entry_short (Err e) (Ok acted) same is = absurd same

  -- so it never is, where that is not due
  pub never_told : (r : Result X Refusal) (q : Result Acted Refusal) (s : Server) (a : Act) → SameAnswer view gives r q → reply_in view r ≡ reply_to s a
      → (reply_to s a ≡ Reply.refused refusals.NoMemory → ⊥) → q ≡ Err refusals.NoMemory → ⊥
  never_told r q s a same is never short = never (sym is ∙ ap (reply_in view) (entry_short r q same short))

-- ---- no cause is one of NoMemory

not_short : (e : Refusal) → (e ≡ refusals.NoMemory → ⊥) → (b : Bool) (rest : Result (Unit {0}) Refusal) → (rest ≡ Err refusals.NoMemory → ⊥) → cond b (Err e) rest ≡ Err refusals.NoMemory → ⊥
not_short e apart true rest never is = apart cc
not_short e apart false rest never is = never is

abbrev nothing : Result (Unit {0}) Refusal
nothing = Ok tt

none_short : nothing ≡ Err refusals.NoMemory → ⊥
none_short is = cc

pub never_short : (has_cause : Refusal → Bool) → first_of has_cause (tt {0}) ≡ Err refusals.NoMemory → ⊥
never_short has_cause =
    not_short refusals.Closed (λ is. cc) (has_cause refusals.Closed) _ (not_short refusals.BadParam (λ is. cc) (has_cause refusals.BadParam) _ (not_short refusals.UnknownNamespace (λ is. cc) (has_cause refusals.UnknownNamespace) _ (not_short refusals.NotMine (λ is. cc) (has_cause refusals.NotMine) _ (not_short refusals.Terminated (λ is. cc) (has_cause refusals.Terminated) _ (not_short refusals.Busy (λ is. cc) (has_cause refusals.Busy) _ (not_short refusals.NotAParticipant (λ is. cc) (has_cause refusals.NotAParticipant) _ (not_short refusals.Exists (λ is. cc) (has_cause refusals.Exists) _ (not_short refusals.NotFound (λ is. cc) (has_cause refusals.NotFound) _ (not_short refusals.OutsideScope (λ is. cc) (has_cause refusals.OutsideScope) _ (not_short refusals.TooMany (λ is. cc) (has_cause refusals.TooMany) _ (none_short)))))))))))

pub refused_apart : (e f : Refusal) → Reply.refused e ≡ Reply.refused f → e ≡ f
refused_apart e f is = cc

-- a reply that is refused as NoMemory, where what is done replies nothing like it
module _ (jobs : Jobs) (id : ℕ) (h : NodeState) where
  over_short : (d : Done) → (d.reply ≡ Reply.refused refusals.NoMemory → ⊥) → (r : Result (Unit {0}) Refusal) → (r ≡ Err refusals.NoMemory → ⊥)
      → (over jobs id h (then_answer r d)).reply ≡ Reply.refused refusals.NoMemory → ⊥
  over_short d never (Ok u) other is = never is
  over_short d never (Err e) other is = other (ap Err (refused_apart e refusals.NoMemory is))

  pub acts_short : (a : Act) → ((does jobs id h a).reply ≡ Reply.refused refusals.NoMemory → ⊥) → (acts jobs id h a).reply ≡ Reply.refused refusals.NoMemory → ⊥
  acts_short a never is =
      over_short (does jobs id h a) never (first_of (cause jobs id h a) tt) (never_short (cause jobs id h a)) (ap (λ (d : Done). d.reply) (sym (acts_by jobs id h a)) ∙ is)

  leaves_short : (p : Proc) (c : Option CallState) → (leaves h p c).reply ≡ Reply.refused refusals.NoMemory → ⊥
  leaves_short p (Some (CallState.in_fence f)) is = cc
  leaves_short p (Some (CallState.released f gone)) is = cc
  leaves_short p (Some (CallState.parked get)) is = cc
  leaves_short p (Some (CallState.answered get outcome)) is = cc
  leaves_short p (Some (CallState.refreshing get number)) is = cc
  leaves_short p (Some (CallState.refreshed get outcome)) is = cc
  leaves_short p None is = cc

  outcome_short : (o : Outcome) → reply_of o ≡ Reply.refused refusals.NoMemory → ⊥
  outcome_short (Outcome.found value) is = cc
  outcome_short Outcome.absent is = cc
  outcome_short Outcome.outside is = cc
  outcome_short Outcome.parks is = cc

  takes_short : (p : Proc) (c : Option CallState) → (takes h p c).reply ≡ Reply.refused refusals.NoMemory → ⊥
  takes_short p (Some (CallState.in_fence f)) is = cc
  takes_short p (Some (CallState.released f gone)) is = cc
  takes_short p (Some (CallState.parked get)) is = cc
  takes_short p (Some (CallState.answered get outcome)) is = outcome_short outcome is
  takes_short p (Some (CallState.refreshing get number)) is = cc
  takes_short p (Some (CallState.refreshed get outcome)) is = outcome_short outcome is
  takes_short p None is = cc

  pub leave_short : (p : Proc) → (acts jobs id h (Act.request (Request.leave p))).reply ≡ Reply.refused refusals.NoMemory → ⊥
  unfolding does serves
  leave_short p = acts_short (Act.request (Request.leave p)) (leaves_short p (call_of h p))

  pub take_short : (p : Proc) → (acts jobs id h (Act.request (Request.take p))).reply ≡ Reply.refused refusals.NoMemory → ⊥
  unfolding does serves
  take_short p = acts_short (Act.request (Request.take p)) (takes_short p (call_of h p))

  -- what is never refused
  pub nudge_accepted : IsAccepted (acts jobs id h (Act.request Request.nudge)).reply
  unfolding cause request_cause does serves
  nudge_accepted = tt

  pub deliver_accepted : (frame : Frame) → IsAccepted (acts jobs id h (Act.deliver frame)).reply
  unfolding cause does
  deliver_accepted frame = by_test (is_taken jobs id h.table frame)
    where
      by_test : (b : Bool) → IsAccepted (over jobs id h (Ok (if b then done_as Reply.taken (receives jobs id h frame) else done_as Reply.ignored h))).reply
      by_test true = tt
      by_test false = tt

-- ---- what is joined

module _ {X : Type 0} (view : X → Reply) (s : Server) (a : Act) where
  pub nothing_told : (r : Result X Refusal) (q : Result Acted Refusal) → SameAnswer view joins_none r q → joins s.jobs s.id s.holding a ≡ no_joins
      → IfOk q (λ acted. joins_in acted.joined ≡ joins s.jobs s.id s.holding a)
  nothing_told (Ok x) (Ok acted) same none = same.1 ∙ sym none
  nothing_told (Err e) (Err f) same none = tt
  nothing_told (Ok x) (Err f) same none = tt
  nothing_told (Err e) (Ok acted) same none = absurd same

module _ (view : Committed → Reply) (s : Server) (a : Act) (p : Proc) (new : Server) (loud : (c : Committed) → is_quiet (view c) ≡ false)
    (seals : (h : NodeState) → act_joins s.holding a h ≡ seal_joins (sealer_of h p) (sealer_of s.holding p).level) where
  -- a commit that is answered joined what its act joins
  pub sealed_joins_are : (c : Committed) → reply_to s a ≡ view c → new ≡ after s a
      → c.near ≡ piece_at (sealer_of new.holding p) (sealer_of s.holding p).level reach.Near
      → c.far ≡ piece_at (sealer_of new.holding p) (sealer_of s.holding p).level reach.Far
      → commit_joins c ≡ joins s.jobs s.id s.holding a
  sealed_joins_are c due done near far =
      (λ i. record { near = Some (near i); far = Some (far i) })
      ∙ ap (λ (x : Server). seal_joins (sealer_of x.holding p) (sealer_of s.holding p).level) done
      ∙ sym (seals (after s a).holding)
      ∙ sym (joins_loud s.jobs s.id s.holding a (ap is_quiet due ∙ loud c))

  pub sealed_told : (r : Result Committed Refusal) (q : Result Acted Refusal) → SameAnswer view commit_joins r q → Replies view r (reply_to s a) → (IsAnswered r → new ≡ after s a)
      → IfOk r (λ c. c.near ≡ piece_at (sealer_of new.holding p) (sealer_of s.holding p).level reach.Near)
      → IfOk r (λ c. c.far ≡ piece_at (sealer_of new.holding p) (sealer_of s.holding p).level reach.Far)
      → IfOk q (λ acted. joins_in acted.joined ≡ joins s.jobs s.id s.holding a)
  sealed_told (Ok c) (Ok acted) same due done near far = same.1 ∙ sealed_joins_are c due (done tt) near far
  sealed_told (Err e) (Err f) same due done near far = tt
  sealed_told (Ok c) (Err f) same due done near far = tt
  sealed_told (Err e) (Ok acted) same due done near far = absurd same

-- what the process that stands for the group's host sealed are the sets
host_sets : (h : NodeState) → sealer_of h host ≡ h.sets
unfolding sealer_in
host_sets h = refl

pub sets_joined : (old new : NodeState) (to : Reach) (one : Committed → Contribution) (r : Result Committed Refusal) → IfOk r (λ c. one c ≡ piece_at new.sets old.sets.level to)
    → IfOk r (λ c. one c ≡ piece_at (sealer_of new host) (sealer_of old host).level to)
sets_joined old new to one (Ok c) is = is ∙ (λ i. piece_at (sym (host_sets new) i) (sym (host_sets old) i).level to)
sets_joined old new to one (Err e) is = tt

-- and the other way round
pub sets_given : (old new : NodeState) (to : Reach) (one : Committed → Contribution) (r : Result Committed Refusal) → IfOk r (λ c. one c ≡ piece_at (sealer_of new host) (sealer_of old host).level to)
    → IfOk r (λ c. one c ≡ piece_at new.sets old.sets.level to)
sets_given old new to one (Ok c) is = is ∙ (λ i. piece_at (host_sets new i) (host_sets old i).level to)
sets_given old new to one (Err e) is = tt

-- a process that is told its end sealed it
module _ (s : Server) (p : Proc) where
  ended_by_act : (n : ℕ) (r : Result (Unit {0}) Refusal)
      → (over s.jobs s.id s.holding (then_answer r (ends_as s.holding p (ended_with (sealer_of s.holding p))))).reply ≡ Reply.ended n
      → sealer_of (over s.jobs s.id s.holding (then_answer r (ends_as s.holding p (ended_with (sealer_of s.holding p))))).left p ≡ ended_with (sealer_of s.holding p)
  ended_by_act n (Ok u) is = sealer_there s.holding p (ended_with (sealer_of s.holding p))
  ended_by_act n (Err e) is = absurd cc

  end_sealed : (n : ℕ) → reply_to s (Act.request (Request.terminate p)) ≡ Reply.ended n → sealer_of (after s (Act.request (Request.terminate p))).holding p ≡ ended_with (sealer_of s.holding p)
  unfolding does serves
  end_sealed n is =
      let a : Act = Act.request (Request.terminate p) in
      let r : Result (Unit {0}) Refusal = first_of (cause s.jobs s.id s.holding a) tt in
      ap (λ (d : Done). sealer_of d.left p) (acts_by s.jobs s.id s.holding a) ∙ ended_by_act n r (ap (λ (d : Done). d.reply) (sym (acts_by s.jobs s.id s.holding a)) ∙ is)

  pub end_joined : (new : Server) (to : Reach) (one : Committed → Contribution) (l : ℕ) (r : Result Committed Refusal) → Replies ended_reply r (reply_to s (Act.request (Request.terminate p)))
      → (IsAnswered r → new ≡ after s (Act.request (Request.terminate p))) → IfOk r (λ c. one c ≡ piece_at (ended_with (sealer_of s.holding p)) l to)
      → IfOk r (λ c. one c ≡ piece_at (sealer_of new.holding p) l to)
  end_joined new to one l (Ok c) due done is =
      is ∙ ap (λ (z : Sealed). piece_at z l to) (sym (ap (λ (x : Server). sealer_of x.holding p) (done tt) ∙ end_sealed c.level due))
  end_joined new to one l (Err e) due done is = tt
