-- A call that waited is not told to wait.
use Rattle.std.specs.Prelude.{IfOk, IfSome}
use Rattle.std.proofs.Common.{Bor, ◌≡◌, inl, inr, ℕ, Bool, true, false, ◌==◌, ◌&&◌, not, cond, Option, Some, None, Result, Ok, Err, refl, sym, ap, subst, ◌∙◌}
use Rattle.std.specs.Option.{option_map}
use Rattle.std.proofs.lemmas.Option.{same_Some}
use Rattle.pmg_value.specs.Names.{is_reserved}
use Rattle.pmg_value.specs.declared.process.Proc.{Proc}
use Rattle.pmg_value.specs.declared.refusal.Refusal.{Refusal}
use Rattle.pmg_value.specs.declared.refusal.Refusal.TheVariants as refusals
use Rattle.pmg_jobinfo.specs.Jobs.{Jobs, home_of, is_member, is_registered}
use Rattle.pmg_get.specs.Gets.{Outcome}
use Rattle.pmg_node_model.specs.Acts.{Act, Done, Reply, Request, Status, caller_cause, cause, does, is_misnamed, leaves, over, request_cause, serves, status_by, status_of, takes}
use Rattle.pmg_node_model.specs.Holdings.{NodeState, CallState, call_of}
use Rattle.pmg_node_model.proofs.CauseFacts.{NoCause, by_causes, caller_is, neither}
use Rattle.pmg_node.specs.Acting.{reply_as}
use Rattle.pmg_node.specs.Replies.{release_reply, status_in, taking_reply}
use Rattle.pmg_node.specs.Servers.{Server, reply_to}
use Rattle.pmg_node.specs.declared.act.Reply.{Reply as GivenReply}
use Rattle.pmg_node.specs.declared.leaving.Release.{Release}
use Rattle.pmg_node.specs.declared.leaving.Release.TheVariants as releases
use Rattle.pmg_node.specs.declared.status.Status.{Status as ToldStatus}
use Rattle.pmg_node.specs.declared.status.Status.TheVariants as statuses
use Rattle.pmg_node.specs.declared.taking.Taking.{Taking}
use Rattle.pmg_node.specs.declared.taking.Taking.TheVariants as takings
use Rattle.pmg_desk.specs.Answered.{SameReplies}
use Rattle.pmg_desk.specs.Awaiting.{IsThere, RepliesPast, RepliesThere, StandsPast}
use Rattle.pmg_desk.specs.declared.lock.WaitFor.{WaitFor}
use Rattle.pmg_desk.specs.declared.lock.WaitFor.TheVariants as awaiteds

-- ---- how a caller stands

is_so : (b : Bool) → not b ≡ false → b ≡ true
is_so true e = refl
is_so false e = cc

named_is_member : (registered member : Bool) → (registered && not member) ≡ false → registered ≡ true → member ≡ true
named_is_member true true e is = refl
named_is_member true false e is = cc
named_is_member false member e is = cc

-- of whom nothing is amiss stands as its call does
caller_status : (jobs : Jobs) (id : ℕ) (h : NodeState) (p : Proc) → NoCause (caller_cause jobs id h p) → status_of jobs id h p ≡ status_by (call_of h p)
unfolding status_of
caller_status jobs id h p none =
    let named = (neither (is_reserved p.nspace) (is_misnamed jobs p) none.1.0).1 in
    let member = named_is_member (is_registered jobs p.nspace) (is_member jobs p) named (is_so (is_registered jobs p.nspace) none.1.1.0) in
    let home = is_so (home_of jobs p == id) none.1.1.1.0 in
    let live = (caller_is jobs id h p none).live in
    (λ i. cond (member i && home i) (cond (live i) Status.ended (status_by (call_of h p))) Status.stranger)

-- ---- who is told to wait

not_refused : (e : Refusal) → Reply.refused e ≡ Reply.waiting → ⊥
not_refused e same = cc

module _ (h : NodeState) (p : Proc) where
  in_fence_by : (c : Option CallState) → (leaves h p c).reply ≡ Reply.waiting → status_by c ≡ Status.in_fence
  in_fence_by None is = cc
  in_fence_by (Some (CallState.in_fence f)) is = refl
  in_fence_by (Some _) is = cc

  parked_by : (c : Option CallState) → (takes h p c).reply ≡ Reply.waiting → status_by c ≡ Status.parked
  parked_by None is = cc
  parked_by (Some (CallState.in_fence f)) is = cc
  parked_by (Some (CallState.released f gone)) is = cc
  parked_by (Some (CallState.parked get)) is = refl
  parked_by (Some (CallState.answered get (Outcome.found value))) is = cc
  parked_by (Some (CallState.answered get Outcome.absent)) is = cc
  parked_by (Some (CallState.answered get Outcome.outside)) is = cc
  parked_by (Some (CallState.answered get Outcome.parks)) is = cc
  parked_by (Some (CallState.refreshing get number)) is = refl
  parked_by (Some (CallState.refreshed get (Outcome.found value))) is = cc
  parked_by (Some (CallState.refreshed get Outcome.absent)) is = cc
  parked_by (Some (CallState.refreshed get Outcome.outside)) is = cc
  parked_by (Some (CallState.refreshed get Outcome.parks)) is = cc

-- who stands otherwise than those do whom the act tells to wait is not told to wait
stands_past : (s : Server) (p : Proc) (at : Status) (a : Act)
    → (NoCause (cause s.jobs s.id s.holding a) → (over s.jobs s.id s.holding (Ok (does s.jobs s.id s.holding a))).reply ≡ Reply.waiting → status_of s.jobs s.id s.holding p ≡ at)
    → StandsPast s p at → reply_to s a ≡ Reply.waiting → ⊥
stands_past s p at a stands past is = elim (by_causes (cause s.jobs s.id s.holding a) (does s.jobs s.id s.holding a)) [
  | inl refused ↦ not_refused refused.0 (ap (λ (x : Result Done Refusal). (over s.jobs s.id s.holding x).reply) (sym refused.2) ∙ is)
  | inr free ↦ past (stands free.1 (ap (λ (x : Result Done Refusal). (over s.jobs s.id s.holding x).reply) (sym free.0) ∙ is))
]

leave_past : (s : Server) (p : Proc) → StandsPast s p Status.in_fence → reply_to s (Act.request (Request.leave p)) ≡ Reply.waiting → ⊥
unfolding cause request_cause does serves
leave_past s p =
    stands_past s p Status.in_fence (Act.request (Request.leave p)) (λ free is. caller_status s.jobs s.id s.holding p free ∙ in_fence_by s.holding p (call_of s.holding p) is)

take_past : (s : Server) (p : Proc) → StandsPast s p Status.parked → reply_to s (Act.request (Request.take p)) ≡ Reply.waiting → ⊥
unfolding cause request_cause does serves
take_past s p = stands_past s p Status.parked (Act.request (Request.take p)) (λ free is. caller_status s.jobs s.id s.holding p free ∙ parked_by s.holding p (call_of s.holding p) is)

-- so who asks for that, once it stands otherwise, is not told to wait
never_waits : {X : Type 0} (kind : X → Reply) (waiting : X) (request : Proc → Request) (at : Status) → kind waiting ≡ Reply.waiting
    → ((s : Server) (p : Proc) → StandsPast s p at → reply_to s (Act.request (request p)) ≡ Reply.waiting → ⊥) → (p q : Proc) → q ≡ p → (r : Result X Refusal)
    (answer : Result GivenReply Refusal) → SameReplies kind reply_as r answer → IfOk answer (λ x. RepliesPast p at (Act.request (request q)) (reply_as x)) → IfOk r (λ x. x ≡ waiting → ⊥)
never_waits kind waiting request at waits past_it p q same (Ok x) (Ok y) told past =
    λ is.
    past_it past.server p past.stands
    (subst (λ (z : Proc). reply_to past.server (Act.request (request z)) ≡ Reply.waiting) same (past.is ∙ sym told ∙ ap kind is ∙ waits))
never_waits kind waiting request at waits past_it p q same (Ok x) (Err e) told past = absurd told
never_waits kind waiting request at waits past_it p q same (Err e) answer told past = tt

-- as who leaves a fence
pub leave_waited : (p q : Proc) → q ≡ p → (r : Result Release Refusal) (answer : Result GivenReply Refusal) → SameReplies release_reply reply_as r answer
    → IfOk answer (λ x. RepliesPast p Status.in_fence (Act.request (Request.leave q)) (reply_as x)) → IfOk r (λ x. x ≡ releases.Waiting → ⊥)
leave_waited = never_waits release_reply releases.Waiting (λ p. Request.leave p) Status.in_fence refl leave_past

-- and who takes an answer
pub take_waited : (p q : Proc) → q ≡ p → (r : Result Taking Refusal) (answer : Result GivenReply Refusal) → SameReplies taking_reply reply_as r answer
    → IfOk answer (λ x. RepliesPast p Status.parked (Act.request (Request.take q)) (reply_as x)) → IfOk r (λ x. x ≡ takings.Waiting → ⊥)
take_waited = never_waits taking_reply takings.Waiting (λ p. Request.take p) Status.parked refl take_past

-- ---- what is waited for

-- a code of a status is one of no other
abbrev code_of : Status → ToldStatus
code_of Status.stranger = statuses.Stranger
code_of Status.idle = statuses.Idle
code_of Status.in_fence = statuses.InFence
code_of Status.released = statuses.Released
code_of Status.parked = statuses.Parked
code_of Status.answered = statuses.Answered
code_of Status.ended = statuses.Ended

code_in : (s : ToldStatus) → code_of (status_in s) ≡ s
code_in statuses.Stranger = refl
code_in statuses.Idle = refl
code_in statuses.InFence = refl
code_in statuses.Released = refl
code_in statuses.Parked = refl
code_in statuses.Answered = refl
code_in statuses.Ended = refl

pub same_code : (s t : ToldStatus) → status_in s ≡ status_in t → s ≡ t
same_code s t is = sym (code_in s) ∙ ap code_of is ∙ code_in t

pub nothing_there : (a : WaitFor) (held : Option Server) → a ≡ awaiteds.Nothing → IsThere a held
unfolding IsThere
nothing_there a held is = subst (λ (x : WaitFor). IsThere x held) (sym is) tt

pub frames_there : (a : WaitFor) (held : Option Server) → a ≡ awaiteds.Frames → IsThere a held
unfolding IsThere
frames_there a held is = subst (λ (x : WaitFor). IsThere x held) (sym is) tt

-- the process stands so, or the desk has no node
pub past_there : (a : WaitFor) (held : Option Server) (p : Bor Proc) (status : ToldStatus) → a ≡ awaiteds.Past p status → (found : Option ToldStatus)
    → option_map status_in found ≡ option_map (λ (s : Server). status_of s.jobs s.id s.holding p.now) held → ((x : ToldStatus) → found ≡ Some x → x ≡ status → ⊥) → IsThere a held
unfolding IsThere
past_there a held p status is found stands other = subst (λ (x : WaitFor). IsThere x held) (sym is) (by_node held found stands other)
  where
    by_node : (o : Option Server) (x : Option ToldStatus) → option_map status_in x ≡ option_map (λ (s : Server). status_of s.jobs s.id s.holding p.now) o
        → ((y : ToldStatus) → x ≡ Some y → y ≡ status → ⊥) → IsThere (awaiteds.Past p status) o
    by_node None x same apart = tt
    by_node (Some s) None same apart = cc
    by_node (Some s) (Some y) same apart = λ so. apart y refl (same_code y status (same_Some (status_in y) (status_of s.jobs s.id s.holding p.now) same ∙ so))

-- what is given then is so for the process
pub past_replies : (p : Bor Proc) (past : Option ToldStatus) (status : ToldStatus) → past ≡ Some status → (act : Act) (r : Reply) → RepliesThere (awaiteds.Past p status) act r
    → IfSome past (λ s. RepliesPast p.now (status_in s) act r)
unfolding RepliesThere
past_replies p past status is act r replies = subst (λ (o : Option ToldStatus). IfSome o (λ s. RepliesPast p.now (status_in s) act r)) (sym is) replies

-- where that is there, the reply is one that is given then
pub replies_there : {X : Type 0} (a : WaitFor) (held : Option Server) (act : Act) (view : X → Reply) (answer : Result X Refusal) → IsThere a held
    → IfOk answer (λ x. IfSome held (λ s. reply_to s act ≡ view x)) → (held ≡ None → answer ≡ Err refusals.Closed) → IfOk answer (λ x. RepliesThere a act (view x))
unfolding IsThere RepliesThere
replies_there awaiteds.Nothing held act view (Ok x) there step shut = tt
replies_there awaiteds.Frames held act view (Ok x) there step shut = tt
replies_there (awaiteds.Past p status) (Some s) act view (Ok x) there step shut = record { server = s; stands = there; is = step }
replies_there (awaiteds.Past p status) None act view (Ok x) there step shut = let e = shut refl in cc
replies_there a held act view (Err e) there step shut = tt
