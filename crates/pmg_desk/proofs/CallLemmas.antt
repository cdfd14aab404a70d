-- The call that a process is in, by what it was replied.
use Rattle.std.specs.Prelude.{IfOk}
use Rattle.std.proofs.Common.{◌≡◌, inl, inr, ℕ, Bool, true, cond, List, Option, Some, None, Result, Ok, Err, refl, sym, ap, subst, ◌∙◌}
use Rattle.pmg_value.specs.CheckOrder.{check_order}
use Rattle.pmg_value.specs.Signatures.{FenceName}
use Rattle.pmg_value.specs.declared.process.Proc.{Proc}
use Rattle.pmg_value.specs.declared.refusal.Refusal.{Refusal}
use Rattle.pmg_fence.proofs.EntryLemmas.{proc_itself}
use Rattle.pmg_fence.specs.Changes.{entered_by, next_name}
use Rattle.pmg_fence.specs.Tables.{fence_of}
use Rattle.pmg_get.specs.Gets.{Outcome}
use Rattle.pmg_get.specs.declared.view.Mode.{Mode}
use Rattle.pmg_get.specs.declared.view.Mode.TheVariants as modes
use Rattle.pmg_jobinfo.specs.Jobs.{Jobs}
use Rattle.pmg_node_model.proofs.CallFacts.{call-called, call-settled}
use Rattle.pmg_node_model.proofs.CauseFacts.{by_causes}
use Rattle.pmg_node_model.specs.Acts.{Act, Done, Reply, Request, asks, cause, does, over, requests_after, serves, signature_of, takes, waits_as}
use Rattle.pmg_node_model.specs.Holdings.{Get, CallState, NodeState, answer_in, call_of, called, sealer_of, settled, with_requests, with_table}
use Rattle.pmg_node.specs.Opening.{new_server}
use Rattle.pmg_node.specs.Servers.{Server, after, reply_in, reply_to}
use Rattle.pmg_journal.specs.Journals.{IsEvent}
use Rattle.pmg_journal.proofs.ReplayLemmas.{after_more, jobs_same}
use Rattle.pmg_journal.specs.Knowing.{AreOfOthers}
use Rattle.pmg_journal.specs.Replays.{after_all, happening}
use Rattle.pmg_desk.specs.Clients.{Client, IsInFence, IsLater, Tells, listed_fence, journal_of, proc_of}
use Rattle.pmg_desk.specs.Telling.{call_at, fence_of_call}
use Rattle.pmg_desk.proofs.OpenLemmas.{over_first}
use Rattle.pmg_desk.proofs.OthersLemmas.{fence_settles, getting_settles, getting_stays, is_getting}
use Rattle.pmg_desk.proofs.TellLemmas.{after_both, ends_so, replied_so, until}

-- the call of a process that was put into one, once calls are settled
fence_called : (jobs : Jobs) (id : ℕ) (h : NodeState) (p : Proc) (f : FenceName) → fence_of_call (call_of (settled jobs id (called h p (CallState.in_fence f))) p) ≡ Some f
fence_called jobs id h p f =
    let l = called h p (CallState.in_fence f) in
    ap fence_of_call (call-settled jobs id l p) ∙ fence_settles jobs id l (call_of l p)
    ∙ ap fence_of_call (call-called h p (CallState.in_fence f) p ∙ ap (λ (b : Bool). cond b (Some (CallState.in_fence f)) (call_of h p)) (proc_itself p))

waits_getting : (n : ℕ) (get : Get) (mode : Mode) → is_getting (Some (waits_as n get mode)) ≡ true
waits_getting n get modes.Wait = refl
waits_getting n get modes.Now = refl
waits_getting n get modes.Refresh = refl

get_called : (jobs : Jobs) (id : ℕ) (h : NodeState) (p : Proc) (n : ℕ) (get : Get) (mode : Mode) → is_getting (call_of (settled jobs id (called h p (waits_as n get mode))) p) ≡ true
get_called jobs id h p n get mode =
    let l = called h p (waits_as n get mode) in
    ap is_getting (call-settled jobs id l p) ∙ getting_settles jobs id l (call_of l p)
    ∙ ap is_getting (call-called h p (waits_as n get mode) p ∙ ap (λ (b : Bool). cond b (Some (waits_as n get mode)) (call_of h p)) (proc_itself p)) ∙ waits_getting n get mode

module _ (s : Server) (a : Act) (r : Reply) (is : reply_to s a ≡ r) where
  -- what holds where the act is refused, and once it is done so, holds after the act
  by_reply : (P : NodeState → Type 0) → ((e : Refusal) → Reply.refused e ≡ r → ⊥) → ((does s.jobs s.id s.holding a).reply ≡ r → P (settled s.jobs s.id (does s.jobs s.id s.holding a).left))
      → P (after s a).holding
  by_reply P apart done = elim (by_causes (cause s.jobs s.id s.holding a) (does s.jobs s.id s.holding a)) [
    | inl refused ↦ absurd (apart refused.0 (ap (λ (x : Result Done Refusal). (over s.jobs s.id s.holding x).reply) (sym refused.2) ∙ is))
    | inr free ↦ subst (λ (x : Result Done Refusal). P (over s.jobs s.id s.holding x).left) (sym free.0)
        (done (ap (λ (x : Result Done Refusal). (over s.jobs s.id s.holding x).reply) (sym free.0) ∙ is))
  ]

abbrev instance_in : Reply → ℕ
instance_in (Reply.entered n) = n
instance_in r = 0

-- who entered a fence of a list is in it
entered_in : (s : Server) (p : Proc) (list : List Proc) (collect : Bool) (k : ℕ) → reply_to s (Act.request (Request.enter p list collect)) ≡ Reply.entered k
    → fence_of_call (call_of (after s (Act.request (Request.enter p list collect))).holding p) ≡ Some (fence_of (signature_of s.jobs p list collect) k)
unfolding does serves
entered_in s p list collect k is =
    let g = signature_of s.jobs p list collect in
    let h : NodeState = with_table s.holding (entered_by s.holding.table g p (sealer_of s.holding p).level) in
    by_reply s (Act.request (Request.enter p list collect)) (Reply.entered k) is (λ h. fence_of_call (call_of h p) ≡ Some (fence_of (signature_of s.jobs p list collect) k)) (λ e same. cc)
    (λ told. fence_called s.jobs s.id h p (next_name s.holding.table g p) ∙ ap (λ (r : Reply). Some (fence_of (signature_of s.jobs p list collect) (instance_in r))) told)

asks_getting : (jobs : Jobs) (id : ℕ) (h : NodeState) (p : Proc) (get : Get) (mode : Mode) (o : Outcome) → (asks h p get mode o).reply ≡ Reply.parked
    → is_getting (call_of (settled jobs id (asks h p get mode o).left) p) ≡ true
asks_getting jobs id h p get mode (Outcome.found value) is = cc
asks_getting jobs id h p get mode Outcome.absent is = cc
asks_getting jobs id h p get mode Outcome.outside is = cc
asks_getting jobs id h p get mode Outcome.parks is = get_called jobs id (with_requests h (requests_after h.requests mode)) p h.requests get mode

-- whose get parked is in it
parked_in : (s : Server) (p : Proc) (get : Get) (mode : Mode) → reply_to s (Act.request (Request.ask p get mode)) ≡ Reply.parked
    → is_getting (call_of (after s (Act.request (Request.ask p get mode))).holding p) ≡ true
unfolding does serves
parked_in s p get mode is =
    by_reply s (Act.request (Request.ask p get mode)) Reply.parked is (λ h. is_getting (call_of h p) ≡ true) (λ e same. cc)
    (asks_getting s.jobs s.id s.holding p get mode (answer_in s.jobs s.id s.holding get mode))

abbrev pub IsNotIdle : Reply → Type 0
IsNotIdle Reply.idle = ⊥
IsNotIdle r = Unit {0}

takes_getting : (h : NodeState) (p : Proc) (c : Option CallState) → is_getting c ≡ true → IsNotIdle (takes h p c).reply
takes_getting h p None is = cc
takes_getting h p (Some (CallState.in_fence f)) is = cc
takes_getting h p (Some (CallState.released f gone)) is = cc
takes_getting h p (Some (CallState.parked get)) is = tt
takes_getting h p (Some (CallState.answered get (Outcome.found value))) is = tt
takes_getting h p (Some (CallState.answered get Outcome.absent)) is = tt
takes_getting h p (Some (CallState.answered get Outcome.outside)) is = tt
takes_getting h p (Some (CallState.answered get Outcome.parks)) is = tt
takes_getting h p (Some (CallState.refreshing get number)) is = tt
takes_getting h p (Some (CallState.refreshed get (Outcome.found value))) is = tt
takes_getting h p (Some (CallState.refreshed get Outcome.absent)) is = tt
takes_getting h p (Some (CallState.refreshed get Outcome.outside)) is = tt
takes_getting h p (Some (CallState.refreshed get Outcome.parks)) is = tt

-- who is in a get and takes its answer is not told that it is idle
take_not_idle : (s : Server) (p : Proc) → is_getting (call_of s.holding p) ≡ true → IsNotIdle (reply_to s (Act.request (Request.take p)))
unfolding does serves
take_not_idle s p is =
    over_first s.jobs s.id s.holding IsNotIdle (does s.jobs s.id s.holding (Act.request (Request.take p))) check_order (cause s.jobs s.id s.holding (Act.request (Request.take p))) (λ e due. tt)
    (takes_getting s.holding p (call_of s.holding p) is)

-- ---- what clients know

-- the server once the client's call is made
after_call : (c d : Client) (a : Act) (r : Reply) (told : Tells c d a r)
    → after_all (new_server d.jobs d.node) (journal_of d) ≡ after (after_all (new_server d.jobs d.node) (until c d a r told)) a
after_call c d a r told =
    ap (after_all (new_server d.jobs d.node)) (ends_so c d a r told) ∙ after_more (new_server d.jobs d.node) (until c d a r told) (happening a r)

-- who entered a fence of a list knows that it is in it
pub knows_fence : (c d : Client) (p : Proc) (list : List Proc) (collect : Bool) (k : ℕ) → IsLater c d → p ≡ proc_of c → Tells c d (Act.request (Request.enter p list collect)) (Reply.entered k)
    → IsInFence d (listed_fence c list collect k)
knows_fence c d p list collect k later proc told =
    let a = Act.request (Request.enter p list collect) in
    let start = new_server d.jobs d.node in
    let es = until c d a (Reply.entered k) told in
    let jobs : (after_all start es).jobs ≡ c.jobs = jobs_same start es ∙ later.jobs in
    ap (λ (q : Proc). fence_of_call (call_at d.jobs d.node (journal_of d) q)) (later.proc ∙ sym proc) ∙ ap (λ (s : Server). fence_of_call (call_of s.holding p)) (after_call c d a (Reply.entered k) told)
    ∙ entered_in (after_all start es) p list collect k (replied_so c d a (Reply.entered k) told) ∙ (λ i. Some (fence_of (signature_of (jobs i) (proc i) list collect) k))

-- so it is where the entry was answered
pub entered_known : (c d : Client) (p : Proc) (list copies : List Proc) (collect : Bool) (r : Result ℕ Refusal) → IsLater c d → p ≡ proc_of c → copies ≡ list
    → (IsEvent r → Tells c d (Act.request (Request.enter p copies collect)) (reply_in Reply.entered r)) → IfOk r (λ n. IsInFence d (listed_fence c list collect n))
entered_known c d p list copies collect (Ok n) later proc same told =
    subst (λ (xs : List Proc). IsInFence d (listed_fence c xs collect n)) same (knows_fence c d p copies collect n later proc (told tt))
entered_known c d p list copies collect (Err e) later proc same told = tt

-- who takes the answer of a get that parked is not told that it is idle
pub taken_told : (c mid d : Client) (p : Proc) (get : Get) (mode : Mode) (r : Reply) → IsLater c mid → IsLater mid d → p ≡ proc_of c → Tells c mid (Act.request (Request.ask p get mode)) Reply.parked
    → Tells mid d (Act.request (Request.take p)) r → IsNotIdle r
taken_told c mid d p get mode r first then proc asked taken =
    let ask = Act.request (Request.ask p get mode) in
    let take = Act.request (Request.take p) in
    let start = new_server mid.jobs mid.node in
    let same : new_server d.jobs d.node ≡ start = (λ i. new_server (then.jobs i) (then.node i)) in
    let getting : is_getting (call_of (after_all start (journal_of mid)).holding p) ≡ true =
    ap (λ (s : Server). is_getting (call_of s.holding p)) (after_call c mid ask Reply.parked asked) ∙ parked_in (after_all start (until c mid ask Reply.parked asked)) p get mode (replied_so c mid ask Reply.parked asked) in
    let others = subst (λ (q : Proc). AreOfOthers q taken.goes_on.others) (first.proc ∙ sym proc) taken.goes_on.are_of_others in
    let still : is_getting (call_of (after_all (new_server d.jobs d.node) (until mid d take r taken)).holding p) ≡ true =
    ap (λ (s : Server). is_getting (call_of (after_all s (until mid d take r taken)).holding p)) same
    ∙ ap (λ (s : Server). is_getting (call_of s.holding p)) (after_both start (journal_of mid) taken.goes_on.others)
    ∙ getting_stays p (after_all start (journal_of mid)) taken.goes_on.others others ∙ getting in
    subst IsNotIdle (replied_so mid d take r taken) (take_not_idle (after_all (new_server d.jobs d.node) (until mid d take r taken)) p still)
