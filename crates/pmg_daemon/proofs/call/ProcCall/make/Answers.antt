use Rattle.std.proofs.Common.{◌≡◌, ℕ, List, Result, Err, sym, ap, subst, ◌∙◌}
use Rattle.pmg_value.specs.Answers.{Fails}
use Rattle.pmg_value.specs.CheckOrder.{check_order, first_of}
use Rattle.pmg_value.specs.Spelling.{spelling}
use Rattle.pmg_value.specs.declared.process.Proc.{Proc}
use Rattle.pmg_value.specs.declared.refusal.Refusal.{Refusal}
use Rattle.pmg_value.specs.declared.refusal.Refusal.TheVariants as refusals
use Rattle.pmg_scope.specs.declared.scope.Scope.{Scope}
use Rattle.pmg_node.specs.Acting.{request_of}
use Rattle.pmg_node.specs.Servers.{IsAnswered, reply_to}
use Rattle.pmg_node.specs.declared.act.Reply.{Reply as GivenReply}
use Rattle.pmg_node_model.specs.Acts.{Reply}
use Rattle.pmg_caches.proofs.CauseLemmas.{fails_due}
use Rattle.pmg_caches.specs.Caching.{cached_for, put_cause_at}
use Rattle.pmg_caches.specs.OwnKeys.{own_key}
use Rattle.pmg_group_model.specs.Worlds.{reply_or_refusal}
use Rattle.pmg_daemon.specs.Calls.{MayBeDone, after_put, call_after, call_due, proc_call_of, put_due}
use Rattle.pmg_daemon.specs.declared.call.ProcCall.{ProcCall as GivenCall}
use Rattle.pmg_link.specs.Links.{Linked, RepliesCommit, commit_of}
use Rattle.pmg_daemon.proofs.CallLemmas.{commit_after, commit_told, first_err, first_ok, put_may_be, request_may_be, request_told}
use Rattle.pmg_daemon.proofs.call.ProcCall.make.Goals as goal

-- a put whose refusal is told is due that refusal
put_refused : (l : Linked) (p : Proc) (scope : Scope) (key value : List ℕ) (e : Refusal) → Fails e (first_of (put_cause_at l.node (cached_for l.caches p) p scope key value) (tt {0}))
    → IsAnswered {X = GivenReply} (Err e) → put_due l p scope key value ≡ Err e
put_refused l p scope key value e fails told =
    let cause = put_cause_at l.node (cached_for l.caches p) p scope key value in
    first_err check_order cause (tt {0}) Reply.done e (fails_due e (first_of cause (tt {0})) fails (λ short. subst (λ (x : Refusal). IsAnswered {X = GivenReply} (Err x)) short told))

pub returns-in-Ok-clause-reply : goal.returns-in-Ok-clause-reply
unfolding call_due
returns-in-Ok-clause-reply c = λ u.
    let l = c.args.link.now in
    let cause = put_cause_at l.node (cached_for l.caches c.in-Put.proc) c.in-Put.proc c.in-Put.scope c.in-Put.key (spelling c.in-Put.value) in
    ap (λ (s : GivenCall). call_due l (proc_call_of s)) c.in-Put.is ∙ ap reply_or_refusal (first_ok check_order cause (tt {0}) _ Reply.done c.in-Ok.ensures.answer)

pub returns-in-Ok-clause-after : goal.returns-in-Ok-clause-after
unfolding call_after
returns-in-Ok-clause-after c = λ u.
    let l = c.args.link.now in
    let cause = put_cause_at l.node (cached_for l.caches c.in-Put.proc) c.in-Put.proc c.in-Put.scope c.in-Put.key (spelling c.in-Put.value) in
    c.in-Ok.ensures.ok
    ∙ sym (ap (λ (due : Result Reply Refusal). after_put due l c.in-Put.proc c.in-Put.scope c.in-Put.key (spelling c.in-Put.value)) (first_ok check_order cause (tt {0}) _ Reply.done c.in-Ok.ensures.answer))
    ∙ sym (ap (λ (s : GivenCall). call_after l (proc_call_of s)) c.in-Put.is)

pub returns-in-Put-clause-reply : goal.returns-in-Put-clause-reply
unfolding call_due
returns-in-Put-clause-reply c = λ told.
    ap (λ (s : GivenCall). call_due c.args.link.now (proc_call_of s)) c.in-Put.is
    ∙ ap reply_or_refusal (put_refused c.args.link.now c.in-Put.proc c.in-Put.scope c.in-Put.key (spelling c.in-Put.value) c.in-Err.refusal c.in-Err.ensures.answer told)

pub returns-in-Put-clause-after : goal.returns-in-Put-clause-after
unfolding call_after
returns-in-Put-clause-after c = λ told.
    let l = c.args.link.now in
    let due = put_refused l c.in-Put.proc c.in-Put.scope c.in-Put.key (spelling c.in-Put.value) c.in-Err.refusal c.in-Err.ensures.answer told in
    c.in-Err.ensures.err ∙ sym (ap (λ (x : Result Reply Refusal). after_put x l c.in-Put.proc c.in-Put.scope c.in-Put.key (spelling c.in-Put.value)) due)
    ∙ sym (ap (λ (s : GivenCall). call_after l (proc_call_of s)) c.in-Put.is)

pub returns-in-Commit-clause-reply : goal.returns-in-Commit-clause-reply
unfolding call_due
returns-in-Commit-clause-reply c = λ told.
    ap (λ (s : GivenCall). call_due c.args.link.now (proc_call_of s)) c.in-Commit.is
    ∙ commit_told c.commit.result (reply_to c.args.link.now.node (commit_of c.args.link.now c.in-Commit.proc)) c.commit.ensures.reply told

pub returns-in-Commit-clause-after : goal.returns-in-Commit-clause-after
unfolding call_after
returns-in-Commit-clause-after c = λ told.
    commit_after c.args.link.now c.commit.new.self c.in-Commit.proc c.commit.result told
    (commit_told c.commit.result (reply_to c.args.link.now.node (commit_of c.args.link.now c.in-Commit.proc)) c.commit.ensures.reply told) c.commit.ensures.done c.commit.ensures.refused
    ∙ sym (ap (λ (s : GivenCall). call_after c.args.link.now (proc_call_of s)) c.in-Commit.is)

pub returns-clause-reply : goal.returns-clause-reply
unfolding call_due
returns-clause-reply c = λ told.
    let r = request_of c.in-Request.request in
    ap (λ (s : GivenCall). call_due c.args.link.now (proc_call_of s)) c.in-Request.is ∙ request_told (own_key r) c.args.link.now r c.request.result c.request.ensures.reply told

pub returns-clause-after : goal.returns-clause-after
unfolding call_after
returns-clause-after c = λ told.
    c.request.ensures.done told ∙ sym (ap (λ (s : GivenCall). call_after c.args.link.now (proc_call_of s)) c.in-Request.is)

pub returns-in-Put-clause-accepted : goal.returns-in-Put-clause-accepted
unfolding call_due
returns-in-Put-clause-accepted c = λ short.
    let l = c.args.link.now in
    let cause = put_cause_at l.node (cached_for l.caches c.in-Put.proc) c.in-Put.proc c.in-Put.scope c.in-Put.key (spelling c.in-Put.value) in
    let none : c.in-Err.refusal ≡ refusals.NoMemory = cc in
    subst (λ (s : GivenCall). MayBeDone (call_due l (proc_call_of s))) (sym c.in-Put.is)
    (put_may_be cause (subst (λ (e : Refusal). Fails e (first_of cause (tt {0}))) none c.in-Err.ensures.answer))

pub returns-in-Commit-clause-accepted : goal.returns-in-Commit-clause-accepted
unfolding call_due
returns-in-Commit-clause-accepted c = λ short.
    let l = c.args.link.now in
    subst (λ (s : GivenCall). MayBeDone (call_due l (proc_call_of s))) (sym c.in-Commit.is)
    (subst (λ (r : Result GivenReply Refusal). RepliesCommit r (reply_to l.node (commit_of l c.in-Commit.proc))) short c.commit.ensures.reply)

pub returns-clause-accepted : goal.returns-clause-accepted
unfolding call_due
returns-clause-accepted c = λ short.
    let l = c.args.link.now in
    let r = request_of c.in-Request.request in
    subst (λ (s : GivenCall). MayBeDone (call_due l (proc_call_of s))) (sym c.in-Request.is) (request_may_be (own_key r) l r c.request.result c.request.ensures.reply short)
