use Rattle.std.proofs.Common.{◌≡◌, List, Result, inl, refl, ap, subst, ◌∙◌, sym}
use Rattle.std.specs.Prelude.{IfOk}
use Rattle.std.proofs.lemmas.Result.{err_from_is_err_and}
use Rattle.pmg_value.specs.declared.process.Proc.{Proc}
use Rattle.pmg_value.specs.declared.refusal.Refusal.{Refusal}
use Rattle.pmg_scope.specs.declared.scope.Reach.TheVariants as reach
use Rattle.pmg_pset.specs.Sets.{host}
use Rattle.pmg_node.specs.Acting.{acted_reply, commit_joins, joins_in, joins_none, request_of, SameAnswer}
use Rattle.pmg_node_parts.specs.Calls.{get_of}
use Rattle.pmg_node_model.specs.Holdings.{sealer_of}
use Rattle.pmg_node.specs.Joining.{act_joins, joins, no_joins}
use Rattle.pmg_node_model.specs.Acts.{Act, Request, Reply}
use Rattle.pmg_node.specs.Replies.{asked_reply, defined_reply, ended_reply, release_reply, taking_reply}
use Rattle.pmg_node.specs.Servers.{Server, RepliesAct, after}
use Rattle.pmg_node.specs.declared.act.Acted.{Acted}
use Rattle.pmg_node.specs.declared.act.Request.{Request as AskedRequest}
use Rattle.pmg_node.proofs.JoiningLemmas.{joins_nothing}
use Rattle.pmg_node.proofs.ReplyLemmas.{entry_told, never_told, act_told, same_told, leave_short, take_short, nudge_accepted, nothing_told, sealed_told, sets_joined, end_joined}
use Rattle.pmg_node.proofs.server.Server.serve.Goals as goal

-- what is replied to a request is replied to the one that was made
reply_at : (result : Result Acted Refusal) (s : Server) (q r : AskedRequest) → r ≡ q → RepliesAct acted_reply result s (Act.request (request_of q))
    → RepliesAct acted_reply result s (Act.request (request_of r))
reply_at result s q r is = subst (λ (x : AskedRequest). RepliesAct acted_reply result s (Act.request (request_of x))) (sym is)

-- what comes of it joins what the request joins
abbrev JoinsFor : Result Acted Refusal → Server → AskedRequest → Type 0
JoinsFor result s r = IfOk result (λ acted. joins_in acted.joined ≡ joins s.jobs s.id s.holding (Act.request (request_of r)))

joins_at : (result : Result Acted Refusal) (s : Server) (q r : AskedRequest) → r ≡ q → JoinsFor result s q → JoinsFor result s r
joins_at result s q r is = subst (JoinsFor result s) (sym is)

-- or nothing, where that is what the request joins
none_at : {X : Type 0} (view : X → Reply) (s : Server) (q r : AskedRequest) (answer : Result X Refusal) (result : Result Acted Refusal) → r ≡ q → SameAnswer view joins_none answer result
    → act_joins s.holding (Act.request (request_of q)) (after s (Act.request (request_of q))).holding ≡ no_joins → JoinsFor result s r
none_at view s q r answer result is same none =
    joins_at result s q r is (nothing_told view s (Act.request (request_of q)) answer result same (joins_nothing s.jobs s.id s.holding (Act.request (request_of q)) none))

pub returns-in_err-nudge-in-Nudge-clause-reply : goal.returns-in_err-nudge-in-Nudge-clause-reply
returns-in_err-nudge-in-Nudge-clause-reply c =
    let s = c.args.self.now in
    let p = err_from_is_err_and c.from_residual.result c.from_residual.ensures.1 in
    reply_at _ _ _ _ c.in-Nudge.is (rw (p.1, p.2) (inl (nudge_accepted s.jobs s.id s.holding)))

pub returns-in-Leave-clause-reply : goal.returns-in-Leave-clause-reply
returns-in-Leave-clause-reply c = reply_at _ _ _ _ c.in-Leave.is (entry_told release_reply joins_none c.take_release.result _ _ _ c.as_released.ensures c.take_release.ensures.reply (leave_short _ _ _ c.in-Leave.proc))

pub returns-in-Leave-clause-memory : goal.returns-in-Leave-clause-memory
returns-in-Leave-clause-memory c is =
    let s = c.args.self.now in
    absurd (never_told release_reply joins_none c.take_release.result c.as_released.result s (Act.request (Request.leave c.in-Leave.proc)) c.as_released.ensures c.take_release.ensures.reply
    (leave_short s.jobs s.id s.holding c.in-Leave.proc) is)

pub returns-in-Take-clause-reply : goal.returns-in-Take-clause-reply
returns-in-Take-clause-reply c = reply_at _ _ _ _ c.in-Take.is (entry_told taking_reply joins_none c.take_answer.result _ _ _ c.as_taken.ensures c.take_answer.ensures.reply (take_short _ _ _ c.in-Take.proc))

pub returns-in-Take-clause-memory : goal.returns-in-Take-clause-memory
returns-in-Take-clause-memory c is =
    let s = c.args.self.now in
    absurd (never_told taking_reply joins_none c.take_answer.result c.as_taken.result s (Act.request (Request.take c.in-Take.proc)) c.as_taken.ensures c.take_answer.ensures.reply
    (take_short s.jobs s.id s.holding c.in-Take.proc) is)

pub returns-in-Enter-clause-joined : goal.returns-in-Enter-clause-joined
returns-in-Enter-clause-joined c = none_at Reply.entered c.args.self.now _ _ c.enter.result c.as_entered.result c.in-Enter.is c.as_entered.ensures refl

pub returns-in-Leave-clause-joined : goal.returns-in-Leave-clause-joined
returns-in-Leave-clause-joined c = none_at release_reply c.args.self.now _ _ c.take_release.result c.as_released.result c.in-Leave.is c.as_released.ensures refl

pub returns-in-Ask-clause-joined : goal.returns-in-Ask-clause-joined
returns-in-Ask-clause-joined c = none_at asked_reply c.args.self.now _ _ c.ask.result c.as_asked.result c.in-Ask.is c.as_asked.ensures refl

pub returns-in-Take-clause-joined : goal.returns-in-Take-clause-joined
returns-in-Take-clause-joined c = none_at taking_reply c.args.self.now _ _ c.take_answer.result c.as_taken.result c.in-Take.is c.as_taken.ensures refl

pub returns-in-Terminate-clause-joined : goal.returns-in-Terminate-clause-joined
returns-in-Terminate-clause-joined c =
    let s = c.args.self.now in
    let a : Act = Act.request (Request.terminate c.in-Terminate.proc) in
    joins_at c.as_ended.result s _ _ c.in-Terminate.is
    (sealed_told ended_reply s a c.in-Terminate.proc c.terminate.new.self (λ z. refl) (λ h. refl) c.terminate.result c.as_ended.result c.as_ended.ensures c.terminate.ensures.reply c.terminate.ensures.done
    (end_joined s c.in-Terminate.proc c.terminate.new.self reach.Near (λ z. z.near) (sealer_of s.holding c.in-Terminate.proc).level c.terminate.result c.terminate.ensures.reply c.terminate.ensures.done c.terminate.ensures.near)
    (end_joined s c.in-Terminate.proc c.terminate.new.self reach.Far (λ z. z.far) (sealer_of s.holding c.in-Terminate.proc).level c.terminate.result c.terminate.ensures.reply c.terminate.ensures.done c.terminate.ensures.far))

pub returns-in-Define-clause-joined : goal.returns-in-Define-clause-joined
returns-in-Define-clause-joined c =
    let s = c.args.self.now in
    let a : Act = Act.request (Request.define c.in-Define.name c.deref-in-Define.result.now) in
    joins_at c.as_defined.result s _ _ c.in-Define.is
    (subst (λ (l : List Proc). IfOk c.as_defined.result (λ acted. joins_in acted.joined ≡ joins s.jobs s.id s.holding (Act.request (Request.define c.in-Define.name l)))) c.deref-in-Define.ensures.value
    (sealed_told defined_reply s a host c.define_set.new.self (λ z. refl) (λ h. refl) c.define_set.result c.as_defined.result c.as_defined.ensures c.define_set.ensures.reply c.define_set.ensures.done
    (sets_joined s.holding c.define_set.new.self.holding reach.Near (λ z. z.near) c.define_set.result c.define_set.ensures.near)
    (sets_joined s.holding c.define_set.new.self.holding reach.Far (λ z. z.far) c.define_set.result c.define_set.ensures.far)))

pub returns-in-Delete-clause-joined : goal.returns-in-Delete-clause-joined
returns-in-Delete-clause-joined c =
    let s = c.args.self.now in
    let a : Act = Act.request (Request.delete c.in-Delete.name) in
    joins_at c.as_defined-in-Delete.result s _ _ c.in-Delete.is
    (sealed_told defined_reply s a host c.delete_set.new.self (λ z. refl) (λ h. refl) c.delete_set.result c.as_defined-in-Delete.result c.as_defined-in-Delete.ensures c.delete_set.ensures.reply c.delete_set.ensures.done
    (sets_joined s.holding c.delete_set.new.self.holding reach.Near (λ z. z.near) c.delete_set.result c.delete_set.ensures.near)
    (sets_joined s.holding c.delete_set.new.self.holding reach.Far (λ z. z.far) c.delete_set.result c.delete_set.ensures.far))

pub returns-in_ok-nudge-in-Nudge-clause-joined : goal.returns-in_ok-nudge-in-Nudge-clause-joined
returns-in_ok-nudge-in-Nudge-clause-joined c =
    let s = c.args.self.now in
    let a : Act = Act.request Request.nudge in
    c.reply_alone.ensures.joined ∙ sym (joins_nothing s.jobs s.id s.holding a refl) ∙ ap (λ (r : AskedRequest). joins s.jobs s.id s.holding (Act.request (request_of r))) (sym c.in-Nudge.is)

pub returns-in-Enter-clause-reply : goal.returns-in-Enter-clause-reply
returns-in-Enter-clause-reply c =
    let s = c.args.self.now in
    reply_at _ _ _ _ c.in-Enter.is
    (subst (λ (l : List Proc). RepliesAct acted_reply c.as_entered.result s (Act.request (Request.enter c.in-Enter.proc l c.in-Enter.collect))) c.deref.ensures.value
    (same_told Reply.entered joins_none c.enter.result c.as_entered.result s (Act.request (Request.enter c.in-Enter.proc c.deref.result.now c.in-Enter.collect)) c.as_entered.ensures c.enter.ensures.reply))

pub returns-in-Ask-clause-reply : goal.returns-in-Ask-clause-reply
returns-in-Ask-clause-reply c =
    let s = c.args.self.now in
    reply_at _ _ _ _ c.in-Ask.is
    (act_told asked_reply joins_none c.ask.result c.as_asked.result s (Act.request (Request.ask c.in-Ask.proc (get_of c.in-Ask.target c.in-Ask.key) c.in-Ask.mode)) c.as_asked.ensures c.ask.ensures.reply)

pub returns-in-Terminate-clause-reply : goal.returns-in-Terminate-clause-reply
returns-in-Terminate-clause-reply c =
    let s = c.args.self.now in
    reply_at _ _ _ _ c.in-Terminate.is
    (act_told ended_reply commit_joins c.terminate.result c.as_ended.result s (Act.request (Request.terminate c.in-Terminate.proc)) c.as_ended.ensures c.terminate.ensures.reply)

pub returns-in-Define-clause-reply : goal.returns-in-Define-clause-reply
returns-in-Define-clause-reply c =
    let s = c.args.self.now in
    reply_at _ _ _ _ c.in-Define.is
    (subst (λ (l : List Proc). RepliesAct acted_reply c.as_defined.result s (Act.request (Request.define c.in-Define.name l))) c.deref-in-Define.ensures.value
    (act_told defined_reply commit_joins c.define_set.result c.as_defined.result s (Act.request (Request.define c.in-Define.name c.deref-in-Define.result.now)) c.as_defined.ensures c.define_set.ensures.reply))

pub returns-in-Delete-clause-reply : goal.returns-in-Delete-clause-reply
returns-in-Delete-clause-reply c =
    let s = c.args.self.now in
    reply_at _ _ _ _ c.in-Delete.is
    (act_told defined_reply commit_joins c.delete_set.result c.as_defined-in-Delete.result s (Act.request (Request.delete c.in-Delete.name)) c.as_defined-in-Delete.ensures c.delete_set.ensures.reply)
