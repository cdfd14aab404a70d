use Rattle.std.proofs.Common.{◌≡◌, List, ◌++◌, Ok, Err, refl, sym, ap, subst, ◌∙◌, rules}
use Rattle.std.proofs.lemmas.Result.{err_from_is_err_and}
use Rattle.pmg_value.specs.Answers.{Fails}
use Rattle.pmg_value.specs.declared.process.Proc.{Proc}
use Rattle.pmg_scope.specs.declared.scope.Reach.TheVariants as reach
use Rattle.pmg_commit.specs.Sealed.{Sealed, piece_at}
use Rattle.pmg_commit.specs.TakenBack.{sealer_back}
use Rattle.pmg_dmodex.specs.Requests.{Requests}
use Rattle.pmg_node_model.specs.Choosing.{sends}
use Rattle.pmg_node_model.specs.Holdings.{sealer_of}
use Rattle.pmg_node_model.specs.declared.due.ToSend.{ToSend}
use Rattle.pmg_node_model.specs.declared.sent.Sent.{Sent}
use Rattle.pmg_node_parts.specs.Answered.{ArePlain}
use Rattle.pmg_node_parts.specs.Owns.{LocalCommits, sealed_of}
use Rattle.pmg_node_parts.specs.Telling.{settling_by}
use Rattle.pmg_node_parts.proofs.AnswerLemmas.{plain_calls}
use Rattle.pmg_node.specs.Content.{server_of}
use Rattle.pmg_node.specs.Sealing.{CanSealNext, judged_before, last_sealed, reply_sealed, sealed_next, sealer_named, sealing_act, sealing_answer, sealing_reply, told_besides}
use Rattle.pmg_node.specs.Servers.{Server, IsNode, reply_to, sent_by, after}
use Rattle.pmg_node.specs.declared.sealing.SealingAct.{SealingAct}
use Rattle.pmg_node.proofs.EndLemmas.{own_in}
use Rattle.pmg_node.proofs.FailLemmas.{IsErred, erred}
use Rattle.pmg_node.specs.declared.server.Server.TheInside.{Inside}
use Rattle.pmg_node.proofs.NodeInside.{server_in}
use Rattle.pmg_node.proofs.NodeKept.{node_stays}
use Rattle.pmg_node.proofs.OpenLemmas.{still_open}
use Rattle.pmg_node.proofs.SealedActs.{IsPublished}
use Rattle.pmg_node.proofs.SealingLemmas.{IsActed, acted, can_seal_next, level_above, seal_undone, sealing_accepted, sealing_barred, sealing_free, sealing_over}
use Rattle.pmg_node.proofs.server.Server.seal.Goals as goal

-- ---- the act is refused

pub returns-in-Err : goal.returns-in-Err
returns-in-Err c =
    let s = c.args.self.now in
    let a = c.args.act.now in
    let e = c.in-Err.refusal in
    let its = erred s (sealing_act a) e (sealing_barred s a e (sym c.check_sealing.ensures ∙ c.in-Err.is)) (Err e) refl (sealing_reply a) (sealing_accepted s a) c.args.out.now.items in
    record { reply = its.reply; done = its.done; sent = its.sent; near = tt; far = tt; memory = λ _. refl; unsent = λ _. refl }

over : (c : goal.After-drop-host) → IsErred c.args.self.now (sealing_act c.args.act.now) (sealing_reply c.args.act.now) c.from_residual.result c.args.out.now.items
over c =
    let s = c.args.self.now in
    let a = c.args.act.now in
    let e = c.in_err-before.field-0.0 in
    let p = err_from_is_err_and c.from_residual.result c.from_residual.ensures.1 in
    let fails = subst (λ (x : Server). Fails e (sealing_answer (own_in x.holding) a)) c.self.view_is c.in_err-before.ensures.before in
    erred s (sealing_act a) e (sealing_over s a e (sym c.check_sealing.ensures ∙ c.in_default.is) fails) c.from_residual.result (p.1 ∙ ap Err p.2) (sealing_reply a) (sealing_accepted s a)
    c.args.out.now.items

pub returns-in_err-before-clause-reply : goal.returns-in_err-before-clause-reply
returns-in_err-before-clause-reply c = (over c).reply

pub returns-in_err-before-clause-done : goal.returns-in_err-before-clause-done
returns-in_err-before-clause-done c answered =
    let i = c.self.inside in
    ap (λ (o : LocalCommits). server_of i.table i.id i.board o i.calls i.held i.marks) c.in_err-before.ensures.err ∙ c.self.view_is ∙ (over c).done answered

pub returns-in_err-before-clause-sent : goal.returns-in_err-before-clause-sent
returns-in_err-before-clause-sent c = (over c).sent

-- ---- the act is judged, and what it seals is published

-- so of the node by its fields
module _ (inside : Inside) (s : Server) (view : server_in inside ≡ s) (act : SealingAct) (free : judged_before s.jobs s.id s.holding act ≡ Ok tt) where
  judged_in : judged_before inside.table.jobs inside.id (server_in inside).holding act ≡ Ok tt
  judged_in = ap (λ (x : Server). judged_before x.jobs x.id x.holding act) view ∙ free

  can_in : IsNode (server_in inside) → CanSealNext inside.table.jobs inside.own act
  can_in node = can_seal_next (server_in inside) node act judged_in

pub seal_due-requires : goal.seal_due-requires
seal_due-requires c = can_in c.self.inside c.args.self.now c.self.view_is c.args.act.now (sym c.check_sealing.ensures ∙ c.in_default.is) c.self.invariant.node

pub publish-requires-clause-level : goal.publish-requires-clause-level
publish-requires-clause-level c =
    let can = can_in c.self.inside c.args.self.now c.self.view_is c.args.act.now (sym c.check_sealing.ensures ∙ c.in_default.is) c.self.invariant.node in
    level_above c.self.inside.table.jobs c.self.inside.own c.args.act.now can c.seal_due.new.own c.in_ok-before.ensures.ok c.level-from.result c.sealer-proc.result.now
    c.sealer-proc.ensures c.level-from.ensures.value

pub publish-requires-clause-plain : goal.publish-requires-clause-plain
publish-requires-clause-plain c =
    let s = c.args.self.now in
    let kept = subst IsNode c.self.view_is c.self.invariant.node in
    subst (λ (x : Server). ArePlain x.holding.calls) (sym c.self.view_is) (plain_calls s.jobs s.id s.holding kept.server.settled)

-- ---- it is taken back

back : (c : goal.After-drop-host-in_default-publish)
    → server_of c.self.inside.table c.self.inside.id c.publish.new.board c.unseal.new.own c.self.inside.calls c.self.inside.held c.publish.new.marks ≡ server_in c.self.inside
back c =
    let i = c.self.inside in
    let can = can_in i c.args.self.now c.self.view_is c.args.act.now (sym c.check_sealing.ensures ∙ c.in_default.is) c.self.invariant.node in
    let own = seal_undone i.table.jobs i.own c.args.act.now can c.seal_due.new.own c.in_ok-before.ensures.ok c.unseal.new.own _ c.unseal.ensures c.in_ok-before.ensures.before in
    λ j. server_of i.table i.id (record { near = c.in_default-publish.ensures.near_err j; far = c.in_default-publish.ensures.far_err j }) (own j) i.calls i.held
    (c.in_default-publish.ensures.marks_err j)

pub invariant_of-self-in_default-publish : goal.invariant_of-self-in_default-publish
invariant_of-self-in_default-publish c =
    record { same = c.self.invariant.same; told = c.self.invariant.told; node = subst IsNode (sym (back c)) c.self.invariant.node; replies = c.self.invariant.replies }

pub returns-in_default-publish-clause-reply : goal.returns-in_default-publish-clause-reply
returns-in_default-publish-clause-reply c =
    let s = c.args.self.now in
    let a = c.args.act.now in
    let was : Sealed = sealer_back (last_sealed c.seal_due.new.own a) c.in_ok-before.before in
    let fits = subst (λ (x : Server). sealing_answer (own_in x.holding) a ≡ Ok was) c.self.view_is c.in_ok-before.ensures.before in
    sealing_accepted s a (sealing_free s a was (sym c.check_sealing.ensures ∙ c.in_default.is) fits)

pub returns-in_default-publish-clause-memory : goal.returns-in_default-publish-clause-memory
returns-in_default-publish-clause-memory c = λ _. back c ∙ c.self.view_is

-- ---- it is kept

module _ (c : goal.After-drop-host-2) where
  abbrev a : SealingAct
  a = c.args.act.now

  -- the node as it was
  abbrev was : Server
  was = server_in c.self.inside

  -- what own processes sealed then, and the node that is left
  abbrev own : LocalCommits
  own = c.seal_due.new.own

  abbrev left : Server
  left = server_of c.self.inside.table c.self.inside.id c.publish.new.board own c.keep_published.new.calls c.keep_published.new.held c.publish.new.marks

  from_is : c.level-from.result ≡ (sealer_of was.holding (sealer_named a)).level
  from_is = c.level-from.ensures.value ∙ ap (λ (q : Proc). (sealed_of c.self.inside.own q).level) c.sealer-proc.ensures

  told_is : ◌≡◌ {A = Proc × List ToSend} (c.sealer-proc.result.now, c.in_ok-before.dues.items) (sealer_named a, told_besides was.jobs was.id a (sealed_of own))
  told_is = λ i. (c.sealer-proc.ensures i, c.in_ok-before.ensures.dues i)

  published : IsPublished was (sealer_named a) own c.level-from.result c.in-Ok.published.answers.items (told_besides was.jobs was.id a (sealed_of own)) left
  published =
      subst (λ (x : Proc × List ToSend). IsPublished was x.0 own c.level-from.result c.in-Ok.published.answers.items x.1 left) told_is (record {
        jobs = refl;
        id = refl;
        near = c.in-Ok.ensures.joined_near;
        far = c.in-Ok.ensures.joined_far;
        sealers = refl;
        sets = refl;
        table = refl;
        calls = c.keep_published.ensures.calls;
        held = ap (λ (r : Requests). r.held) c.keep_published.ensures.held;
        requests = ap (λ (r : Requests). r.anew.last) c.keep_published.ensures.held;
        marks = c.in-Ok.ensures.marks;
        found = c.in-Ok.ensures.answers;
      })

  its : IsActed was a own (sealed_next was.jobs c.self.inside.own a) left
  its =
      let judged = judged_in c.self.inside c.args.self.now c.self.view_is a (sym c.check_sealing.ensures ∙ c.in_default.is) in
      acted was c.self.invariant.node a judged _ c.in_ok-before.ensures.before own c.in_ok-before.ensures.ok c.level-from.result from_is c.in-Ok.published.answers.items left published

  level_is : c.keep_published.result.level ≡ (sealed_next was.jobs c.self.inside.own a).level
  level_is = c.keep_published.ensures.level ∙ ap (λ (q : Proc). (sealed_of own q).level) c.sealer-proc.ensures ∙ ap (λ (z : Sealed). z.level) its.now

  began : c.level-from.result ≡ (sealer_of c.args.self.now.holding (sealer_named a)).level
  began = from_is ∙ ap (λ (x : Server). (sealer_of x.holding (sealer_named a)).level) c.self.view_is

pub invariant_of-self-2 : goal.invariant_of-self-2
invariant_of-self-2 c = record {
  same = c.self.invariant.same;
  told = c.self.invariant.told;
  node = subst IsNode (sym (its c).moved) (node_stays (was c) (sealing_act (a c)) c.self.invariant.node);
  replies = still_open (was c) (was c) refl (sealing_act (a c)) c.self.invariant.node (left c) (its c).moved (ap (λ (r : Requests). r.anew.last) c.keep_published.ensures.held)
      c.self.inside.held.anew c.keep_published.new.held.anew (ap (λ (r : Requests). r.anew) c.keep_published.ensures.held) c.self.invariant.replies;
}

pub returns : goal.returns
returns c =
    let out = c.args.out.now.items in
    let sealer = sealed_of (own c) in
    record {
      reply = ap (λ (x : Server). reply_to x (sealing_act (a c))) (sym c.self.view_is) ∙ (its c).told ∙ ap (reply_sealed (a c)) (sym (level_is c));
      done = λ _. (its c).moved ∙ ap (λ (x : Server). after x (sealing_act (a c))) c.self.view_is;
      sent = λ _. c.in-Ok.ensures.sent
          ∙ (λ i. out ++ (sends sealer c.self.inside.marks (settling_by sealer c.self.inside.held.held (told_is c i).0 ++ (told_is c i).1)).frames)
          ∙ ap (λ (x : List Sent). out ++ x) (its c).sent
          ∙ ap (λ (x : Server). out ++ sent_by x (sealing_act (a c))) c.self.view_is;
      near = c.keep_published.ensures.near ∙ c.in-Ok.ensures.near ∙ (λ i. piece_at (sealer (c.sealer-proc.ensures i)) (began c i) reach.Near);
      far = c.keep_published.ensures.far ∙ c.in-Ok.ensures.far ∙ (λ i. piece_at (sealer (c.sealer-proc.ensures i)) (began c i) reach.Far);
      memory = search rules;
      unsent = search rules;
    }
