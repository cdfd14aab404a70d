use Rattle.std.proofs.Common.{◌≡◌, is_some, List, ◌++◌, Ok, sym, ap, subst, refl, ◌∙◌, rules}
use Rattle.std.specs.FinMap as finite
use Rattle.std.proofs.lemmas.Result.{IfOk-at_ok}
use Rattle.pmg_value.specs.CheckOrder.{first_of}
use Rattle.pmg_value.specs.declared.process.Proc.{Proc}
use Rattle.pmg_scope.specs.declared.scope.Reach.TheVariants as reach
use Rattle.pmg_commit.specs.Sealed.{ended_with, piece_at}
use Rattle.pmg_fence.specs.Codes.{Known}
use Rattle.pmg_dmodex.specs.Levels.{without_below}
use Rattle.pmg_dmodex.specs.Requests.{Requests}
use Rattle.pmg_node_model.specs.Acts.{Act, Request, Reply, caller_cause}
use Rattle.pmg_node.specs.Content.{server_of}
use Rattle.pmg_node.specs.Endings.{table_ended}
use Rattle.pmg_node_model.specs.Holdings.{sealer_of}
use Rattle.pmg_node_parts.specs.Owns.{LocalCommits, sealed_of}
use Rattle.pmg_node.specs.Servers.{Server, IsNode, reply_to, sent_by, after}
use Rattle.pmg_node_model.specs.declared.sent.Sent.{Sent}
use Rattle.pmg_node_parts.specs.Answered.{ArePlain}
use Rattle.pmg_node_parts.specs.Codes.{Calls}
use Rattle.pmg_node_parts.proofs.AnswerLemmas.{plain_calls}
use Rattle.pmg_node.proofs.ActLemmas.{refused}
use Rattle.pmg_node.proofs.EndLemmas.{MayEnd, put_there, own_ended_level, may_end, end_refused, end_refuses, end_accepted, level_rises, piece_is, ended_reply, ended_sent, ended_after}
use Rattle.pmg_node.proofs.NodeKept.{node_stays}
use Rattle.pmg_node.proofs.OpenLemmas.{still_open}
use Rattle.pmg_node.proofs.server.Server.terminate.Goals as goal

pub returns-in-Err : goal.returns-in-Err
returns-in-Err c =
    let s = c.args.self.now in
    let p = c.args.proc.now in
    let e = c.in-Err.refusal in
    let judged = sym c.check_caller.ensures ∙ c.in-Err.is in
    let its = refused s (Act.request (Request.terminate p)) e (end_refused s.jobs s.id s.holding p e judged) c.args.out.now.items in
    record {
      reply = end_refuses s p e judged;
      done = λ _. its.done;
      sent = λ _. its.sent;
      memory = λ _. refl;
      unsent = λ _. refl;
      near = search rules;
      far = search rules;
    }

pub returns-in_default-end-clause-reply : goal.returns-in_default-end-clause-reply
returns-in_default-end-clause-reply c = end_accepted c.args.self.now c.args.proc.now (sym c.check_caller.ensures ∙ c.in_default.is)

may : (c : goal.After-end-arg-3-1)
    → let i = c.self.inside in let t = server_of i.table i.id i.board i.own i.calls i.held i.marks in MayEnd t.jobs t.id t.holding c.args.proc.now
may c =
    let i = c.self.inside in
    let t : Server = server_of i.table i.id i.board i.own i.calls i.held i.marks in
    may_end t.jobs t.id t.holding c.args.proc.now
    (ap (λ (x : Server). first_of (caller_cause x.jobs x.id x.holding c.args.proc.now) (tt {0})) c.self.view_is ∙ sym c.check_caller.ensures ∙ c.in_default.is)

pub end-requires-clause-there : goal.end-requires-clause-there
end-requires-clause-there c = c.self.invariant.node.sealers c.args.proc.now (may c).own

pub end-requires-clause-live : goal.end-requires-clause-live
end-requires-clause-live c = (may c).live

pub publish-told-requires-clause-level : goal.publish-told-requires-clause-level
publish-told-requires-clause-level c =
    let s = c.args.self.now in
    let p = c.args.proc.now in
    let may = may_end s.jobs s.id s.holding p (sym c.check_caller.ensures ∙ c.in_default.is) in
    level_rises c.level-from.result (sealed_of c.self.inside.own p).level (sealed_of c.end.new.own p).level c.level-from.ensures.value
    (ap (λ (o : LocalCommits). (sealed_of o p).level) c.in-Ok.ensures.own ∙ own_ended_level c.self.inside.own p may.client)

pub keep_end-kept-requires-clause-there : goal.keep_end-kept-requires-clause-there
keep_end-kept-requires-clause-there c =
    let p = c.args.proc.now in
    let own = c.self.inside.own in
    ap (λ (o : LocalCommits). is_some (finite.get o.sealers p)) c.in-Ok.ensures.own ∙ put_there own.sealers p (ended_with (sealed_of own p))

pub returns-in_default-kept-clause-reply : goal.returns-in_default-kept-clause-reply
returns-in_default-kept-clause-reply c = end_accepted c.args.self.now c.args.proc.now (sym c.check_caller.ensures ∙ c.in_default.is)

pub publish-told-requires-clause-plain : goal.publish-told-requires-clause-plain
publish-told-requires-clause-plain c =
    let s = c.args.self.now in
    let kept = subst IsNode c.self.view_is c.self.invariant.node in
    subst (λ (x : Server). ArePlain x.holding.calls) (sym c.self.view_is) (plain_calls s.jobs s.id s.holding kept.server.settled)

-- ---- the process ends

module _ (c : goal.Joined-remove) where
  abbrev s : Server
  s = server_of c.self.inside.table c.self.inside.id c.self.inside.board c.self.inside.own c.self.inside.calls c.self.inside.held c.self.inside.marks

  abbrev p : Proc
  p = c.args.proc.now

  abbrev act : Act
  act = Act.request (Request.terminate p)

  free : first_of (caller_cause s.jobs s.id s.holding p) (tt {0}) ≡ Ok tt
  free = ap (λ (x : Server). first_of (caller_cause x.jobs x.id x.holding p) (tt {0})) c.self.view_is ∙ sym c.check_caller.ensures ∙ c.in_default.is

  told : c.publish-told.result ≡ Ok c.in-Ok-kept.published
  told = sym c.keep_end-kept.ensures.same ∙ c.in-Ok-kept.is

  moved : server_of c.keep_end-kept.new.table c.self.inside.id c.publish-told.new.board c.keep_end-kept.new.own c.remove.new.self c.keep_published-ended.new.held c.publish-told.new.marks
      ≡ after c.args.self.now act
  moved =
      (λ i. server_of (c.in-Ok-kept.ensures.table i) c.self.inside.id c.publish-told.new.board (c.in-Ok-kept.ensures.own i) c.remove.new.self c.keep_published-ended.new.held c.publish-told.new.marks)
      ∙ ended_after s p free c.self.invariant.node.server c.end.new.table.jobs c.end.new.own c.end.new.table.fences c.level-from.result c.in-Ok-kept.published.answers.items c.in-Ok.dues.items
      (ap (λ (k : Known). k.jobs) c.in-Ok.ensures.table) c.in-Ok.ensures.own (ap (λ (k : Known). k.fences) c.in-Ok.ensures.table) c.level-from.ensures.value (IfOk-at_ok _ told c.publish-told.ensures.answers) c.in-Ok.ensures.dues
      c.publish-told.new.board.near c.publish-told.new.board.far c.remove.new.self c.keep_published-ended.new.held.held c.publish-told.new.marks c.keep_published-ended.result.level c.keep_published-ended.new.held.anew.last
      (IfOk-at_ok _ told c.publish-told.ensures.joined_near) (IfOk-at_ok _ told c.publish-told.ensures.joined_far) (c.remove.ensures.rest ∙ ap (λ (m : Calls). finite.remove m p) c.keep_published-ended.ensures.calls)
      (c.keep_published-ended.ensures.level ∙ ap (λ (o : LocalCommits). (sealed_of o p).level) c.in-Ok-kept.ensures.own) (ap (λ (r : Requests). r.held) c.keep_published-ended.ensures.held ∙ ap (without_below s.holding.held p) (sym c.keep_published-ended.ensures.level))
      (ap (λ (r : Requests). r.anew.last) c.keep_published-ended.ensures.held) (IfOk-at_ok _ told c.publish-told.ensures.marks)
      ∙ ap (λ (x : Server). after x act) c.self.view_is

pub invariant_of-self-2 : goal.invariant_of-self-2
invariant_of-self-2 c =
    let kept = subst IsNode c.self.view_is c.self.invariant.node in
    let left : c.keep_end-kept.new.table ≡ table_ended c.self.inside.table (p c) (ended_with (sealed_of c.self.inside.own (p c))).level = c.in-Ok-kept.ensures.table ∙ c.in-Ok.ensures.table in
    record {
      same = ap (λ (k : Known). k.node) left ∙ c.self.invariant.same;
      told = ap (λ (k : Known). k.waiting) left;
      node = subst IsNode (sym (moved c)) (node_stays c.args.self.now (act c) kept);
      replies = still_open (s c) c.args.self.now c.self.view_is (act c) kept _ (moved c) (ap (λ (r : Requests). r.anew.last) c.keep_published-ended.ensures.held) c.self.inside.held.anew c.keep_published-ended.new.held.anew
          (ap (λ (r : Requests). r.anew) c.keep_published-ended.ensures.held) c.self.invariant.replies;
    }

pub returns : goal.returns
returns c =
    let from = c.level-from.result in
    let answers = c.in-Ok-kept.published.answers.items in
    let jobs = ap (λ (k : Known). k.jobs) c.in-Ok.ensures.table in
    let fences = ap (λ (k : Known). k.fences) c.in-Ok.ensures.table in
    let are = IfOk-at_ok _ (told c) c.publish-told.ensures.answers in
    let kept = c.self.invariant.node.server in
    let table = c.end.new.table in
    let dues = c.in-Ok.dues.items in
    record {
      reply = ap (λ (x : Server). reply_to x (act c)) (sym c.self.view_is)
          ∙ ended_reply (s c) (p c) (free c) kept table.jobs c.end.new.own table.fences from answers dues jobs c.in-Ok.ensures.own fences c.level-from.ensures.value are c.in-Ok.ensures.dues
          ∙ ap Reply.ended (sym (c.keep_published-ended.ensures.level ∙ ap (λ (o : LocalCommits). (sealed_of o (p c)).level) c.in-Ok-kept.ensures.own));
      done = λ _. moved c;
      sent = λ _. IfOk-at_ok _ (told c) c.publish-told.ensures.sent
          ∙ ap (λ (fs : List Sent). c.args.out.now.items ++ fs)
          (ended_sent (s c) (p c) (free c) kept table.jobs c.end.new.own table.fences from answers dues jobs c.in-Ok.ensures.own fences c.level-from.ensures.value are c.in-Ok.ensures.dues)
          ∙ ap (λ (x : Server). c.args.out.now.items ++ sent_by x (act c)) c.self.view_is;
      memory = search rules;
      unsent = search rules;
      near = c.keep_published-ended.ensures.near ∙ IfOk-at_ok _ (told c) c.publish-told.ensures.near
          ∙ piece_is (s c) (p c) (free c) kept table.jobs c.end.new.own table.fences from answers dues jobs c.in-Ok.ensures.own fences c.level-from.ensures.value are c.in-Ok.ensures.dues reach.Near
          ∙ ap (λ (x : Server). piece_at (ended_with (sealer_of x.holding (p c))) (sealer_of x.holding (p c)).level reach.Near) c.self.view_is;
      far = c.keep_published-ended.ensures.far ∙ IfOk-at_ok _ (told c) c.publish-told.ensures.far
          ∙ piece_is (s c) (p c) (free c) kept table.jobs c.end.new.own table.fences from answers dues jobs c.in-Ok.ensures.own fences c.level-from.ensures.value are c.in-Ok.ensures.dues reach.Far
          ∙ ap (λ (x : Server). piece_at (ended_with (sealer_of x.holding (p c))) (sealer_of x.holding (p c)).level reach.Far) c.self.view_is;
    }
