use Rattle.std.proofs.Common.{◌≡◌, ◌<◌, ◌+◌, ℕ, suc, arith, List, ◌++◌, Some, sym, ap, subst, ◌∙◌}
use Rattle.pmg_value.specs.declared.process.Proc.{Proc}
use Rattle.pmg_get.specs.declared.view.Mode.TheVariants as modes
use Rattle.pmg_dmodex.specs.Refreshes.{Refreshes}
use Rattle.pmg_node_parts.specs.Calls.{get_of}
use Rattle.pmg_node_parts.specs.Codes.{Calls}
use Rattle.pmg_node_model.specs.Acts.{Act, Request, waits_as}
use Rattle.pmg_node_model.specs.Choosing.{Out, asking_anew, asking_for}
use Rattle.pmg_node_model.specs.Holdings.{Get, call_of}
use Rattle.pmg_node_model.specs.declared.due.ToSend.{ToSend}
use Rattle.pmg_node_model.specs.declared.sent.Sent.{Sent}
use Rattle.pmg_node_model.proofs.KeptSettled.{parks_anew}
use Rattle.pmg_node.specs.Content.{server_of, AreOpen}
use Rattle.pmg_node.specs.Servers.{IsNode, Server, sent_by, after}
use Rattle.pmg_node.proofs.AskLemmas.{ask_free, number_left, park_sends, park_moved, parks_sent}
use Rattle.pmg_node.proofs.NodeKept.{node_stays}
use Rattle.pmg_node.proofs.ReplyOpen.{asked_open}
use Rattle.pmg_node.proofs.server.Server.refresh.Goals as goal
use Rattle.pmg_node.proofs.server.Server.refresh.Goals.{In_default}

pub overflow_add-number : goal.overflow_add-number
overflow_add-number c =
    let s = c.args.self.now in
    let left = number_left s.jobs s.id s.holding c.args.proc.now (get_of c.args.target.now c.args.key.now) c.requires.free c.requires.parks in
    let same : c.last_request-number.result ≡ s.holding.requests = c.last_request-number.ensures ∙ ap (λ (x : Server). x.holding.requests) c.self.view_is in
    omega (arith, left, same)

pub wait_anew-requires-clause-free : goal.wait_anew-requires-clause-free
wait_anew-requires-clause-free c =
    let s = c.args.self.now in
    let p = c.args.proc.now in
    ap (λ (x : Server). call_of x.holding p) c.self.view_is ∙ (ask_free s.jobs s.id s.holding p (get_of c.args.target.now c.args.key.now) modes.Refresh c.requires.free).idle

pub wait_anew-requires-clause-number : goal.wait_anew-requires-clause-number
wait_anew-requires-clause-number c =
    let s = c.args.self.now in
    subst (λ (n : ℕ). n < 18446744073709551615) (sym (ap (λ (x : Server). x.holding.requests) c.self.view_is))
    (number_left s.jobs s.id s.holding c.args.proc.now (get_of c.args.target.now c.args.key.now) c.requires.free c.requires.parks)

module _ (c : In_default) where
  abbrev p : Proc
  p = c.args.proc.now

  abbrev get : Get
  get = get_of c.args.target.now c.args.key.now

  abbrev s : Server
  s = c.args.self.now

  kept : IsNode s
  kept = subst IsNode c.self.view_is c.self.invariant.node

  number_is : c.last_request-number.result + 1 ≡ suc s.holding.requests
  number_is = let same : c.last_request-number.result ≡ s.holding.requests = c.last_request-number.ensures ∙ ap (λ (x : Server). x.holding.requests) c.self.view_is in omega (arith, same)

  due : c.ask_home_anew.new.dues.items ≡ asking_for s.jobs s.id s.holding (Some (waits_as s.holding.requests get modes.Refresh))
  due =
      c.in_ok-ask_home_anew.ensures
      ∙ ap (λ (ds : List ToSend). ds ++ asking_anew s.jobs s.id s.holding c.args.target.now (c.last_request-number.result + 1)) c.new-dues.ensures.items
      ∙ ap (asking_anew s.jobs s.id s.holding c.args.target.now) number_is

  pub sends_it : c.hand_out.new.out.items ≡ c.args.out.now.items ++ sent_by s (Act.request (Request.ask p get modes.Refresh))
  sends_it =
      c.in_ok-handed.ensures.frames
      ∙ ap (λ (o : Out). c.args.out.now.items ++ o.frames) (park_sends s _ get modes.Refresh _ c.self.view_is due)
      ∙ ap (λ (x : List Sent). c.args.out.now.items ++ x) (sym (parks_sent s p get modes.Refresh kept.server.settled c.requires.free c.requires.parks))

  pub moved : server_of c.self.inside.table c.self.inside.id c.self.inside.board c.self.inside.own c.wait_anew.new.calls c.wait_anew.new.held c.hand_out.new.marks
      ≡ after s (Act.request (Request.ask p get modes.Refresh))
  moved =
      park_moved s p get modes.Refresh kept.server.settled c.requires.free c.requires.parks _ _ c.hand_out.new.marks c.self.view_is
      (c.in_ok-handed.ensures.marks ∙ ap (λ (o : Out). o.marks) (park_sends s _ get modes.Refresh _ c.self.view_is due))
      (λ i. server_of c.self.inside.table c.self.inside.id c.self.inside.board c.self.inside.own (c.in_default.ensures.calls i) (c.in_default.ensures.held i) c.hand_out.new.marks)

  pub opens : AreOpen c.wait_anew.new.calls c.wait_anew.new.held.anew
  opens =
      subst (λ (x : Calls × Refreshes). AreOpen x.0 x.1) (λ i. (sym c.in_default.ensures.calls i, (sym c.in_default.ensures.held i).anew))
      (asked_open c.self.inside.calls c.self.inside.held.anew c.self.invariant.replies (λ q other k e. (c.self.invariant.node.server.holds.anew q other k e).1) p get
      (parks_anew s.jobs s.id s.holding get c.requires.parks).0)

pub invariant_of-self-in_default : goal.invariant_of-self-in_default
invariant_of-self-in_default c = record {
  same = c.self.invariant.same;
  told = c.self.invariant.told;
  node = subst IsNode (sym (moved c)) (node_stays (s c) (Act.request (Request.ask (p c) (get c) modes.Refresh)) (kept c));
  replies = opens c;
}

pub returns-clause-ok : goal.returns-clause-ok
returns-clause-ok c = moved c.before

pub returns-clause-sent : goal.returns-clause-sent
returns-clause-sent c = sends_it c.before
