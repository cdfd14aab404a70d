use Rattle.std.proofs.Common.{◌≡◌, List, ◌++◌, refl, sym, ap, subst, ◌∙◌}
use Rattle.std.specs.FinMap as finite
use Rattle.pmg_get.specs.declared.view.Mode.TheVariants as modes
use Rattle.pmg_node_model.specs.Acts.{Act, Request}
use Rattle.pmg_node_parts.specs.Calls.{get_of}
use Rattle.pmg_node_parts.specs.Owns.{sealed_of}
use Rattle.pmg_node_model.specs.Choosing.{Out, asking_home, sends}
use Rattle.pmg_node.specs.Content.{server_of}
use Rattle.pmg_node_model.specs.Holdings.{CallState, Get, call_of}
use Rattle.pmg_node.specs.Servers.{IsNode, Server, after}
use Rattle.pmg_node_model.specs.declared.due.ToSend.{ToSend}
use Rattle.pmg_node_model.specs.declared.sent.Sent.{Sent}
use Rattle.pmg_node.proofs.AskLemmas.{ask_free, park_out, park_sends, park_moved, parks_sent}
use Rattle.pmg_node.proofs.NodeKept.{node_stays}
use Rattle.pmg_node.proofs.OpenLemmas.{still_open}
use Rattle.pmg_node.proofs.server.Server.park.Goals as goal
use Rattle.pmg_node.proofs.server.Server.park.Goals.{In_default}

pub put-requires : goal.put-requires
put-requires c =
    let s = c.args.self.now in
    let p = c.args.proc.now in
    let get = get_of c.args.target.now c.args.key.now in
    ap (finite.get c.self.inside.calls) c.in_ok-asker.ensures
    ∙ ap (λ (x : Server). call_of x.holding p) c.self.view_is
    ∙ (ask_free s.jobs s.id s.holding p get modes.Wait c.requires.free).idle

module _ (c : In_default) where
  abbrev get : Get
  get = get_of c.args.target.now c.args.key.now

  kept : IsNode c.args.self.now
  kept = subst IsNode c.self.view_is c.self.invariant.node

  pub goes_out : sends (sealed_of c.self.inside.own) c.self.inside.marks c.ask_home.new.dues.items ≡ park_out get modes.Wait c.args.self.now
  goes_out =
      let s = c.args.self.now in
      park_sends s _ get modes.Wait _ c.self.view_is
      (c.in_ok-ask_home.ensures ∙ ap (λ (ds : List ToSend). ds ++ asking_home s.jobs s.id s.holding c.args.target.now) c.new-dues.ensures.items)

  pub moved : server_of c.self.inside.table c.self.inside.id c.self.inside.board c.self.inside.own c.put.new.self c.self.inside.held c.hand_out.new.marks
      ≡ after c.args.self.now (Act.request (Request.ask c.args.proc.now get modes.Wait))
  moved =
      let i = c.self.inside in
      let calls =
      c.in_default.ensures.ok
      ∙ (λ j. finite.insert i.calls (c.in_ok-asker.ensures j) (CallState.parked (get_of (c.in_ok-copy.ensures j) (c.in_ok-copy-2.ensures j)))) in
      park_moved c.args.self.now c.args.proc.now get modes.Wait kept.server.settled c.requires.free c.requires.parks _ _ c.hand_out.new.marks c.self.view_is
      (c.in_ok-handed.ensures.marks ∙ ap (λ (o : Out). o.marks) goes_out) (λ j. server_of i.table i.id i.board i.own (calls j) i.held c.hand_out.new.marks)

pub invariant_of-self-in_default : goal.invariant_of-self-in_default
invariant_of-self-in_default c =
    let s = c.args.self.now in
    let act = Act.request (Request.ask c.args.proc.now (get c) modes.Wait) in
    let anew = c.self.inside.held.anew in
    record {
      same = c.self.invariant.same;
      told = c.self.invariant.told;
      node = subst IsNode (sym (moved c)) (node_stays s act (kept c));
      replies = still_open _ s c.self.view_is act (kept c) _ (moved c) refl anew anew refl c.self.invariant.replies;
    }

pub returns-clause-ok : goal.returns-clause-ok
returns-clause-ok c = moved c.before

pub returns-clause-sent : goal.returns-clause-sent
returns-clause-sent c =
    let out = c.args.out.now.items in
    let waits = parks_sent c.args.self.now c.args.proc.now (get c.before) modes.Wait (kept c.before).server.settled c.requires.free c.requires.parks in
    c.in_ok-handed.ensures.frames ∙ ap (λ (o : Out). out ++ o.frames) (goes_out c.before) ∙ ap (λ (x : List Sent). out ++ x) (sym waits)
