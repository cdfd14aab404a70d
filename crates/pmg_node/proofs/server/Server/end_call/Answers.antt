use Rattle.std.proofs.Common.{◌≡◌, refl, sym, ap, subst, ◌∙◌}
use Rattle.std.specs.FinMap as finite
use Rattle.std.specs.Option.{option_map}
use Rattle.pmg_value.specs.declared.process.Proc.{Proc}
use Rattle.pmg_node_model.specs.Acts.{Act, Done, done_as, acts}
use Rattle.pmg_node_model.specs.Holdings.{call_of, uncalled}
use Rattle.pmg_node_parts.specs.Codes as codes
use Rattle.pmg_node.specs.Content.{server_of}
use Rattle.pmg_node.specs.CallEnds.{ending_request, over_reply, standing_reply, told_at}
use Rattle.pmg_node.specs.Servers.{Server, IsNode, after}
use Rattle.pmg_node.proofs.ActLemmas.{refused_reply, refused_after, refused_sent}
use Rattle.pmg_node.proofs.CallEndLemmas.{end_barred, end_waits, end_goes, end_silent}
use Rattle.pmg_node.proofs.NodeKept.{node_stays}
use Rattle.pmg_node.proofs.OpenLemmas.{still_open}
use Rattle.pmg_node.proofs.SilentLemmas.{after_is, sent_none, without_call}
use Rattle.pmg_node.proofs.server.Server.end_call.Goals as goal

pub returns-in-Err : goal.returns-in-Err
returns-in-Err c =
    let s = c.args.self.now in
    let p = c.args.proc.now in
    let a : Act = Act.request (ending_request c.args.end p) in
    let is = end_barred s.jobs s.id s.holding p c.args.end c.in-Err.refusal (sym c.check_caller.ensures ∙ c.in-Err.is) in
    record { reply = sym (refused_reply s a c.in-Err.refusal is); done = sym (refused_after s a c.in-Err.refusal is); silent = refused_sent s a c.in-Err.refusal is }

pub returns-in-Some : goal.returns-in-Some
returns-in-Some c =
    let s = c.args.self.now in
    let p = c.args.proc.now in
    let a : Act = Act.request (ending_request c.args.end p) in
    let kept = subst IsNode c.self.view_is c.self.invariant.node in
    let call = c.get.ensures ∙ ap (λ (x : Server). finite.get x.holding.calls p) c.self.view_is in
    let told = ap (standing_reply c.args.end) (sym call) ∙ sym c.stand.ensures ∙ ap (option_map (told_at c.args.end)) c.in-Some.is in
    let is = end_waits s.jobs s.id s.holding p c.args.end kept.server.settled (sym c.check_caller.ensures ∙ c.in_default.is) (told_at c.args.end c.in-Some.told) told in
    let silent = end_silent s.jobs s.id s.holding p c.args.end s.marks in
    record { reply = sym (ap (λ (d : Done). d.reply) is); done = sym (after_is s a silent _ is); silent = sent_none s a silent }

-- what the call came to is told, and the process is in none any more
module _ (c : goal.After-over) where
  abbrev s : Server
  s = c.args.self.now

  abbrev p : Proc
  p = c.args.proc.now

  abbrev a : Act
  a = Act.request (ending_request c.args.end p)

  is : acts s.jobs s.id s.holding a ≡ done_as (over_reply c.args.end (call_of s.holding p)) (uncalled s.holding p)
  is =
      let kept = subst IsNode c.self.view_is c.self.invariant.node in
      let call = c.get.ensures ∙ ap (λ (x : Server). finite.get x.holding.calls p) c.self.view_is in
      end_goes s.jobs s.id s.holding p c.args.end kept.server.settled (sym c.check_caller.ensures ∙ c.in_default.is)
      (ap (standing_reply c.args.end) (sym call) ∙ sym c.stand.ensures ∙ ap (option_map (told_at c.args.end)) c.in_default-stand.is)

  moved : server_of c.self.inside.table c.self.inside.id c.self.inside.board c.self.inside.own c.remove.new.self c.self.inside.held c.self.inside.marks ≡ after s a
  moved =
      ap (λ (m : codes.Calls). server_of c.self.inside.table c.self.inside.id c.self.inside.board c.self.inside.own m c.self.inside.held c.self.inside.marks) c.remove.ensures.rest
      ∙ ap (λ (x : Server). without_call x p) c.self.view_is
      ∙ sym (after_is s a (end_silent s.jobs s.id s.holding p c.args.end s.marks) _ is)

pub invariant_of-self : goal.invariant_of-self
invariant_of-self c =
    let kept = subst IsNode c.self.view_is c.self.invariant.node in
    let anew = c.self.inside.held.anew in
    record {
      same = c.self.invariant.same;
      told = c.self.invariant.told;
      node = subst IsNode (sym (moved c)) (node_stays (s c) (a c) kept);
      replies = still_open _ (s c) c.self.view_is (a c) kept _ (moved c) refl anew anew refl c.self.invariant.replies;
    }

pub returns : goal.returns
returns c = record {
  reply = c.over.ensures ∙ ap (over_reply c.args.end) (c.remove.ensures.call ∙ ap (λ (x : Server). finite.get x.holding.calls (p c)) c.self.view_is) ∙ sym (ap (λ (d : Done). d.reply) (is c));
  done = moved c;
  silent = sent_none (s c) (a c) (end_silent (s c).jobs (s c).id (s c).holding (p c) c.args.end (s c).marks);
}
