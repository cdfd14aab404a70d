use Rattle.std.proofs.Common.{List, ◌++◌, sym, ap, subst, ◌∙◌}
use Rattle.pmg_node_model.specs.Acts.{Act, Request}
use Rattle.pmg_node_model.specs.Choosing.{Out, nudging}
use Rattle.pmg_node.specs.Servers.{IsNode}
use Rattle.pmg_node_model.specs.declared.due.ToSend.{ToSend}
use Rattle.pmg_node_model.specs.declared.sent.Sent.{Sent}
use Rattle.pmg_node.proofs.FrameLemmas.{with_marks}
use Rattle.pmg_node.proofs.NodeMarked.{content_after}
use Rattle.pmg_node.proofs.NudgeLemmas.{nudge_sends, nudge_reply, nudge_after, nudge_sent}
use Rattle.pmg_node.proofs.server.Server.nudge.Goals as goal

pub returns-in_err-ask_all-clause-reply : goal.returns-in_err-ask_all-clause-reply
returns-in_err-ask_all-clause-reply c = nudge_reply c.args.self.now (subst IsNode c.self.view_is c.self.invariant.node).server.settled

pub returns-in_err-hand_out-clause-reply : goal.returns-in_err-hand_out-clause-reply
returns-in_err-hand_out-clause-reply c = nudge_reply c.args.self.now (subst IsNode c.self.view_is c.self.invariant.node).server.settled

pub returns-clause-reply : goal.returns-clause-reply
returns-clause-reply c = nudge_reply c.args.self.now (subst IsNode c.self.view_is c.self.invariant.node).server.settled

pub returns-clause-ok : goal.returns-clause-ok
returns-clause-ok c =
    let s = c.args.self.now in
    let due = c.in_ok-ask_all.ensures ∙ ap (λ (ds : List ToSend). ds ++ nudging s.jobs s.id s.holding) c.new-dues.ensures.items in
    let out = c.in_ok-hand_out.ensures.marks ∙ ap (λ (o : Out). o.marks) (nudge_sends s _ _ c.self.view_is due) in
    (λ i. with_marks (out i) (c.self.view_is i)) ∙ sym (nudge_after s (subst IsNode c.self.view_is c.self.invariant.node).server.settled)

pub returns-clause-sent : goal.returns-clause-sent
returns-clause-sent c =
    let s = c.args.self.now in
    let due = c.in_ok-ask_all.ensures ∙ ap (λ (ds : List ToSend). ds ++ nudging s.jobs s.id s.holding) c.new-dues.ensures.items in
    c.in_ok-hand_out.ensures.frames
    ∙ ap (λ (o : Out). c.args.out.now.items ++ o.frames) (nudge_sends s _ _ c.self.view_is due)
    ∙ ap (λ (x : List Sent). c.args.out.now.items ++ x) (sym (nudge_sent s (subst IsNode c.self.view_is c.self.invariant.node).server.settled))

pub invariant_of-self-2 : goal.invariant_of-self-2
invariant_of-self-2 c =
    let s = c.args.self.now in
    let due = c.in_ok-ask_all.ensures ∙ ap (λ (ds : List ToSend). ds ++ nudging s.jobs s.id s.holding) c.new-dues.ensures.items in
    let out = c.in_ok-hand_out.ensures.marks ∙ ap (λ (o : Out). o.marks) (nudge_sends s _ _ c.self.view_is due) in
    content_after c.self.inside c.self.invariant s c.self.view_is (Act.request Request.nudge) c.hand_out.new.marks
    ((λ i. with_marks (out i) (c.self.view_is i)) ∙ sym (nudge_after s (subst IsNode c.self.view_is c.self.invariant.node).server.settled))
