use Rattle.std.proofs.Common.{◌++◌, ◌&&◌, ◌==◌, Some, sym, ap, subst, ◌∙◌, rules}
use Rattle.pmg_frame.specs.Fences.{CommitAsk}
use Rattle.pmg_frame.specs.declared.frame.Frame.TheVariants as frames
use Rattle.pmg_jobinfo.specs.Jobs.{home_of}
use Rattle.pmg_node_parts.specs.Owns.{sealed_of}
use Rattle.pmg_node_model.specs.Acts.{Act, is_known, is_peer}
use Rattle.pmg_node_model.specs.Choosing.{Out, asked_marks, replying, sends}
use Rattle.pmg_node.specs.Servers.{IsNode}
use Rattle.pmg_node.proofs.FrameLemmas.{refresh_taken, asked_steps, ignores, refresh_is, refresh_sent}
use Rattle.pmg_node.proofs.NodeInside.{server_in}
use Rattle.pmg_node.proofs.NodeMarked.{content_after}
use Rattle.pmg_node.proofs.server.Server.deliver_refresh_ask.Goals as goal

pub returns-then-not-is_asked : goal.returns-then-not-is_asked
returns-then-not-is_asked c =
    let none = refresh_taken c.args.self.now.jobs c.args.self.now.id c.args.self.now.holding.table c.args.ask.now
    ∙ ap (λ (a : CommitAsk). is_peer c.args.self.now.jobs c.args.self.now.id a.node && is_known c.args.self.now.jobs a.proc && (home_of c.args.self.now.jobs a.proc == c.args.self.now.id)) (sym c.ask.ensures)
    ∙ sym c.is_asked.ensures ∙ c.if-not-is_asked.true in
    let its = ignores c.args.self.now (subst IsNode c.self.view_is c.self.invariant.node) (frames.RefreshAsk c.args.ask.now) none c.args.out.now.items in
    record { reply = its.reply; ok = its.ok; sent = its.sent; err = search rules; unsent = search rules }

pub reply_due-requires : goal.reply_due-requires
reply_due-requires c = c.self.invariant.node.server.holds.sealers c.args.ask.now.ask.proc

pub returns : goal.returns
returns c =
    let s = c.args.self.now in
    let inside = c.self.inside in
    let settled = (subst IsNode c.self.view_is c.self.invariant.node).server.settled in
    let taken =
    refresh_taken s.jobs s.id s.holding.table c.args.ask.now
    ∙ ap (λ (a : CommitAsk). is_peer s.jobs s.id a.node && is_known s.jobs a.proc && (home_of s.jobs a.proc == s.id)) (sym c.ask.ensures)
    ∙ sym c.is_asked.ensures ∙ c.if-not-is_asked.false in
    let goes = ap (λ (a : CommitAsk). sends (sealed_of inside.own) (asked_marks inside.marks (Some a)) c.in_ok-dues.dues.items) c.ask-2.ensures in
    let its =
    asked_steps (server_in inside) s c.self.view_is (frames.RefreshAsk c.args.ask.now) c.args.ask.now.ask (λ x. x.holding) (λ x. replying x.holding c.args.ask.now)
    (refresh_is s.jobs s.id s.holding settled c.args.ask.now taken) (refresh_sent s.jobs s.id s.holding settled s.marks c.args.ask.now taken) _ _ c.args.out.now.items _ c.in_ok-dues.ensures
    (c.in_ok-hand_out.ensures.marks ∙ ap (λ (o : Out). o.marks) goes) (c.in_ok-hand_out.ensures.frames ∙ ap (λ (o : Out). c.args.out.now.items ++ o.frames) goes) in
    record { reply = its.reply; ok = its.ok; sent = its.sent; err = search rules; unsent = search rules }

pub invariant_of-self-2 : goal.invariant_of-self-2
invariant_of-self-2 c =
    let s = c.args.self.now in
    let inside = c.self.inside in
    let settled = (subst IsNode c.self.view_is c.self.invariant.node).server.settled in
    let taken =
    refresh_taken s.jobs s.id s.holding.table c.args.ask.now
    ∙ ap (λ (a : CommitAsk). is_peer s.jobs s.id a.node && is_known s.jobs a.proc && (home_of s.jobs a.proc == s.id)) (sym c.ask.ensures)
    ∙ sym c.is_asked.ensures ∙ c.if-not-is_asked.false in
    let goes = ap (λ (a : CommitAsk). sends (sealed_of inside.own) (asked_marks inside.marks (Some a)) c.in_ok-dues.dues.items) c.ask-2.ensures in
    let its =
    asked_steps (server_in inside) s c.self.view_is (frames.RefreshAsk c.args.ask.now) c.args.ask.now.ask (λ x. x.holding) (λ x. replying x.holding c.args.ask.now)
    (refresh_is s.jobs s.id s.holding settled c.args.ask.now taken) (refresh_sent s.jobs s.id s.holding settled s.marks c.args.ask.now taken) _ _ c.args.out.now.items _ c.in_ok-dues.ensures
    (c.in_ok-hand_out.ensures.marks ∙ ap (λ (o : Out). o.marks) goes) (c.in_ok-hand_out.ensures.frames ∙ ap (λ (o : Out). c.args.out.now.items ++ o.frames) goes) in
    content_after inside c.self.invariant s c.self.view_is (Act.deliver (frames.RefreshAsk c.args.ask.now)) c.hand_out.new.marks its.ok
