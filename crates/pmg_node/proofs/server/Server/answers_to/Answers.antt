use Rattle.std.proofs.Common.{sym, ap, ◌∙◌}
use Rattle.std.proofs.lemmas.Result.{IfOk-weaker}
use Rattle.pmg_frame.specs.declared.frame.Frame.TheVariants as frames
use Rattle.pmg_node_model.specs.Acts.{Act}
use Rattle.pmg_node_parts.specs.Calls.{all_instead}
use Rattle.pmg_node.specs.Servers.{Server, after}
use Rattle.pmg_node.proofs.FrameLemmas.{takes_frame}
use Rattle.pmg_node.proofs.NodeInside.{server_in}
use Rattle.pmg_node_parts.proofs.AnswerLemmas.{plain_calls}
use Rattle.pmg_node.proofs.PieceLemmas.{piece_answers}
use Rattle.pmg_node.proofs.server.Server.answers_to.Goals as goal

pub returns : goal.returns
returns c =
    let piece = c.args.piece.now in
    let taken = ap (takes_frame (frames.Piece piece)) c.self.view_is ∙ c.requires in
    IfOk-weaker c.answers_about.result _ _ (λ answers are.
    ap (λ (x : Server). all_instead x.holding.calls answers.items) (sym c.self.view_is)
    ∙ piece_answers (server_in c.self.inside) piece taken c.self.invariant.node.server.settled c.proc.result.now c.proc.ensures.value answers.items are
    ∙ ap (λ (x : Server). (after x (Act.deliver (frames.Piece piece))).holding.calls) c.self.view_is) c.answers_about.ensures

pub answers_about-requires-clause-plain : goal.answers_about-requires-clause-plain
answers_about-requires-clause-plain c = plain_calls _ _ _ c.self.invariant.node.server.settled
