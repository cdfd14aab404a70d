use Rattle.std.proofs.Common.{◌≡◌, ◌==◌, true, false, nat_lt, length, refl, sym, ap, ◌∙◌, arith}
use Rattle.std.proofs.lemmas.Bool.{false≢true}
use Rattle.pmg_commit.specs.Data.{absorbed, level_at}
use Rattle.pmg_frame.specs.declared.frame.Frame.TheVariants as frames
use Rattle.pmg_node.specs.Servers.{Server}
use Rattle.pmg_node.proofs.FrameLemmas.{takes_frame, dues_after}
use Rattle.pmg_node.proofs.NodeInside.{server_in}
use Rattle.pmg_node_parts.proofs.AnswerLemmas.{plain_calls}
use Rattle.pmg_node.proofs.PieceLemmas.{none_due, piece_asks_if, piece_tells}
use Rattle.pmg_node.proofs.server.Server.asks_after.Goals as goal

pub returns-then-is_empty : goal.returns-then-is_empty
returns-then-is_empty c =
    let piece = c.args.piece.now in
    let dues = c.in_ok-dues.dues.items in
    let none : (length dues == 0) ≡ true = ap (λ n. n == 0) (let ok = c.in_ok-dues.dues.ok in omega (arith, ok)) ∙ sym c.is_empty.ensures ∙ c.if-is_empty.true in
    piece_asks_if (server_in c.self.inside) piece (ap (takes_frame (frames.Piece piece)) c.self.view_is ∙ c.requires) c.self.invariant.node.server.settled c.proc-proc.result.now c.proc-proc.ensures.value
    dues c.in_ok-dues.ensures _ refl (λ _. none_due dues none)
    ∙ ap (dues_after (frames.Piece piece)) c.self.view_is

pub returns-then-rises_by : goal.returns-then-rises_by
returns-then-rises_by c =
    let piece = c.args.piece.now in
    let more = ap (λ (x : Server). nat_lt (level_at x.holding.far piece.proc) (level_at (absorbed x.holding.far piece) piece.proc)) c.self.view_is ∙ sym c.rises_by.ensures ∙ c.if-rises_by.true in
    piece_asks_if (server_in c.self.inside) piece (ap (takes_frame (frames.Piece piece)) c.self.view_is ∙ c.requires) c.self.invariant.node.server.settled c.proc-proc.result.now c.proc-proc.ensures.value
    c.in_ok-dues.dues.items c.in_ok-dues.ensures true more (λ less. absurd (false≢true (sym less)))
    ∙ ap (dues_after (frames.Piece piece)) c.self.view_is

pub returns : goal.returns
returns c =
    let piece = c.args.piece.now in
    let none = ap (λ (x : Server). nat_lt (level_at x.holding.far piece.proc) (level_at (absorbed x.holding.far piece) piece.proc)) c.self.view_is ∙ sym c.rises_by.ensures ∙ c.if-rises_by.false in
    c.new.ensures.items ∙ (piece_tells (server_in c.self.inside) piece (ap (takes_frame (frames.Piece piece)) c.self.view_is ∙ c.requires)).due false none
    ∙ ap (dues_after (frames.Piece piece)) c.self.view_is

pub asks_again-requires-clause-plain : goal.asks_again-requires-clause-plain
asks_again-requires-clause-plain c = plain_calls _ _ _ c.self.invariant.node.server.settled
