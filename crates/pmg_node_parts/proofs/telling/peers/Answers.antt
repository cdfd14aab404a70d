use Rattle.std.proofs.Common.{ℕ, ◌++◌, ◌∷◌, [], sym, ap, ◌∙◌}
use Rattle.std.specs.Prelude.{◌==◌}
use Rattle.pmg_node_parts.proofs.PeerLemmas.{peer_more, peer_not_more}
use Rattle.pmg_node_parts.proofs.telling.peers.Goals as goal

pub loop-index-preserved-then-eq : goal.loop-index-preserved-then-eq
loop-index-preserved-then-eq c =
    c.loop-index.invariant
    ∙ sym (peer_not_more c.args.id c.loop-index.index (ap (λ (n : ℕ). n == c.args.id) (sym c.from_checked-node.ensures) ∙ sym c.eq.ensures ∙ c.if-eq.true))

pub loop-index-preserved : goal.loop-index-preserved
loop-index-preserved c =
    c.in_ok-push.ensures.items
    ∙ (λ i. c.loop-index.invariant i ++ c.from_checked-node.ensures i ∷ [])
    ∙ sym (peer_more c.args.id c.loop-index.index (ap (λ (n : ℕ). n == c.args.id) (sym c.from_checked-node.ensures) ∙ sym c.eq.ensures ∙ c.if-eq.false))
