use Rattle.std.proofs.Common.{ℕ, ◌+◌, sym, ap, ◌∙◌, arith}
use Rattle.pmg_jobinfo.proofs.HomeLemmas.{node_counted, node_passed}
use Rattle.pmg_jobinfo.proofs.homes.count_hosts.Goals as goal
use Rattle.pmg_jobinfo.proofs.homes.count_hosts.Goals.{then-is_host, else-is_host}

pub loop-node-preserved : goal.loop-node-preserved
loop-node-preserved c =
    elim c.if-is_host.branch [
      | then-is_host w ↦ (w.count-is ∙ ap (λ (n : ℕ). n + 1) c.loop-node.invariant.0 ∙ sym (node_counted c.loop-node.node c.args.homes.now (sym c.is_host.ensures ∙ w.if-is_host.true)), omega arith)
      | else-is_host w ↦ (w.count-is ∙ c.loop-node.invariant.0 ∙ sym (node_passed c.loop-node.node c.args.homes.now (sym c.is_host.ensures ∙ w.if-is_host.false)), omega arith)
    ]
