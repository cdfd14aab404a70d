use Rattle.std.proofs.Common.{is_some, sym, ap, ◌∙◌}
use Rattle.pmg_node_model.specs.Holdings.{call_of}
use Rattle.pmg_node.proofs.JudgeLemmas.{then_busy, free_first}
use Rattle.pmg_node.proofs.server.Server.check_free.Goals as goal

pub returns-in-Err : goal.returns-in-Err
returns-in-Err c =
    let s = c.args.self.now in
    sym (free_first s.jobs s.id s.holding c.args.proc.now ∙ ap (λ r. then_busy r (is_some (call_of s.holding c.args.proc.now))) (sym c.check_caller.ensures ∙ c.in-Err.is))
