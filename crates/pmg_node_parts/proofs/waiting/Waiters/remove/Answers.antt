use Rattle.std.proofs.Common.{sym, ◌∙◌}
use Rattle.pmg_node_parts.proofs.WaiterLemmas.{less_none, less_some}
use Rattle.pmg_node_parts.proofs.waiting.Waiters.remove.Goals as goal

pub returns-then-take : goal.returns-then-take
returns-then-take c =
    c.unlist.ensures
    ∙ less_none c.args.self.now c.args.name.now c.args.proc.now c.take.new.self c.take.ensures.procs (sym c.take.ensures.left ∙ c.if-take.true)

pub returns-else-take : goal.returns-else-take
returns-else-take c =
    less_some c.args.self.now c.args.name.now c.args.proc.now c.take.new.self c.take.ensures.procs (sym c.take.ensures.left ∙ c.if-take.false)
