use Rattle.pmg_fence.proofs.NumberLemmas.{number_put}
use Rattle.pmg_fence.proofs.numbers.Numbers.put.Goals as goal

pub returns-clause-before : goal.returns-clause-before
returns-clause-before c =
    number_put c.args.self.now c.insert.new.self c.args.proc c.in_ok-numbered.numbered c.args.number c.in_ok-before.before c.in_ok-numbered.ensures c.in_ok-before.ensures.ok c.in_ok-before.ensures.before
