use Rattle.pmg_fence.proofs.NewsLemmas.{enter_done}
use Rattle.pmg_fence.proofs.table.Table.enter.Goals as goal

pub returns-clause-ok : goal.returns-clause-ok
returns-clause-ok c =
    enter_done c.args.self.now c.change.new.self c.forget.new.self c.args.signature.now c.args.proc.now c.in_ok-copy.field-0 c.in_ok-copy-2.field-0 c.args.level c.count-count.result
    c.count-count.ensures.value c.in_ok-copy.ensures c.in_ok-copy-2.ensures c.in_ok-change.ensures.ok c.forget.ensures
