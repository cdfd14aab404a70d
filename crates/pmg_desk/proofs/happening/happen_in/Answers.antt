use Rattle.std.proofs.Common.{rules}
use Rattle.pmg_journal.specs.declared.record.Step.{Step}
use Rattle.pmg_desk.proofs.KeptLemmas.{steps_on}
use Rattle.pmg_desk.proofs.happening.happen_in.Goals as goal

pub returns-clause-step : goal.returns-clause-step
returns-clause-step g c =
    let step : Step = record { is_free = c.is_free_at-is_free.result; sent = c.in-Ok.written.sent } in
    steps_on c.args.node.now c.in-Some.whole c.args.act c.write.result.told c.args.outbox.now.items c.done_by.new.outbox.items c.len-first.result step c.args.steps.now.items
    c.write.new.steps.items (search rules) (search rules) (search rules) (search rules) (search rules) (search rules)
