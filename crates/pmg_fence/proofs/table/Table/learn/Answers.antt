use Rattle.std.proofs.Common.{sym, ◌∙◌}
use Rattle.pmg_fence.specs.Tables.{fence_at}
use Rattle.pmg_fence.proofs.NewsLemmas.{learn_done, nothing_changed}
use Rattle.pmg_fence.specs.declared.change.Change.TheVariants as changes
use Rattle.pmg_fence.proofs.table.Table.learn.Goals as goal

pub returns-then-is_old-clause-ok : goal.returns-then-is_old-clause-ok
returns-then-is_old-clause-ok c =
    nothing_changed c.args.self.now c.args.name.now changes.Learned (fence_at c.args.self.now.fences c.args.name.now) (sym c.is_old.ensures ∙ c.if-is_old.true)

pub returns-clause-ok : goal.returns-clause-ok
returns-clause-ok c =
    learn_done c.args.self.now c.change.new.self c.forget.new.self c.args.name.now c.signature.result.now c.signature-2.result.now c.instance.result c.signature.ensures c.signature-2.ensures c.instance.ensures.value
    (sym c.is_old.ensures ∙ c.if-is_old.false) c.in_ok-change.ensures.ok c.forget.ensures
