use Rattle.std.proofs.Common.{sym, ap, ◌∙◌}
use Rattle.pmg_fence.specs.Changes.{fence_told}
use Rattle.pmg_fence.specs.Tables.{is_old, fence_at}
use Rattle.pmg_fence.proofs.NewsLemmas.{header_done, nothing_changed}
use Rattle.pmg_fence.specs.declared.change.Change.TheVariants as changes
use Rattle.pmg_fence.proofs.table.Table.put_header.Goals as goal

pub returns-then-is_old-clause-ok : goal.returns-then-is_old-clause-ok
returns-then-is_old-clause-ok c =
    nothing_changed c.args.self.now c.args.header.name changes.Learned (fence_told (fence_at c.args.self.now.fences c.args.header.name) c.args.header.node c.args.header.locals)
    (ap (is_old c.args.self.now.fences) (sym c.name.ensures) ∙ sym c.is_old.ensures ∙ c.if-is_old.true)

pub returns-clause-ok : goal.returns-clause-ok
returns-clause-ok c =
    header_done c.args.self.now c.change.new.self c.forget.new.self c.args.header c.in_ok-name.name c.signature.result.now c.signature-2.result.now c.instance.result (c.in_ok-name.ensures ∙ c.name-2.ensures)
    c.signature.ensures c.signature-2.ensures c.instance.ensures.value (ap (is_old c.args.self.now.fences) (sym c.name.ensures) ∙ sym c.is_old.ensures ∙ c.if-is_old.false) c.in_ok-change.ensures.ok c.forget.ensures
