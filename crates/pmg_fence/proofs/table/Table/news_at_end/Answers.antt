use Rattle.std.proofs.Common.{sym, ap, ◌∙◌, Bor}
use Rattle.std.specs.Option.{option_map}
use Rattle.pmg_fence.specs.Tables.{Fence}
use Rattle.pmg_fence.proofs.EndLemmas.{nameless, entered_already, left_now}
use Rattle.pmg_fence.proofs.table.Table.news_at_end.Goals as goal

pub returns-in_default : goal.returns-in_default
returns-in_default c =
    c.new.ensures.items
    ∙ nameless c.args.self.now c.args.line.now c.args.signature.now c.args.instance (ap (option_map (λ (f : Bor Fence). f.now)) (sym c.in_default.is) ∙ c.fence.ensures.value)

pub returns-in-Some-level : goal.returns-in-Some-level
returns-in-Some-level c =
    c.new-in-Some-level.ensures.items
    ∙ entered_already c.args.self.now c.args.line.now c.args.signature.now c.args.instance c.in-Some.fence.now c.in-Some-level.field-0
    (ap (option_map (λ (f : Bor Fence). f.now)) (sym c.in-Some.is) ∙ c.fence.ensures.value) (sym c.in-Some-level.is ∙ c.level.ensures)

pub returns : goal.returns
returns c =
    c.in_ok-news_of.ensures
    ∙ left_now c.args.self.now c.args.line.now c.args.signature.now c.args.instance c.in-Some.fence.now
    (ap (option_map (λ (f : Bor Fence). f.now)) (sym c.in-Some.is) ∙ c.fence.ensures.value) (sym c.in_default-level.is ∙ c.level.ensures)
