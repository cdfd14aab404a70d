use Rattle.std.proofs.Common.{sym, ◌∙◌}
use Rattle.pmg_fence.proofs.TellLemmas.{old_told, young_told}
use Rattle.pmg_fence.proofs.table.Table.news_now.Goals as goal

pub returns-then-is_old_at : goal.returns-then-is_old_at
returns-then-is_old_at c = c.new.ensures.items ∙ old_told c.args.self.now c.args.signature.now c.args.instance _ (sym c.is_old_at.ensures ∙ c.if-is_old_at.true)

pub returns : goal.returns
returns c = c.in_ok-news_of.ensures ∙ young_told c.args.self.now c.args.signature.now c.args.instance _ (sym c.is_old_at.ensures ∙ c.if-is_old_at.false)
