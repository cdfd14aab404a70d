use Rattle.std.proofs.Common.{cond, sym, ap, ◌∙◌}
use Rattle.pmg_lane.specs.Readings.{seen_entry}
use Rattle.pmg_lane.proofs.readings.later_of.Goals as goal

pub returns-then-is_earlier_than : goal.returns-then-is_earlier_than
returns-then-is_earlier_than c key =
    ap (λ b. cond b (seen_entry key c.args.next) (seen_entry key c.args.before)) (sym (sym (c.is_earlier_than.ensures key) ∙ c.if-is_earlier_than.true))

pub returns-else-is_earlier_than : goal.returns-else-is_earlier_than
returns-else-is_earlier_than c key =
    ap (λ b. cond b (seen_entry key c.args.next) (seen_entry key c.args.before)) (sym (sym (c.is_earlier_than.ensures key) ∙ c.if-is_earlier_than.false))
