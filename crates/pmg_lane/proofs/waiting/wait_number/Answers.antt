use Rattle.std.proofs.Common.{sym, ◌∙◌}
use Rattle.pmg_lane.proofs.Waits.{all_from}
use Rattle.pmg_lane.proofs.waiting.wait_number.Goals as goal

pub returns-then-are_from-clause-lowest : goal.returns-then-are_from-clause-lowest
returns-then-are_from-clause-lowest c = all_from c.args.from c.args.entries.now (sym c.are_from.ensures ∙ c.if-are_from.true)
