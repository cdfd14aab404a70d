use Rattle.pmg_fence.proofs.SeriesLemmas.{counted_back, same_back}
use Rattle.pmg_fence.proofs.series.Series.count_old.Goals as goal

pub returns-in-Entered-clause-before : goal.returns-in-Entered-clause-before
returns-in-Entered-clause-before c =
    counted_back c.self.inside.counts c.put.new.self c.self.inside.fences c.self.inside.top c.args.instance c.args.self.now c.in_ok-before-in-Entered.before c.nothing_before.result
    c.in_ok-before-in-Entered.ensures.before c.nothing_before.ensures c.self.view_is

pub returns-in-Learned-clause-before : goal.returns-in-Learned-clause-before
returns-in-Learned-clause-before c =
    same_back c.self.inside.counts c.self.inside.fences c.self.inside.top c.args.instance c.args.self.now c.nothing_before-in-Learned.result c.nothing_before-in-Learned.ensures c.self.view_is

pub returns-clause-before : goal.returns-clause-before
returns-clause-before c =
    same_back c.self.inside.counts c.self.inside.fences c.self.inside.top c.args.instance c.args.self.now c.nothing_before-in-Told.result c.nothing_before-in-Told.ensures c.self.view_is
