use Rattle.std.proofs.Common.{sym, ap, ◌∙◌}
use Rattle.std.specs.FinMap as finite
use Rattle.pmg_commit.specs.TakenBack.{all_back}
use Rattle.pmg_commit.proofs.BackLemmas.{back-stamped, back-same}
use Rattle.pmg_commit.proofs.last_puts.LastPuts.note.Goals as goal

pub returns-clause-same : goal.returns-clause-same
returns-clause-same c =
    (λ i. all_back c.args.self.now (c.in_ok-push.ensures.items i))
    ∙ back-same c.args.self.now c.args.before.now.items c.in_ok-noted.noted c.in_ok-there.there c.in_ok-there.ensures

pub returns-clause-back : goal.returns-clause-back
returns-clause-back c = λ s.
    let sealed = ap (λ k. finite.insert c.args.self.now k s) (sym c.in_ok-noted.ensures) in
    (λ i. all_back (sealed i) (c.in_ok-push.ensures.items i))
    ∙ back-stamped c.args.self.now c.args.before.now.items c.in_ok-noted.noted c.in_ok-there.there s c.in_ok-there.ensures
