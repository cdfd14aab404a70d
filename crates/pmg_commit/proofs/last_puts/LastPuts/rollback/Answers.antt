use Rattle.std.proofs.Common.{sym, ap, ◌∙◌}
use Rattle.pmg_commit.specs.Sealed.{Stamps}
use Rattle.pmg_commit.specs.TakenBack.{all_back}
use Rattle.pmg_commit.proofs.BackLemmas.{back-push}
use Rattle.pmg_commit.proofs.last_puts.LastPuts.rollback.Goals as goal

pub loop-key-preserved : goal.loop-key-preserved
loop-key-preserved c =
    let before = c.pop.new.self.items in
    ap (λ (m : Stamps). all_back m before) c.take_one_back.ensures ∙ sym (back-push c.loop-key.self before c.in-Some.key c.in-Some.put)
    ∙ ap (all_back c.loop-key.self) (sym c.in-Some.ensures.items) ∙ c.loop-key.invariant
