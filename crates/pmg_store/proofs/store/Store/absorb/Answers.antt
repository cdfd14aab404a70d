use Rattle.std.proofs.Common.{ap, ◌∙◌}
use Rattle.std.proofs.lemmas.Result.{on_ok_weaker}
use Rattle.pmg_commit.specs.Data.{absorbed}
use Rattle.pmg_store.proofs.store.Store.absorb.Goals as goal

pub returns-clause-ok : goal.returns-clause-ok
returns-clause-ok c = on_ok_weaker c.take.result (λ taken. taken ∙ ap (absorbed c.args.self.now) c.in_ok-copy.ensures) c.take.ensures.ok
