use Rattle.std.proofs.Common.{sym, ◌∙◌}
use Rattle.pmg_jobinfo.proofs.MeantLemmas.{all_counted}
use Rattle.pmg_jobinfo.proofs.registry.Registry.count_new.Goals as goal

pub returns-then-is_wildcard-clause-value : goal.returns-then-is_wildcard-clause-value
returns-then-is_wildcard-clause-value c =
    c.count_new_ranks.ensures.value ∙ all_counted c.args.self.now c.args.proc.now c.args.list.now (sym c.is_wildcard.ensures ∙ c.if-is_wildcard.true)
