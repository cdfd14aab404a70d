use Rattle.std.proofs.Common.{sym, ◌∙◌}
use Rattle.pmg_fence.proofs.KeptLemmas.{own_kept}
use Rattle.pmg_fence.proofs.table.news.keep_own.Goals as goal

pub returns-then-is_some-clause-ok : goal.returns-then-is_some-clause-ok
returns-then-is_some-clause-ok c = own_kept c.args.owns.now c.args.signature.now _ c.get.result c.get.ensures (sym c.is_some.ensures ∙ c.if-is_some.true) c.requires
