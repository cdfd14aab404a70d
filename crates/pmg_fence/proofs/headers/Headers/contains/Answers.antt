use Rattle.std.proofs.Common.{sym}
use Rattle.pmg_fence.proofs.RowFacts.{is_there}
use Rattle.pmg_fence.proofs.headers.Headers.contains.Goals as goal

pub returns : goal.returns
returns c = sym (is_there c.self.inside.rows.entries c.args.self.now c.args.node c.get.result c.is_some.result c.self.view_is c.get.ensures.value (sym c.is_some.ensures))
