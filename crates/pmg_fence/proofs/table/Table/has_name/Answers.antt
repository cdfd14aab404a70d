use Rattle.pmg_fence.proofs.LookLemmas.{name_looked}
use Rattle.pmg_fence.proofs.table.Table.has_name.Goals as goal

pub returns : goal.returns
returns c =
    name_looked c.args.self.now.fences c.args.name.now c.signature.result.now c.instance.result c.fence.result c.is_some.result c.signature.ensures c.instance.ensures.value c.fence.ensures.value c.is_some.ensures
