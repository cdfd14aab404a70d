use Rattle.std.proofs.Common.{arith}
use Rattle.pmg_value.specs.Spelling.{spelling}
use Rattle.pmg_scope.proofs.SizeLemmas.{size_with_put}
use Rattle.pmg_scope.proofs.sizes.size_put.Goals as goal

pub overflow_sub-result : goal.overflow_sub-result
overflow_sub-result c =
    let put = size_with_put c.args.table.now c.args.key.now (spelling c.args.value.now) in
    omega (arith, put, c.requires.counted, c.row_size.ensures.value, c.counted_at.ensures.value)

pub returns : goal.returns
returns c =
    let put = size_with_put c.args.table.now c.args.key.now (spelling c.args.value.now) in
    omega (arith, put, c.requires.counted, c.row_size.ensures.value, c.counted_at.ensures.value)
