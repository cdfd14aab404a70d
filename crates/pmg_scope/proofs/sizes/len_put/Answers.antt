use Rattle.std.proofs.Common.{ap, ◌+◌, ◌∙◌}
use Rattle.pmg_value.specs.Spelling.{spelling}
use Rattle.pmg_scope.proofs.SumLemmas.{len_held, len_added}
use Rattle.pmg_scope.proofs.sizes.len_put.Goals as goal

pub returns-in-Some : goal.returns-in-Some
returns-in-Some c =
    c.len.ensures ∙ len_held c.args.table.now c.args.key.now (spelling c.args.value.now) (spelling c.in-Some.field-0.now) c.in-Some.ensures

pub returns-in-None : goal.returns-in-None
returns-in-None c =
    ap (λ n. n + 1) c.len-in-None.ensures ∙ len_added c.args.table.now c.args.key.now (spelling c.args.value.now) c.in-None.ensures
