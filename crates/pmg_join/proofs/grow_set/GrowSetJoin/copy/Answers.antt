use Rattle.std.proofs.Common.{ap, ◌∙◌}
use Rattle.std.specs.FinSet as set
use Rattle.pmg_value.proofs.SetLemmas.{union_empty}
use Rattle.pmg_join.specs.Sets.{set_in}
use Rattle.pmg_join.proofs.grow_set.GrowSetJoin.copy.Goals as goal

pub returns : goal.returns
returns g c =
    let all = set_in g.T.Ord.cmp c.args.self.now.elements in
    c.in_ok-insert_copies.ensures ∙ ap (λ s. set.union s all) c.new-copy.ensures ∙ union_empty g.met.T.Ord.total g.met.T.Element.exact all
