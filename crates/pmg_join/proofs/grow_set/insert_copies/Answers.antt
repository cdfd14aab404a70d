use Rattle.std.proofs.Common.{◌||◌, sym, ap, ◌∙◌}
use Rattle.std.specs.List.{list_any}
use Rattle.std.specs.Ordering.{eq_by_cmp}
use Rattle.std.specs.FinSet as set
use Rattle.pmg_join.specs.Sets.{set_in}
use Rattle.pmg_join.proofs.SetSteps.{union_first, union_next, union_last}
use Rattle.pmg_join.proofs.grow_set.insert_copies.Goals as goal

pub loop-element-init : goal.loop-element-init
loop-element-init g c q =
    let cmp = g.T.Ord.cmp in
    ap (λ ks. set.contains (set_in cmp c.args.all.now.elements) q || list_any (eq_by_cmp cmp q) ks) (c.into_iter-element-iterator.ensures.into_iter_gives ∙ c.iter-element-items.ensures.rest)
    ∙ union_first g.met.T.Ord.total c.args.all.now.elements c.args.other.now.elements q

pub loop-element-preserved : goal.loop-element-preserved
loop-element-preserved g c q =
    let cmp = g.T.Ord.cmp in
    let before = set_in cmp c.loop-element.all.elements in
    ap (λ s. set.contains s q || list_any (eq_by_cmp cmp q) c.next.new.self) (c.in_default.ensures.ok ∙ ap (set.insert before) c.in_ok-copy.ensures)
    ∙ union_next g.met.T.Ord.total before c.in-Some.element.now c.next.new.self q
    ∙ ap (λ ks. set.contains before q || list_any (eq_by_cmp cmp q) ks) (sym c.in-Some.ensures.steps)
    ∙ c.loop-element.invariant q

pub returns : goal.returns
returns g c =
    let cmp = g.T.Ord.cmp in
    let all = set_in cmp c.loop-element.all.elements in
    union_last g.met.T.Ord.total g.met.T.Element.exact all _ (λ q.
    ap (λ ks. set.contains all q || list_any (eq_by_cmp cmp q) ks) (sym c.in-None.ensures.steps.0)
    ∙ c.loop-element.invariant q)
