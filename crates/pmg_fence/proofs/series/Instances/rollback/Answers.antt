use Rattle.std.proofs.Common.{sym, ap, ◌∙◌}
use Rattle.std.specs.FinMap.{nat_cmp-IsAntisymmetric}
use Rattle.std.specs.Cmp.{nat_cmp_total}
use Rattle.std.specs.Ordering.{nat_cmp}
use Rattle.pmg_value.specs.Rows.{rows_of}
use Rattle.pmg_value.proofs.RowLemmas.{at_key, found_is, some_found, changed_there, changed_nowhere}
use Rattle.pmg_fence.specs.TakenBack.{instances_back, fence_back}
use Rattle.pmg_fence.specs.Tables.{Fence, no_fence}
use Rattle.pmg_fence.proofs.BackLemmas.{undone_there}
use Rattle.pmg_fence.proofs.RowFacts.{fence_is}
use Rattle.pmg_fence.proofs.series.Instances.rollback.Goals as goal

pub returns-in-Some-get_mut : goal.returns-in-Some-get_mut
returns-in-Some-get_mut c =
    let old = c.self.inside.rows.entries in
    let m = c.args.self.now in
    let there = found_is c.get_mut.result c.in-Some-get_mut.fence (at_key nat_cmp c.args.instance old) c.in-Some-get_mut.is c.get_mut.ensures.value in
    let updates = ((c.get_mut.follows.holds c.rollback.new.self).3 (some_found there)).0 in
    undone_there nat_cmp_total nat_cmp-IsAntisymmetric m _ c.args.instance c.in-Some-get_mut.fence.now c.rollback.new.self no_fence (λ (f : Fence). fence_back f c.in-Some.before)
    (fence_is old m c.args.instance c.in-Some-get_mut.fence.now c.self.view_is there) c.rollback.ensures
    (changed_there nat_cmp_total nat_cmp-IsAntisymmetric (λ f. f) old (c.get_mut.follows.lender c.rollback.new.self).entries m c.args.instance c.rollback.new.self c.in-Some-get_mut.fence.now c.self.view_is there updates)
    ∙ sym (ap (instances_back c.args.self.now c.args.instance) c.in-Some.is)

pub returns-in_default : goal.returns-in_default
returns-in_default c =
    ap (λ a. rows_of {R = nat_cmp} (λ (f : Fence). f) a.entries) c.get_mut.follows.holds-at-none
    ∙ changed_nowhere nat_cmp_total nat_cmp-IsAntisymmetric (λ f. f) c.self.inside.rows.entries c.args.self.now c.args.instance _ c.self.view_is c.in_default.ensures.value
    ∙ sym (ap (instances_back c.args.self.now c.args.instance) c.in-Some.is)
