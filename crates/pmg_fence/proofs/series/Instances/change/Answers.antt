use Rattle.std.proofs.Common.{sym, ap, ◌∙◌}
use Rattle.std.specs.FinMap as finite
use Rattle.std.specs.FinMap.{nat_cmp-IsAntisymmetric}
use Rattle.std.specs.Cmp.{nat_cmp_total}
use Rattle.std.specs.Ordering.{nat_cmp}
use Rattle.std.specs.Option.{unwrap_or}
use Rattle.std.proofs.lemmas.Result.{err_from_is_err_and}
use Rattle.pmg_value.specs.Rows.{map_of}
use Rattle.pmg_value.proofs.RowLemmas.{at_key, insert_same, found_is, some_found}
use Rattle.pmg_fence.specs.Kept.{fence_changed}
use Rattle.pmg_fence.specs.TakenBack.{fence_back}
use Rattle.pmg_fence.specs.Tables.{Fence, no_fence}
use Rattle.pmg_fence.proofs.BackLemmas.{there_back, gone_back}
use Rattle.pmg_fence.proofs.RowFacts.{fence_is_none}
use Rattle.pmg_fence.proofs.Trees.{changed_in, put_in}
use Rattle.pmg_fence.proofs.series.Instances.change.Goals as goal

pub returns-in_err-before-clause-err : goal.returns-in_err-before-clause-err
returns-in_err-before-clause-err c =
    let there = found_is c.get_mut.result c.in-Some.fence (at_key nat_cmp c.args.instance c.self.inside.rows.entries) c.in-Some.is c.get_mut.ensures.value in
    let now = changed_in nat_cmp_total nat_cmp-IsAntisymmetric _ _ _ c.args.instance _ c.change.new.self c.self.view_is there ((c.get_mut.follows.holds c.change.new.self).3 (some_found there)).0 in
    rw (err_from_is_err_and c.from_residual.result c.from_residual.ensures.1).1
    (now.1 ∙ ap (finite.insert c.args.self.now c.args.instance) c.in_err-before.ensures.err ∙ insert_same nat_cmp_total nat_cmp-IsAntisymmetric c.args.self.now c.args.instance c.in-Some.fence.now now.0)

pub returns-in-Some-clause-before : goal.returns-in-Some-clause-before
returns-in-Some-clause-before c =
    let there = found_is c.get_mut.result c.in-Some.fence (at_key nat_cmp c.args.instance c.self.inside.rows.entries) c.in-Some.is c.get_mut.ensures.value in
    let now = changed_in nat_cmp_total nat_cmp-IsAntisymmetric _ _ _ c.args.instance _ c.change.new.self c.self.view_is there ((c.get_mut.follows.holds c.change.new.self).3 (some_found there)).0 in
    there_back nat_cmp_total nat_cmp-IsAntisymmetric c.args.self.now _ c.args.instance c.in-Some.fence.now c.change.new.self no_fence (λ (f : Fence). fence_back f c.in_ok-before.before) now.0 now.1 c.in_ok-before.ensures.before

pub returns-in-Some-clause-ok : goal.returns-in-Some-clause-ok
returns-in-Some-clause-ok c =
    let there = found_is c.get_mut.result c.in-Some.fence (at_key nat_cmp c.args.instance c.self.inside.rows.entries) c.in-Some.is c.get_mut.ensures.value in
    let now = changed_in nat_cmp_total nat_cmp-IsAntisymmetric _ _ _ c.args.instance _ c.change.new.self c.self.view_is there ((c.get_mut.follows.holds c.change.new.self).3 (some_found there)).0 in
    now.1 ∙ ap (finite.insert c.args.self.now c.args.instance) (c.in_ok-before.ensures.ok ∙ ap (λ o. fence_changed (unwrap_or o no_fence) c.args.change) (sym now.0))

pub returns-clause-before : goal.returns-clause-before
returns-clause-before c =
    let none = fence_is_none c.self.inside.rows.entries c.args.self.now c.args.instance c.self.view_is c.in_default.ensures.value in
    let same = ap (λ a. map_of {R = nat_cmp} a.entries) c.get_mut.follows.holds-at-none ∙ c.self.view_is in
    gone_back nat_cmp_total nat_cmp-IsAntisymmetric c.args.self.now _ c.args.instance c.change-2.new.self none
    (put_in nat_cmp_total nat_cmp-IsAntisymmetric (λ f. f) _ _ _ c.args.instance c.change-2.new.self same (c.in_ok-insert.ensures).updates.0)

pub returns-clause-ok : goal.returns-clause-ok
returns-clause-ok c =
    let none = fence_is_none c.self.inside.rows.entries c.args.self.now c.args.instance c.self.view_is c.in_default.ensures.value in
    let same = ap (λ a. map_of {R = nat_cmp} a.entries) c.get_mut.follows.holds-at-none ∙ c.self.view_is in
    put_in nat_cmp_total nat_cmp-IsAntisymmetric (λ f. f) _ _ _ c.args.instance c.change-2.new.self same (c.in_ok-insert.ensures).updates.0
    ∙ ap (finite.insert c.args.self.now c.args.instance) (c.in_ok-change.ensures.ok ∙ ap (λ f. fence_changed f c.args.change) (c.new-fence.ensures ∙ ap (λ o. unwrap_or o no_fence) (sym none)))
