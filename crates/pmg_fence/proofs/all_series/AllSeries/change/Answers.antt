use Rattle.std.proofs.Common.{sym, ap, ◌∙◌}
use Rattle.std.specs.FinMap as finite
use Rattle.pmg_frame.specs.FenceOrder.{signature_cmp, signature_total}
use Rattle.pmg_frame.proofs.FenceOrderLemmas.{signatures_exact}
use Rattle.std.specs.Option.{unwrap_or}
use Rattle.std.proofs.lemmas.Result.{err_from_is_err_and}
use Rattle.pmg_value.specs.Rows.{map_of}
use Rattle.pmg_value.proofs.RowLemmas.{at_key, insert_same, found_is, some_found}
use Rattle.pmg_fence.specs.Kept.{series_changed}
use Rattle.pmg_fence.specs.TakenBack.{series_back}
use Rattle.pmg_fence.specs.Tables.{Series, no_series}
use Rattle.pmg_fence.proofs.BackLemmas.{there_back, gone_back}
use Rattle.pmg_fence.proofs.RowFacts.{series_is_none}
use Rattle.pmg_fence.proofs.Trees.{changed_in, put_in}
use Rattle.pmg_fence.proofs.all_series.AllSeries.change.Goals as goal

pub returns-in_err-before-clause-err : goal.returns-in_err-before-clause-err
returns-in_err-before-clause-err c =
    let there = found_is c.get_mut.result c.in-Some.series (at_key signature_cmp c.args.signature.now c.self.inside.rows.entries) c.in-Some.is c.get_mut.ensures.value in
    let now = changed_in signature_total signatures_exact _ _ _ c.args.signature.now _ c.change.new.self c.self.view_is there ((c.get_mut.follows.holds c.change.new.self).3 (some_found there)).0 in
    rw (err_from_is_err_and c.from_residual.result c.from_residual.ensures.1).1
    (now.1 ∙ ap (finite.insert c.args.self.now c.args.signature.now) c.in_err-before.ensures.err ∙ insert_same signature_total signatures_exact c.args.self.now c.args.signature.now c.in-Some.series.now now.0)

pub returns-in-Some-clause-before : goal.returns-in-Some-clause-before
returns-in-Some-clause-before c =
    let there = found_is c.get_mut.result c.in-Some.series (at_key signature_cmp c.args.signature.now c.self.inside.rows.entries) c.in-Some.is c.get_mut.ensures.value in
    let now = changed_in signature_total signatures_exact _ _ _ c.args.signature.now _ c.change.new.self c.self.view_is there ((c.get_mut.follows.holds c.change.new.self).3 (some_found there)).0 in
    there_back signature_total signatures_exact c.args.self.now _ c.args.signature.now c.in-Some.series.now c.change.new.self no_series (λ (f : Series). series_back f c.args.instance c.in_ok-before.before) now.0 now.1 c.in_ok-before.ensures.before

pub returns-in-Some-clause-ok : goal.returns-in-Some-clause-ok
returns-in-Some-clause-ok c =
    let there = found_is c.get_mut.result c.in-Some.series (at_key signature_cmp c.args.signature.now c.self.inside.rows.entries) c.in-Some.is c.get_mut.ensures.value in
    let now = changed_in signature_total signatures_exact _ _ _ c.args.signature.now _ c.change.new.self c.self.view_is there ((c.get_mut.follows.holds c.change.new.self).3 (some_found there)).0 in
    now.1 ∙ ap (finite.insert c.args.self.now c.args.signature.now) (c.in_ok-before.ensures.ok ∙ ap (λ o. series_changed (unwrap_or o no_series) c.args.instance c.args.change) (sym now.0))

pub returns-clause-before : goal.returns-clause-before
returns-clause-before c =
    let none = series_is_none c.self.inside.rows.entries c.args.self.now c.args.signature.now c.self.view_is c.in_default.ensures.value in
    let same = ap (λ a. map_of {R = signature_cmp} a.entries) c.get_mut.follows.holds-at-none ∙ c.self.view_is in
    gone_back signature_total signatures_exact c.args.self.now _ c.args.signature.now c.change-2.new.self none
    (put_in signature_total signatures_exact (λ f. f) _ _ _ c.in_ok-copy.field-0 c.change-2.new.self same (c.in_ok-insert.ensures).updates.0
    ∙ ap (λ g. finite.insert c.args.self.now g c.change-2.new.self) c.in_ok-copy.ensures)

pub returns-clause-ok : goal.returns-clause-ok
returns-clause-ok c =
    let none = series_is_none c.self.inside.rows.entries c.args.self.now c.args.signature.now c.self.view_is c.in_default.ensures.value in
    let same = ap (λ a. map_of {R = signature_cmp} a.entries) c.get_mut.follows.holds-at-none ∙ c.self.view_is in
    put_in signature_total signatures_exact (λ f. f) _ _ _ c.in_ok-copy.field-0 c.change-2.new.self same (c.in_ok-insert.ensures).updates.0
    ∙ ap (λ g. finite.insert c.args.self.now g c.change-2.new.self) c.in_ok-copy.ensures
    ∙ ap (finite.insert c.args.self.now c.args.signature.now) (c.in_ok-change.ensures.ok ∙ ap (λ f. series_changed f c.args.instance c.args.change) (c.new-series.ensures ∙ ap (λ o. unwrap_or o no_series) (sym none)))
