use Rattle.std.proofs.Common.{sym, ap, ◌∙◌}
use Rattle.pmg_frame.specs.FenceOrder.{signature_cmp, signature_total}
use Rattle.pmg_frame.proofs.FenceOrderLemmas.{signatures_exact}
use Rattle.pmg_value.specs.Rows.{rows_of}
use Rattle.pmg_value.proofs.RowLemmas.{at_key, found_is, some_found, changed_there, changed_nowhere}
use Rattle.pmg_fence.specs.TakenBack.{all_series_back, series_back}
use Rattle.pmg_fence.specs.Tables.{Series, no_series}
use Rattle.pmg_fence.proofs.BackLemmas.{undone_there}
use Rattle.pmg_fence.proofs.RowFacts.{series_is}
use Rattle.pmg_fence.proofs.all_series.AllSeries.rollback.Goals as goal

pub returns-in-Some-get_mut : goal.returns-in-Some-get_mut
returns-in-Some-get_mut c =
    let old = c.self.inside.rows.entries in
    let m = c.args.self.now in
    let there = found_is c.get_mut.result c.in-Some-get_mut.series (at_key signature_cmp c.args.signature.now old) c.in-Some-get_mut.is c.get_mut.ensures.value in
    let updates = ((c.get_mut.follows.holds c.rollback.new.self).3 (some_found there)).0 in
    undone_there signature_total signatures_exact m _ c.args.signature.now c.in-Some-get_mut.series.now c.rollback.new.self no_series (λ (f : Series). series_back f c.args.instance c.in-Some.before)
    (series_is old m c.args.signature.now c.in-Some-get_mut.series.now c.self.view_is there) c.rollback.ensures
    (changed_there signature_total signatures_exact (λ f. f) old (c.get_mut.follows.lender c.rollback.new.self).entries m c.args.signature.now c.rollback.new.self c.in-Some-get_mut.series.now c.self.view_is there updates)
    ∙ sym (ap (all_series_back c.args.self.now c.args.signature.now c.args.instance) c.in-Some.is)

pub returns-in_default : goal.returns-in_default
returns-in_default c =
    ap (λ a. rows_of {R = signature_cmp} (λ (f : Series). f) a.entries) c.get_mut.follows.holds-at-none
    ∙ changed_nowhere signature_total signatures_exact (λ f. f) c.self.inside.rows.entries c.args.self.now c.args.signature.now _ c.self.view_is c.in_default.ensures.value
    ∙ sym (ap (all_series_back c.args.self.now c.args.signature.now c.args.instance) c.in-Some.is)
