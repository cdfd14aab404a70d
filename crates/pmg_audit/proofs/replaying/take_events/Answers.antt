use Rattle.std.proofs.Common.{◌≡◌, slice_index_or, ap, ◌∙◌}
use Rattle.std.proofs.lemmas.Option.{get_or_from_slice_get}
use Rattle.pmg_journal.specs.Journals.{happened_in}
use Rattle.pmg_journal.specs.declared.journal.Journal.{Journal}
use Rattle.pmg_audit.proofs.JournalSteps.{evidence_there, of_at, of_still, others_told}
use Rattle.pmg_audit.proofs.replaying.take_events.Goals as goal

pub returns-in-Some-clause-events : goal.returns-in-Some-clause-events
returns-in-Some-clause-events c =
    let of = c.in-Some.ensures.some in
    let old : Journal = slice_index_or c.args.journals.now c.in-Some.place c.index-journals-place.result in
    let same : old ≡ of.journal = get_or_from_slice_get c.args.journals.now c.in-Some.place of.journal c.index-journals-place.result of.there in
    c.take_events.ensures.events ∙ ap happened_in same ∙ of.tells

pub returns-in-Some-clause-evidence : goal.returns-in-Some-clause-evidence
returns-in-Some-clause-evidence c = λ jobs all.
    let of = c.in-Some.ensures.some in
    let old : Journal = slice_index_or c.args.journals.now c.in-Some.place c.index-journals-place.result in
    let same : old ≡ of.journal = get_or_from_slice_get c.args.journals.now c.in-Some.place of.journal c.index-journals-place.result of.there in
    evidence_there jobs c.args.journals.now c.args.node c.in-Some.place of old same all c.take_events.result.1 c.take_events.ensures.evidence

pub returns-in-Some-clause-of : goal.returns-in-Some-clause-of
returns-in-Some-clause-of c = λ jobs all.
    let of = c.in-Some.ensures.some in
    let old : Journal = slice_index_or c.args.journals.now c.in-Some.place c.index-journals-place.result in
    let same : old ≡ of.journal = get_or_from_slice_get c.args.journals.now c.in-Some.place of.journal c.index-journals-place.result of.there in
    of_still jobs c.args.journals.now c.in-Some.place c.take_events.new.self
    (c.take_events.ensures.registry ∙ ap (λ (x : Journal). x.registry) same ∙ of_at jobs c.args.journals.now c.in-Some.place of.journal of.there all) all

pub returns-in-Some-clause-others : goal.returns-in-Some-clause-others
returns-in-Some-clause-others c = λ m apart.
    let of = c.in-Some.ensures.some in
    let old : Journal = slice_index_or c.args.journals.now c.in-Some.place c.index-journals-place.result in
    let same : old ≡ of.journal = get_or_from_slice_get c.args.journals.now c.in-Some.place of.journal c.index-journals-place.result of.there in
    others_told c.args.journals.now c.in-Some.place c.args.node of.journal c.take_events.new.self of.there of.node (c.take_events.ensures.node ∙ ap (λ (x : Journal). x.node) same ∙ of.node) m apart
