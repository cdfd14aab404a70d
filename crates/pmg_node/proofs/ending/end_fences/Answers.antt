use Rattle.std.proofs.Common.{[], ◌++◌, sym, ap, subst, ◌∙◌}
use Rattle.std.specs.List.{flat_map}
use Rattle.pmg_fence.specs.Changes.{ended_by, news}
use Rattle.pmg_fence.specs.Codes.{Known}
use Rattle.pmg_fence.specs.Tables.{names_of}
use Rattle.pmg_fence.specs.TakenBack.{CanRollTableBack}
use Rattle.pmg_fence.proofs.UndoLemmas.{taken_fits}
use Rattle.pmg_node_parts.specs.Telling.{announcing_by}
use Rattle.pmg_node.proofs.EndLemmas.{announced}
use Rattle.pmg_node.proofs.ending.end_fences.Goals as goal

pub rollback-requires : goal.rollback-requires
rollback-requires c =
    subst (λ (k : Known). CanRollTableBack k c.in_ok-before.before) (sym c.take_headers-headers.ensures.rest) (taken_fits c.end.new.self c.in_ok-before.before [] c.in_ok-before.ensures.fits)

pub returns-in-Ok-clause-fits : goal.returns-in-Ok-clause-fits
returns-in-Ok-clause-fits c =
    subst (λ (k : Known). CanRollTableBack k c.in_ok-before.before) (sym c.take_headers-headers.ensures.rest) (taken_fits c.end.new.self c.in_ok-before.before [] c.in_ok-before.ensures.fits)

pub returns-in-Ok-clause-dues : goal.returns-in-Ok-clause-dues
returns-in-Ok-clause-dues c =
    let old = c.args.table.now in
    let new = ended_by old.fences c.args.proc.now c.args.level in
    let jobs = c.registry.ensures ∙ ap (λ (k : Known). k.jobs) (c.take_headers-headers.ensures.rest) ∙ ap (λ (k : Known). k.jobs) c.in_ok-before.ensures.ok in
    let headers =
    c.take_headers-headers.ensures.headers
    ∙ ap (λ (k : Known). k.waiting) c.in_ok-before.ensures.ok
    ∙ (λ i. c.requires.waiting i ++ flat_map (news old.jobs (c.requires.node i) old.fences new) (names_of old.fences)) in
    c.in-Ok.ensures
    ∙ (λ i. flat_map (announcing_by (jobs i) c.args.id) (headers i))
    ∙ announced old.jobs c.args.id old.fences new (names_of old.fences)
