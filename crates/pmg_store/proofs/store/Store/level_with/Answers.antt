use Rattle.std.proofs.Common.{refl, sym, ap, ◌∙◌}
use Rattle.pmg_commit.specs.Data.{known}
use Rattle.pmg_commit.specs.Levels.{level}
use Rattle.pmg_commit.specs.Knowledge.{nothing, knowledge_of}
use Rattle.pmg_commit.proofs.Joining.{core-nothing, union_nothing}
use Rattle.pmg_lane.specs.Lanes.{known_by}
use Rattle.pmg_lane.specs.Merged.{told}
use Rattle.pmg_lane.proofs.Merging.{told_numbers}
use Rattle.pmg_lane.proofs.LaneCores.{told_is}
use Rattle.pmg_store.proofs.LaneData.{known_there, known_none, level_past, level_here}
use Rattle.pmg_store.proofs.store.Store.level_with.Goals as goal

pub returns-then-not-is_of-clause-value : goal.returns-then-not-is_of-clause-value
returns-then-not-is_of-clause-value c =
    c.level.ensures.value
    ∙ level_past c.args.self.now c.args.piece.now c.args.proc.now
    (sym c.is_of.ensures ∙ c.if-not-is_of.true)

pub returns-in-Some-clause-value : goal.returns-in-Some-clause-value
returns-in-Some-clause-value c =
    let p = c.args.proc.now in
    let piece = c.args.piece.now in
    c.level_with.ensures.value
    ∙ level_here c.args.self.now piece p (known_by c.in-Some.lane.now) (knowledge_of piece)
    (known_there c.self.inside.lanes.table p c.in-Some.lane.now c.in-Some.ensures ∙ ap (λ d. known d p) c.self.view_is)
    refl
    (sym c.is_of.ensures ∙ c.if-not-is_of.false)

pub returns-in-None-clause-value : goal.returns-in-None-clause-value
returns-in-None-clause-value c =
    let p = c.args.proc.now in
    let piece = c.args.piece.now in
    let told_by = told c.from.result c.to.result piece.entries in
    c.level_alone.ensures.value
    ∙ ap level (sym (told_numbers c.from.result c.to.result piece.entries))
    ∙ ap (λ k. level k.numbers) (sym (union_nothing told_by))
    ∙ level_here c.args.self.now piece p nothing told_by
    (core-nothing ∙ known_none c.self.inside.lanes.table p c.in-None.ensures ∙ ap (λ d. known d p) c.self.view_is)
    (told_is piece c.from.result c.to.result piece.entries c.from.ensures.value c.to.ensures.value refl)
    (sym c.is_of.ensures ∙ c.if-not-is_of.false)
