use Rattle.std.proofs.Common.{map, refl, sym, ap, ◌∙◌}
use Rattle.pmg_commit.specs.Data.{known}
use Rattle.pmg_commit.specs.Pieces.{entry_of}
use Rattle.pmg_commit.specs.Knowledge.{nothing, read, knowledge_of}
use Rattle.pmg_commit.proofs.Joining.{core-nothing, union_nothing}
use Rattle.pmg_lane.specs.Lanes.{known_by}
use Rattle.pmg_lane.specs.Merged.{told}
use Rattle.pmg_lane.proofs.LaneCores.{told_is}
use Rattle.pmg_store.proofs.LaneData.{known_there, known_none, read_past, read_here}
use Rattle.pmg_store.proofs.store.Store.read_with.Goals as goal

pub returns-then-not-is_of : goal.returns-then-not-is_of
returns-then-not-is_of c =
    c.read.ensures
    ∙ read_past c.args.self.now c.args.piece.now c.args.proc.now c.args.key.now
    (sym c.is_of.ensures ∙ c.if-not-is_of.true)

pub returns-in-Some : goal.returns-in-Some
returns-in-Some c =
    let p = c.args.proc.now in
    let piece = c.args.piece.now in
    c.read_with.ensures
    ∙ read_here c.args.self.now piece p (known_by c.in-Some.lane.now) (knowledge_of piece)
    (known_there c.self.inside.lanes.table p c.in-Some.lane.now c.in-Some.ensures ∙ ap (λ d. known d p) c.self.view_is)
    refl
    (sym c.is_of.ensures ∙ c.if-not-is_of.false)
    c.args.key.now

pub returns-in-None : goal.returns-in-None
returns-in-None c =
    let p = c.args.proc.now in
    let piece = c.args.piece.now in
    let es = map entry_of c.entries.result.now in
    let told_by = told c.from.result c.to.result es in
    c.read_alone.ensures
    ∙ ap (λ k. read k c.args.key.now) (sym (union_nothing told_by))
    ∙ read_here c.args.self.now piece p nothing told_by
    (core-nothing ∙ known_none c.self.inside.lanes.table p c.in-None.ensures ∙ ap (λ d. known d p) c.self.view_is)
    (told_is piece c.from.result c.to.result es c.from.ensures.value c.to.ensures.value c.entries.ensures)
    (sym c.is_of.ensures ∙ c.if-not-is_of.false)
    c.args.key.now
