use Rattle.std.proofs.Common.{map, ap, ◌∙◌, Vec, Global}
use Rattle.pmg_commit.specs.Knowledge.{core}
use Rattle.pmg_commit.specs.Pieces.{entry_of}
use Rattle.pmg_commit.specs.declared.piece.PieceEntry.{PieceEntry}
use Rattle.pmg_lane.specs.Merged.{merged_knowledge, told}
use Rattle.pmg_lane.proofs.LaneCores.{alone}
use Rattle.pmg_lane.proofs.single.Single.merged.Goals as goal

pub returns-clause-same : goal.returns-clause-same
returns-clause-same c =
    let s = c.args.self.now in
    alone (merged_knowledge c.make_room.new.self) (told s.from s.to (map entry_of c.replace-entries.result.items)) (merged_knowledge c.take.new.self) (c.make_room.ensures.same ∙ c.new-merged.ensures.nothing)
    c.take.ensures.taken
    ∙ ap (λ (es : Vec PieceEntry Global). core (told s.from s.to (map entry_of es.items))) c.replace-entries.ensures.value
