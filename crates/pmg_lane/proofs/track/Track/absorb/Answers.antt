use Rattle.std.proofs.Common.{map, sym, ap, ◌∙◌}
use Rattle.std.proofs.lemmas.Result.{on_ok_weaker}
use Rattle.pmg_commit.specs.Knowledge.{core}
use Rattle.pmg_commit.specs.Pieces.{entry_of}
use Rattle.pmg_lane.specs.Lanes.{known_by}
use Rattle.pmg_lane.specs.Merged.{merged_knowledge, told}
use Rattle.pmg_lane.proofs.LaneCores.{joined_after}
use Rattle.pmg_lane.proofs.track.Track.absorb.Goals as goal

pub returns-clause-taken : goal.returns-clause-taken
returns-clause-taken c =
    let more = told c.args.from c.args.to (map entry_of c.args.entries.items) in
    on_ok_weaker c.absorb.result
    (joined_after (known_by c.args.self.now) (merged_knowledge c.in-Merged.merged) more (merged_knowledge c.absorb.new.self)
    (sym (ap (λ t. core (known_by t)) c.in-Merged.is) ∙ c.in_ok-make_merged.ensures.same))
    c.absorb.ensures.taken
