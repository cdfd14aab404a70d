use Rattle.std.proofs.Common.{sym, ap, ◌∙◌}
use Rattle.pmg_commit.specs.Data.{read_at}
use Rattle.pmg_commit.specs.Knowledge.{read}
use Rattle.pmg_store.proofs.LaneData.{read_there, known_none, read-nothing}
use Rattle.pmg_store.proofs.store.Store.read.Goals as goal

pub returns-in-Some : goal.returns-in-Some
returns-in-Some c =
    c.read.ensures
    ∙ read_there c.self.inside.lanes.table c.args.proc.now c.in-Some.lane.now c.args.key.now c.in-Some.ensures
    ∙ ap (λ d. read_at d c.args.proc.now c.args.key.now) c.self.view_is

pub returns-in-None : goal.returns-in-None
returns-in-None c =
    sym (read-nothing c.args.key.now)
    ∙ ap (λ k. read k c.args.key.now) (known_none c.self.inside.lanes.table c.args.proc.now c.in-None.ensures)
    ∙ ap (λ d. read_at d c.args.proc.now c.args.key.now) c.self.view_is
