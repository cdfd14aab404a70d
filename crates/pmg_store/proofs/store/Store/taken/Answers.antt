use Rattle.std.proofs.Common.{sym, ap, ◌∙◌}
use Rattle.std.specs.FinSet as set
use Rattle.std.specs.Ordering.{nat_cmp}
use Rattle.pmg_commit.specs.Data.{taken_at}
use Rattle.pmg_store.proofs.LaneData.{numbers_there, known_none}
use Rattle.pmg_store.proofs.store.Store.taken.Goals as goal

pub returns-in-Some : goal.returns-in-Some
returns-in-Some c =
    c.taken.ensures
    ∙ ap (λ s. set.contains s c.args.n) (numbers_there c.self.inside.lanes.table c.args.proc.now c.in-Some.lane.now c.in-Some.ensures)
    ∙ ap (λ d. taken_at d c.args.proc.now c.args.n) c.self.view_is

pub returns-in-None : goal.returns-in-None
returns-in-None c =
    sym (set.contains-empty nat_cmp c.args.n)
    ∙ ap (λ k. set.contains k.numbers c.args.n) (known_none c.self.inside.lanes.table c.args.proc.now c.in-None.ensures)
    ∙ ap (λ d. taken_at d c.args.proc.now c.args.n) c.self.view_is
