use Rattle.std.proofs.Common.{sym, ap, ◌∙◌}
use Rattle.std.specs.Prelude.{is_some}
use Rattle.pmg_value.specs.Spelling.{spelling}
use Rattle.pmg_scope.specs.Scripts.{term_key}
use Rattle.pmg_commit.specs.Data.{read_at}
use Rattle.pmg_commit.specs.Knowledge.{read}
use Rattle.pmg_lane.specs.Lanes.{known_by}
use Rattle.pmg_store.proofs.LaneData.{read_there, known_none, read-nothing, is_read_alike}
use Rattle.pmg_store.proofs.store.Store.look.Goals as goal

pub returns-in-Some-clause-value : goal.returns-in-Some-clause-value
returns-in-Some-clause-value c =
    c.read-value.ensures
    ∙ read_there c.self.inside.lanes.table c.args.proc.now c.in-Some.lane.now c.args.key.now c.in-Some.ensures
    ∙ ap (λ d. read_at d c.args.proc.now c.args.key.now) c.self.view_is

pub returns-in-Some-clause-ended : goal.returns-in-Some-clause-ended
returns-in-Some-clause-ended c =
    let lane = c.in-Some.lane.now in
    c.is_some.ensures
    ∙ is_read_alike _ (read (known_by lane) c.of_termination.result) (λ v. spelling v.now) c.read-term.ensures
    ∙ ap (λ key. is_some (read (known_by lane) key)) c.of_termination.ensures
    ∙ ap is_some (read_there c.self.inside.lanes.table c.args.proc.now lane term_key c.in-Some.ensures)
    ∙ ap (λ d. is_some (read_at d c.args.proc.now term_key)) c.self.view_is

pub returns-in-None-clause-value : goal.returns-in-None-clause-value
returns-in-None-clause-value c =
    sym (read-nothing c.args.key.now)
    ∙ ap (λ k. read k c.args.key.now) (known_none c.self.inside.lanes.table c.args.proc.now c.in-None.ensures)
    ∙ ap (λ d. read_at d c.args.proc.now c.args.key.now) c.self.view_is

pub returns-in-None-clause-ended : goal.returns-in-None-clause-ended
returns-in-None-clause-ended c =
    ap is_some
    (sym (read-nothing term_key)
    ∙ ap (λ k. read k term_key) (known_none c.self.inside.lanes.table c.args.proc.now c.in-None.ensures)
    ∙ ap (λ d. read_at d c.args.proc.now term_key) c.self.view_is)
