use Rattle.std.proofs.Common.{ap, ◌∙◌}
use Rattle.std.specs.Prelude.{is_some}
use Rattle.pmg_value.specs.Spelling.{spelling}
use Rattle.pmg_commit.specs.Data.{read_at}
use Rattle.pmg_store.proofs.LaneData.{is_read_alike}
use Rattle.pmg_store.proofs.store.Store.has_ended.Goals as goal

pub returns : goal.returns
returns c =
    c.is_some.ensures
    ∙ is_read_alike _ (read_at c.args.self.now c.args.proc.now c.of_termination.result) (λ v. spelling v.now) c.read-value.ensures
    ∙ ap (λ key. is_some (read_at c.args.self.now c.args.proc.now key)) c.of_termination.ensures
