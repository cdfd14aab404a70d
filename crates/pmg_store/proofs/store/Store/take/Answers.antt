use Rattle.std.proofs.Common.{refl, ap, ◌∙◌}
use Rattle.std.proofs.lemmas.Result.{on_ok_weaker, on_err_weaker}
use Rattle.pmg_commit.specs.Cores.{core_of}
use Rattle.pmg_commit.specs.Data.{absorbed}
use Rattle.pmg_commit.specs.Knowledge.{knowledge_of}
use Rattle.pmg_store.proofs.LaneData.{same_data, absorbed_data}
use Rattle.pmg_store.proofs.store.Store.take.Goals as goal

pub returns-clause-ok : goal.returns-clause-ok
returns-clause-ok c =
    on_ok_weaker c.put_change.result
    (λ put. absorbed_data c.self.inside.lanes.table c.put_change.new.map.table c.args.piece c.in_ok-proc.proc (core_of (knowledge_of c.args.piece))
    (c.in_ok-proc.ensures ∙ c.proc.ensures.value) refl put
    ∙ ap (λ d. absorbed d c.args.piece) c.self.view_is)
    c.put_change.ensures.ok

pub returns-clause-err : goal.returns-clause-err
returns-clause-err c =
    on_err_weaker c.put_change.result (λ same. same_data c.self.inside.lanes.table c.put_change.new.map.table same ∙ c.self.view_is) c.put_change.ensures.err
