use Rattle.std.proofs.Common.{◌∙◌}
use Rattle.std.specs.FinMap as finite
use Rattle.std.proofs.lemmas.Result.{on_ok_weaker, on_err_weaker}
use Rattle.pmg_value.proofs.ProcessOrder.{procs_total, exact_procs}
use Rattle.pmg_value.proofs.RowLemmas.{kept_whole}
use Rattle.pmg_dmodex.specs.Parked.{askers_of}
use Rattle.pmg_dmodex.proofs.InnerLemmas.{grown_there}
use Rattle.pmg_dmodex.proofs.parked.Parked.park.Goals as goal

pub returns-clause-ok : goal.returns-clause-ok
returns-clause-ok c =
    let whole = c.args.self.now in
    let target = c.args.target.now in
    on_ok_weaker c.grow_row.result (λ updates.
    grown_there c.self.inside.rows.entries whole target c.self.view_is c.in_ok-asker.asker c.in_ok-key.key c.new-nobody.result c.grow_row.new.rows.entries c.new-nobody.ensures updates
    ∙ (λ i. finite.insert whole target (finite.insert (askers_of whole target) (c.in_ok-asker.ensures i) (c.in_ok-key.ensures i)))) c.grow_row.ensures.ok

pub returns-clause-err : goal.returns-clause-err
returns-clause-err c =
    on_err_weaker c.grow_row.result
    (kept_whole procs_total exact_procs c.self.inside.rows.entries c.args.self.now c.args.target.now c.self.view_is c.grow_row.new.rows.entries) c.grow_row.ensures.err
