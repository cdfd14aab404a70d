use Rattle.std.proofs.Common.{ℕ, List, Option, sym, ap, ◌∙◌}
use Rattle.std.specs.FinMap as finite
use Rattle.std.specs.Option.{unwrap_or}
use Rattle.pmg_value.specs.declared.process.Proc.{Proc}
use Rattle.pmg_value.specs.Process.{proc_cmp}
use Rattle.pmg_value.proofs.ProcessOrder.{procs_total, exact_procs}
use Rattle.pmg_value.proofs.RowLemmas.{kept_is}
use Rattle.pmg_dmodex.specs.Parked.{Askers}
use Rattle.pmg_dmodex.proofs.parked.Parked.get.Goals as goal

abbrev by_asker : Proc → Option Askers → Option (List ℕ)
by_asker asker there = finite.get (unwrap_or there finite.empty) asker

pub returns-in-None : goal.returns-in-None
returns-in-None c =
    let kept = kept_is procs_total exact_procs c.self.inside.rows.entries c.args.self.now c.args.target.now c.self.view_is _ (sym c.in-None.ensures.value) in
    sym (finite.get-empty proc_cmp c.args.asker.now) ∙ ap (by_asker c.args.asker.now) (sym kept)

pub returns-in-Some : goal.returns-in-Some
returns-in-Some c =
    let kept = kept_is procs_total exact_procs c.self.inside.rows.entries c.args.self.now c.args.target.now c.self.view_is _ (sym c.in-Some.ensures.value) in
    c.get-in-Some.ensures ∙ ap (by_asker c.args.asker.now) (sym kept)
