use Rattle.pmg_lane.specs.declared.merged.Merged.{Merged}
use Rattle.pmg_lane.proofs.Merging.{copied_merged, copied_known}
use Rattle.pmg_lane.proofs.merged.Merged.copy.Goals as goal

pub returns-clause-kept : goal.returns-clause-kept
returns-clause-kept c =
    let t = c.args.self.now in
    let u : Merged = record { taken = c.in_ok-copy.field-0; entries = c.in_ok-copy-2.field-0; waiting = c.in_ok-copy-3.field-0 } in
    copied_merged t u c.in_ok-copy.ensures c.in_ok-copy-2.ensures c.in_ok-copy-3.ensures c.requires

pub returns-clause-same : goal.returns-clause-same
returns-clause-same c =
    let t = c.args.self.now in
    let u : Merged = record { taken = c.in_ok-copy.field-0; entries = c.in_ok-copy-2.field-0; waiting = c.in_ok-copy-3.field-0 } in
    copied_known t u c.in_ok-copy.ensures c.in_ok-copy-2.ensures c.in_ok-copy-3.ensures
