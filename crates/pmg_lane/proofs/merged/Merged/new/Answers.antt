use Rattle.pmg_lane.specs.declared.merged.Merged.{Merged}
use Rattle.pmg_lane.proofs.Merging.{none_merged, none_known}
use Rattle.pmg_lane.proofs.merged.Merged.new.Goals as goal

pub returns : goal.returns
returns c =
    let t : Merged = record { taken = c.new.result; entries = c.new-2.result; waiting = c.new-3.result } in
    let none = c.new.ensures.none in
    let empty = c.new-2.ensures in
    record {
      kept = none_merged t c.new.ensures.apart none empty.none empty.none_late c.new-3.ensures;
      nothing = none_known t none empty.none empty.none_late c.new-3.ensures;
    }
