use Rattle.std.proofs.Common.{◌≡◌, ◌++◌, drop}
use Rattle.std.specs.Option.{option_map}
use Rattle.serde_json.specs.View.{items_view}
use Rattle.pmg_jobfile.specs.Reading.{all_in, home_in}
use Rattle.pmg_jobfile.proofs.parts.homes_of.Given as goal

abbrev pub invariant-loop-item : goal.invariant-loop-item
invariant-loop-item l = option_map (λ xs. l.homes.items ++ xs) (all_in (home_in l.nodes) (items_view (drop l.item-index l.items))) ≡ all_in (home_in l.nodes) (items_view l.items)
