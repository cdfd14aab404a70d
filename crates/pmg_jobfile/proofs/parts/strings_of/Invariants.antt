use Rattle.std.proofs.Common.{◌≡◌, ◌++◌, drop, map}
use Rattle.std.specs.Option.{option_map}
use Rattle.serde_json.specs.View.{items_view}
use Rattle.pmg_jobfile.specs.Reading.{all_in}
use Rattle.serde_json.specs.Find.{as_str}
use Rattle.pmg_jobfile.proofs.parts.strings_of.Given as goal

abbrev pub invariant-loop-item : goal.invariant-loop-item
invariant-loop-item l = option_map (λ xs. map (λ s. s.now) l.strings.items ++ xs) (all_in as_str (items_view (drop l.item-index l.items))) ≡ all_in as_str (items_view l.items)
