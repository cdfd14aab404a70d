use Rattle.std.proofs.Common.{◌≡◌, length, None}
use Rattle.pmg_script.specs.Reading.{lines}
use Rattle.pmg_grouptext.specs.Groups.{after_lines}
use Rattle.pmg_grouptext.proofs.group.read_group.Given as goal

-- what the lines that were read said, and those that are left
abbrev pub invariant-loop-left : goal.invariant-loop-left
invariant-loop-left l = after_lines l.group (lines l.left) ≡ after_lines None (lines l.text)

abbrev pub decreases-loop-left : goal.decreases-loop-left
decreases-loop-left l = length l.left
