use Rattle.std.proofs.Common.{◌≡◌, drop}
use Rattle.std.specs.Ordering.{nat_cmp}
use Rattle.std.specs.Cmp.Lexicographic.{slice_cmp}
use Rattle.pmg_value.specs.Elements.{bodies}
use Rattle.pmg_value.specs.Items.{items_in}
use Rattle.pmg_value.specs.Spelling.{plains_of}
use Rattle.pmg_value.proofs.parts.cmp_items.Given as goal

-- the items that are left are in order as all of them
abbrev pub invariant-loop-i : goal.invariant-loop-i
invariant-loop-i l = slice_cmp nat_cmp (bodies (plains_of (drop l.i (items_in l.a)))) (bodies (plains_of (drop l.i (items_in l.b)))) ≡ slice_cmp nat_cmp (bodies (plains_of (items_in l.a))) (bodies (plains_of (items_in l.b)))
