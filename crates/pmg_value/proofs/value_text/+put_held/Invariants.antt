use Rattle.std.proofs.Common.{cond, codes, ◌++◌, take}
use Rattle.std.specs.List.{flat_map}
use Rattle.std.specs.Io.KnownBytes.{Appends}
use Rattle.pmg_value.specs.Items.{items_in}
use Rattle.pmg_value.specs.Plain.{plain_text}
use Rattle.pmg_value.specs.Spelling.{form, is_plain_form, plains_of}
use Rattle.pmg_value.proofs.value_text.+put_held.Given as goal

-- an array leads to its items, and they lead to no array
abbrev pub decreases-put_held : goal.decreases-put_held
decreases-put_held g l = cond (is_plain_form (form l.value.now)) 0 5

abbrev pub decreases-put_array : goal.decreases-put_array
decreases-put_array g l = 4

abbrev pub decreases-put_items : goal.decreases-put_items
decreases-put_items g l = 3

abbrev pub decreases-put_others : goal.decreases-put_others
decreases-put_others g l = 2

abbrev pub decreases-put_next : goal.decreases-put_next
decreases-put_next g l = 1

-- what was written so far are the texts of the first items
abbrev pub invariant-put_others-loop-i : goal.invariant-put_others-loop-i
invariant-put_others-loop-i g l =
    Appends (g.W.Write.contents l.fn.writer.writer) (g.W.Write.contents l.writer.writer) (flat_map (λ p. codes "," ++ plain_text p) (take l.i (plains_of (items_in l.fn.items))))
