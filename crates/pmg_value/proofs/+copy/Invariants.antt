use Rattle.std.proofs.Common.{◌≡◌, cond, take}
use Rattle.pmg_value.specs.Spelling.{form, is_plain_form}
use Rattle.pmg_value.proofs.+copy.Given as goal

-- an array leads to its items, and they lead to no array
abbrev pub decreases-value::Value::copy : goal.decreases-value::Value::copy
decreases-value::Value::copy l = cond (is_plain_form (form l.self.now)) 0 3

abbrev pub decreases-array::Array::copy : goal.decreases-array::Array::copy
decreases-array::Array::copy l = 2

abbrev pub decreases-array::copy_values : goal.decreases-array::copy_values
decreases-array::copy_values l = 1

-- the copies so far are the first values
abbrev pub invariant-array::copy_values-loop-value : goal.invariant-array::copy_values-loop-value
invariant-array::copy_values-loop-value l = l.copies.items ≡ take l.value-index l.values.items
