-- The limit of an input.
use Rattle.std.specs.Prelude.{ℕ, List, length, nat_le, Ok, Err, if◌then◌else◌}
use Rattle.std.specs.declared.result.Result.{Result}
use Rattle.pmg_value.specs.declared.refusal.Cause.TheVariants as causes
use Rattle.pmg_value.specs.declared.refusal.Fault.{Fault}
use Rattle.pmg_wire.specs.Reading.{fault}
use Rattle.pmg_store.specs.declared.input.TheConstants.{INPUT_LIMIT}

-- the fault of input over the limit, at the limit
abbrev pub too_much_input : Fault
too_much_input = fault INPUT_LIMIT causes.Input

-- input is taken whole up to the limit, and not at all over it
abbrev pub input_of : List ℕ → Result (List ℕ) Fault
input_of bytes = if nat_le (length bytes) INPUT_LIMIT then Ok bytes else Err too_much_input
