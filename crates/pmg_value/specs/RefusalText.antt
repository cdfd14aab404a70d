-- The text of a refusal.
use Rattle.std.specs.Prelude.{ℕ, List, [], ◌++◌, codes, decimal}
use Rattle.pmg_value.specs.declared.refusal.Fault.{Fault}
use Rattle.pmg_value.specs.declared.refusal.Refusal.{Refusal}
use Rattle.pmg_value.specs.declared.refusal.Refusal.TheVariants.{BadFrame}
use Rattle.pmg_value.specs.Refusals.{number_of, name_of, cause_name}

-- a fault's cause and its offset, as `Hex at 3`
unfoldable pub fault_text : Fault → List ℕ
fault_text fault = cause_name fault.cause ++ codes " at " ++ decimal fault.offset

-- the text after a refusal's name: the fault, if it has one
unfoldable pub detail_text : Refusal → List ℕ
detail_text (BadFrame fault) = codes ": " ++ fault_text fault
detail_text _ = []

-- a refusal's number, name and fault, as `9 TooMany` and `10 BadFrame: Hex at 3`
unfoldable pub refusal_text : Refusal → List ℕ
refusal_text refusal = decimal (number_of refusal) ++ codes " " ++ name_of refusal ++ detail_text refusal
