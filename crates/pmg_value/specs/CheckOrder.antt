-- The order in which a call looks for the causes of its refusals.
use Rattle.std.specs.Prelude.{Bool, List, [], ◌∷◌, Ok, Err, Result, if◌then◌else◌}
use Rattle.pmg_value.specs.declared.refusal.Refusal.{Refusal}
use Rattle.pmg_value.specs.declared.refusal.Refusal.TheVariants as refusals

-- The refusals in the order in which a call looks for their causes, each over all of its arguments. NoMemory comes last, and no definition
-- says when it comes.
abbrev pub check_order : List Refusal
check_order =
    refusals.Closed ∷ refusals.BadParam ∷ refusals.UnknownNamespace ∷ refusals.NotMine ∷ refusals.Terminated ∷ refusals.Busy ∷ refusals.NotAParticipant ∷ refusals.Exists ∷ refusals.NotFound
    ∷ refusals.OutsideScope ∷ refusals.TooMany ∷ []

-- the first of these refusals whose cause holds, else the answer
abbrev pub first_in : {Y : Type 0} → List Refusal → (Refusal → Bool) → Y → Result Y Refusal
first_in [] has_cause answer = Ok answer
first_in (e ∷ es) has_cause answer = if has_cause e then Err e else first_in es has_cause answer

-- the due answer of a call: the first refusal in check_order whose cause holds, else the answer
abbrev pub first_of : {Y : Type 0} → (Refusal → Bool) → Y → Result Y Refusal
first_of has_cause answer = first_in check_order has_cause answer
