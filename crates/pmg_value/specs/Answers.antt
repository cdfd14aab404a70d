-- The answers of a call that can be refused.
use Rattle.std.specs.Prelude.{◌≡◌, Ok, Err, Result}
use Rattle.pmg_value.specs.declared.refusal.Refusal.{Refusal}
use Rattle.pmg_value.specs.declared.refusal.Refusal.TheVariants as refusals

-- No refusal is due.
abbrev pub IsAnswer : {Y : Type 0} → Result Y Refusal → Type 0
IsAnswer (Ok y) = Unit {0}
IsAnswer (Err e) = ⊥

-- The refusal is the one that is due. An allocation may fail at any time, which no definition says. NoMemory is answered only if no refusal
-- is due, so that bad arguments are refused with or without memory.
abbrev pub Fails : {Y : Type 0} → Refusal → Result Y Refusal → Type 0
Fails refusals.NoMemory due = IsAnswer due
Fails e due = due ≡ Err e

-- The answer, seen by view, is the one that is due; or an allocation failed that the answer takes.
abbrev pub Gives : {X Y : Type 0} → (X → Y) → Result X Refusal → Result Y Refusal → Type 0
Gives view (Ok x) due = due ≡ Ok (view x)
Gives view (Err e) due = Fails e due
