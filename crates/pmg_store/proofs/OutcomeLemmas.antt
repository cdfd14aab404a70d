-- Steps that read, one after another, and then a step that writes.
use Rattle.std.proofs.Common.{◌≡◌, ℕ, List, refl, ap, inl, inr, Ok, Err, None, Some}
use Rattle.std.specs.declared.option.Option.{Option}
use Rattle.std.specs.declared.result.Result.{Result}
use Rattle.std.specs.Io.KnownBytes.{Keeps}
use Rattle.std.specs.Prelude.{IfSome}
use Rattle.pmg_value.specs.declared.refusal.Fault.{Fault}
use Rattle.pmg_value.specs.declared.refusal.Refusal.{Refusal}
use Rattle.pmg_value.specs.declared.refusal.Refusal.TheVariants as refusals
use Rattle.pmg_wire.specs.Reading.{FailsReading, ◌>>=◌}
use Rattle.pmg_store.specs.declared.failure.Failure.{Failure}
use Rattle.pmg_store.specs.declared.failure.Failure.TheVariants as failures
use Rattle.pmg_store.specs.Outcomes.{FailsInput, Stops, Dumps, or_failure}

-- the refusal of the first step is that of all, where bytes are read
pub refused_first : {A B : Type 0} (refusal : Refusal) (first : Result A Fault) (next : A → Result B Fault) →
    FailsReading refusal first → FailsReading refusal (first >>= next)
refused_first refusals.NoMemory first next fails = tt
refused_first (refusals.BadFrame fault) first next fails = rw fails refl
refused_first refusals.BadParam first next fails = absurd fails
refused_first refusals.NotFound first next fails = absurd fails
refused_first refusals.OutsideScope first next fails = absurd fails
refused_first refusals.UnknownNamespace first next fails = absurd fails
refused_first refusals.NotMine first next fails = absurd fails
refused_first refusals.Busy first next fails = absurd fails
refused_first refusals.Terminated first next fails = absurd fails
refused_first refusals.NotAParticipant first next fails = absurd fails
refused_first refusals.TooMany first next fails = absurd fails
refused_first refusals.Exists first next fails = absurd fails
refused_first refusals.Collision first next fails = absurd fails
refused_first refusals.Stale first next fails = absurd fails
refused_first refusals.Unordered first next fails = absurd fails
refused_first refusals.Closed first next fails = absurd fails

-- the refusal of a reader of bytes
pub refused_reading : {Y : Type 0} (refusal : Refusal) (due : Result Y Fault) → FailsReading refusal due → FailsInput (failures.Refused refusal) (or_failure due)
refused_reading refusals.NoMemory due fails = inl (inl refl)
refused_reading (refusals.BadFrame fault) due fails = inr (ap or_failure fails)
refused_reading refusals.BadParam due fails = absurd fails
refused_reading refusals.NotFound due fails = absurd fails
refused_reading refusals.OutsideScope due fails = absurd fails
refused_reading refusals.UnknownNamespace due fails = absurd fails
refused_reading refusals.NotMine due fails = absurd fails
refused_reading refusals.Busy due fails = absurd fails
refused_reading refusals.Terminated due fails = absurd fails
refused_reading refusals.NotAParticipant due fails = absurd fails
refused_reading refusals.TooMany due fails = absurd fails
refused_reading refusals.Exists due fails = absurd fails
refused_reading refusals.Collision due fails = absurd fails
refused_reading refusals.Stale due fails = absurd fails
refused_reading refusals.Unordered due fails = absurd fails
refused_reading refusals.Closed due fails = absurd fails

err_first : {A B : Type 0} (failure : Failure) (first : Result A Fault) (next : A → Result B Fault) →
    or_failure first ≡ Err failure → or_failure (first >>= next) ≡ Err failure
err_first failure (Ok x) next is = cc
err_first failure (Err fault) next is = let same : failures.Refused (refusals.BadFrame fault) ≡ failure = cc in ap Err same

-- the failure of the first step is that of all
pub fails_first : {A B : Type 0} (failure : Failure) (first : Result A Fault) (next : A → Result B Fault) →
    FailsInput failure (or_failure first) → FailsInput failure (or_failure (first >>= next))
fails_first failure first next (inl always) = inl always
fails_first failure first next (inr is) = inr (err_first failure first next is)

pub ok_is : {A : Type 0} (first : Result A Fault) (x : A) → or_failure first ≡ Ok x → first ≡ Ok x
ok_is (Ok y) x is = let same : y ≡ x = cc in ap Ok same
ok_is (Err fault) x is = cc

-- where the first step succeeds, the next one decides
pub ok_first : {A B : Type 0} (first : Result A Fault) (x : A) (next : A → Result B Fault) → or_failure first ≡ Ok x → (first >>= next) ≡ next x
ok_first (Ok y) x next is = let same : y ≡ x = cc in ap next same
ok_first (Err fault) x next is = cc

-- nothing was written
pub keeps_same : (known : Option (List ℕ)) → Keeps known known
keeps_same None = tt
keeps_same (Some xs) = refl

-- At a reader whose bytes may be known, `first` and `next` say what is due for them: a first step that fails leaves
-- nothing written; where it succeeds, the next one decides.
pub known_stops : {A : Type 0} (known old : Option (List ℕ)) (failure : Failure) (first : List ℕ → Result A Fault) (next : A → Result (List ℕ) Fault) →
    IfSome known (λ bytes. FailsInput failure (or_failure (first bytes))) → IfSome known (λ bytes. Stops old old failure (or_failure (first bytes >>= next)))
known_stops None old failure first next fails = tt
known_stops (Some bytes) old failure first next fails = inl (fails_first failure (first bytes) next fails, keeps_same old)

pub known_dumps : {T A : Type 0} (known old new : Option (List ℕ)) (result : Result T Failure) (first : List ℕ → Result A Fault) (x : A)
    (next : A → Result (List ℕ) Fault) → IfSome known (λ bytes. or_failure (first bytes) ≡ Ok x) → Dumps old new result (or_failure (next x)) →
    IfSome known (λ bytes. Dumps old new result (or_failure (first bytes >>= next)))
known_dumps None old new result first x next is dumps = tt
known_dumps (Some bytes) old new result first x next is dumps = rw (ok_first (first bytes) x next is) dumps

-- a step between that reads bytes in memory
pub stops_refused : {A : Type 0} (old : Option (List ℕ)) (refusal : Refusal) (first : Result A Fault) (next : A → Result (List ℕ) Fault) →
    FailsReading refusal first → Stops old old (failures.Refused refusal) (or_failure (first >>= next))
stops_refused old refusal first next fails =
    inl (fails_first (failures.Refused refusal) first next (refused_reading refusal first fails), keeps_same old)

pub dumps_next : {T A : Type 0} (old new : Option (List ℕ)) (result : Result T Failure) (first : Result A Fault) (x : A)
    (next : A → Result (List ℕ) Fault) → first ≡ Ok x → Dumps old new result (or_failure (next x)) → Dumps old new result (or_failure (first >>= next))
dumps_next old new result first x next is dumps = rw is dumps
