-- What a command prints, once its work is done and its end is told.
use Rattle.std.proofs.Common.{◌≡◌, ◌⊎◌, ℕ, List, [], ◌++◌, inl, inr, subst, take, append-nil, arith, Ok, Err, None, Some}
use Rattle.std.specs.Prelude.{IfErr, IfSome, IsSome, OnErr}
use Rattle.std.specs.declared.option.Option.{Option}
use Rattle.std.specs.declared.result.Result.{Result}
use Rattle.std.specs.Io.KnownBytes.{Appends, Keeps}
use Rattle.std.proofs.lemmas.Bool.{false≢true}
use Rattle.std.proofs.lemmas.Grind.{common_steps}
use Rattle.pmg_value.specs.declared.refusal.Refusal.TheVariants as refusals
use Rattle.pmg_value.specs.Written.{AppendsFront, Writes}
use Rattle.pmg_value.proofs.WrittenLemmas.{appends_then, front_of_all}
use Rattle.pmg_store.specs.declared.failure.Failure.{Failure}
use Rattle.pmg_store.specs.declared.failure.Failure.TheVariants as failures
use Rattle.pmg_store.specs.Outcomes.{Stops, Dumps}
use Rattle.pmg_commands.specs.Output.{Output, Prints, PrintsDue, output_of, outcome_output, failure_output, failure_line, status_alone}

-- nothing, and then a text
kept_appends : (old mid new : Option (List ℕ)) (a : List ℕ) → Keeps old mid → Appends mid new a → Appends old new a
kept_appends None mid new a kept more = tt
kept_appends (Some xs) None new a kept more = absurd kept
kept_appends (Some xs) (Some ys) None a kept more = absurd more
kept_appends (Some xs) (Some ys) (Some zs) a kept more = subst (λ bytes. zs ≡ bytes ++ a) kept more

kept_prints : {E : Type 0} (old mid new : Option (List ℕ)) (failure : Option E) (status : ℕ) (output : Output) → Keeps old mid →
    Prints mid new failure status output → Prints old new failure status output
kept_prints old mid new None status output kept (is, all) = (is, kept_appends old mid new output.printed kept all)
kept_prints old mid new (Some e) status output kept (is, front) =
    (is, record { count = front.count; bytes = kept_appends old mid new (take front.count output.printed) kept front.bytes })

take_nothing : (count : ℕ) → take {A = ℕ} count [] ≡ []
take_nothing count = grind (arith, common_steps)

nothing_more : (mid new : Option (List ℕ)) → AppendsFront mid new [] → Appends mid new []
nothing_more mid new front = subst (λ bytes. Appends mid new bytes) (take_nothing front.count) front.bytes

-- a text, and then nothing
then_nothing : (old mid new : Option (List ℕ)) (text : List ℕ) → Appends mid new [] → Appends old mid text → Appends old new text
then_nothing old mid new text nothing all = subst (λ bytes. Appends old new bytes) (append-nil text) (appends_then old mid new text [] nothing all)

front_then_nothing : (old mid new : Option (List ℕ)) (text : List ℕ) → AppendsFront old mid text → Appends mid new [] → AppendsFront old new text
front_then_nothing old mid new text front nothing =
    record { count = front.count; bytes = then_nothing old mid new (take front.count text) nothing front.bytes }

-- the text that is due was written
runs_done : {D E : Type 0} (old mid new : Option (List ℕ)) (read : Option D) (write : Option E) (status : ℕ) (due : Result (List ℕ) Failure) →
    Dumps {T = Unit {0}} old mid (Ok tt) due → Prints mid new write status (outcome_output {T = Unit {0}} (Ok tt)) → PrintsDue old new read write status (output_of due)
runs_done old mid new read None status (Ok text) dumps (is, nothing) = inl (is, then_nothing old mid new text nothing dumps)
runs_done old mid new read (Some e) status (Ok text) dumps (is, front) =
    inl (is, front_of_all old new text (then_nothing old mid new text (nothing_more mid new front) dumps))
runs_done old mid new read write status (Err failure) dumps prints = absurd dumps

-- the writer failed, and so its line is empty
no_line : {E : Type 0} (mid new : Option (List ℕ)) (write : Option E) (status : ℕ) → IsSome write → Prints mid new write status (failure_output failures.Write) →
    (status ≡ 1) × Appends mid new []
unfolding failure_line
no_line mid new None status failed prints = absurd (false≢true failed)
no_line mid new (Some e) status failed (is, front) = (is, nothing_more mid new front)

runs_unwritten : {D E : Type 0} (old mid new : Option (List ℕ)) (read : Option D) (write : Option E) (status : ℕ) (text : List ℕ) → AppendsFront old mid text →
    IsSome write → (status ≡ 1) × Appends mid new [] → PrintsDue old new read write status (output_of (Ok text))
runs_unwritten old mid new read None status text front failed told = absurd (false≢true failed)
runs_unwritten old mid new read (Some e) status text front failed (is, nothing) = inl (is, front_then_nothing old mid new text front nothing)

-- the call failed
runs_stopped : {D E : Type 0} (old mid new : Option (List ℕ)) (read : Option D) (write : Option E) (status : ℕ) (failure : Failure) (due : Result (List ℕ) Failure) →
    Stops old mid failure due → (failure ≡ failures.Read → IsSome read) → (failure ≡ failures.Write → IsSome write) →
    Prints mid new write status (failure_output failure) → PrintsDue old new read write status (output_of due)
runs_stopped old mid new read write status failure due (inl (inl (inl is), kept)) reads writes prints =
    inr (inl (kept_prints old mid new write status (failure_output (failures.Refused refusals.NoMemory)) kept (rw is at prints)))
runs_stopped old mid new read write status failure due (inl (inl (inr is), kept)) reads writes prints =
    inr (inr (reads is, kept_prints old mid new write status (failure_output failures.Read) kept (rw is at prints)))
runs_stopped old mid new read write status failure due (inl (inr is, kept)) reads writes prints =
    rw is (inl (kept_prints old mid new write status (failure_output failure) kept prints))
runs_stopped old mid new read write status failure (Ok text) (inr (is, front)) reads writes prints =
    runs_unwritten old mid new read write status text front (writes is) (no_line mid new write status (writes is) (rw is at prints))
runs_stopped old mid new read write status failure (Err e) (inr (is, front)) reads writes prints = absurd front

-- what a failure says of the reader and the writer
abbrev IsTold : {D E : Type 0} → Option D → Option E → Result (Unit {0}) Failure → Type 0
IsTold read write (Ok done) = Unit {0}
IsTold read write (Err failure) = (failure ≡ failures.Read → IsSome read) × (failure ≡ failures.Write → IsSome write)

told_of : {D E : Type 0} (read : Option D) (mid write : Option E) (outcome : Result (Unit {0}) Failure) → IfErr outcome (λ e. e ≡ failures.Read → IsSome read) →
    IfErr outcome (λ e. e ≡ failures.Write → IsSome mid) → (IsSome mid → IsSome write) → IsTold read write outcome
told_of read mid write (Ok done) reads writes kept = tt
told_of read mid write (Err failure) reads writes kept = (reads, λ is. kept (writes is))

runs : {D E : Type 0} (old mid new : Option (List ℕ)) (read : Option D) (write : Option E) (status : ℕ) (outcome : Result (Unit {0}) Failure)
    (due : Result (List ℕ) Failure) → Dumps old mid outcome due → IsTold read write outcome → Prints mid new write status (outcome_output outcome) →
    PrintsDue old new read write status (output_of due)
runs old mid new read write status (Ok done) due dumps told prints = runs_done old mid new read write status due dumps prints
runs old mid new read write status (Err failure) due stops (reads, writes) prints = runs_stopped old mid new read write status failure due stops reads writes prints

-- the same, at a reader whose bytes may be known, where the writer had failed, if it had, before the call ended
pub known_runs : {D E : Type 0} (known old mid new : Option (List ℕ)) (read : Option D) (failed write : Option E) (status : ℕ) (outcome : Result (Unit {0}) Failure)
    (due : List ℕ → Result (List ℕ) Failure) → IfSome known (λ text. Dumps old mid outcome (due text)) → IfErr outcome (λ e. e ≡ failures.Read → IsSome read) →
    IfErr outcome (λ e. e ≡ failures.Write → IsSome failed) → (IsSome failed → IsSome write) → Prints mid new write status (outcome_output outcome) →
    IfSome known (λ text. PrintsDue old new read write status (output_of (due text)))
known_runs None old mid new read failed write status outcome due dumps reads writes kept prints = tt
known_runs (Some text) old mid new read failed write status outcome due dumps reads writes kept prints =
    runs old mid new read write status outcome (due text) dumps (told_of read failed write outcome reads writes kept) prints

-- a text was written, or a prefix of it, and then the command ended with this status
pub printed_whole : {T D E : Type 0} (old mid new : Option (List ℕ)) (result : Result T D) (failed write : Option E) (due status : ℕ) (text : List ℕ) → Writes old mid result text →
    OnErr result (IsSome failed) → (IsSome failed → IsSome write) → Prints mid new write status (status_alone due) → Prints old new write status (record { status = due; printed = text })
printed_whole old mid new (Ok done) failed None due status text writes fails kept (is, nothing) = (is, then_nothing old mid new text nothing writes.1)
printed_whole old mid new (Ok done) failed (Some e) due status text writes fails kept (is, front) =
    (is, front_of_all old new text (then_nothing old mid new text (nothing_more mid new front) writes.1))
printed_whole old mid new (Err e) failed None due status text writes fails kept prints = absurd (false≢true (kept fails))
printed_whole old mid new (Err e) failed (Some f) due status text writes fails kept (is, front) = (is, front_then_nothing old mid new text writes.0 (nothing_more mid new front))

-- a read fault was answered, and nothing written before its line
tells : {E : Type 0} (old mid new : Option (List ℕ)) (write : Option E) (status : ℕ) (outcome : Result (Unit {0}) Failure) → outcome ≡ Err failures.Read → mid ≡ old →
    Prints mid new write status (outcome_output outcome) → Prints old new write status (failure_output failures.Read)
tells old mid new write status outcome is same prints =
    subst (λ known. Prints known new write status (failure_output failures.Read)) same (subst (λ o. Prints mid new write status (outcome_output {T = Unit {0}} o)) is prints)

-- the same, where the reader had failed before or the call answered that it did
pub tells_fault : {D E : Type 0} (old mid new : Option (List ℕ)) (before : Option D) (write : Option E) (status : ℕ) (outcome : Result (Unit {0}) Failure) →
    IsSome before ⊎ (outcome ≡ Err failures.Read) → (outcome ≡ Err failures.Read → mid ≡ old) → Prints mid new write status (outcome_output outcome) →
    IsSome before ⊎ Prints old new write status (failure_output failures.Read)
tells_fault old mid new before write status outcome (inl was) same prints = inl was
tells_fault old mid new before write status outcome (inr is) same prints = inr (tells old mid new write status outcome is (same is) prints)
