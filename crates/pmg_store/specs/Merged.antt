-- The contributions of several streams together.
use Rattle.std.specs.Prelude.{ℕ, suc, nat_lt, List, [], ◌∷◌, ◌++◌, length, Ok, Err, if◌then◌else◌}
use Rattle.std.specs.List.{flat_map}
use Rattle.std.specs.declared.result.Result.{Result}
use Rattle.pmg_value.specs.declared.refusal.Fault.{Fault}
use Rattle.pmg_value.specs.declared.refusal.Refusal.TheVariants.{TooMany, BadFrame}
use Rattle.pmg_wire.specs.Reading.{◌>>=◌}
use Rattle.pmg_commit.specs.Knowledge.{Contribution}
use Rattle.pmg_commit.specs.Data.{Data}
use Rattle.pmg_store.specs.declared.failure.Failure.{Failure}
use Rattle.pmg_store.specs.declared.failure.Failure.TheVariants.{Refused, InStream}
use Rattle.pmg_store.specs.Dump.{dump}
use Rattle.pmg_store.specs.Input.{input_of}
use Rattle.pmg_store.specs.Pieces.{data_of}
use Rattle.pmg_store.specs.Told.{told_in}
use Rattle.pmg_store.specs.declared.merge.TheConstants.{MAX_STREAMS}

-- the contributions in an input's stream, or its first fault
abbrev pub told_by_input : List ℕ → Result (List Contribution) Fault
told_by_input bytes = input_of bytes >>= told_in

-- the data of a server that took these contributions
abbrev pub data_by_input : List ℕ → Result Data Fault
data_by_input bytes = told_by_input bytes >>= λ cs. Ok (data_of cs)

-- a failure at the stream of that number: a fault has the number
abbrev pub failure_in : ℕ → Failure → Failure
failure_in number (Refused (BadFrame fault)) = InStream number fault
failure_in number failure = failure

-- these contributions, and then the others
abbrev pub told_behind : List Contribution → Result (List Contribution) Failure → Result (List Contribution) Failure
told_behind cs (Ok ds) = Ok (cs ++ ds)
told_behind cs (Err e) = Err e

-- the contributions in the stream of that number, and then the contributions in the others; a fault has the stream's number
abbrev pub told_first : ℕ → Result (List Contribution) Fault → Result (List Contribution) Failure → Result (List Contribution) Failure
told_first number (Ok cs) others = told_behind cs others
told_first number (Err fault) others = Err (InStream number fault)

-- the contributions in streams that are counted from a number, one stream after the other; or the first fault of the first stream that has
-- one
abbrev pub told_from : ℕ → List (List ℕ) → Result (List Contribution) Failure
told_from number [] = Ok []
told_from number (bytes ∷ others) = told_first number (told_by_input bytes) (told_from (suc number) others)

-- applies a function to the contributions, unless there is a fault
abbrev pub made_of : {Y : Type 0} → (List Contribution → Y) → Result (List Contribution) Failure → Result Y Failure
made_of make (Ok cs) = Ok (make cs)
made_of make (Err e) = Err e

-- the concatenation of the streams
abbrev pub one_after_the_other : List (List ℕ) → List ℕ
one_after_the_other streams = flat_map (λ bytes. bytes) streams

-- the data of a server that took the streams' contributions
abbrev pub merged : List (List ℕ) → Result Data Failure
merged streams = made_of data_of (told_from 1 streams)

-- there are more streams than one call merges
abbrev pub too_many : Failure
too_many = Refused TooMany

-- the dump of this data; more than 64 streams are refused without a read
unfoldable pub merge_of : List (List ℕ) → Result (List ℕ) Failure
merge_of streams = if nat_lt MAX_STREAMS (length streams) then Err too_many else made_of (λ cs. dump (data_of cs)) (told_from 1 streams)
