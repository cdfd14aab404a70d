-- The dump of an input.
use Rattle.std.specs.Prelude.{ℕ, List, Ok}
use Rattle.std.specs.declared.result.Result.{Result}
use Rattle.pmg_value.specs.declared.refusal.Fault.{Fault}
use Rattle.pmg_wire.specs.Reading.{◌>>=◌}
use Rattle.pmg_store.specs.Dump.{dump}
use Rattle.pmg_store.specs.Input.{input_of}
use Rattle.pmg_store.specs.Told.{data_told}

-- the dump of a stream's contributions, or the stream's first fault
abbrev pub stream_dump : List ℕ → Result (List ℕ) Fault
stream_dump bytes = data_told bytes >>= λ d. Ok (dump d)

-- the dump of an input's stream, or the first fault
unfoldable pub dump_of : List ℕ → Result (List ℕ) Fault
dump_of bytes = input_of bytes >>= stream_dump
