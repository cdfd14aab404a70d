-- The command `dump`.
use Rattle.std.specs.Prelude.{ℕ, List}
use Rattle.std.specs.declared.result.Result.{Result}
use Rattle.pmg_value.specs.declared.refusal.Fault.{Fault}
use Rattle.pmg_wire.specs.Reading.{◌>>=◌}
use Rattle.pmg_store.specs.Dumps.{stream_dump}
use Rattle.pmg_store.specs.Input.{input_of}
use Rattle.pmg_store.specs.Outcomes.{or_failure}
use Rattle.pmg_commands.specs.Output.{Output, output_of}
use Rattle.pmg_commands.specs.Text.{decoded}

-- the dump of the frames that a text encodes, or the first fault
unfoldable pub dump_text : List ℕ → Result (List ℕ) Fault
dump_text text = input_of text >>= λ kept. decoded kept >>= stream_dump

-- the output of `dump` for a text
abbrev pub dump_output : List ℕ → Output
dump_output text = output_of (or_failure (dump_text text))
