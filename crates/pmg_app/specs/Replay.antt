-- The command `replay`.
use Rattle.std.specs.Prelude.{◌≡◌, ◌⊎◌, ℕ, List, Option, Result, Ok, Err, IfErr, IsSome}
use Rattle.pmg_store.specs.declared.failure.Failure.{Failure}
use Rattle.pmg_store.specs.declared.failure.Failure.TheVariants as failures
use Rattle.pmg_script.specs.Replays.{Replayed}
use Rattle.pmg_world.specs.Stages.{PlaysLine, StopsLine, is_over}
use Rattle.pmg_world.specs.declared.phase.Phase.TheVariants as phases
use Rattle.pmg_script.specs.declared.playing.Ended.{Ended}
use Rattle.pmg_script.specs.declared.playing.Ended.TheVariants as ends
use Rattle.pmg_commands.specs.Output.{Output, Prints, status_alone, failure_output}

-- The script was replayed: its first lines were carried out, starting without a group, their replies were written, and it ended this way.
abbrev pub IsScriptReplayed : List ℕ → Option (List ℕ) → Option (List ℕ) → Option (List ℕ) → Result Ended Failure → Type 0
IsScriptReplayed text left old new ended = Replayed PlaysLine StopsLine is_over phases.Fresh text left old new ended

-- The output that remains at the end of a script, and the status. It is empty at the script's end, and if its nodes were refused, since
-- the reply says it. Else it is the line of the failure.
abbrev pub script_output : Result Ended Failure → Output
script_output (Ok ends.AtEnd) = status_alone 0
script_output (Ok ends.Over) = status_alone 1
script_output (Err failure) = failure_output failure

-- The output of `replay` for a text, and its status: the replies of the lines up to the script's end, and then the output that remains. If
-- the script ended with a read fault, the reader failed. A reader that fails, and had not failed before, ends the script with a read
-- fault. If the script ended with a write fault, the writer failed.
pub record PrintsReplies {D E : Type 0} (text : List ℕ) (left old new : Option (List ℕ)) (before read : Option D) (write : Option E)
    (status : ℕ) : Type 0 where
  pub ended : Result Ended Failure
  pub told : Option (List ℕ)
  pub replayed : IsScriptReplayed text left old told ended
  pub read_fault : IfErr ended (λ e. e ≡ failures.Read → IsSome read)
  pub failed : IsSome read → IsSome before ⊎ (ended ≡ Err failures.Read)
  pub write_fault : IfErr ended (λ e. e ≡ failures.Write → IsSome write)
  pub printed : Prints told new write status (script_output ended)
