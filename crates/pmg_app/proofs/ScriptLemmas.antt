-- What `replay` prints, once the script has ended and its end is told.
use Rattle.std.proofs.Common.{◌≡◌, ◌⊎◌, ℕ, List, Option, Some, None, Result, Ok, Err}
use Rattle.std.specs.Prelude.{IfErr, IfSome, IsSome}
use Rattle.pmg_store.specs.declared.failure.Failure.{Failure}
use Rattle.pmg_store.specs.declared.failure.Failure.TheVariants as failures
use Rattle.pmg_script.specs.declared.playing.Ended.{Ended}
use Rattle.pmg_commands.specs.Output.{Prints}
use Rattle.pmg_app.specs.Replay.{IsScriptReplayed, PrintsReplies, script_output}

-- what failed before has failed now
still_failed : {A B : Type 0} (ended : Result Ended Failure) → (A → B) → IfErr ended (λ e. e ≡ failures.Write → A)
    → IfErr ended (λ e. e ≡ failures.Write → B)
still_failed (Ok e) kept failed = tt
still_failed (Err e) kept failed = λ is. kept (failed is)

-- the lines were done, and then the end was told, at a reader whose bytes may be known
pub known_replies : {D E : Type 0} (known left old told new : Option (List ℕ)) (first read : Option D) (before write : Option E) (status : ℕ)
    (ended : Result Ended Failure) → IfSome known (λ text. IsScriptReplayed text left old told ended)
    → IfErr ended (λ e. e ≡ failures.Read → IsSome read) → (IsSome read → IsSome first ⊎ (ended ≡ Err failures.Read)) → IfErr ended (λ e. e ≡ failures.Write → IsSome before)
    → (IsSome before → IsSome write) → Prints told new write status (script_output ended)
    → IfSome known (λ text. PrintsReplies text left old new first read write status)
known_replies None left old told new first read before write status ended replayed reads failed writes kept prints = tt
known_replies (Some text) left old told new first read before write status ended replayed reads failed writes kept prints = record {
  ended = ended;
  told = told;
  replayed = replayed;
  read_fault = reads;
  failed = failed;
  write_fault = still_failed ended kept writes;
  printed = prints;
}
