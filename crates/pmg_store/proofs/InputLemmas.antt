-- What was read of known bytes, at the end and past the limit.
use Rattle.std.proofs.Common.{◌≡◌, ℕ, List, [], ◌+◌, ◌++◌, ◌<◌, ◌≤◌, length, length-append, append-nil, ap, inr, ◌∙◌, arith, Ok, Err, None, Some}
use Rattle.std.specs.Prelude.{IfSome}
use Rattle.std.specs.declared.option.Option.{Option}
use Rattle.std.specs.Io.KnownBytes.{Consumes, IsAtEnd}
use Rattle.std.proofs.lemmas.Grind.{common_steps}
use Rattle.pmg_store.specs.declared.input.TheConstants.{INPUT_LIMIT}
use Rattle.pmg_value.specs.declared.refusal.Refusal.TheVariants.{BadFrame}
use Rattle.pmg_store.specs.declared.failure.Failure.TheVariants.{Refused}
use Rattle.pmg_store.specs.Input.{input_of, too_much_input}
use Rattle.pmg_store.specs.Outcomes.{FailsInput, or_failure}

taken_whole : (bytes input : List ℕ) → bytes ≡ input → length input ≤ INPUT_LIMIT → input_of bytes ≡ Ok input
taken_whole bytes input is within = rw is (grind (arith, common_steps))

not_taken : (bytes : List ℕ) → INPUT_LIMIT < length bytes → input_of bytes ≡ Err too_much_input
not_taken bytes over = grind (arith, common_steps)

-- at the end of the bytes the input is all of them
pub all_read : (known mid new : Option (List ℕ)) (input taken : List ℕ) → length input ≤ INPUT_LIMIT → taken ≡ [] →
    Consumes known mid input → Consumes mid new taken → IsAtEnd new → IfSome known (λ bytes. or_failure (input_of bytes) ≡ Ok input)
all_read None mid new input taken within none first last end = tt
all_read (Some bytes) None new input taken within none first last end = absurd first
all_read (Some bytes) (Some rest) None input taken within none first last end = absurd last
all_read (Some bytes) (Some rest) (Some more) input taken within none first last end =
    let nothing : rest ≡ [] = last ∙ ap (λ front. front ++ more) none ∙ end in
    ap or_failure (taken_whole bytes input (first ∙ ap (λ tail. input ++ tail) nothing ∙ append-nil input) within)

-- bytes past the limit
pub too_much_read : (known mid new : Option (List ℕ)) (input taken : List ℕ) → INPUT_LIMIT < length input + length taken →
    Consumes known mid input → Consumes mid new taken → IfSome known (λ bytes. FailsInput (Refused (BadFrame too_much_input)) (or_failure (input_of bytes)))
too_much_read None mid new input taken over first last = tt
too_much_read (Some bytes) None new input taken over first last = absurd first
too_much_read (Some bytes) (Some rest) None input taken over first last = absurd last
too_much_read (Some bytes) (Some rest) (Some more) input taken over first last =
    let whole = ap length first in
    let tail = ap length last in
    inr (ap or_failure (not_taken bytes (omega (arith, whole, tail, length-append input rest, length-append taken more))))
