-- The effect of a call that writes a text to a writer, in success and in failure.
use Rattle.std.specs.Prelude.{ℕ, List, take, OnOk}
use Rattle.std.specs.declared.result.Result.{Result}
use Rattle.std.specs.declared.option.Option.{Option}
use Rattle.std.specs.Io.KnownBytes.{Appends}

-- the known bytes of a writer grew by a prefix of text, its first `count` bytes
pub record AppendsFront (old new : Option (List ℕ)) (text : List ℕ) : Type 0 where
  pub count : ℕ
  pub bytes : Appends old new (take count text)

-- the known bytes of a writer grew by a prefix of text, and at Ok by all of it
abbrev pub Writes : {T E : Type 0} → Option (List ℕ) → Option (List ℕ) → Result T E → List ℕ → Type 0
Writes old new result text = AppendsFront old new text × OnOk result (Appends old new text)
