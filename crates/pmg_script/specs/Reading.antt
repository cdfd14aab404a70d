-- The reader of a script, line by line.
use Rattle.std.specs.Prelude.{◌≡◌, ℕ, ◌+◌, ◌≤◌, ◌==◌, Bool, true, false, not, List, [], ◌∷◌, ◌++◌, length, Result, Ok, Err, Option, OnSome, if◌then◌else◌}
use Rattle.std.specs.Io.KnownBytes.{Consumes, IsAtEnd}
use Rattle.std.specs.List.{list_all}
use Rattle.pmg_value.specs.declared.refusal.Refusal.TheVariants.{NoMemory, BadFrame}
use Rattle.pmg_store.specs.Input.{too_much_input}
use Rattle.pmg_store.specs.declared.failure.Failure.{Failure}
use Rattle.pmg_store.specs.declared.failure.Failure.TheVariants.{Refused, Read}
use Rattle.pmg_store.specs.declared.input.TheConstants.{INPUT_LIMIT}

-- the byte is LF, which ends a line
abbrev pub is_end : ℕ → Bool
is_end byte = byte == 10

-- the byte, before the first of these lines
abbrev pub onto : ℕ → List (List ℕ) → List (List ℕ)
onto byte [] = (byte ∷ []) ∷ []
onto byte (line ∷ others) = (byte ∷ line) ∷ others

-- the lines of a text, each with the LF that ends it; the last one may lack the LF
unfoldable pub lines : List ℕ → List (List ℕ)
lines [] = []
lines (byte ∷ bytes) = if is_end byte then (byte ∷ []) ∷ lines bytes else onto byte (lines bytes)

-- no byte ends a line
abbrev pub IsUnended : List ℕ → Type 0
IsUnended bytes = list_all (λ byte. not (is_end byte)) bytes ≡ true

-- a line with the LF that ends it
pub record IsWhole (line : List ℕ) : Type 0 where
  pub body : List ℕ
  pub unended : IsUnended body
  pub ends : line ≡ body ++ 10 ∷ []

-- the line goes up to the limit of a script, and one more byte follows
pub record IsPastLimit (start : ℕ) (old new : Option (List ℕ)) (line : List ℕ) : Type 0 where
  pub limit : start + length line ≡ INPUT_LIMIT
  pub unended : IsUnended line
  pub byte : ℕ
  pub read : Consumes old new (line ++ byte ∷ [])

-- the cause why no line was read: the reader failed, an allocation failed, or the script is too long
abbrev pub NoLine : ℕ → Option (List ℕ) → Option (List ℕ) → List ℕ → Failure → Type 0
NoLine start old new line Read = IsUnended line × Consumes old new line
NoLine start old new line (Refused NoMemory) = Unit {0}
NoLine start old new line (Refused (BadFrame f)) = (f ≡ too_much_input) × IsPastLimit start old new line
NoLine start old new line _ = ⊥

-- The effect of reading the next line, which begins at this byte of the script, on the reader. It took the line with its LF; or the last
-- line, which has no LF.
abbrev pub NextLine : ℕ → Option (List ℕ) → Option (List ℕ) → List ℕ → Result Bool Failure → Type 0
NextLine start old new line (Ok true) = IsWhole line × Consumes old new line
NextLine start old new line (Ok false) = IsUnended line × (Consumes old new line × OnSome old (IsAtEnd new))
NextLine start old new line (Err e) = NoLine start old new line e

-- the reads are at most one for each byte, and one more unless a line ended
abbrev pub CountsReads : ℕ → ℕ → ℕ → Result Bool Failure → Type 0
CountsReads old new count (Ok true) = new ≤ old + count
CountsReads old new count (Ok false) = new ≤ old + count + 1
CountsReads old new count (Err e) = new ≤ old + count + 1
