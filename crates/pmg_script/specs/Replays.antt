-- The run of a whole script: the lines that were done, the text that was written, and the reason why it ended.
use Rattle.std.specs.Prelude.{◌≡◌, ◌⊎◌, ℕ, ◌+◌, ◌≤◌, ◌<◌, Bool, true, false, List, [], ◌∷◌, ◌++◌, length, take, Option, Some, None, Result, Ok, Err}
use Rattle.std.specs.Io.KnownBytes.{Appends, Consumes}
use Rattle.pmg_value.specs.declared.refusal.Cause.TheVariants as causes
use Rattle.pmg_value.specs.declared.refusal.Fault.{Fault}
use Rattle.pmg_value.specs.declared.refusal.Refusal.TheVariants.{NoMemory, BadFrame}
use Rattle.pmg_wire.specs.Reading.{fault}
use Rattle.pmg_store.specs.Input.{too_much_input}
use Rattle.pmg_store.specs.declared.failure.Failure.{Failure}
use Rattle.pmg_store.specs.declared.failure.Failure.TheVariants.{Refused, Read, Write}
use Rattle.pmg_store.specs.declared.input.TheConstants.{INPUT_LIMIT}
use Rattle.pmg_script.specs.Lines.{content}
use Rattle.pmg_script.specs.Reading.{lines, IsUnended}
use Rattle.pmg_script.specs.declared.playing.Ended.{Ended}
use Rattle.pmg_script.specs.declared.playing.Ended.TheVariants as ends

-- lines, one after another
abbrev pub joined_lines : List (List ℕ) → List ℕ
joined_lines [] = []
joined_lines (line ∷ others) = line ++ joined_lines others

-- the fault of a line that does not have the form of a script's line, or is out of order
abbrev pub no_line : ℕ → Fault
no_line offset = fault offset causes.Script

-- the reader gave the lines that were done, and then at most a part of the next one
pub record IsCaughtUp (text : List ℕ) (left : Option (List ℕ)) (done : List (List ℕ)) : Type 0 where
  pub part : List ℕ
  pub unended : IsUnended part
  pub read : Consumes (Some text) left (joined_lines done ++ part)

-- the script is too long, and each line that ends before the limit was done
pub record IsTooLong (text : List ℕ) (left : Option (List ℕ)) (done : List (List ℕ)) : Type 0 where
  pub part : List ℕ
  pub unended : IsUnended part
  pub limit : length (joined_lines done) + length part ≡ INPUT_LIMIT
  pub byte : ℕ
  pub read : Consumes (Some text) left (joined_lines done ++ (part ++ byte ∷ []))

-- A player: the relation of a state, a line's content, the reply's text and the next state; the lines that it does not accept; and the
-- states after which no line is done.
module _ {S : Type 0} (plays : S → List ℕ → List ℕ → S → Type 0) (stops : S → List ℕ → Type 0) (over : S → Bool) where
  -- These lines, one after another, lead from one state to another, and are answered with this text.
  unfoldable pub Plays : S → List (List ℕ) → List ℕ → S → Type 0
  Plays s [] told v = (told ≡ []) × (v ≡ s)
  Plays s (line ∷ others) told v =
      (over s ≡ false) × (mid : S) × (now : List ℕ) × (later : List ℕ) × plays s (content line) now mid × Plays mid others later v × (told ≡ now ++ later)

  -- the player does not accept the next line
  abbrev pub IsStopped : S → List (List ℕ) → Type 0
  IsStopped s [] = ⊥
  IsStopped s (line ∷ others) = stops s (content line)

  -- the next line was done, and a prefix of its answer was written after the text
  pub record IsUnwritten (s : S) (others : List (List ℕ)) (told : List ℕ) (old new : Option (List ℕ)) : Type 0 where
    pub line : List ℕ
    pub rest : List (List ℕ)
    pub is_next : others ≡ line ∷ rest
    pub answer : List ℕ
    pub after : S
    pub played : plays s (content line) answer after
    pub count : ℕ
    pub wrote : Appends old new (told ++ take count answer)

  -- The reason of the end, after these lines were done and the others were not. The script is over exactly if the last state is over.
  abbrev pub EndsAs : List ℕ → Option (List ℕ) → Option (List ℕ) → Option (List ℕ) → List (List ℕ) → List (List ℕ) → List ℕ → S → Result Ended Failure → Type 0
  EndsAs text left old new done others told s (Ok ends.AtEnd) = (over s ≡ false) × (others ≡ []) × Appends old new told
  EndsAs text left old new done others told s (Ok ends.Over) = (over s ≡ true) × Appends old new told
  EndsAs text left old new done others told s (Err Read) = (over s ≡ false) × IsCaughtUp text left done × Appends old new told
  EndsAs text left old new done others told s (Err Write) = (over s ≡ false) × IsUnwritten s others told old new
  EndsAs text left old new done others told s (Err (Refused NoMemory)) = (over s ≡ false) × Appends old new told
  EndsAs text left old new done others told s (Err (Refused (BadFrame f))) =
      (over s ≡ false) × (((f ≡ no_line (length (joined_lines done))) × IsStopped s others) ⊎ ((f ≡ too_much_input) × IsTooLong text left done)) × Appends old new told
  EndsAs text left old new done others told s (Err _) = ⊥

  -- The first lines of the text were done, from one state to another, and their answers were written; then the script ended.
  pub record Replayed (start : S) (text : List ℕ) (left old new : Option (List ℕ)) (result : Result Ended Failure) : Type 0 where
    pub done : List (List ℕ)
    pub others : List (List ℕ)
    pub told : List ℕ
    pub state : S
    pub cut : lines text ≡ done ++ others
    pub run : Plays start done told state
    pub ended : EndsAs text left old new done others told state result

  -- The first lines were done, and the script has not ended: the next line begins at this byte.
  pub record IsGoing (start : S) (text : List ℕ) (left old new : Option (List ℕ)) (state : S) (offset : ℕ) : Type 0 where
    pub done : List (List ℕ)
    pub rest : List ℕ
    pub told : List ℕ
    pub is_left : left ≡ Some rest
    pub whole : text ≡ joined_lines done ++ rest
    pub cut : lines text ≡ done ++ lines rest
    pub count : length (joined_lines done) ≡ offset
    pub live : over state ≡ false
    pub run : Plays start done told state
    pub wrote : Appends old new told

  -- one more line was done, or the script ended
  abbrev pub Turned : S → List ℕ → Option (List ℕ) → Option (List ℕ) → Option (List ℕ) → S → ℕ → Result (Option Ended) Failure → Type 0
  Turned start text left old new state offset (Ok None) = IsGoing start text left old new state offset
  Turned start text left old new state offset (Ok (Some e)) = Replayed start text left old new (Ok e)
  Turned start text left old new state offset (Err e) = Replayed start text left old new (Err e)

-- the number of reads for one line, where the script is read from one byte to another
abbrev pub CountsTurn : ℕ → ℕ → ℕ → ℕ → Result (Option Ended) Failure → Type 0
CountsTurn old new from to (Ok None) = (from < to) × (to ≤ INPUT_LIMIT) × (new + from ≤ old + to)
CountsTurn old new from to (Ok (Some e)) = new + from ≤ old + INPUT_LIMIT + 1
CountsTurn old new from to (Err e) = new + from ≤ old + INPUT_LIMIT + 1
