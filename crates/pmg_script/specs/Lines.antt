-- The lines of a script, and the words of a line.
use Rattle.std.specs.Prelude.{◌≡◌, ℕ, suc, ◌-◌, ◌==◌, Bool, ◌&&◌, nat_le, List, [], length, take, drop, slice_index, Option, Some, None, Result, Ok, Err, if◌then◌else◌}
use Rattle.std.specs.List.{list_any, position, slice_split}
use Rattle.pmg_script.specs.declared.lines.LineFault.{LineFault}
use Rattle.pmg_script.specs.declared.lines.LineFault.TheVariants as faults

-- ---- lines

-- so many bytes before its end the line has this byte
abbrev pub has_byte : ℕ → ℕ → List ℕ → Bool
has_byte back byte line = nat_le back (length line) && (slice_index line (length line - back) == byte)

-- the content of a line: all of it except the LF that ends it, and a CR before the LF
unfoldable pub content : List ℕ → List ℕ
content line =
    if has_byte 1 10 line then (if has_byte 2 13 line then take (length line - 2) line else take (length line - 1) line) else line

-- ---- words

-- the byte is a blank
abbrev pub is_blank : ℕ → Bool
is_blank byte = byte == 32

-- The rest of a line after some of its words: the text after the blank that ended the last word; `None` if this word ended the line.
abbrev pub Left : Type 0
Left = Option (List ℕ)

-- the word before the blank, and the rest after it
abbrev pub parted : List ℕ → Option ℕ → List ℕ × Left
parted text None = (text, None)
parted text (Some at) = (take at text, Some (drop (suc at) text))

-- the word and the rest after it, unless the word is empty
abbrev pub unless_empty : List ℕ × Left → Option (List ℕ × Left)
unless_empty part = if length part.0 == 0 then None else Some part

-- the next word, which is not empty
unfoldable pub read_word : Left → Option (List ℕ × Left)
read_word None = None
read_word (Some text) = unless_empty (parted text (position is_blank text))

-- nothing is left
abbrev pub read_end : Left → Option (Unit {0})
read_end None = Some tt
read_end (Some text) = None

-- the word is empty
abbrev pub is_empty : List ℕ → Bool
is_empty word = length word == 0

-- all words that are left, without empty words
unfoldable pub read_words : Left → Option (List (List ℕ))
read_words None = Some []
read_words (Some text) = if list_any is_empty (slice_split is_blank text) then None else Some (slice_split is_blank text)

-- one step of reading, then the next
infixl 10 ◌>>=◌
abbrev pub ◌>>=◌ : {A B : Type 0} → Option A → (A → Option B) → Option B
None >>= next = None
(Some x) >>= next = next x

-- the next word, by its meaning
abbrev pub read_as : {A : Type 0} → (List ℕ → Option A) → Left → Option (A × Left)
read_as says left = do
  word ← read_word left
  x ← says word.0
  Some (x, word.1)

-- Reading fails because the line does not have such a form, or because an allocation failed, which no definition describes.
abbrev pub LineFails : {Y : Type 0} → LineFault → Option Y → Type 0
LineFails faults.Malformed read = read ≡ None
LineFails faults.NoMemory read = Unit {0}

-- The answer of a reader of words, seen by view, and its rest of the line are the result of reading.
abbrev pub ReadsWords : {X Y : Type 0} → (X → Y) → Result X LineFault → Left → Option (Y × Left) → Type 0
ReadsWords view (Ok x) new read = read ≡ Some (view x, new)
ReadsWords view (Err e) new read = LineFails e read

-- The answer of a reader of all words that are left, seen by view, is the result of reading.
abbrev pub ReadsAllWords : {X Y : Type 0} → (X → Y) → Result X LineFault → Option Y → Type 0
ReadsAllWords view (Ok x) read = read ≡ Some (view x)
ReadsAllWords view (Err e) read = LineFails e read
