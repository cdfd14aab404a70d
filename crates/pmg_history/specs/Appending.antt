-- The rule of a list of entries and of the word that counts it.
use Rattle.std.specs.Prelude.{ℕ, ◌≡◌, ◌==◌, true, List, [], ◌∷◌, ◌++◌, length, MatchBool}
use Rattle.logbook.specs.Pages.{Cell, Step, View, Book, Named}

-- the first word is the length of the list; a book has two words, of which this one leaves the second at 0
abbrev pub IsLength : {E : Type 0} → List Cell → List E → Type 0
IsLength cells log = cells ≡ (length log, true) ∷ (0, true) ∷ []

-- the word that counts the list of this book
abbrev pub length_word : Book → Named
length_word b = record { tracked = true; key = 0; book = b }

-- the entry was added to all that had been seen, which was the whole list, as long as was expected; or the list had another length
abbrev pub AppendsStep : {E : Type 0} → Step E → View E ℕ → ℕ → View E ℕ → Type 0
AppendsStep s v found w = MatchBool (found == s.old) ((w.0 ≡ v.0 ++ s.ask ∷ []) × (length v.0 ≡ s.old)) (length w.0 ≡ found)
