-- The rule of a list of publications and of the word that counts it.
use Rattle.std.specs.Prelude.{ℕ, ◌≡◌, ◌==◌, true, List, [], ◌∷◌, ◌++◌, length, MatchBool}
use Rattle.logbook.specs.Pages.{Cell, Step, View, Book, Named}
use Rattle.pmg_publish.specs.declared.counting.Publication.{Publication}

-- the first word is the length of the list; a book has two words, and this type leaves the second at 0
abbrev pub IsCount : List Cell → List Publication → Type 0
IsCount cells log = cells ≡ (length log, true) ∷ (0, true) ∷ []

-- the word that counts the list of this book
abbrev pub counter_of : Book → Named
counter_of b = record { tracked = true; key = 0; book = b }

-- the publication was added to all the seen ones; or the list was longer
abbrev pub AddsStep : Step Publication → View Publication ℕ → ℕ → View Publication ℕ → Type 0
AddsStep s v found w = MatchBool (found == s.old) (w.0 ≡ v.0 ++ s.ask ∷ []) (length w.0 ≡ found)
