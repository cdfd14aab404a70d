-- The rule over the shown board and the knowledge of each place; it speaks only of lists.
use Rattle.std.specs.Prelude.{ℕ, ◌≡◌, true, false, List, []}
use mathlib.Core.Option.{some}
use mathlib.Core.List.{IsPrefix}
use lib.ListN.{get_elem?}
use Rattle.logbook.specs.Pages.{Book}
use Rattle.pmg_publish.specs.declared.rule.Known.{Known}
use Rattle.pmg_publish.specs.declared.shown.Shown.{Shown}
use Rattle.pmg_publish.specs.Publications.{Publications}
use Rattle.pmg_publish.specs.Boards.{IsMade}

-- a new place, which knows no list
abbrev pub unnamed : Known
unnamed = record { live = false; history = record { book = record { number = 0; log_name = 0; cells_name = 0 }; log = [] } }

-- a place with this knowledge of its list
abbrev pub knowing : Publications → Known
knowing h = record { live = true; history = h }

-- the place is live, and of this list
abbrev pub IsOf : Book → Known → Type 0
IsOf b v = (v.live ≡ true) × (v.history.book ≡ b)

-- if the place is live, it knows a prefix of the list of the shown board
abbrev pub KnowsPrefix : Shown → Known → Type 0
KnowsPrefix x v = v.live ≡ true → (v.history.book ≡ x.history.book) × IsPrefix v.history.log x.history.log

-- its list makes the shown board, and each live place knows a prefix of that list
abbrev pub KeepsShown : Shown → List Known → Type 0
KeepsShown x views = IsMade x × ((seat : ℕ) (v : Known) → get_elem? views seat ≡ some v → KnowsPrefix x v)

-- its list makes the board that is shown afterwards; the list begins with the place's earlier knowledge, and the place now knows all of it
abbrev pub Sees : Known → Shown → Shown → Known → Type 0
Sees v x y w = KnowsPrefix y v × IsMade y × (w ≡ knowing y.history)
