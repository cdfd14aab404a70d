-- The state of several readers after a call.
use Rattle.std.specs.Prelude.{◌+◌, ◌≤◌, ◌⊎◌, List, [], ◌∷◌, IsSome}
use Rattle.pmg_store.specs.declared.input.WatchedReader.{WatchedReader}
use Rattle.pmg_store.specs.declared.input.TheConstants.{MOST_READS}

-- one of them has failed
abbrev pub AnyFailed : {R : Type 0} → List (WatchedReader R) → Type 0
AnyFailed [] = ⊥
AnyFailed (r ∷ rs) = IsSome r.failure ⊎ AnyFailed rs

-- no reader was read more often than a whole input takes
abbrev pub ReadFewTimes : {R : Type 0} → List (WatchedReader R) → List (WatchedReader R) → Type 0
ReadFewTimes (old ∷ olds) (new ∷ news) = (new.reads ≤ old.reads + MOST_READS) × ReadFewTimes olds news
ReadFewTimes olds news = Unit {0}
