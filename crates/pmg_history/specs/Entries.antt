-- Prefixes of one list.
use Rattle.std.specs.Prelude.{List}
use Rattle.logbook.specs.Pages.{Book}

-- A prefix of a list of entries: which list it is, and its entries.
pub record Entries (E : Type 0) : Type 0 where
  pub book : Book
  pub log : List E
