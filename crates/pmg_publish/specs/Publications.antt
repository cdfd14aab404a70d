-- Lists of publications, and the boards that they make.
use Rattle.std.specs.Prelude.{Bool, List}
use Rattle.std.specs.List.{flat_map}
use Rattle.logbook.specs.Pages.{Book}
use Rattle.pmg_commit.specs.Knowledge.{Contribution}
use Rattle.pmg_commit.specs.Data.{Data}
use Rattle.pmg_store.specs.Pieces.{data_of}
use Rattle.pmg_publish.specs.declared.counting.Publication.{Publication}

-- A prefix of a publisher's list: the identity of the list, and its publications.
pub record Publications : Type 0 where
  pub book : Book
  pub log : List Publication

-- The publications of a publisher, whether it is open, and whether viewers read it. Viewers continue to read at a publisher that is not
-- open any more.
pub record Published : Type 0 where
  pub is_open : Bool
  pub is_read : Bool
  pub book : Book
  pub log : List Publication

-- the publication of these contributions
abbrev pub publication : List Contribution → List Contribution → Publication
publication near far = record { near = near; far = far }

-- the near store that a list of publications makes: the sum of all their near contributions
unfoldable pub near_of : List Publication → Data
near_of log = data_of (flat_map (λ p. p.near) log)

-- the far store that a list of publications makes
unfoldable pub far_of : List Publication → Data
far_of log = data_of (flat_map (λ p. p.far) log)
