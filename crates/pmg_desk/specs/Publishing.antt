-- The publications of a replay.
use Rattle.std.specs.Prelude.{List, [], ◌∷◌, ◌++◌, Option, None}
use Rattle.std.specs.Option.{option_to_list}
use Rattle.pmg_commit.specs.Knowledge.{Contribution}
use Rattle.pmg_node_model.specs.Acts.{Act}
use Rattle.pmg_node.specs.Joining.{Joins, joins}
use Rattle.pmg_node.specs.Servers.{Server, after}
use Rattle.pmg_publish.specs.Publications.{publication}
use Rattle.pmg_publish.specs.declared.counting.Publication.{Publication}
use Rattle.pmg_journal.specs.Replays.{Happening}

-- the joined pieces, as one publication; empty if nothing is joined
abbrev pub publications_of : Option Contribution → Option Contribution → List Publication
publications_of None None = []
publications_of near far = publication (option_to_list near) (option_to_list far) ∷ []

-- the pieces that an act joins, as one publication; empty if it joins nothing
abbrev pub published_of : Joins → List Publication
published_of j = publications_of j.near j.far

-- the publications of an act of the server
abbrev pub published_by : Server → Act → List Publication
published_by s a = published_of (joins s.jobs s.id s.holding a)

-- the publications during the events: one publication for each act that joins something
abbrev pub published_over : Server → List Happening → List Publication
published_over s [] = []
published_over s (e ∷ es) = published_by s e.act ++ published_over (after s e.act) es
