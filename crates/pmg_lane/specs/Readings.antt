-- What is read under a key, as an entry.
use Rattle.std.specs.Prelude.{ℕ, List}
use Rattle.pmg_value.specs.Spelling.{spelling}
use Rattle.pmg_commit.specs.Entries.{Entry}
use Rattle.pmg_lane.specs.declared.readings.Reading.{Reading}

-- what is read, as the entry under that key
abbrev pub seen_entry : List ℕ → Reading → Entry
seen_entry key r = record { key = key; number = r.number; bytes = spelling r.value.now }
