use Rattle.std.proofs.Common.{◌≡◌, ◌++◌, map, drop}
use Rattle.std.specs.List.{flat_map}
use Rattle.pmg_commit.specs.Pieces.{entry_of}
use Rattle.pmg_frame.specs.Grammar.{AreEntries}
use Rattle.pmg_frame.specs.Spelling.{entry_spelling}
use Rattle.pmg_frame.proofs.writing.put_entries.Given as goal

-- the entries so far, and those that are left, are all of them
abbrev pub invariant-loop-entry : goal.invariant-loop-entry
invariant-loop-entry l = record {
  bytes : l.out.items ++ flat_map entry_spelling (map entry_of (drop l.entry-index l.entries)) ≡ l.fn.out.items ++ flat_map entry_spelling (map entry_of l.entries);
  are : AreEntries (map entry_of (drop l.entry-index l.entries)) → AreEntries (map entry_of l.entries);
}
