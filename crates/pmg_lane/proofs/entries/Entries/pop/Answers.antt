use Rattle.std.proofs.Common.{inl, inr}
use Rattle.pmg_lane.specs.Entries.{entry_under, late_entry}
use Rattle.pmg_lane.specs.declared.entries.Entries.{Entries}
use Rattle.pmg_lane.proofs.Moving.{read_taken, late_taken, none_made}
use Rattle.pmg_lane.proofs.entries.Entries.pop.Goals as goal

pub returns-in-Some-clause-taken : goal.returns-in-Some-clause-taken
returns-in-Some-clause-taken c = read_taken c.pop_place.new.tree c.args.self.now c.in-Some.read.0 c.in-Some.read.1 c.in-Some.ensures.there c.in-Some.ensures.taken

pub returns-in-Some-pop_place-clause-taken : goal.returns-in-Some-pop_place-clause-taken
returns-in-Some-pop_place-clause-taken c =
    let left : Entries = record { reads = c.pop_place.new.tree; late = c.pop_place-2.new.tree } in
    let late = c.in-Some-pop_place in
    late_taken c.args.self.now left late.place late.there c.stamp_of.result (c.stamp_of.ensures late.place.1) late.ensures.there late.ensures.taken c.in_default.ensures.unchanged

pub returns-in-None-clause-none : goal.returns-in-None-clause-none
returns-in-None-clause-none c e h = elim h [
  | inl read ↦ none_made _ entry_under c.args.self.now.reads c.in_default.ensures.none e.key e read
  | inr late ↦ none_made _ late_entry c.args.self.now.late c.in-None.ensures.none (e.number, e.key) e late
]
