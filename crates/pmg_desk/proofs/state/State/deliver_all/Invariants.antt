use Rattle.std.specs.Prelude.{IsSome}
use Rattle.std.proofs.Common.{◌≡◌, ◌++◌}
use Rattle.pmg_journal.specs.Journals.{happened_in}
use Rattle.pmg_desk.specs.States.{HaveCome, IsAt}
use Rattle.pmg_desk.proofs.state.State.deliver_all.Given as goal

abbrev pub invariant-loop-frame : goal.invariant-loop-frame
invariant-loop-frame g l = record {
  all : l.yielded ++ l.frame-iterator.rest.items ≡ l.fn.frames.items;
  come : HaveCome l.yielded (happened_in l.fn.self.journal) (happened_in l.self.journal);
  place : IsAt l.fn.self l.self;
  stays_open : IsSome l.fn.self.node → IsSome l.self.node;
}
