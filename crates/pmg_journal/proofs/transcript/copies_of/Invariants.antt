use Rattle.std.proofs.Common.{◌≡◌, map, take}
use Rattle.pmg_journal.specs.Transcripts.{noted_of}
use Rattle.pmg_journal.proofs.transcript.copies_of.Given as goal

abbrev pub invariant-loop-called : goal.invariant-loop-called
invariant-loop-called l = map noted_of l.copies.items ≡ map noted_of (take l.called-index l.calls)
