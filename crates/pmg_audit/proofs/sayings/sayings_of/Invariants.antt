use Rattle.std.proofs.Common.{◌≡◌, true, take}
use Rattle.pmg_value.specs.Lists.{Each}
use Rattle.pmg_scope.specs.Cached.{no_puts}
use Rattle.pmg_journal.specs.Transcripts.{noted_in}
use Rattle.pmg_journal.specs.declared.transcript.Transcript.{Transcript}
use Rattle.pmg_audit.specs.Agreeing.{AreOfOtherProcs}
use Rattle.pmg_audit.specs.Dues.{takes_all}
use Rattle.pmg_audit.specs.Taking.{ArePlaces, AreSayings, sayers}
use Rattle.pmg_audit.proofs.sayings.sayings_of.Given as goal

abbrev pub invariant-loop-transcript : goal.invariant-loop-transcript
invariant-loop-transcript l = record {
  places : ArePlaces (sayers l.items.items) l.places.entries;
  said : AreSayings l.items.items (take l.transcript-index l.transcripts);
  apart : AreOfOtherProcs (take l.transcript-index l.transcripts);
  taken : Each (λ (t : Transcript). takes_all no_puts (noted_in t) ≡ true) (take l.transcript-index l.transcripts);
}
