-- The laws of journals that are replayed and put into an order.
use Rattle.std.specs.Prelude.{List, map}
use Rattle.pmg_jobinfo.specs.Jobs.{Jobs, AreJobs}
use Rattle.pmg_node.specs.Servers.{Server}
use Rattle.pmg_node_model.specs.declared.sent.Sent.{Sent}
use Rattle.pmg_world.specs.Telling.{happened_of}
use Rattle.pmg_world.specs.declared.event.LoggedEvent.{LoggedEvent}
use Rattle.pmg_journal.specs.declared.journal.Journal.{Journal}
use Rattle.pmg_journal.specs.declared.transcript.Transcript.{Transcript}
use Rattle.pmg_audit.specs.Agreeing.{AreAgreed}
use Rattle.pmg_audit.specs.Moves.{Move}
use Rattle.pmg_audit.specs.Orders.{AreTold}
use Rattle.pmg_audit.specs.OneRun.{IsOneRun}
use Rattle.pmg_audit.specs.Runs.{AreEnds, AreJournals, AreMoves, ArePut}

-- Journals are one run if they are replayed, if their clients' transcripts agree with them, and if some order delivers each frame after it
-- was sent.
abbrev pub MovesAreOneRun : Type 0
MovesAreOneRun =
    (jobs : Jobs) → AreJobs jobs → (js : List Journal) (ts : List Transcript) → AreJournals jobs js → (all : List (List Move)) → AreMoves jobs js all → ArePut jobs all
    → AreAgreed jobs js ts → (nodes : List Server) (frames : List Sent) (told : List LoggedEvent) → AreTold all (map happened_of told) frames → AreEnds jobs all nodes
    → IsOneRun js ts (record { jobs = jobs; nodes = nodes; sent = frames; told = told })
