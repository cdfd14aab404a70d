use Rattle.std.proofs.Common.{◌≡◌, drop}
use Rattle.pmg_audit.specs.Runs.{journal_at}
use Rattle.pmg_audit.proofs.replaying.place_of.Given as goal

-- what the journals that are left tell of the node is what all tell
abbrev pub invariant-loop-index : goal.invariant-loop-index
invariant-loop-index l = journal_at (drop l.index l.journals) l.node ≡ journal_at l.journals l.node
