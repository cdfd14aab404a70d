use Rattle.std.proofs.Common.{◌≡◌, length}
use Rattle.pmg_value.specs.Lists.{Each}
use Rattle.pmg_daemon.specs.Opening.{IsNewInbox}
use Rattle.pmg_daemon.proofs.daemon.new_inboxes.Given as goal

abbrev pub invariant-loop : goal.invariant-loop
invariant-loop l = (length l.inboxes.items ≡ l.counter) × Each IsNewInbox l.inboxes.items
