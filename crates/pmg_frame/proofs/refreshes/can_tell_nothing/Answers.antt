use Rattle.std.proofs.Common.{refl}
use Rattle.pmg_frame.proofs.RefreshTests.{nothing_reply}
use Rattle.pmg_frame.proofs.refreshes.can_tell_nothing.Goals as goal

pub returns-then-can_be_asked : goal.returns-then-can_be_asked
returns-then-can_be_asked c = rw (nothing_reply, ← c.can_be_asked.ensures, c.if-can_be_asked.true) (rw c.as_bytes.ensures.value at c.is_small.ensures)

pub returns-else-can_be_asked : goal.returns-else-can_be_asked
returns-else-can_be_asked c = rw (nothing_reply, ← c.can_be_asked.ensures, c.if-can_be_asked.false) refl
