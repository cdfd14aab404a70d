use Rattle.std.proofs.Common.{◌≡◌}
use Rattle.pmg_publish_tests.proofs.tests.published.publish_some.Given as goal

abbrev pub invariant-loop-from : goal.invariant-loop-from
invariant-loop-from g l = l.viewer.book ≡ l.publisher.book
