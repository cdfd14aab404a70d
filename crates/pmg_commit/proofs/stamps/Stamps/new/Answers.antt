use Rattle.std.proofs.Common.{sym, ap, ◌∙◌}
use Rattle.pmg_commit.specs.Sealed.{stamps_size}
use Rattle.pmg_commit.proofs.SealerFacts.{nothing_size}
use Rattle.pmg_commit.proofs.stamps.Stamps.new.Goals as goal

pub invariant_of-result : goal.invariant_of-result
invariant_of-result c = sym (ap stamps_size c.new.ensures ∙ nothing_size)
