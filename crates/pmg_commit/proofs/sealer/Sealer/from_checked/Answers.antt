use Rattle.std.proofs.Common.{false, sym, subst}
use Rattle.pmg_commit.specs.Stamped.{IsSealer}
use Rattle.pmg_commit.proofs.SealerFacts.{fresh_is}
use Rattle.pmg_commit.proofs.sealer.Sealer.from_checked.Goals as goal

pub invariant_of-result : goal.invariant_of-result
invariant_of-result c =
    subst IsSealer (λ i. record { proc = c.args.proc; level = 0; ended = false; near = sym c.new.ensures i; far = sym c.new-2.ensures i })
    (fresh_is c.args.proc c.requires)
