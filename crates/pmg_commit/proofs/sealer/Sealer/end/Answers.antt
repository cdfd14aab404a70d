use Rattle.std.proofs.Common.{◌≡◌, true, false, sym, ap, subst, ◌∙◌}
use Rattle.pmg_commit.specs.Sealed.{Sealed, stamped_with}
use Rattle.pmg_commit.specs.Stamped.{IsSealer}
use Rattle.pmg_commit.proofs.SealerFacts.{ended_is}
use Rattle.pmg_commit.proofs.sealer.Sealer.end.Goals as goal

pub stamp-requires-clause-sealer : goal.stamp-requires-clause-sealer
stamp-requires-clause-sealer c =
    let z = c.args.self.now in
    let table = c.last_puts-puts.ensures.table in
    let alive : z.ended ≡ false = ap (λ (s : Sealed). s.ended) (sym c.self.view_is) ∙ c.if-self.false in
    subst IsSealer (λ i. stamped_with z true (sym table i) (sym table i)) (ended_is z (subst IsSealer c.self.view_is c.self.invariant) alive)
