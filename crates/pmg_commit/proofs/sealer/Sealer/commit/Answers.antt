use Rattle.std.proofs.Common.{◌≡◌, suc, true, sym, ap, subst, ◌∙◌}
use Rattle.std.proofs.lemmas.Bool.{and_parts, not-true, ltb-true}
use Rattle.pmg_scope.specs.Cached.{Unsealed}
use Rattle.pmg_scope.specs.Rows.{table_of}
use Rattle.pmg_commit.specs.Sealed.{Sealed, stamped, stamped_with, are_within}
use Rattle.pmg_commit.specs.Stamped.{IsSealer}
use Rattle.pmg_commit.proofs.SealerFacts.{sealed_is}
use Rattle.pmg_commit.proofs.sealer.Sealer.commit.Goals as goal

pub stamp-requires-clause-sealer : goal.stamp-requires-clause-sealer
stamp-requires-clause-sealer c =
    let z = c.args.self.now in
    let b : Unsealed = record { near = table_of c.near-near.result.now; far = table_of c.far-far.result.now } in
    let going = and_parts _ _ (sym c.if-not-goes_on.ensures.value) in
    let near : are_within (stamped (suc z.level) b.near z.near) ≡ true =
    ap (λ (s : Sealed). are_within (stamped (suc z.level) b.near s.near)) (sym c.self.view_is) ∙ sym (c.if-not-can_take.ensures.value (suc z.level)) in
    let far : are_within (stamped (suc z.level) b.far z.far) ≡ true =
    ap (λ (s : Sealed). are_within (stamped (suc z.level) b.far s.far)) (sym c.self.view_is) ∙ sym (c.if-not-can_take-2.ensures.value (suc z.level)) in
    subst (λ ended. IsSealer (stamped_with z ended b.near b.far)) (not-true z.ended going.0)
    (sealed_is z b (subst IsSealer c.self.view_is c.self.invariant) (ltb-true z.level 4294967294 going.1) near far)
