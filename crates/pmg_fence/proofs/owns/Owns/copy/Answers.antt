use Rattle.std.proofs.Common.{◌≡◌, List, sym, subst, ◌∙◌}
use Rattle.std.specs.FinMap as finite
use Rattle.pmg_value.specs.Signatures.{Signature}
use Rattle.pmg_fence.proofs.ListingLemmas.{OwnRow, owns_with, own_rows, owns_first, owns_next, owns_copied}
use Rattle.pmg_fence.proofs.owns.Owns.copy.Goals as goal

pub loop-signature-init : goal.loop-signature-init
loop-signature-init c =
    subst (λ (rows : List OwnRow). (q : Signature) → owns_with c.new-copy.result (own_rows rows) q ≡ finite.get c.args.self.now q)
    (sym (c.into_iter-signature-iterator.ensures.into_iter_gives ∙ c.iter-signature-items.ensures.rest))
    (owns_first c.args.self.now c.new-copy.result c.self.inside.rows.entries c.self.view_is c.iter-signature-items.ensures.ordered c.new-copy.ensures)

pub loop-signature-preserved : goal.loop-signature-preserved
loop-signature-preserved c = λ q.
    owns_next c.args.self.now c.loop-signature.copy c.insert.new.self c.next.new.self c.loop-signature.signature-iterator c.in-Some.signature.now c.in_ok-copy.field-0 c.in-Some.own.now c.in_ok-copy_all.field-0.items
    c.in-Some.ensures.steps c.in_ok-copy.ensures c.in_ok-copy_all.ensures c.in_ok-insert.ensures.ok q (c.loop-signature.invariant q)

pub returns : goal.returns
returns c = owns_copied c.args.self.now c.loop-signature.copy c.loop-signature.signature-iterator c.in-None.ensures.steps.0 c.loop-signature.invariant
