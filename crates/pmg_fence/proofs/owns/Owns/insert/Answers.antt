use Rattle.std.proofs.Common.{Vec, Global, List, refl, subst, ap, ◌∙◌}
use Rattle.std.specs.FinMap as finite
use Rattle.pmg_value.specs.Signatures.{Signature}
use Rattle.pmg_value.specs.Rows.{rows_of}
use Rattle.pmg_value.specs.declared.process.Proc.{Proc}
use Rattle.pmg_frame.specs.FenceOrder.{signature_total}
use Rattle.pmg_frame.proofs.FenceOrderLemmas.{signatures_exact}
use Rattle.pmg_fence.specs.Kept.{ListsEach}
use Rattle.pmg_fence.proofs.ListingLemmas.{index_more, index_put}
use Rattle.pmg_fence.proofs.Trees.{put_in}
use Rattle.pmg_fence.proofs.owns.Owns.insert.Goals as goal

pub invariant_of-self-2 : goal.invariant_of-self-2
invariant_of-self-2 c =
    let old = rows_of (λ (ps : Vec Proc Global). ps.items) c.self.inside.rows.entries in
    index_put old _ c.put_all.new.self c.in_ok-shared.shared c.args.own.items
    (put_in signature_total signatures_exact (λ (ps : Vec Proc Global). ps.items) c.self.inside.rows.entries c.insert.new.self.entries old c.in_ok-shared.shared c.args.own refl (c.in_ok-insert.ensures).updates.0)
    (index_more old c.self.inside.index c.put_all.new.self c.self.invariant c.put_all.ensures.more)
    (subst (λ (ps : List Proc). ListsEach c.put_all.new.self c.in_ok-shared.shared ps) c.deref.ensures.value c.in_ok-put_all.ensures.ok)

pub returns-clause-ok : goal.returns-clause-ok
returns-clause-ok c =
    put_in signature_total signatures_exact (λ (ps : Vec Proc Global). ps.items) c.self.inside.rows.entries c.insert.new.self.entries c.args.self.now c.in_ok-shared.shared c.args.own c.self.view_is (c.in_ok-insert.ensures).updates.0
    ∙ ap (λ (g : Signature). finite.insert c.args.self.now g c.args.own.items) c.in_ok-shared.ensures
