use Rattle.std.proofs.Common.{refl, sym, ap, subst, ◌∙◌}
use Rattle.pmg_dmodex.specs.Levels.{Levels}
use Rattle.pmg_node_parts.specs.Marking.{marks_back, AreSet}
use Rattle.pmg_node_parts.proofs.MarkLemmas.{back_snoc, each_front, each_stays}
use Rattle.pmg_node_parts.proofs.due.set_back.Goals as goal

pub loop-mark-init : goal.loop-mark-init
loop-mark-init c = (refl, c.requires)

pub set_one_back-requires : goal.set_one_back-requires
set_one_back-requires c =
    (each_front c.loop-mark.marks c.pop.new.self.items c.in-Some.mark (subst (AreSet c.loop-mark.marks) c.in-Some.ensures.items c.loop-mark.invariant.1)).1

pub loop-mark-preserved : goal.loop-mark-preserved
loop-mark-preserved c =
    let b = c.in-Some.mark in
    let rest = c.pop.new.self.items in
    let set = subst (AreSet c.loop-mark.marks) c.in-Some.ensures.items c.loop-mark.invariant.1 in (
      ap (λ (m : Levels). marks_back m rest) c.set_one_back.ensures
          ∙ sym (back_snoc c.loop-mark.marks rest b)
          ∙ ap (marks_back c.loop-mark.marks) (sym c.in-Some.ensures.items)
          ∙ c.loop-mark.invariant.0,
      subst (λ (m : Levels). AreSet m rest) (sym c.set_one_back.ensures) (each_stays c.loop-mark.marks b.proc b.node b.level rest (each_front c.loop-mark.marks rest b set).0),
    )
