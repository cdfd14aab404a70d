use Rattle.std.proofs.Common.{◌≡◌, List, [], ◌∷◌, length, true, sym, ap, subst, ◌∙◌, arith}
use Rattle.std.specs.List.{list_all}
use Rattle.std.proofs.lemmas.List.{length-append}
use Rattle.pmg_value.specs.Process.{can_commit}
use Rattle.pmg_value.specs.declared.process.Proc.{Proc}
use Rattle.pmg_node_parts.specs.Sealers.{with_fresh}
use Rattle.pmg_node_parts.proofs.SealerLemmas.{fresh_snoc, all_snoc}
use Rattle.pmg_node.proofs.opening.fresh_sealers.Goals as goal

pub loop-proc-smaller : goal.loop-proc-smaller
loop-proc-smaller c =
    let one = ap length c.in-Some.ensures.items ∙ length-append c.pop.new.self.items (c.in-Some.proc ∷ []) in
    omega (arith, one)

pub loop-proc-preserved : goal.loop-proc-preserved
loop-proc-preserved c =
    let rest = c.pop.new.self.items in
    let all = subst (λ (ps : List Proc). list_all can_commit ps ≡ true) c.in-Some.ensures.items c.loop-proc.invariant.1 in (
      ap (with_fresh rest) c.in_ok-add_fresh.ensures
          ∙ sym (fresh_snoc rest c.in-Some.proc c.loop-proc.sealers)
          ∙ ap (λ (ps : List Proc). with_fresh ps c.loop-proc.sealers) (sym c.in-Some.ensures.items)
          ∙ c.loop-proc.invariant.0,
      (all_snoc can_commit rest c.in-Some.proc all).0,
    )

pub add_fresh-requires : goal.add_fresh-requires
add_fresh-requires c =
    let all = subst (λ (ps : List Proc). list_all can_commit ps ≡ true) c.in-Some.ensures.items c.loop-proc.invariant.1 in
    (all_snoc can_commit c.pop.new.self.items c.in-Some.proc all).1
