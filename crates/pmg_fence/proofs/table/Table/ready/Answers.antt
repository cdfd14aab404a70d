use Rattle.std.proofs.Common.{◌<◌, ◌-◌, length, arith, sym, ap, ◌∙◌, refl}
use Rattle.pmg_value.specs.Signatures.{Signature}
use Rattle.pmg_fence.proofs.OldLemmas.{never_ready}
use Rattle.pmg_fence.proofs.ReadLemmas.{ready_done, all_more, all_broken, all_passed, nothing_covered, covered_freely, covered_there, covered_short}
use Rattle.pmg_fence.proofs.table.Table.ready.Goals as goal

pub returns-then-is_old : goal.returns-then-is_old
returns-then-is_old g c = λ level says. sym (never_ready c.args.self.now.jobs c.args.self.now.node c.args.self.now.fences c.args.name.now level (sym c.is_old.ensures ∙ c.if-is_old.true))

pub returns-in_default : goal.returns-in_default
returns-in_default g c = λ level says.
    let inside : c.loop-left.left - 1 < length c.participants-procs.result.now = omega (arith, c.loop-left.invariant.within, c.loop-left-test.true) in
    all_broken _ c.participants-procs.result.now (c.loop-left.left - 1) c.index-procs-left.result inside c.index-procs-left.is
    (nothing_covered c.args.name.now.signature.collect (level c.index-procs-left.result) _ (sym c.standing_in.ensures ∙ c.in_default.is))
    ∙ ready_done c.args.self.now c.args.name.now c.signature.result.now c.signature-2.result.now c.instance.result _ c.participants-procs.result.now
    c.signature.ensures c.instance.ensures.value c.signature-2.ensures c.fence-fence.ensures.value c.participants-procs.ensures.value level (sym c.is_old.ensures ∙ c.if-is_old.false)

pub returns : goal.returns
returns g c = λ level says.
    all_passed _ c.participants-procs.result.now c.loop-left.left _ (c.loop-left.invariant.all level says) c.loop-left-test.false
    ∙ ready_done c.args.self.now c.args.name.now c.signature.result.now c.signature-2.result.now c.instance.result _ c.participants-procs.result.now
    c.signature.ensures c.instance.ensures.value c.signature-2.ensures c.fence-fence.ensures.value c.participants-procs.ensures.value level (sym c.is_old.ensures ∙ c.if-is_old.false)

pub loop-left-preserved : goal.loop-left-preserved
loop-left-preserved g c =
    let inside : c.loop-left.left - 1 < length c.participants-procs.result.now = omega (arith, c.loop-left.invariant.within, c.loop-left-test.true) in
    record {
      all = λ level says.
          let known = says c.index-procs-left.result c.levels.result (record { shown = _; shows = refl; says = record { met = c.levels.ensures } }) in
          all_more _ c.participants-procs.result.now c.loop-left.left (c.loop-left.left - 1) c.index-procs-left.result _ (c.loop-left.invariant.all level says)
          (omega (arith, c.loop-left-test.true)) inside c.index-procs-left.is
          (covered_there c.args.name.now.signature.collect (level c.index-procs-left.result) c.levels.result _ c.in-Some.entry (sym c.standing_in.ensures ∙ c.in-Some.is) known c.if-levels-entry.false);
      within = omega (arith, inside);
    }

pub loop-left-preserved-then-not-collect : goal.loop-left-preserved-then-not-collect
loop-left-preserved-then-not-collect g c =
    let inside : c.loop-left.left - 1 < length c.participants-procs.result.now = omega (arith, c.loop-left.invariant.within, c.loop-left-test.true) in
    record {
      all = λ level says.
          all_more _ c.participants-procs.result.now c.loop-left.left (c.loop-left.left - 1) c.index-procs-left.result _ (c.loop-left.invariant.all level says)
          (omega (arith, c.loop-left-test.true)) inside c.index-procs-left.is
          (covered_freely c.args.name.now.signature.collect (level c.index-procs-left.result) _ c.in-Some.entry (sym c.standing_in.ensures ∙ c.in-Some.is)
          (ap (λ (s : Signature). s.collect) (sym c.signature-in-loop-left.ensures) ∙ sym c.collect.ensures ∙ c.if-not-collect.true));
      within = omega (arith, inside);
    }

pub returns-then-levels-entry : goal.returns-then-levels-entry
returns-then-levels-entry g c = λ level says.
    let known = says c.index-procs-left.result c.levels.result (record { shown = _; shows = refl; says = record { met = c.levels.ensures } }) in
    let inside : c.loop-left.left - 1 < length c.participants-procs.result.now = omega (arith, c.loop-left.invariant.within, c.loop-left-test.true) in
    all_broken _ c.participants-procs.result.now (c.loop-left.left - 1) c.index-procs-left.result inside c.index-procs-left.is
    (covered_short c.args.name.now.signature.collect (level c.index-procs-left.result) c.levels.result _ c.in-Some.entry (sym c.standing_in.ensures ∙ c.in-Some.is)
    (ap (λ (s : Signature). s.collect) (sym c.signature-in-loop-left.ensures) ∙ sym c.collect.ensures ∙ c.if-not-collect.false) known c.if-levels-entry.true)
    ∙ ready_done c.args.self.now c.args.name.now c.signature.result.now c.signature-2.result.now c.instance.result _ c.participants-procs.result.now
    c.signature.ensures c.instance.ensures.value c.signature-2.ensures c.fence-fence.ensures.value c.participants-procs.ensures.value level (sym c.is_old.ensures ∙ c.if-is_old.false)
