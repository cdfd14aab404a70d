use Rattle.std.proofs.Common.{refl, ◌≡◌, subst, length, ap, ◌∙◌, arith}
use Rattle.pmg_fence.specs.declared.table.ChangeBefore.TheVariants as change_befores
use Rattle.pmg_fence.specs.Codes.{Known}
use Rattle.pmg_fence.specs.Kept.{IsKept}
use Rattle.pmg_fence.proofs.NewsLemmas.{note_done}
use Rattle.pmg_fence.proofs.Trees.{lent_there}
use Rattle.pmg_fence.proofs.UndoLemmas.{note_fits, note_back}
use Rattle.pmg_fence.proofs.table.Table.note.Goals as goal

pub returns-clause-before : goal.returns-clause-before
returns-clause-before c =
    let ok = c.self.inside.waiting.ok in
    let many : c.len-waiting.result ≡ length c.self.inside.waiting.items = omega (arith, ok, c.len-waiting.ensures) in
    note_back c.args.self.now c.change.new.self c.args.name.now c.args.name c.signature.result.now c.instance.result c.args.change _ c.len-waiting.result c.in_ok-before.before
    refl c.signature.ensures c.instance.ensures.value (many ∙ ap (λ (k : Known). length k.waiting) c.self.view_is)
    c.in_ok-before.ensures.ok c.in_ok-before.ensures.before

pub returns-clause-fits : goal.returns-clause-fits
returns-clause-fits c =
    note_fits c.args.self.now c.change.new.self c.self.inside.owns (record { waiting = c.len-waiting.result; change = change_befores.Fence c.args.name c.in_ok-before.before }) _ c.args.change _ (subst (λ (k : Known). IsKept k c.self.inside.owns) c.self.view_is c.self.invariant)
    c.in_ok-before.ensures.ok (returns-clause-before c)

pub returns-clause-ok : goal.returns-clause-ok
returns-clause-ok c =
    note_done c.args.self.now c.change.new.self c.args.name.now c.signature.result.now c.instance.result c.args.change _ c.signature.ensures c.instance.ensures.value
    (lent_there c.as_ref.result c.in_ok-line.line _ c.as_ref.ensures.value c.in_ok-line.ensures) c.in_ok-before.ensures.ok
