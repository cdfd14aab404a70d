use Rattle.std.proofs.Common.{sym, ap, ◌∙◌}
use Rattle.std.specs.FinSet as set
use Rattle.pmg_value.specs.Signatures.{Signature}
use Rattle.pmg_fence.proofs.LookLemmas.{unlisted, told_listed, told_elsewhere}
use Rattle.pmg_fence.proofs.table.Table.told_of.Goals as goal
use Rattle.pmg_fence.proofs.table.Table.told_of.Goals.{else-is_own-via-then-is_own+else-not-contains, else-is_own-via-else-is_own}

pub returns-then-not-contains : goal.returns-then-not-contains
returns-then-not-contains c =
    unlisted c.args.self.now c.args.name.now c.args.proc.now (sym c.is_own.ensures ∙ c.if-is_own.true)
    (ap (λ (g : Signature). set.contains g.participants c.args.proc.now) (sym c.signature-signature.ensures) ∙ sym c.contains.ensures ∙ c.if-not-contains.true)

pub returns : goal.returns
returns c =
    c.standing_in.ensures
    ∙ elim c.else-is_own.branch [
      | else-is_own-via-then-is_own+else-not-contains w ↦
          told_listed c.args.self.now c.args.name.now c.signature-signature.result.now c.instance.result _ c.is_whole-whole.result c.signature-signature.ensures c.instance.ensures.value c.fence-fence.ensures.value c.is_whole-whole.ensures
          c.args.proc.now (sym w.contains.ensures ∙ w.if-not-contains.false)
      | else-is_own-via-else-is_own w ↦
          told_elsewhere c.args.self.now c.args.name.now c.signature-signature.result.now c.instance.result _ c.is_whole-whole.result c.signature-signature.ensures c.instance.ensures.value c.fence-fence.ensures.value c.is_whole-whole.ensures
          c.args.proc.now (sym c.is_own.ensures ∙ w.if-is_own.false)
    ]
