use Rattle.std.proofs.Common.{◌&&◌, sym, ap, ◌∙◌, false}
use Rattle.pmg_fence.specs.Codes.{Known}
use Rattle.pmg_fence.proofs.LookLemmas.{header_far, header_near, apart, met}
use Rattle.pmg_fence.proofs.table.Table.has_header.Goals as goal

pub returns-then-index : goal.returns-then-index
returns-then-index c =
    header_far c.args.self.now c.args.name.now c.signature-signature.result.now c.instance.result _ c.is_whole-whole.result c.signature-signature.ensures c.instance.ensures.value c.fence-fence.ensures.value c.is_whole-whole.ensures
    c.args.node c.index-then-index.result c.has_told.result c.index-then-index.ensures.value
    (apart c.args.node c.args.self.now.node c.index.result c.index-2.result c.index.ensures.value (c.index-2.ensures.value ∙ ap (λ (k : Known). k.node) c.self.view_is) c.if-index.true)
    c.has_told.ensures

pub returns-then-not-has_own : goal.returns-then-not-has_own
returns-then-not-has_own c =
    header_near c.args.self.now c.args.name.now c.signature-signature.result.now c.instance.result _ c.is_whole-whole.result c.signature-signature.ensures c.instance.ensures.value c.fence-fence.ensures.value c.is_whole-whole.ensures
    c.args.node c.has_own.result false c.participants.result.now
    (met c.args.node c.args.self.now.node c.index.result c.index-2.result c.index.ensures.value (c.index-2.ensures.value ∙ ap (λ (k : Known). k.node) c.self.view_is) c.if-index.false)
    c.has_own.ensures c.participants.ensures.value (sym (ap (λ b. b && c.is_whole-whole.result) c.if-not-has_own.true))

pub returns : goal.returns
returns c =
    header_near c.args.self.now c.args.name.now c.signature-signature.result.now c.instance.result _ c.is_whole-whole.result c.signature-signature.ensures c.instance.ensures.value c.fence-fence.ensures.value c.is_whole-whole.ensures
    c.args.node c.has_own.result c.is_whole-whole.result c.participants.result.now
    (met c.args.node c.args.self.now.node c.index.result c.index-2.result c.index.ensures.value (c.index-2.ensures.value ∙ ap (λ (k : Known). k.node) c.self.view_is) c.if-index.false)
    c.has_own.ensures c.participants.ensures.value (sym (ap (λ b. b && c.is_whole-whole.result) c.if-not-has_own.false))
