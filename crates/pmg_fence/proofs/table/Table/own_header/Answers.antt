use Rattle.std.proofs.Common.{◌≡◌, IfOk, sym, subst, ◌∙◌}
use Rattle.pmg_fence.specs.Codes.{Known}
use Rattle.pmg_fence.specs.Kept.{IsKept}
use Rattle.pmg_fence.proofs.LookLemmas.{nameless_header, header_there, listed_there}
use Rattle.pmg_fence.proofs.table.Table.own_header.Goals as goal

pub returns-then-not-has_name : goal.returns-then-not-has_name
returns-then-not-has_name c = nameless_header c.args.self.now.jobs c.args.self.now.node c.args.self.now.fences c.args.name.now (sym c.has_name.ensures ∙ c.if-not-has_name.true)

pub returns-in-Some : goal.returns-in-Some
returns-in-Some c =
    subst (λ due. IfOk c.header_with.result (λ o. o ≡ due))
    (header_there c.args.self.now c.args.name.now c.signature-signature.result.now c.instance.result c.signature-signature.ensures c.instance.ensures.value (sym c.has_name.ensures ∙ c.if-not-has_name.false))
    c.header_with.ensures

pub returns-in-None : goal.returns-in-None
returns-in-None c =
    listed_there c.args.self.now c.self.inside.owns c.args.name.now c.signature-signature.result.now c.get.result (subst (λ (k : Known). IsKept k c.self.inside.owns) c.self.view_is c.self.invariant)
    (sym c.has_name.ensures ∙ c.if-not-has_name.false) c.signature-signature.ensures c.get.ensures c.in-None.is
