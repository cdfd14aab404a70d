use Rattle.std.proofs.Common.{ap, subst, ◌∙◌, ◌++◌, List, Bor}
use Rattle.std.specs.List.{flat_map}
use Rattle.std.specs.Option.{option_map}
use Rattle.pmg_frame.specs.Fences.{Header}
use Rattle.pmg_fence.specs.Codes.{Known, Signatures}
use Rattle.pmg_fence.specs.Kept.{series_told, found_signatures, HasSignaturesOf, IsKept}
use Rattle.pmg_fence.proofs.KeptLemmas.{listed_told, unlisted_news}
use Rattle.pmg_fence.proofs.table.Table.all_news.Goals as goal

pub returns-in_default : goal.returns-in_default
returns-in_default c =
    c.new-news.ensures.items
    ∙ unlisted_news c.args.self.now c.self.inside.owns c.args.line.now (subst (λ (k : Known). IsKept k c.self.inside.owns) c.self.view_is c.self.invariant)
    (subst (λ o. HasSignaturesOf c.self.inside.owns c.args.line.now.proc (found_signatures (option_map (λ (s : Bor Signatures). s.now) o))) c.in_default.is c.signatures.ensures)

pub loop-signature-init : goal.loop-signature-init
loop-signature-init c =
    let n = series_told c.args.self.now c.args.line.now in
    ap (λ (hs : List Header). hs ++ flat_map n c.into_iter-signature-iterator.result) c.new-news.ensures.items
    ∙ ap (flat_map n) (c.into_iter-signature-iterator.ensures.into_iter_gives ∙ c.iter-signature-items.ensures.rest)
    ∙ listed_told c.args.self.now c.self.inside.owns c.args.line.now c.in-Some.signatures.now c.items.result.now.keys
    (subst (λ (k : Known). IsKept k c.self.inside.owns) c.self.view_is c.self.invariant)
    (subst (λ o. HasSignaturesOf c.self.inside.owns c.args.line.now.proc (found_signatures (option_map (λ (s : Bor Signatures). s.now) o))) c.in-Some.is c.signatures.ensures)
    c.items.ensures c.iter-signature-items.ensures.ordered
