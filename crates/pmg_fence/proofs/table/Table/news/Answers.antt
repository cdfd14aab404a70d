use Rattle.std.proofs.Common.{sym, ap, ◌∙◌, ◌++◌, ◌∷◌, [], Bor, List}
use Rattle.std.specs.Option.{option_map}
use Rattle.pmg_frame.specs.Fences.{Header}
use Rattle.pmg_frame.specs.declared.local.Local.{Local}
use Rattle.pmg_fence.specs.Tables.{fence_of}
use Rattle.pmg_fence.proofs.CountLemmas.{nothing_yet}
use Rattle.pmg_fence.proofs.TellLemmas.{fence_known, nothing_told, header_told, listed, present_is}
use Rattle.pmg_fence.proofs.table.Table.news.Goals as goal

pub returns-then-not-may_be_told : goal.returns-then-not-may_be_told
returns-then-not-may_be_told c =
    c.new-news.ensures.items
    ∙ nothing_yet c.args.self.now (fence_of c.args.signature.now c.args.instance) _ (option_map (λ (l : Bor Local). l.now) c.args.line) c.args.own.now
    (fence_known c.args.self.now.fences c.args.signature.now c.args.instance _ c.fence-fence.ensures.value) c.requires.own (sym c.may_be_told.ensures ∙ c.if-not-may_be_told.true)

pub returns-then-is_present : goal.returns-then-is_present
returns-then-is_present c =
    c.new-news.ensures.items
    ∙ nothing_told c.args.self.now (fence_of c.args.signature.now c.args.instance) (option_map (λ (l : Bor Local). l.now) c.args.line) c.is_present.result
    (present_is c.args.self.now c.args.signature.now c.args.instance c.fence-fence.result c.args.own.now c.is_present.result c.requires.own c.fence-fence.ensures.value c.is_present.ensures) c.if-is_present.true

pub returns-in_ok-push_back-in-Some : goal.returns-in_ok-push_back-in-Some
returns-in_ok-push_back-in-Some c =
    header_told c.args.self.now c.args.signature.now c.args.instance (option_map (λ (l : Bor Local). l.now) c.args.line) c.is_present.result c.in_ok-header.field-0 c.push_back.new.self.items
    (present_is c.args.self.now c.args.signature.now c.args.instance c.fence-fence.result c.args.own.now c.is_present.result c.requires.own c.fence-fence.ensures.value c.is_present.ensures) c.if-is_present.false c.in_ok-header.ensures
    (c.in_ok-push_back-in-Some.ensures.items ∙ ap (λ (hs : List Header). hs ++ c.in-Some.header ∷ []) c.new-news.ensures.items ∙ ap listed (sym c.in-Some.is))

pub returns-in-None : goal.returns-in-None
returns-in-None c =
    header_told c.args.self.now c.args.signature.now c.args.instance (option_map (λ (l : Bor Local). l.now) c.args.line) c.is_present.result c.in_ok-header.field-0 c.new-news.result.items
    (present_is c.args.self.now c.args.signature.now c.args.instance c.fence-fence.result c.args.own.now c.is_present.result c.requires.own c.fence-fence.ensures.value c.is_present.ensures) c.if-is_present.false c.in_ok-header.ensures
    (c.new-news.ensures.items ∙ ap listed (sym c.in-None.is))
