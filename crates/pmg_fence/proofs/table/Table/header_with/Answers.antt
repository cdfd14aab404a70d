use Rattle.std.proofs.Common.{sym, subst, ap, ◌∙◌, Vec, Bor, Global, List}
use Rattle.std.specs.Option.{option_map}
use Rattle.pmg_value.specs.declared.process.Proc.{Proc}
use Rattle.pmg_frame.specs.Fences.{header}
use Rattle.pmg_frame.specs.declared.local.Local.{Local}
use Rattle.pmg_fence.specs.Codes.{Known}
use Rattle.pmg_fence.specs.Entering.{told_locals}
use Rattle.pmg_fence.specs.Tables.{fence_of, entry_at}
use Rattle.pmg_fence.specs.Kept.{instead, IsKept}
use Rattle.pmg_fence.proofs.TellLemmas.{fence_known, told_known, header_is, header_framed}
use Rattle.pmg_fence.proofs.table.Table.header_with.Goals as goal

pub returns-in_default : goal.returns-in_default
returns-in_default c =
    let f = fence_of c.args.signature.now c.args.instance in
    let line = option_map (λ (l : Bor Local). l.now) c.args.line in
    ap (λ o. option_map (header c.args.self.now.node f) (option_map (λ (ls : Vec Local Global). ls.items) o)) (sym c.in_default.is)
    ∙ ap (option_map (header c.args.self.now.node f)) (c.in_ok-lines.ensures
    ∙ told_known c.args.self.now.fences f _ line _ (fence_known c.args.self.now.fences c.args.signature.now c.args.instance _ c.fence-fence.ensures.value)
    ∙ ap (λ (ps : List Proc). told_locals (instead line (entry_at c.args.self.now.fences f)) ps) c.requires.own)

pub from_checked-requires : goal.from_checked-requires
from_checked-requires c =
    header_framed c.args.self.now c.self.inside.owns c.args.signature.now c.in_ok-copy.field-0 c.args.instance c.self.inside.node c.from_checked-name.result c.in-Some.lines.items c.args.own.now _
    (option_map (λ (l : Bor Local). l.now) c.args.line) (subst (λ (k : Known). IsKept k c.self.inside.owns) c.self.view_is c.self.invariant) c.requires.line c.in_ok-copy.ensures (ap (λ (k : Known). k.node) c.self.view_is)
    c.from_checked-name.ensures.signature c.from_checked-name.ensures.instance c.requires.own (fence_known c.args.self.now.fences c.args.signature.now c.args.instance _ c.fence-fence.ensures.value)
    (ap (option_map (λ (ls : Vec Local Global). ls.items)) (sym c.in-Some.is) ∙ c.in_ok-lines.ensures)

pub returns : goal.returns
returns c =
    let f = fence_of c.args.signature.now c.args.instance in
    let line = option_map (λ (l : Bor Local). l.now) c.args.line in
    header_is c.args.self.now c.args.signature.now c.in_ok-copy.field-0 c.args.instance c.self.inside.node c.from_checked-name.result c.in-Some.lines.items c.from_checked.result _
    c.in_ok-copy.ensures (ap (λ (k : Known). k.node) c.self.view_is) c.from_checked-name.ensures.signature c.from_checked-name.ensures.instance c.from_checked.ensures
    (ap (option_map (λ (ls : Vec Local Global). ls.items)) (sym c.in-Some.is) ∙ c.in_ok-lines.ensures
    ∙ told_known c.args.self.now.fences f _ line _ (fence_known c.args.self.now.fences c.args.signature.now c.args.instance _ c.fence-fence.ensures.value)
    ∙ ap (λ (ps : List Proc). told_locals (instead line (entry_at c.args.self.now.fences f)) ps) c.requires.own)
