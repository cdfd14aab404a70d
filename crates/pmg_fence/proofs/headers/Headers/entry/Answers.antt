use Rattle.std.proofs.Common.{sym, ap, ◌∙◌, Some, Bor, subst}
use Rattle.std.specs.Option.{option_map}
use Rattle.std.specs.FinMap.{nat_cmp-IsAntisymmetric}
use Rattle.std.specs.Cmp.{nat_cmp_total}
use Rattle.pmg_value.specs.Lists.{is_chain}
use Rattle.pmg_frame.specs.Fences.{Header, is_local_rising}
use Rattle.pmg_frame.specs.declared.local.Local.{Local}
use Rattle.pmg_fence.specs.Tables.{entry_in}
use Rattle.pmg_fence.proofs.SearchLemmas.{header_rises}
use Rattle.pmg_fence.proofs.Trees.{read}
use Rattle.pmg_fence.proofs.headers.Headers.entry.Goals as goal
use Rattle.std.proofs.Common.{List, true, ◌≡◌}

pub told_entry-requires : goal.told_entry-requires
told_entry-requires c = subst (λ (ls : List Local). is_chain is_local_rising ls ≡ true) (sym c.locals.ensures.value) (header_rises c.in-Some.header.now c.locals.ensures.header)

pub returns-in-Some : goal.returns-in-Some
returns-in-Some c =
    c.told_entry.ensures
    ∙ ap (λ ls. entry_in c.args.proc.now (Some ls)) c.locals.ensures.value
    ∙ ap (λ o. entry_in c.args.proc.now (option_map (λ (h : Bor Header). h.now.locals) o)) (sym c.in-Some.is)
    ∙ ap (entry_in c.args.proc.now) (read nat_cmp_total nat_cmp-IsAntisymmetric (λ (h : Header). h.locals) c.self.inside.rows.entries c.args.self.now c.args.node c.get.result c.self.view_is c.get.ensures.value)

pub returns-in-None : goal.returns-in-None
returns-in-None c =
    ap (λ o. entry_in c.args.proc.now (option_map (λ (h : Bor Header). h.now.locals) o)) (sym c.in-None.is)
    ∙ ap (entry_in c.args.proc.now) (read nat_cmp_total nat_cmp-IsAntisymmetric (λ (h : Header). h.locals) c.self.inside.rows.entries c.args.self.now c.args.node c.get.result c.self.view_is c.get.ensures.value)
