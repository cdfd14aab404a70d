use Rattle.std.proofs.Common.{◌≡◌, false, not, List, Ok, sym, subst, ap, ◌∙◌}
use Rattle.std.specs.List.{list_any}
use Rattle.std.specs.List.Sorted.{IsStrictlySortedBy}
use Rattle.std.specs.FinSet as set
use Rattle.pmg_value.specs.declared.process.Proc.{Proc}
use Rattle.pmg_value.specs.Process.{proc_cmp}
use Rattle.pmg_jobinfo.specs.Jobs.{is_registered}
use Rattle.pmg_jobinfo.specs.Refusing.{is_bad}
use Rattle.pmg_jobinfo.proofs.MemberLemmas.{expansion_is, expansion_alone, alone_rises, chain_rising}
use Rattle.pmg_jobinfo.proofs.registry.Registry.expand.Goals as goal

pub returns-clause-value : goal.returns-clause-value
returns-clause-value c =
    let is =
    expansion_is c.args.self.now c.args.list.now c.in_ok-named.named.keys c.in_ok-all.all.keys c.in_ok-named.ensures c.in_ok-all.ensures
    ∙ ap (λ (ps : List Proc). set.from_list {R = proc_cmp} ps) (sym c.in_ok-in_order.ensures.procs) in
    let bad : list_any (is_bad c.args.self.now) c.args.list.now ≡ false = sym c.has_bad.ensures ∙ c.if-has_bad.false in
    let unknown : list_any (λ p. not (is_registered c.args.self.now p.nspace)) c.args.list.now ≡ false = sym c.has_unknown.ensures ∙ c.if-has_unknown.false in
    rw (bad, unknown) (ap Ok is)

pub returns-clause-rising : goal.returns-clause-rising
returns-clause-rising c = chain_rising c.in_ok-in_order.field-0.items (subst (IsStrictlySortedBy proc_cmp) (sym c.in_ok-in_order.ensures.procs) c.in_ok-in_order.ensures.ordered)

pub returns-in-len1-clause-value : goal.returns-in-len1-clause-value
returns-in-len1-clause-value c =
    let is =
    expansion_alone c.args.self.now c.args.list.now c.proc-item.result c.in_ok-meant_alone.field-0.items c.in-len1.len_at_least c.in-len1.len_below c.proc-item.is
    c.in_ok-meant_alone.ensures in
    let bad : list_any (is_bad c.args.self.now) c.args.list.now ≡ false = sym c.has_bad.ensures ∙ c.if-has_bad.false in
    let unknown : list_any (λ p. not (is_registered c.args.self.now p.nspace)) c.args.list.now ≡ false = sym c.has_unknown.ensures ∙ c.if-has_unknown.false in
    rw (bad, unknown) (ap Ok is)

pub returns-in-len1-clause-rising : goal.returns-in-len1-clause-rising
returns-in-len1-clause-rising c = alone_rises c.args.self.now c.proc-item.result c.in_ok-meant_alone.field-0.items c.in_ok-meant_alone.ensures
