use Rattle.std.proofs.Common.{◌||◌, ◌+◌, Bool, drop, sym, ap, ◌∙◌}
use Rattle.std.specs.List.{list_any}
use Rattle.std.proofs.lemmas.List.{at_drop_more, at_drop_all}
use Rattle.pmg_value.specs.declared.process.Proc.{Proc}
use Rattle.pmg_jobinfo.proofs.MeantLemmas.{means}
use Rattle.pmg_jobinfo.proofs.RuleLemmas.{has}
use Rattle.pmg_jobinfo.proofs.registry.Registry.is_rank_meant.Goals as goal

pub returns-then-stands_for : goal.returns-then-stands_for
returns-then-stands_for c =
    let jobs = c.args.self.now in
    let list = c.args.list.now in
    let q : Proc = record { nspace = c.args.nspace.now; rank = c.args.rank } in
    let i = c.loop-proc.proc-index in
    let p = c.proc-item.result in
    sym (has jobs list q ∙ c.loop-proc.invariant ∙ at_drop_more (list_any (λ r. means jobs r q)) list i p c.loop-proc-test.true
    ∙ ap (λ (r : Proc). means jobs r q || list_any (λ s. means jobs s q) (drop (i + 1) list)) (sym c.proc-item.is)
    ∙ ap (λ (b : Bool). b || list_any (λ s. means jobs s q) (drop (i + 1) list)) (sym c.stands_for.ensures ∙ c.if-stands_for.true))

pub returns : goal.returns
returns c =
    let jobs = c.args.self.now in
    let list = c.args.list.now in
    let q : Proc = record { nspace = c.args.nspace.now; rank = c.args.rank } in
    sym (has jobs list q ∙ c.loop-proc.invariant ∙ at_drop_all (list_any (λ r. means jobs r q)) list c.loop-proc.proc-index c.loop-proc-test.false)
