use Rattle.std.proofs.Common.{ℕ, List, refl, sym, ap, subst, ◌∙◌}
use Rattle.pmg_jobinfo.specs.Jobs.{AreJobs, jobs_of}
use Rattle.pmg_jobinfo.proofs.TableLemmas.{same_spaces}
use Rattle.pmg_jobinfo.proofs.registry.Registry.copy.Goals as goal

pub returns : goal.returns
returns c =
    let copies = c.in_ok-copy_rows.field-0.entries in
    ap (λ (names : List (List ℕ)). jobs_of names copies) c.in_ok-copy_all.ensures
    ∙ same_spaces c.self.inside.nodes.items copies c.self.inside.spaces.entries c.args.self.now c.in_ok-copy_rows.ensures c.self.view_is

pub invariant_of-result : goal.invariant_of-result
invariant_of-result c =
    let copies = c.in_ok-copy_rows.field-0.entries in
    let names = c.self.inside.nodes.items in
    let spaces = c.self.inside.spaces.entries in
    subst AreJobs
    (sym (ap (λ (texts : List (List ℕ)). jobs_of texts copies) c.in_ok-copy_all.ensures ∙ same_spaces names copies spaces (jobs_of names spaces) c.in_ok-copy_rows.ensures refl))
    c.self.invariant
