use Rattle.std.proofs.Common.{◌++◌, length, ap, subst, ◌∙◌, arith}
use Rattle.std.proofs.lemmas.List.{length-append}
use Rattle.std.specs.List.{flat_map}
use Rattle.pmg_jobinfo.specs.Jobs.{Jobs, AreJobs}
use Rattle.pmg_jobinfo.specs.Procs.{procs_of}
use Rattle.pmg_jobinfo.specs.Reserved.{ranks_at}
use Rattle.pmg_jobinfo.proofs.ListedLemmas.{few_listed}
use Rattle.pmg_jobinfo.proofs.SpaceLemmas.{each_entry}
use Rattle.pmg_jobinfo.proofs.registry.Registry.procs_at.Goals as goal

pub loop-nspace-init : goal.loop-nspace-init
loop-nspace-init c =
    let rows = c.self.inside.spaces.entries in
    let start = c.into_iter-nspace-iterator.ensures.into_iter_gives ∙ c.iter-nspace-items.ensures.rest in
    ap (λ ps. ps ++ flat_map (λ e. procs_of e.0 (ranks_at c.args.node e.1)) c.into_iter-nspace-iterator.result) c.new-procs.ensures.items
    ∙ each_entry (flat_map (λ e. procs_of e.0 (ranks_at c.args.node e.1))) rows c.into_iter-nspace-iterator.result c.args.self.now.spaces start c.iter-nspace-items.ensures.ordered
    (ap (λ (j : Jobs). j.spaces) c.self.view_is)

pub returns-clause-few : goal.returns-clause-few
returns-clause-few c =
    let few = few_listed c.args.self.now c.args.node (subst AreJobs c.self.view_is c.self.invariant) in
    let parts = length-append c.loop-nspace.procs.items (flat_map (λ e. procs_of e.0 (ranks_at c.args.node e.1)) c.loop-nspace.nspace-iterator) in
    let all = ap length c.loop-nspace.invariant in
    omega (arith, few, parts, all)
