use Rattle.std.proofs.Common.{◌++◌, length, ap, ◌∙◌}
use Rattle.std.specs.List.{flat_map}
use Rattle.pmg_jobinfo.specs.Expansion.{ranks}
use Rattle.pmg_jobinfo.specs.Jobs.{Jobs}
use Rattle.pmg_jobinfo.specs.Procs.{procs_of}
use Rattle.pmg_jobinfo.proofs.SpaceLemmas.{each_entry}
use Rattle.pmg_jobinfo.proofs.registry.Registry.procs.Goals as goal

pub loop-nspace-init : goal.loop-nspace-init
loop-nspace-init c =
    let rows = c.self.inside.spaces.entries in
    let start = c.into_iter-nspace-iterator.ensures.into_iter_gives ∙ c.iter-nspace-items.ensures.rest in
    ap (λ ps. ps ++ flat_map (λ e. procs_of e.0 (ranks (length e.1))) c.into_iter-nspace-iterator.result) c.new-procs.ensures.items
    ∙ each_entry (flat_map (λ e. procs_of e.0 (ranks (length e.1)))) rows c.into_iter-nspace-iterator.result c.args.self.now.spaces start c.iter-nspace-items.ensures.ordered
    (ap (λ (j : Jobs). j.spaces) c.self.view_is)
