use Rattle.std.proofs.Common.{sym, ap, ◌∙◌}
use Rattle.std.specs.FinMap as finite
use Rattle.pmg_jobinfo.specs.Jobs.{Jobs}
use Rattle.pmg_jobinfo.proofs.TableLemmas.{len_of_table}
use Rattle.pmg_jobinfo.proofs.registry.Registry.space_count.Goals as goal

pub returns : goal.returns
returns c = c.len.ensures.len ∙ sym (len_of_table c.self.inside.spaces.entries c.len.ensures.ordered) ∙ ap (λ (j : Jobs). finite.len j.spaces) c.self.view_is
