use Rattle.std.proofs.Common.{◌≡◌, true, refl, sym, subst, ◌∙◌}
use Rattle.pmg_value.specs.Process.{can_commit}
use Rattle.pmg_value.specs.declared.process.Proc.{Proc}
use Rattle.pmg_commit.specs.Sealed.{fresh}
use Rattle.pmg_pset.specs.Sets.{AreSets}
use Rattle.pmg_pset.proofs.SetLemmas.{host_is, fresh_sets}
use Rattle.pmg_pset.proofs.sets.Sets.new.Goals as goal

pub from_checked-requires : goal.from_checked-requires
from_checked-requires c =
    let proc = host_is c.of_host.result c.of_host.ensures.nspace c.of_host.ensures.rank in
    subst (λ (p : Proc). can_commit p ≡ true) (sym proc) refl

pub invariant_of-result : goal.invariant_of-result
invariant_of-result c =
    let proc = host_is c.of_host.result c.of_host.ensures.nspace c.of_host.ensures.rank in
    subst AreSets (sym (c.from_checked.ensures ∙ (λ i. fresh (proc i)))) fresh_sets
