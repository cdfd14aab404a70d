use Rattle.std.proofs.Common.{◌≡◌, length, sym, ap, subst, ◌∙◌}
use Rattle.std.specs.Prelude.{Some}
use Rattle.std.specs.FinMap as finite
use Rattle.pmg_jobinfo.specs.Jobs.{Jobs, AreJobs, IsSpace}
use Rattle.pmg_jobinfo.proofs.TableLemmas.{get_table, space_at}
use Rattle.pmg_jobinfo.proofs.registry.Registry.homes.Goals as goal

pub returns-in-Some-clause-value : goal.returns-in-Some-clause-value
returns-in-Some-clause-value c =
    ap Some (c.as_slice.ensures.value) ∙ c.in-Some.ensures ∙ get_table c.self.inside.spaces.entries c.args.nspace.now ∙ ap (λ (j : Jobs). finite.get j.spaces c.args.nspace.now) c.self.view_is

pub returns-in-Some-clause-space : goal.returns-in-Some-clause-space
returns-in-Some-clause-space c =
    let is : Some c.in-Some.homes.now ≡ finite.get c.args.self.now.spaces c.args.nspace.now = c.in-Some.ensures ∙ get_table c.self.inside.spaces.entries c.args.nspace.now ∙ ap (λ (j : Jobs). finite.get j.spaces c.args.nspace.now) c.self.view_is in
    subst (IsSpace (length c.args.self.now.nodes) c.args.nspace.now) (sym c.as_slice.ensures.value) (space_at c.args.self.now c.args.nspace.now c.in-Some.homes.now (subst AreJobs c.self.view_is c.self.invariant) is)

pub returns-in-None-clause-value : goal.returns-in-None-clause-value
returns-in-None-clause-value c = c.in-None.ensures ∙ get_table c.self.inside.spaces.entries c.args.nspace.now ∙ ap (λ (j : Jobs). finite.get j.spaces c.args.nspace.now) c.self.view_is
