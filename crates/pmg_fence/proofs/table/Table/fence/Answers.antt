use Rattle.std.proofs.Common.{subst, sym, ap, ◌∙◌, Bor}
use Rattle.std.specs.FinMap as finite
use Rattle.std.specs.Option.{option_map, unwrap_or}
use Rattle.std.specs.Ordering.{nat_cmp}
use Rattle.pmg_fence.specs.Tables.{Series, no_series, series_at}
use Rattle.pmg_fence.specs.Codes.{Known}
use Rattle.pmg_fence.specs.Kept.{IsKept}
use Rattle.pmg_fence.proofs.KeptLemmas.{instance_there}
use Rattle.pmg_fence.proofs.table.Table.fence.Goals as goal

pub returns-in-Some-clause-value : goal.returns-in-Some-clause-value
unfolding series_at
returns-in-Some-clause-value c =
    c.fence.ensures
    ∙ ap (λ o. finite.get (unwrap_or (option_map (λ (s : Bor Series). s.now) o) no_series).fences c.args.instance) (sym c.in-Some.is)
    ∙ ap (λ o. finite.get (unwrap_or o no_series).fences c.args.instance) c.get.ensures
    ∙ ap (λ (k : Known). finite.get (series_at k.fences c.args.signature.now).fences c.args.instance) c.self.view_is

pub returns-in-None-clause-value : goal.returns-in-None-clause-value
unfolding series_at
returns-in-None-clause-value c =
    sym (finite.get-empty nat_cmp c.args.instance)
    ∙ ap (λ o. finite.get (unwrap_or (option_map (λ (s : Bor Series). s.now) o) no_series).fences c.args.instance) (sym c.in-None.is)
    ∙ ap (λ o. finite.get (unwrap_or o no_series).fences c.args.instance) c.get.ensures
    ∙ ap (λ (k : Known). finite.get (series_at k.fences c.args.signature.now).fences c.args.instance) c.self.view_is

pub returns-in-Some-clause-number : goal.returns-in-Some-clause-number
returns-in-Some-clause-number c =
    instance_there c.args.self.now c.self.inside.owns c.args.signature.now c.args.instance c.fence.result
    (subst (λ (k : Known). IsKept k c.self.inside.owns) c.self.view_is c.self.invariant) (returns-in-Some-clause-value c)
