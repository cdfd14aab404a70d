use Rattle.std.proofs.Common.{suc, nat_lt, sym, ap, ◌∙◌, Bor}
use Rattle.std.specs.Option.{option_map, unwrap_or}
use Rattle.pmg_fence.specs.Tables.{Series, no_series, series_at}
use Rattle.pmg_fence.specs.Codes.{Known}
use Rattle.pmg_fence.proofs.NumberLemmas.{none_below}
use Rattle.pmg_fence.proofs.table.Table.is_old_at.Goals as goal

pub returns-in-Some : goal.returns-in-Some
unfolding series_at
returns-in-Some c =
    c.is_old.ensures
    ∙ ap (λ o. nat_lt (suc c.args.instance) (unwrap_or (option_map (λ (s : Bor Series). s.now) o) no_series).top) (sym c.in-Some.is)
    ∙ ap (λ o. nat_lt (suc c.args.instance) (unwrap_or o no_series).top) c.get.ensures
    ∙ ap (λ (k : Known). nat_lt (suc c.args.instance) (series_at k.fences c.args.signature.now).top) c.self.view_is

pub returns-in-None : goal.returns-in-None
unfolding series_at
returns-in-None c =
    sym (none_below c.args.instance)
    ∙ ap (λ o. nat_lt (suc c.args.instance) (unwrap_or (option_map (λ (s : Bor Series). s.now) o) no_series).top) (sym c.in-None.is)
    ∙ ap (λ o. nat_lt (suc c.args.instance) (unwrap_or o no_series).top) c.get.ensures
    ∙ ap (λ (k : Known). nat_lt (suc c.args.instance) (series_at k.fences c.args.signature.now).top) c.self.view_is
