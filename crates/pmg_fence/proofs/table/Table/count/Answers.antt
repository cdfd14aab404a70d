use Rattle.std.proofs.Common.{sym, ap, ◌∙◌, Bor}
use Rattle.std.specs.FinMap as finite
use Rattle.std.specs.Option.{option_map, unwrap_or}
use Rattle.pmg_value.specs.Process.{proc_cmp}
use Rattle.pmg_fence.specs.Tables.{Series, no_series, series_at, count_of}
use Rattle.pmg_fence.specs.Codes.{Known}
use Rattle.pmg_fence.proofs.table.Table.count.Goals as goal

pub returns-in-Some : goal.returns-in-Some
unfolding series_at count_of
returns-in-Some c = record {
  value =
      c.count.ensures
      ∙ ap (λ o. unwrap_or (finite.get (unwrap_or (option_map (λ (s : Bor Series). s.now) o) no_series).counts c.args.proc.now) 0) (sym c.in-Some.is)
      ∙ ap (λ o. unwrap_or (finite.get (unwrap_or o no_series).counts c.args.proc.now) 0) c.get.ensures
      ∙ ap (λ (k : Known). count_of k.fences c.args.signature.now c.args.proc.now) c.self.view_is;
}

pub returns-in-None : goal.returns-in-None
unfolding series_at count_of
returns-in-None c = record {
  value =
      sym (ap (λ o. unwrap_or o 0) (finite.get-empty proc_cmp c.args.proc.now))
      ∙ ap (λ o. unwrap_or (finite.get (unwrap_or (option_map (λ (s : Bor Series). s.now) o) no_series).counts c.args.proc.now) 0) (sym c.in-None.is)
      ∙ ap (λ o. unwrap_or (finite.get (unwrap_or o no_series).counts c.args.proc.now) 0) c.get.ensures
      ∙ ap (λ (k : Known). count_of k.fences c.args.signature.now c.args.proc.now) c.self.view_is;
}
