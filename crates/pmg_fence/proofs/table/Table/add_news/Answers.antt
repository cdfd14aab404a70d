use Rattle.std.proofs.Common.{sym, ap, ◌∙◌, ◌++◌, map, Bor}
use Rattle.std.specs.FinMap as finite
use Rattle.std.specs.List.{flat_map}
use Rattle.std.specs.Map.{keys_of}
use Rattle.std.specs.Option.{option_map}
use Rattle.pmg_fence.specs.Tables.{Series, fence_of}
use Rattle.pmg_fence.specs.Codes.{Known}
use Rattle.pmg_fence.specs.Kept.{ended_told}
use Rattle.pmg_fence.proofs.EndLemmas.{instances_are}
use Rattle.pmg_fence.proofs.LineLemmas.{append_empty}
use Rattle.pmg_fence.proofs.KeptLemmas.{series_there, no_series_there}
use Rattle.pmg_fence.proofs.table.Table.add_news.Goals as goal

pub returns-in_default : goal.returns-in_default
returns-in_default c =
    sym (ap (λ hs. c.args.news.now.items ++ hs) (no_series_there c.args.self.now c.args.line.now c.args.signature.now
    (ap (λ o. option_map (λ (s : Bor Series). s.now) o) (sym c.in_default.is) ∙ c.get.ensures ∙ ap (λ (k : Known). finite.get k.fences.series c.args.signature.now) c.self.view_is)) ∙ append_empty c.args.news.now.items)

pub loop-instance-init : goal.loop-instance-init
loop-instance-init c =
    let n = ended_told c.args.self.now c.args.line.now in
    ap (λ es. c.args.news.now.items ++ flat_map n (map (fence_of c.args.signature.now) (keys_of es))) (c.into_iter-instance-iterator.ensures.into_iter_gives ∙ c.iter-instance-items.ensures.rest)
    ∙ ap (λ hs. c.args.news.now.items ++ hs)
    (ap (λ es. flat_map n (map (fence_of c.args.signature.now) (keys_of es))) (sym (instances_are c.rows.result.now.entries c.in-Some.series.now.fences c.rows.ensures c.iter-instance-items.ensures.ordered))
    ∙ series_there c.args.self.now c.args.line.now c.args.signature.now c.in-Some.series.now
    (ap (λ o. option_map (λ (s : Bor Series). s.now) o) (sym c.in-Some.is) ∙ c.get.ensures ∙ ap (λ (k : Known). finite.get k.fences.series c.args.signature.now) c.self.view_is))
