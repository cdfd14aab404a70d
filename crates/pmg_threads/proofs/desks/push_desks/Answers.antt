use Rattle.std.proofs.Common.{◌≡◌, ◌+◌, ◌++◌, ◌∷◌, [], length, sym, subst, ◌∙◌, rules, arith}
use Rattle.pmg_threads.specs.Running.{FitFrom, IsDeskOf}
use Rattle.pmg_threads.proofs.RunLemmas.{fit_more}
use Rattle.pmg_threads.proofs.desks.push_desks.Goals as goal

pub loop-index-preserved : goal.loop-index-preserved
loop-index-preserved g c =
    let desks = c.loop-index.desks.items in
    let pushed : c.push.new.self.items ≡ desks ++ c.in-Ok.desk ∷ [] = search rules in
    let id : c.from_checked-id.result ≡ c.loop-index.index = search rules in
    let at : c.in-Ok.desk.place.node ≡ 0 + length desks = c.in-Ok.ensures.node ∙ id ∙ (let e : c.loop-index.index ≡ 0 + length desks = omega (arith, c.loop-index.invariant.0) in e) in
    let group : c.in_ok-copy.field-0 ≡ c.args.registry.now = search rules in
    (search rules, subst (FitFrom (IsDeskOf c.args.registry.now) 0) (sym pushed) (fit_more (IsDeskOf c.args.registry.now) 0 desks c.in-Ok.desk c.loop-index.invariant.1 (at, c.in-Ok.ensures.registry ∙ group)))
