use Rattle.std.proofs.Common.{arith, ◌≡◌, ◌≤◌, ◌<◌, ◌⊎◌, sym, subst}
use Rattle.pmg_join.proofs.RangeSteps.{merge_left, merge_taken, merge_no_more, max_is}
use Rattle.pmg_join.proofs.ranges.merge_above.Goals as goal

pub loop-next-preserved : goal.loop-next-preserved
loop-next-preserved c =
    let m = c.loop-next.ends in
    let n = c.remove.new.self in
    let old = c.args.ends.now in
    let key = c.in-Some.next.from in
    let u = c.in-Some.next.to in
    let top = c.loop-next.top in
    let last = c.max-top.result in
    let put = c.remove.ensures.updates.0 in
    let inv = c.loop-next.invariant in
    let found = c.in-Some.ensures in
    let more : top ≤ last = subst (λ x. top ≤ x) (sym c.max-top.ensures) (omega arith) in
    let much : u ≤ last = subst (λ x. u ≤ x) (sym c.max-top.ensures) (omega arith) in
    let which : (last ≡ top) ⊎ (last ≡ u) = subst (λ x. (x ≡ top) ⊎ (x ≡ u)) (sym c.max-top.ensures) (max_is top u) in
    let above : c.args.from < key = omega (arith, found.past) in (
      omega (arith, inv.0, more),
      merge_left m n old c.args.from c.args.to top key u last put found.there above found.up_to more much inv.1,
      merge_taken m n old c.args.from c.args.to top key u last put found.there above found.up_to more much inv.2,
      merge_no_more m n old c.args.from c.args.to top key u last put found.there above found.up_to more much inv.1 which inv.3,
    )
