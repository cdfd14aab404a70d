use Rattle.std.proofs.Common.{arith, ◌≤◌, ◌<◌, ap, sym, subst}
use Rattle.std.specs.Prelude.{max, Some}
use Rattle.std.specs.Option.{is_some}
use Rattle.pmg_join.proofs.RangeSteps.{Puts, spans_have, filled}
use Rattle.pmg_join.proofs.ranges.Ranges.fill_room.Goals as goal

pub returns : goal.returns
returns c =
    let m0 = c.args.self.now.ends in
    let m1 = c.merge_above-top.new.ends in
    let top = c.merge_above-top.result in
    let m2 = c.get_mut.follows.lender top in
    let start = c.in-Some.first.from in
    let end = c.in-Some.first.to in
    let found = c.in-Some.ensures in
    let merged = c.merge_above-top.ensures in
    let most : max c.args.to end ≤ top = subst (λ x. x ≤ top) c.max.ensures merged.end in
    let put : Puts m1 m2 start (Some top) = ((c.get_mut.follows.holds top).3 (ap is_some (sym c.in-Some-get_mut.ensures.value))).0 in
    let reaches = spans_have m0 c.args.from c.args.from start end c.requires.apart (omega arith) found.there found.before found.last c.requires.room in
    let all = filled m0 m1 m2 c.args.from c.args.to start end top c.requires.apart c.requires.some found.there found.before reaches found.last most
    merged.left merged.taken (λ k b. merged.no_more k (subst (λ x. x < k) (sym c.max.ensures) b.0, b.1)) merged.gone put in
    record { apart = all.apart; kept = all.kept; added = all.added; no_more = all.no_more }
