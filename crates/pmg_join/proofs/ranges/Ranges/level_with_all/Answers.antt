use Rattle.std.proofs.Common.{arith, inl, inr, subst, sym, ◌∙◌, ◌≡◌}
use Rattle.std.specs.Ordering.{nat_cmp}
use Rattle.std.specs.Map.{keys_of}
use Rattle.std.specs.List.Sorted.{IsStrictlySortedBy}
use Rattle.std.proofs.lemmas.Map.Keys.{sorted_tail}
use Rattle.pmg_value.specs.Lists.{In}
use Rattle.pmg_join.specs.Ranges.{HasRange, Covers}
use Rattle.pmg_join.proofs.RangeSteps.{reached_with, not_next, all_past, pair_there, there_pair, in_step, in_none, in_first, in_others}
use Rattle.pmg_join.proofs.ranges.Ranges.level_with_all.Goals as goal

pub loop-from-init : goal.loop-from-init
loop-from-init c =
    let all = c.into_iter-from-iterator.ensures.into_iter_gives ∙ c.iter-from-items.ensures.rest in
    record {
      reached = λ n some up. inl (c.level-level.ensures.reached n some up);
      no_more = c.level-level.ensures.no_more;
      seen = λ from to i. inl (subst (In (from, to)) (sym all) i);
      there = λ from to i. subst (In (from, to)) all i;
      ordered = subst (λ es. IsStrictlySortedBy nat_cmp (keys_of es)) (sym all) c.iter-from-items.ensures.ordered;
    }

pub returns-then-level-from-clause-no_more : goal.returns-then-level-from-clause-no_more
returns-then-level-from-clause-no_more c h =
    let inv = c.loop-from.invariant in
    let step = c.in-Some.ensures.steps in
    elim h [
      | inl there ↦ inv.no_more there
      | inr there ↦ not_next c.args.other.now.ends c.loop-from.level (λ from to at. elim (inv.seen from to (pair_there c.args.other.now.ends.entries from to at)) [
        | inr up ↦ inr up
        | inl left ↦ inl (all_past (c.in-Some.from.now, c.in-Some.to.now) c.next.new.self c.loop-from.level from to c.if-level-from.true
            (subst (λ es. IsStrictlySortedBy nat_cmp (keys_of es)) step inv.ordered) (subst (In (from, to)) step left))
      ]) there
    ]

pub loop-from-preserved : goal.loop-from-preserved
loop-from-preserved c =
    let m = c.args.self.now.ends in
    let o = c.args.other.now.ends in
    let start = c.in-Some.from.now in
    let end = c.in-Some.to.now in
    let inv = c.loop-from.invariant in
    let step = c.in-Some.ensures.steps in
    let reach = c.reach_from-level.ensures in
    let next = c.reach_from-level.result in
    let is = c.max.ensures in
    let at : HasRange o start end = there_pair o.entries c.iter-from-items.ensures.ordered start end (inv.there start end (in_first (start, end) _ _ step)) in
    record {
      reached = λ n some up.
          reached_with m (Covers o) c.loop-from.level start end c.max.result next n c.if-level-from.false is (λ i b. (start, end, at, b)) inv.reached reach.reached some up;
      no_more = reach.no_more;
      seen = λ from to i. elim (inv.seen from to i) [
        | inr up ↦ inr (omega (arith, up, is, reach.far))
        | inl j ↦ elim (in_step (from, to) _ _ _ step j) [
          | inl e ↦ inr (let same : to ≡ end = λ k. (e k).1 in omega (arith, same, is, reach.far))
          | inr k ↦ inl k
        ]
      ];
      there = λ from to i. inv.there from to (in_others (from, to) _ _ _ step i);
      ordered = sorted_tail nat_cmp start (keys_of c.next.new.self) (subst (λ es. IsStrictlySortedBy nat_cmp (keys_of es)) step inv.ordered);
    }

pub returns-clause-no_more : goal.returns-clause-no_more
returns-clause-no_more c h =
    let inv = c.loop-from.invariant in
    elim h [
      | inl there ↦ inv.no_more there
      | inr there ↦ not_next c.args.other.now.ends c.loop-from.level (λ from to at. elim (inv.seen from to (pair_there c.args.other.now.ends.entries from to at)) [
        | inr up ↦ inr up
        | inl left ↦ absurd (in_none (from, to) _ c.in-None.ensures.steps.0 left)
      ]) there
    ]
