use Rattle.std.proofs.Common.{ℕ, ◌<◌, ◌≤◌, ◌≡◌, inl, inr, subst, sym, arith}
use Rattle.pmg_join.specs.Ranges.{Between, Spans, HasRange}
use Rattle.pmg_join.proofs.RangeSteps.{lie_in_trans, spans_kept, pair_there, there_pair, in_step, in_none, in_first, in_others}
use Rattle.pmg_join.proofs.RangeLemmas.{spans_cover}
use Rattle.pmg_join.proofs.ranges.Ranges.fill_rooms.Goals as goal

pub fill_room-requires-clause-room : goal.fill_room-requires-clause-room
fill_room-requires-clause-room c =
    let from = c.in-Some.from.now in
    let to = c.in-Some.to.now in
    let inv = c.loop-from.invariant in
    let there = there_pair c.args.other.now.ends.entries c.iter-from-items.ensures.ordered from to (inv.3 from to (in_first (from, to) _ _ c.in-Some.ensures.steps)) in
    spans_kept c.args.self.now.ends c.loop-from.self.ends inv.1 from from (c.requires.room from to there)

pub loop-from-preserved-then-from-to : goal.loop-from-preserved-then-from-to
loop-from-preserved-then-from-to c =
    let old = c.args.self.now.ends in
    let m = c.loop-from.self.ends in
    let n = c.fill_room.new.self.ends in
    let filled = c.fill_room.ensures in
    let inv = c.loop-from.invariant in
    let start = c.in-Some.from.now in
    let end = c.in-Some.to.now in
    let there : HasRange c.args.other.now.ends start end = there_pair c.args.other.now.ends.entries c.iter-from-items.ensures.ordered start end (inv.3 start end (in_first (start, end) _ _ c.in-Some.ensures.steps)) in (
      filled.apart,
      lie_in_trans old m n inv.1 filled.kept,
      λ k h. elim (filled.no_more k h) [ inl a ↦ inv.2 k a | inr b ↦ inr (start, end, there, b) ],
      λ from to i. inv.3 from to (in_others (from, to) _ _ _ c.in-Some.ensures.steps i),
      λ from to i some. elim (inv.4 from to i some) [
        | inr s ↦ inr (spans_kept m n filled.kept from to s)
        | inl j ↦ elim (in_step (from, to) _ _ _ c.in-Some.ensures.steps j) [
          | inl e ↦ inr (subst (λ f. Spans n f to) (sym (λ k. (e k).0)) (subst (λ t. Spans n start t) (sym (λ k. (e k).1)) filled.added))
          | inr k ↦ inl k
        ]
      ],
    )

pub loop-from-preserved : goal.loop-from-preserved
loop-from-preserved c =
    let inv = c.loop-from.invariant in (
      inv.0,
      inv.1,
      inv.2,
      λ from to i. inv.3 from to (in_others (from, to) _ _ _ c.in-Some.ensures.steps i),
      λ from to i some. elim (inv.4 from to i some) [
        | inr s ↦ inr s
        | inl j ↦ elim (in_step (from, to) _ _ _ c.in-Some.ensures.steps j) [
          | inl e ↦ absurd (not_some from to c.in-Some.from.now c.in-Some.to.now (λ k. (e k).0) (λ k. (e k).1) some c.if-from-to.false)
          | inr k ↦ inl k
        ]
      ],
    )
  where
    not_some : (from to start end : ℕ) → from ≡ start → to ≡ end → from < to → end ≤ start → ⊥
    not_some from to start end e d some none = omega arith

pub returns-clause-added : goal.returns-clause-added
returns-clause-added c n (from, to, h, b) =
    elim (c.loop-from.invariant.4 from to (pair_there c.args.other.now.ends.entries from to h) (between_some from to n b)) [
      | inl i ↦ absurd (in_none (from, to) _ c.in-None.ensures.steps.0 i)
      | inr s ↦ spans_cover c.loop-from.self.ends from to n s b
    ]
  where
    between_some : (from to n : ℕ) → Between from to n → from < to
    between_some from to n b = let l = b.0 in let r = b.1 in omega arith
