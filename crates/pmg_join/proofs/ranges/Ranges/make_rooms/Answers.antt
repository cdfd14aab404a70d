use Rattle.std.proofs.Common.{inl, inr, subst, sym}
use Rattle.pmg_join.specs.Ranges.{Spans}
use Rattle.pmg_join.proofs.RangeSteps.{lie_in_trans, spans_kept, pair_there, in_step, in_none}
use Rattle.pmg_join.proofs.ranges.Ranges.make_rooms.Goals as goal

pub loop-from-preserved : goal.loop-from-preserved
loop-from-preserved c =
    let m = c.loop-from.self.ends in
    let n = c.make_room.new.self.ends in
    let made = c.in_ok-make_room.ensures in
    let inv = c.loop-from.invariant in (
      made.apart,
      lie_in_trans c.args.self.now.ends m n inv.1 made.kept,
      λ k h. inv.2 k (made.no_more k h),
      λ from to i. elim (inv.3 from to i) [
        | inr s ↦ inr (spans_kept m n made.kept from from s)
        | inl j ↦ elim (in_step (from, to) _ _ _ c.in-Some.ensures.steps j) [
          | inl e ↦ inr (subst (λ f. Spans n f f) (sym (λ k. (e k).0)) made.room)
          | inr k ↦ inl k
        ]
      ],
    )

pub returns-clause-room : goal.returns-clause-room
returns-clause-room c from to h =
    elim (c.loop-from.invariant.3 from to (pair_there c.args.other.now.ends.entries from to h)) [
      | inl i ↦ absurd (in_none (from, to) _ c.in-None.ensures.steps.0 i)
      | inr s ↦ s
    ]
