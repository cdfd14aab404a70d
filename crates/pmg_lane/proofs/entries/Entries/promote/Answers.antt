use Rattle.std.proofs.Common.{sym, subst, ◌∙◌}
use Rattle.std.specs.Ordering.{nat_cmp}
use Rattle.std.specs.Cmp.Lexicographic.{slice_cmp}
use Rattle.pmg_join.specs.Places.{HasPlace}
use Rattle.pmg_lane.specs.Entries.{late_cmp}
use Rattle.pmg_lane.proofs.Settling.{roomy_reads}
use Rattle.pmg_lane.proofs.Moving.{has_stays}
use Rattle.pmg_lane.proofs.Promoting.{popped_within, popped_roomy, popped_places, popped_none, popped_some, settles_trans}
use Rattle.pmg_lane.proofs.entries.Entries.promote.Goals as goal

pub put_read-requires-clause-place : goal.put_read-requires-clause-place
put_read-requires-clause-place c =
    let p = c.in-Some.ensures in
    subst (λ t. HasPlace (slice_cmp nat_cmp) t c.in-Some.place.1) (sym p.reads) (c.loop-place.invariant.2 c.in-Some.place p.place p.reached)

pub loop-place-preserved-in-Some-value : goal.loop-place-preserved-in-Some-value
loop-place-preserved-in-Some-value c =
    let a = c.loop-place.self in
    let b = c.pop_reached.new.self in
    let d = c.put_read.new.self in
    let p = c.in-Some.ensures in
    let inv = c.loop-place.invariant in (
      settles_trans c.args.level c.args.self.now a d inv.0
          (popped_some a b c.args.level c.in-Some.place p.reached p.taken p.reads c.in-Some-value.value d (p.there ∙ c.in-Some-value.is) c.put_read.ensures.settles),
      c.put_read.ensures.within,
      roomy_reads c.args.level b d c.put_read.ensures.stay.0 c.put_read.ensures.late (popped_roomy a b c.args.level c.in-Some.place p.reached p.taken p.reads inv.2),
      λ n key h. has_stays b d c.args.level n key c.put_read.ensures.stay (popped_places a b c.args.level c.in-Some.place p.reached p.taken p.reads n key (inv.3 n key h)),
    )

pub loop-place-preserved : goal.loop-place-preserved
loop-place-preserved c =
    let a = c.loop-place.self in
    let b = c.pop_reached.new.self in
    let p = c.in-Some.ensures in
    let inv = c.loop-place.invariant in (
      settles_trans c.args.level c.args.self.now a b inv.0
          (popped_none a b c.args.level c.in-Some.place p.reached p.taken p.reads (p.there ∙ c.in_default-value.is)),
      popped_within a b c.args.level c.in-Some.place p.reached p.taken p.reads inv.1,
      popped_roomy a b c.args.level c.in-Some.place p.reached p.taken p.reads inv.2,
      λ n key h. popped_places a b c.args.level c.in-Some.place p.reached p.taken p.reads n key (inv.3 n key h),
    )

pub returns-clause-stay : goal.returns-clause-stay
returns-clause-stay c n key h =
    let popped = c.in_default.ensures in
    let there = c.loop-place.invariant.3 n key h in (
      λ up. subst (λ t. HasPlace (slice_cmp nat_cmp) t key) (sym popped.reads) (there.0 up),
      λ past. subst (λ t. HasPlace late_cmp t (n, key)) (sym popped.none) (there.1 past),
    )
