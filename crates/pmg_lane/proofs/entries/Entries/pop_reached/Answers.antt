use Rattle.std.proofs.Common.{arith, subst}
use Rattle.std.specs.BTreeMap.{is_at}
use Rattle.std.proofs.lemmas.Bool.{false≢true}
use Rattle.pmg_join.specs.Places.{HasPlace}
use Rattle.pmg_lane.specs.Entries.{late_cmp}
use Rattle.pmg_lane.proofs.Promoting.{number_first, no_places}
use Rattle.pmg_lane.proofs.entries.Entries.pop_reached.Goals as goal
use Rattle.pmg_lane.proofs.entries.Entries.pop_reached.Goals.{«in_default-via-in-Some+else-place-level», «in_default-via-in_default»}

pub returns-in_default-clause-past : goal.returns-in_default-clause-past
returns-in_default-clause-past c q has = elim c.in_default.branch [
  | «in_default-via-in-Some+else-place-level» w ↦
      let least = w.in-Some.ensures.least q (subst (λ s. HasPlace late_cmp s.late q) w.self-is has) in
      let up = number_first w.in-Some.place.now q least in
      omega (arith, up, w.if-place-level.false)
  | «in_default-via-in_default» w ↦ absurd (no_places (is_at (late_cmp q)) c.args.self.now.late.entries (λ l. false≢true (w.in_default.ensures.variant.1 l)) (subst (λ s. HasPlace late_cmp s.late q) w.self-is has))
]
