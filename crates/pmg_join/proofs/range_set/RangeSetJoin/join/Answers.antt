use Rattle.std.proofs.Common.{◌∙◌, inl, inr}
use Rattle.std.specs.FinSet as set
use Rattle.pmg_join.proofs.RangeLemmas.{same_cover, covers_kept, cover_joined}
use Rattle.pmg_join.proofs.RangeSteps.{lie_in_trans}
use Rattle.pmg_join.proofs.range_set.RangeSetJoin.join.Goals as goal

pub returns-in-Err-clause-err : goal.returns-in-Err-clause-err
returns-in-Err-clause-err c =
    let old = c.self.inside.ranges.ends in
    let new = c.make_rooms.new.self.ends in
    same_cover new old c.in-Err.ensures.no_more (covers_kept old new c.in-Err.ensures.kept) ∙ c.self.view_is

pub returns-clause-ok : goal.returns-clause-ok
returns-clause-ok c =
    let old = c.self.inside.ranges.ends in
    let roomy = c.make_rooms.new.self.ends in
    let new = c.fill_rooms.new.self.ends in
    let other = c.other.inside.ranges.ends in
    let filled = c.fill_rooms.ensures in
    cover_joined old other new
    (λ k h. elim (filled.no_more k h) [ inl a ↦ inl (c.in_default.ensures.no_more k a) | inr b ↦ inr b ])
    (lie_in_trans old roomy new c.in_default.ensures.kept filled.kept) filled.added
    ∙ (λ i. set.union (c.self.view_is i) (c.other.view_is i))
