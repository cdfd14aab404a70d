use Rattle.std.proofs.Common.{inl, inr, ap, ◌∙◌, ◌||◌}
use Rattle.std.specs.FinSet as set
use Rattle.pmg_join.specs.Ranges.{is_between}
use Rattle.pmg_join.proofs.RangeLemmas.{same_cover, cover_added, covers_kept, spans_cover, on_err}
use Rattle.pmg_join.proofs.range_set.RangeSet.insert.Goals as goal

pub returns-in_err-make_room-clause-err : goal.returns-in_err-make_room-clause-err
returns-in_err-make_room-clause-err c =
    let old = c.self.inside.ranges.ends in
    let new = c.make_room.new.self.ends in
    on_err c.from_residual.result (same_cover new old c.in_err-make_room.ensures.no_more (covers_kept old new c.in_err-make_room.ensures.kept) ∙ c.self.view_is)

pub returns-in_ok-make_room-clause-ok : goal.returns-in_ok-make_room-clause-ok
returns-in_ok-make_room-clause-ok c n =
    let old = c.self.inside.ranges.ends in
    let roomy = c.make_room.new.self.ends in
    let new = c.fill_room.new.self.ends in
    let from = c.args.from in
    let to = c.args.to in
    cover_added old new from to
    (λ k h. elim (c.fill_room.ensures.no_more k h) [ inl a ↦ inl (c.in_ok-make_room.ensures.no_more k a) | inr b ↦ inr b ])
    (λ k h. elim h [
      | inl a ↦ covers_kept roomy new c.fill_room.ensures.kept k (covers_kept old roomy c.in_ok-make_room.ensures.kept k a)
      | inr b ↦ spans_cover new from to k c.fill_room.ensures.added b
    ]) n
    ∙ ap (λ s. set.contains s n || is_between from to n) c.self.view_is
