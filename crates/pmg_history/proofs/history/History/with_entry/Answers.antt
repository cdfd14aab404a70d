use Rattle.std.proofs.Common.{◌≡◌, ◌≤◌, length, sym, ◌∙◌, ap, arith, subst}
use mathlib.Core.List.{IsPrefix}
use Rattle.pmg_history.proofs.Prefixes.{prefix_length}
use Rattle.pmg_history.proofs.Appended.{appends_moves}
use Rattle.pmg_history.proofs.history.History.with_entry.Goals as goal

pub compare_exchange-found-requires : goal.compare_exchange-found-requires
compare_exchange-found-requires g c =
    let again = c.again-seen.ensures in
    let offer = c.plain-offer.ensures in
    let pen = c.no_pen-pen.ensures in
    let v = c.learn.new.self.log in
    let this : IsPrefix c.self.inside.seen.log v = subst (λ l. IsPrefix l v) (ap (λ s. s.log) again) c.learn.ensures.2 in
    let long : c.self.inside.count ≤ length v = omega (arith, c.self.invariant, prefix_length c.self.inside.seen.log v this) in
    let of : c.args.counter.now.book ≡ c.learn.new.self.book = ap (λ w. w.book) c.requires.counter ∙ sym (c.learn.ensures.0 ∙ (ap (λ s. s.book) again ∙ ap (λ v. v.book) c.self.view_is)) in (
      ap (λ w. w.tracked) c.requires.counter,
      sym of,
      pen.0 ∙ sym of,
      offer.0,
      rw (ap (λ w. w.key) c.requires.counter, pen.1, offer.1, offer.3)
          (appends_moves v c.args.entry.now c.self.inside.count long),
    )
