use Rattle.std.proofs.Common.{◌≡◌, sym, ◌∙◌, ap}
use Rattle.pmg_publish.specs.Publications.{Publications, publication}
use Rattle.pmg_publish.proofs.Adding.{adds_moves}
use Rattle.pmg_publish.proofs.history.History.with_publication.Goals as goal

pub compare_exchange-found-requires : goal.compare_exchange-found-requires
compare_exchange-found-requires c =
    let again = c.again-seen.ensures in
    let offer = c.plain-offer.ensures in
    let pen = c.no_pen-pen.ensures in
    let parts = c.args.parts.now in
    let of : c.args.counter.now.book ≡ c.again-seen.result.book = ap (λ w. w.book) c.requires ∙ sym (ap (λ s. s.book) again ∙ ap (λ (v : Publications). v.book) c.self.view_is) in (
      ap (λ w. w.tracked) c.requires,
      sym of,
      pen.0 ∙ sym of,
      offer.0,
      rw (ap (λ w. w.key) c.requires, pen.1, offer.1, offer.3, ap (λ s. s.log) again)
          (adds_moves c.self.inside.seen.log (publication parts.near.items parts.far.items) c.self.inside.count (sym c.self.invariant)),
    )
