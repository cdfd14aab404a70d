use Rattle.std.proofs.Common.{ap, sym, length, ◌∙◌}
use Rattle.std.specs.FinMap as finite
use Rattle.std.specs.Option.{option_map}
use Rattle.pmg_scope.specs.Rows.{counted_by, size_by}
use Rattle.pmg_commit.specs.Sealed.{Stamp}
use Rattle.pmg_commit.specs.Stamped.{stamp_of}
use Rattle.pmg_commit.proofs.stamps.Stamps.counted_at.Goals as goal

pub returns-in-Some-clause-value : goal.returns-in-Some-clause-value
returns-in-Some-clause-value c =
    c.row_size.ensures.value
    ∙ ap (λ bytes. size_by length (c.args.key.now, bytes)) c.value.ensures
    ∙ ap (counted_by (λ (s : Stamp). length s.bytes) c.args.key.now)
    (ap (option_map (λ v. stamp_of v.now)) (sym c.in-Some.is) ∙ c.get.ensures ∙ ap (λ m. finite.get m c.args.key.now) c.self.view_is)

pub returns-in-None-clause-value : goal.returns-in-None-clause-value
returns-in-None-clause-value c =
    ap (counted_by (λ (s : Stamp). length s.bytes) c.args.key.now)
    (ap (option_map (λ v. stamp_of v.now)) (sym c.in-None.is) ∙ c.get.ensures ∙ ap (λ m. finite.get m c.args.key.now) c.self.view_is)
