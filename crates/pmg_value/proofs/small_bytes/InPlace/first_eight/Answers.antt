use Rattle.std.proofs.Common.{◌≡◌, ap, ◌∙◌, arith}
use Rattle.std.specs.Prelude.{take}
use Rattle.pmg_value.specs.Words.{first_eight}
use Rattle.pmg_value.proofs.WordLemmas.{front_is, padded}
use Rattle.pmg_value.proofs.small_bytes.InPlace.first_eight.Goals as goal

pub returns : goal.returns
returns c =
    let bytes = c.self.inside.bytes in
    let there = take c.self.inside.len bytes in
    let at = padded c.self.inside.len bytes c.self.invariant.1 in
    let same : c.from_be_bytes.result ≡ first_eight there =
    omega (arith, c.from_be_bytes.ensures, at 0, at 1, at 2, at 3, at 4, at 5, at 6, at 7, front_is there) in
    same ∙ ap first_eight c.self.view_is
