use Rattle.std.proofs.Common.{◌≡◌, ap, ◌∙◌, arith, get_or-drop}
use Rattle.std.specs.Prelude.{ℕ, ◌+◌, get_or, take, drop}
use Rattle.pmg_value.specs.Words.{second_eight}
use Rattle.pmg_value.proofs.WordLemmas.{front_is, padded}
use Rattle.pmg_value.proofs.small_bytes.InPlace.second_eight.Goals as goal

pub returns : goal.returns
returns c =
    let bytes = c.self.inside.bytes in
    let there = take c.self.inside.len bytes in
    let at : (i : ℕ) → get_or (drop 8 there) i 0 ≡ get_or bytes (8 + i) 0 =
    λ i. get_or-drop 8 there i 0 ∙ padded c.self.inside.len bytes c.self.invariant.1 (8 + i) in
    let same : c.from_be_bytes.result ≡ second_eight there =
    omega (arith, c.from_be_bytes.ensures, at 0, at 1, at 2, at 3, at 4, at 5, at 6, at 7, front_is (drop 8 there)) in
    same ∙ ap second_eight c.self.view_is
