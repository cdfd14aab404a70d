-- Bytes of which none is zero.
use Rattle.std.proofs.Common.{◌≡◌, ℕ, true, nat_le, List, [], ◌∷◌, None, refl, arith}
use Rattle.std.specs.List.{list_all, position}
use Rattle.std.proofs.lemmas.Bool.{and_parts, leb-true}
use Rattle.std.proofs.lemmas.Grind.{common_steps}
use Rattle.pmg_value.specs.Blobs.{is_zero}
use Rattle.pmg_value.specs.Within.{lies_within}

-- where each byte is one at least, no zero stands
pub no_zero : (bytes : List ℕ) → list_all (lies_within 1 255) bytes ≡ true → position is_zero bytes ≡ None
no_zero [] all = refl
no_zero (b ∷ bytes) all =
    let parts = and_parts (lies_within 1 255 b) (list_all (lies_within 1 255) bytes) all in
    let own = and_parts (nat_le 1 b) (nat_le b 255) parts.0 in
    let some = leb-true 1 b own.0 in
    let others = no_zero bytes parts.1 in
    grind (arith, common_steps, some, others)
