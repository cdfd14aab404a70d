use Rattle.std.proofs.Common.{◌≡◌}
use Rattle.std.specs.FinMap as finite
use Rattle.pmg_value.specs.Signatures.{Signature}
use Rattle.pmg_fence.proofs.ListingLemmas.{owns_with, own_rows}
use Rattle.pmg_fence.proofs.owns.Owns.copy.Given as goal

-- with the rows that are left, the copy has what the rows have
abbrev pub invariant-loop-signature : goal.invariant-loop-signature
invariant-loop-signature l = (q : Signature) → owns_with l.copy (own_rows l.signature-iterator) q ≡ finite.get l.self q
