-- Items of a list by their index, and codes of what came of frames.
use Rattle.std.proofs.Common.{◌≡◌, ℕ, zero, suc, ◌<◌, ◌≤◌, nat_lt, false, List, [], ◌∷◌, length, Option, Some, None, refl, sym, ap, arith, lit<, slice_get, slice_index_or, slice_set}
use Rattle.std.proofs.lemmas.Bool.Decides.{nat_tests}
use Rattle.pmg_node.specs.declared.act.Reply.{Reply as GivenReply}
use Rattle.pmg_daemon.specs.Frames.{delivered_code}
use Rattle.pmg_daemon.specs.declared.codes.TheConstants.{REFUSED}
use Rattle.pmg_daemon.proofs.CallLemmas.{unrefused}

-- what stands at an index is got there
pub there : {X : Type 0} (xs : List X) (i : ℕ) (x : X) → i < length xs → x ≡ slice_index_or xs i x → slice_get xs i ≡ Some x
there [] i x inside is = absurd (grind (arith, inside))
there (y ∷ ys) zero x inside is = ap Some (sym is)
there (y ∷ ys) (suc i) x inside is = there ys i x (grind (arith, inside)) is

-- nothing is got past the end
pub past : {X : Type 0} (xs : List X) (i : ℕ) → length xs ≤ i → slice_get xs i ≡ None
past [] i out = refl
past (y ∷ ys) zero out = absurd (grind (arith, out))
past (y ∷ ys) (suc i) out = past ys i (grind (arith, out))

-- what stands at an index, set there again
pub set_again : {X : Type 0} (xs : List X) (i : ℕ) (x : X) → i < length xs → x ≡ slice_index_or xs i x → slice_set xs i x ≡ xs
set_again [] i x inside is = absurd (grind (arith, inside))
set_again (y ∷ ys) zero x inside is = ap (λ z. z ∷ ys) is
set_again (y ∷ ys) (suc i) x inside is = ap (λ zs. y ∷ zs) (set_again ys i x (grind (arith, inside)) is)

pub out_of : (i n : ℕ) → n ≤ i → nat_lt i n ≡ false
out_of i n out = grind (arith, nat_tests)

-- what came of a frame is no refusal
pub unrefused_frame : (reply : Option GivenReply) → delivered_code reply < REFUSED
unrefused_frame None = lit< tt
unrefused_frame (Some r) = unrefused r
