-- What a node replies to another one that asks anew fits a frame.
use Rattle.std.proofs.Common.{◌≡◌, ◌<◌, ◌≤◌, ◌+◌, ℕ, arith, true, ◌||◌, List, [], length, refl, sym, ap, ◌∙◌}
use Rattle.std.proofs.lemmas.Bool.{and_parts, and_from, leb-true, or_left, or_right, le-leb, eq-eqb}
use Rattle.pmg_value.specs.Names.{is_nspace}
use Rattle.pmg_value.specs.Process.{is_client, is_host}
use Rattle.pmg_value.specs.declared.process.Proc.{Proc}
use Rattle.pmg_scope.specs.declared.scope.Reach.TheVariants as reach
use Rattle.pmg_commit.specs.Pieces.{body_size}
use Rattle.pmg_commit.specs.Sealed.{Sealed, newer_than, piece_at}
use Rattle.pmg_commit.specs.Stamped.{IsSealer}
use Rattle.pmg_commit.proofs.SealerFacts.{newer_fits, newer_is_piece, none_newer}
use Rattle.pmg_frame.specs.Refreshing.{refresh_reply, no_commits, is_request, is_refresh_reply}

-- a namespace's name is no longer than that
pub short_name : (name : List ℕ) → is_nspace name ≡ true → length name ≤ 255
short_name name is = leb-true (length name) 255 (and_parts _ _ (and_parts _ _ is).0).1

-- of commits that were made
pub told_fits : (node request : ℕ) (z : Sealed) (from : ℕ) → IsSealer z → length z.proc.nspace ≤ 255 → is_request request ≡ true → from < z.level
    → is_refresh_reply (refresh_reply node request (piece_at z from reach.Far)) ≡ true
unfolding is_refresh_reply
told_fits node request z from is name asked less =
    let fits = newer_fits z.proc from z.far name (and_parts _ _ is.small).1 in
    let piece = newer_is_piece z.proc from z.level z.far is.commits name less is.last (and_parts _ _ is.small).1 (and_parts _ _ is.numbered).1 in
    and_from _ _ (and_from _ _ asked (or_left _ _ piece)) (le-leb (13 + body_size z.proc (newer_than from z.far)) 16777216 (omega (arith, fits)))

-- and of none
pub nothing_fits : (node request : ℕ) (p : Proc) (level : ℕ) → (is_client p || is_host p) ≡ true → length p.nspace ≤ 255 → is_request request ≡ true → level ≤ 4294967295
    → is_refresh_reply (refresh_reply node request (no_commits p level)) ≡ true
unfolding is_refresh_reply
nothing_fits node request p level commits name asked last =
    let none = and_from _ _ commits (and_from _ _ (eq-eqb level level refl) (and_from _ _ (le-leb level 4294967295 last) refl)) in
    and_from _ _ (and_from _ _ asked (or_right _ _ none)) (le-leb (13 + body_size p []) 16777216 (omega (arith, name)))

-- where no commit was made after that one, none is told
pub nothing_since : (z : Sealed) (p : Proc) (level : ℕ) → IsSealer z → z.proc ≡ p → level ≤ z.level → z.level ≤ level → no_commits p level ≡ piece_at z level reach.Far
nothing_since z p level is its low high =
    let same : level ≡ z.level = omega (arith, low, high) in
    let none : newer_than level z.far ≡ [] = ap (λ n. newer_than n z.far) same ∙ none_newer z.level z.far (and_parts _ _ is.numbered).1 in
    λ i. record { proc = sym its i; from = level; to = same i; entries = sym none i }
