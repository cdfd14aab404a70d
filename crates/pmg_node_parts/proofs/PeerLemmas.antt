-- The other nodes, by one more node.
use Rattle.std.proofs.Common.{◌≡◌, ℕ, ◌+◌, true, false, not, [], ◌∷◌, ◌++◌, ap}
use Rattle.std.specs.Prelude.{◌==◌}
use Rattle.std.specs.List.{filter}
use Rattle.pmg_jobinfo.specs.Expansion.{ranks}
use Rattle.pmg_jobinfo.proofs.HomeLemmas.{rank_taken, rank_left}

pub peer_more : (id n : ℕ) → (n == id) ≡ false → filter (λ m. not (m == id)) (ranks (n + 1)) ≡ filter (λ m. not (m == id)) (ranks n) ++ n ∷ []
peer_more id n t = rank_taken (λ m. not (m == id)) n (ap not t)

pub peer_not_more : (id n : ℕ) → (n == id) ≡ true → filter (λ m. not (m == id)) (ranks (n + 1)) ≡ filter (λ m. not (m == id)) (ranks n)
peer_not_more id n t = rank_left (λ m. not (m == id)) n (ap not t)
