-- However a store came to be, it holds the data of what it took.
use Rattle.std.proofs.Common.{◌≡◌, refl, sym, ap, ◌∙◌}
use Rattle.pmg_commit.specs.Data.{join_data, absorbed, known}
use Rattle.pmg_store.specs.Convergence.{Taking, Converges, held_by, taken_by}
use Rattle.pmg_store.specs.Dump.{dump}
use Rattle.pmg_store.specs.Pieces.{data_of}
use Rattle.pmg_store.proofs.Converging.{data_of-push, same_in_any_order, same_in_any_grouping}
use Rattle.pmg_store.proofs.Telling.{holds_union}

held_is : (t : Taking) → held_by t ≡ data_of (taken_by t)
held_is Taking.made = refl
held_is (Taking.absorb t c) = ap (λ d. absorbed d c) (held_is t) ∙ sym (data_of-push (taken_by t) c)
held_is (Taking.join t u) = (λ i. join_data (held_is t i) (held_is u i)) ∙ same_in_any_grouping (taken_by t) (taken_by u)

pub converges : Converges
converges a b same =
    let equal = held_is a ∙ same_in_any_order (taken_by a) (taken_by b) same ∙ sym (held_is b) in
    (equal, ap dump equal, λ p. ap (λ d. known d p) (held_is a) ∙ holds_union (taken_by a) p)
