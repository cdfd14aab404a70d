use Rattle.std.proofs.Common.{◌≡◌, ℕ, false, nat_eq, sym, ◌∙◌}
use Rattle.std.proofs.lemmas.Bool.{false_from_ne_true}
use Rattle.std.proofs.lemmas.Bool.Decides.{Decides-eqb}
use Rattle.pmg_jobinfo.proofs.SpaceLemmas.{same_spaces, longer_differs}
use Rattle.pmg_jobinfo.proofs.registry.are_same_spaces.Goals as goal

pub returns-then-len : goal.returns-then-len
returns-then-len c = same_spaces c.args.spaces.now c.args.others.now c.len.ensures.ordered c.len-2.ensures.ordered c.eq.result c.eq.ensures

differs : {m n : ℕ} → (m ≡ n → ⊥) → nat_eq m n ≡ false
differs {m} {n} h = false_from_ne_true (nat_eq m n) (λ e. h ((Decides-eqb m n).0 e))

pub returns-else-len : goal.returns-else-len
returns-else-len c =
    longer_differs c.args.spaces.now.entries c.args.others.now.entries c.len.ensures.ordered c.len-2.ensures.ordered
    (λ e. c.if-len.false (c.len.ensures.len ∙ e ∙ sym c.len-2.ensures.len)) (nat_eq c.len.result c.len-2.result) (differs c.if-len.false)
