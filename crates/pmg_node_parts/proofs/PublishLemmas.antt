-- What a process sealed is published.
use Rattle.std.proofs.Common.{◌≡◌, ℕ, ◌<◌, Bool, true, false, cond, nat_lt, List, [], ◌∷◌, refl, sym, ap, subst, ◌∙◌}
use Rattle.std.specs.FinMap as finite
use Rattle.std.specs.Prelude.{filter}
use Rattle.std.proofs.lemmas.Bool.{ltb-true}
use Rattle.pmg_value.specs.Lists.{Each}
use Rattle.pmg_commit.specs.Data.{Data, join_data, of_contribution, absorbed}
use Rattle.pmg_commit.specs.Knowledge.{Contribution}
use Rattle.pmg_dmodex.specs.Levels.{NodeLevels, below}
use Rattle.pmg_store.specs.Pieces.{data_of}
use Rattle.pmg_store.proofs.Converging.{joined_to_nothing}

-- the levels that are below one are less
pub each_below : (n : ℕ) (es : List (ℕ × ℕ)) → Each (λ e. e.1 < n) (filter (λ e. nat_lt e.1 n) es)
each_below n [] = tt
each_below n (e ∷ es) = by_test (nat_lt e.1 n) refl (each_below n es)
  where
    by_test : (b : Bool) → nat_lt e.1 n ≡ b → Each (λ (x : ℕ × ℕ). x.1 < n) (filter (λ x. nat_lt x.1 n) es)
        → Each (λ (x : ℕ × ℕ). x.1 < n) (cond b (e ∷ filter (λ x. nat_lt x.1 n) es) (filter (λ x. nat_lt x.1 n) es))
    by_test true t rest = (ltb-true e.1 n t, rest)
    by_test false t rest = rest

pub below_due : (n m : ℕ) (levels : NodeLevels) (es : List (ℕ × ℕ)) → es ≡ below n levels → n ≡ m → Each (λ e. e.1 < m) es
below_due n m levels es is same = subst (λ xs. Each (λ (e : ℕ × ℕ). e.1 < m) xs) (sym (is ∙ ap (λ l. below l levels) same)) (each_below m (finite.entries levels))

-- one piece alone is joined as it is absorbed
pub one_joined : (d : Data) (c : Contribution) → join_data d (data_of (c ∷ [])) ≡ absorbed d c
one_joined d c = ap (join_data d) (joined_to_nothing (of_contribution c))

pub joined_alone : (d joined : Data) (pieces : List Contribution) (c piece : Contribution) → joined ≡ join_data d (data_of pieces) → pieces ≡ c ∷ [] → c ≡ piece → joined ≡ absorbed d piece
joined_alone d joined pieces c piece is alone same = is ∙ ap (λ cs. join_data d (data_of cs)) alone ∙ one_joined d c ∙ ap (absorbed d) same
