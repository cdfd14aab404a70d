-- Refusals that are told, and those that are due.
use Rattle.std.proofs.Common.{◌≡◌, ◌⊎◌, Bool, true, false, cond, List, [], ◌∷◌, Result, Err, inl, inr, refl, subst}
use Rattle.pmg_value.specs.Answers.{Fails, IsAnswer}
use Rattle.pmg_value.specs.CheckOrder.{check_order, first_in, first_of}
use Rattle.pmg_value.specs.Lists.{Each}
use Rattle.pmg_value.specs.declared.refusal.Refusal.{Refusal}
use Rattle.pmg_value.specs.declared.refusal.Refusal.TheVariants as refusals
use Rattle.pmg_node_model.specs.Acts.{Reply}
use Rattle.pmg_node.specs.Servers.{Refuses, IsAnswered}

-- a refusal is that of memory, where an answer is due, or the one that is due
pub fails_as : {Y : Type 0} (e : Refusal) (due : Result Y Refusal) → Fails e due → ((e ≡ refusals.NoMemory) × IsAnswer due) ⊎ (due ≡ Err e)
fails_as refusals.NoMemory due h = inl (refl, h)
fails_as e due h = inr h

-- where no allocation failed, the refusal is the one that is due
pub refused_as : (X : Type 0) (e : Refusal) (due : Reply) → IsAnswered {X = X} (Err e) → Refuses e due → due ≡ Reply.refused e
refused_as X refusals.NoMemory due told h = absurd told
refused_as X e due told h = h

refuses_in : (es : List Refusal) (causes : Refusal → Bool) (e : Refusal) → Each (λ x. Refuses x (Reply.refused x)) es → first_in es causes (tt {0}) ≡ Err e → Refuses e (Reply.refused e)
refuses_in [] causes e each is = absurd cc
refuses_in (x ∷ es) causes e each is = by_test (causes x) (refuses_in es causes e each.1) is
  where
    one : ◌≡◌ {A = Result (Unit {0}) Refusal} (Err x) (Err e) → x ≡ e
    one same = cc

    by_test : (b : Bool) → (first_in es causes (tt {0}) ≡ Err e → Refuses e (Reply.refused e)) → cond b (Err x) (first_in es causes (tt {0})) ≡ Err e → Refuses e (Reply.refused e)
    by_test true rest same = subst (λ (r : Refusal). Refuses r (Reply.refused r)) (one same) each.0
    by_test false rest later = rest later

-- a refusal for a cause that is looked for is told as such
pub refuses_first : (causes : Refusal → Bool) (e : Refusal) → first_of causes (tt {0}) ≡ Err e → Refuses e (Reply.refused e)
refuses_first causes e is = refuses_in check_order causes e (refl, (refl, (refl, (refl, (refl, (refl, (refl, (refl, (refl, (refl, (refl, tt))))))))))) is
