-- An act that is refused has a cause; one that is not has none.
use Rattle.std.proofs.Common.{◌≡◌, ◌⊎◌, ℕ, Bool, true, false, ◌||◌, ◌==◌, not, cond, List, [], ◌∷◌, Option, Some, None, is_some, Ok, Err, inl, inr, refl, ap, ◌∙◌, arith}
use Rattle.std.proofs.lemmas.Bool.Decides.{nat_tests}
use Rattle.pmg_value.specs.CheckOrder.{check_order, first_in, first_of}
use Rattle.pmg_value.specs.Lists.{Each}
use Rattle.pmg_value.specs.declared.process.Proc.{Proc}
use Rattle.pmg_value.specs.declared.refusal.Refusal.{Refusal}
use Rattle.pmg_jobinfo.specs.Jobs.{Jobs, home_of}
use Rattle.pmg_node_model.specs.Acts.{also, caller_cause, busy_cause, free_cause}
use Rattle.pmg_node_model.specs.Holdings.{NodeState, sealer_of, call_of}

pub neither : (a b : Bool) → (a || b) ≡ false → (a ≡ false) × (b ≡ false)
neither true b e = absurd cc
neither false b e = (refl, e)

pub nothing_there : {A : Type 0} (o : Option A) → is_some o ≡ false → o ≡ None
nothing_there None e = refl
nothing_there (Some x) e = absurd cc

not_not : (b : Bool) → not b ≡ false → b ≡ true
not_not true e = refl
not_not false e = absurd cc

pub same_node : (m n : ℕ) → not (m == n) ≡ false → m ≡ n
same_node m n e = grind (arith, nat_tests)

-- none of the causes that are looked for holds
abbrev pub NoCause : (Refusal → Bool) → Type 0
NoCause cause = Each (λ e. cause e ≡ false) check_order

abbrev Judged : {Y : Type 0} → (Refusal → Bool) → Y → List Refusal → Type 0
Judged cause y es = ((e : Refusal) × (cause e ≡ true) × (first_in es cause y ≡ Err e)) ⊎ ((first_in es cause y ≡ Ok y) × Each (λ e. cause e ≡ false) es)

by_first : {Y : Type 0} (cause : Refusal → Bool) (y : Y) (e : Refusal) (es : List Refusal) (b : Bool) → cause e ≡ b → Judged cause y es → Judged cause y (e ∷ es)
by_first cause y e es true is rest = inl (e, is, ap (λ b. cond b (Err e) (first_in es cause y)) is)
by_first cause y e es false is (inl found) = inl (found.0, found.1, ap (λ b. cond b (Err e) (first_in es cause y)) is ∙ found.2)
by_first cause y e es false is (inr none) = inr (ap (λ b. cond b (Err e) (first_in es cause y)) is ∙ none.0, (is, none.1))

by_list : {Y : Type 0} (cause : Refusal → Bool) (y : Y) (es : List Refusal) → Judged cause y es
by_list cause y [] = inr (refl, tt)
by_list cause y (e ∷ es) = by_first cause y e es (cause e) refl (by_list cause y es)

-- a call is refused for one of the causes, or has none
pub by_causes : {Y : Type 0} (cause : Refusal → Bool) (y : Y)
    → ((e : Refusal) × (cause e ≡ true) × (first_of cause y ≡ Err e)) ⊎ ((first_of cause y ≡ Ok y) × NoCause cause)
by_causes cause y = by_list cause y check_order

-- a caller of whom nothing is amiss
pub record IsCaller (jobs : Jobs) (id : ℕ) (h : NodeState) (p : Proc) : Type 0 where
  pub home : home_of jobs p ≡ id
  pub live : (sealer_of h p).ended ≡ false

pub caller_is : (jobs : Jobs) (id : ℕ) (h : NodeState) (p : Proc) → NoCause (caller_cause jobs id h p) → IsCaller jobs id h p
caller_is jobs id h p none = record { home = same_node (home_of jobs p) id none.1.1.1.0; live = none.1.1.1.1.0 }

each_neither : (one other : Refusal → Bool) (es : List Refusal) → Each (λ e. also one other e ≡ false) es → Each (λ e. one e ≡ false) es × Each (λ e. other e ≡ false) es
each_neither one other [] none = (tt, tt)
each_neither one other (e ∷ es) none =
    let here = neither (one e) (other e) none.0 in
    let rest = each_neither one other es none.1 in
    ((here.0, rest.0), (here.1, rest.1))

pub neither_cause : (one other : Refusal → Bool) → NoCause (also one other) → NoCause one × NoCause other
neither_cause one other none = each_neither one other check_order none

pub free_is : (jobs : Jobs) (id : ℕ) (h : NodeState) (p : Proc) → NoCause (free_cause jobs id h p) → IsCaller jobs id h p × (call_of h p ≡ None)
free_is jobs id h p none =
    let here = neither false (is_some (call_of h p)) none.1.1.1.1.1.0 in
    (caller_is jobs id h p (neither_cause (caller_cause jobs id h p) (busy_cause h p) none).0, nothing_there (call_of h p) here.1)
