-- A namespace that is registered, or refused.
use Rattle.std.proofs.Common.{◌≡◌, ◌∙◌, refl, sym, ap, subst, ℕ, ◌==◌, Bool, true, false, cond, not, ◌||◌, List, [], ◌∷◌, length, Result, Ok, Err}
use Rattle.std.specs.Prelude.{IfErr, OnOk}
use Rattle.std.specs.List.{list_all}
use Rattle.pmg_value.specs.Answers.{Fails, Gives}
use Rattle.pmg_value.specs.CheckOrder.{check_order, first_in, first_of}
use Rattle.pmg_value.specs.Names.{is_nspace, is_reserved}
use Rattle.pmg_value.specs.declared.refusal.Refusal.{Refusal}
use Rattle.pmg_value.specs.declared.refusal.Refusal.TheVariants as refusals
use Rattle.pmg_jobinfo.specs.Jobs.{Jobs, is_node, registered}
use Rattle.pmg_jobinfo.specs.Refusing.{register_cause}
use Rattle.pmg_grouptext.specs.Groups.{with_named_space}

pub refuses : {Y : Type 0} (e : Refusal) (due : Result Y Refusal) → (e ≡ refusals.NoMemory → ⊥) → Fails e due → due ≡ Err e
refuses refusals.NoMemory due some fails = absurd (some refl)
refuses (refusals.BadFrame f) due some fails = fails
refuses e due some fails = fails

-- ---- the cause of a refusal

ok-err : {Y : Type 0} (r : Result Y Refusal) (y : Y) (e : Refusal) → r ≡ Ok y → r ≡ Err e → ⊥
ok-err r y e given over = let clash = sym given ∙ over in absurd cc

refusal_in : {Y : Type 0} → Result Y Refusal → Refusal
refusal_in (Ok y) = refusals.NoMemory
refusal_in (Err e) = e

same_refusal : {Y : Type 0} (r : Result Y Refusal) (x e : Refusal) → r ≡ Err x → r ≡ Err e → x ≡ e
unfolding refusal_in
same_refusal r x e one other = ap refusal_in (sym one ∙ other)

first_bad : {Y : Type 0} (cause : Refusal → Bool) (y : Y) → cause refusals.Closed ≡ false → cause refusals.BadParam ≡ true → first_of cause y ≡ Err refusals.BadParam
first_bad cause y closed_not bad = rw (closed_not, bad) refl

-- where one answer is refused, another is too
over_in : {Y Z : Type 0} (es : List Refusal) (cause : Refusal → Bool) (y : Y) (z : Z) (e : Refusal) → first_in es cause y ≡ Err e → first_in es cause z ≡ Err e
over_in {Y} [] cause y z e is = absurd (ok-err {Y = Y} (Ok y) y e refl is)
over_in {Y} {Z} (x ∷ xs) cause y z e is = go (cause x) (over_in xs cause y z e) is
  where
    go : (b : Bool) → (first_in xs cause y ≡ Err e → first_in xs cause z ≡ Err e) → cond b (Err x) (first_in xs cause y) ≡ Err e → cond b (Err x) (first_in xs cause z) ≡ Err e
    go true rest h = ap Err (same_refusal {Y = Y} (Err x) x e refl h)
    go false rest h = rest h

-- where one is given, so is another
given_in : {Y Z : Type 0} (es : List Refusal) (cause : Refusal → Bool) (y w : Y) (z : Z) → first_in es cause y ≡ Ok w → first_in es cause z ≡ Ok z
given_in [] cause y w z is = refl
given_in {Y} {Z} (x ∷ xs) cause y w z is = go (cause x) (given_in xs cause y w z) is
  where
    go : (b : Bool) → (first_in xs cause y ≡ Ok w → first_in xs cause z ≡ Ok z) → cond b (Err x) (first_in xs cause y) ≡ Ok w → cond b (Err x) (first_in xs cause z) ≡ Ok z
    go true rest h = absurd (ok-err {Y = Y} (Err x) w x h refl)
    go false rest h = rest h

-- ---- a namespace that is registered

pub unnamed_space : (jobs : Jobs) (nspace homes : List ℕ) → is_nspace nspace ≡ false → with_named_space jobs nspace homes ≡ Err refusals.BadParam
unfolding with_named_space
unnamed_space jobs nspace homes none = ap (λ b. cond b (first_of (register_cause jobs nspace homes) (registered jobs nspace homes)) (Err refusals.BadParam)) none

named_space : (jobs : Jobs) (nspace homes : List ℕ) → is_nspace nspace ≡ true → with_named_space jobs nspace homes ≡ first_of (register_cause jobs nspace homes) (registered jobs nspace homes)
unfolding with_named_space
named_space jobs nspace homes named = ap (λ b. cond b (first_of (register_cause jobs nspace homes) (registered jobs nspace homes)) (Err refusals.BadParam)) named

last_true : (a b : Bool) → (a || (b || true)) ≡ true
last_true true b = refl
last_true false true = refl
last_true false false = refl

pub unknown_home : (jobs : Jobs) (nspace homes : List ℕ) → list_all (is_node jobs) homes ≡ false → with_named_space jobs nspace homes ≡ Err refusals.BadParam
unknown_home jobs nspace homes none = by_name (is_nspace nspace) refl
  where
    by_name : (b : Bool) → is_nspace nspace ≡ b → with_named_space jobs nspace homes ≡ Err refusals.BadParam
    by_name false is = unnamed_space jobs nspace homes is
    by_name true is =
        named_space jobs nspace homes is
        ∙ first_bad (register_cause jobs nspace homes) (registered jobs nspace homes) refl
        (ap (λ b. is_reserved nspace || ((length homes == 0) || not b)) none ∙ last_true (is_reserved nspace) (length homes == 0))

-- a registration that was done
pub space_done : (r : Result (Unit {0}) Refusal) (old new : Jobs) (nspace homes list : List ℕ) → is_nspace nspace ≡ true → list ≡ homes
    → Gives (λ u. u) r (first_of (register_cause old nspace list) (tt {0})) → OnOk r (new ≡ registered old nspace list) → OnOk r (with_named_space old nspace homes ≡ Ok new)
space_done (Ok u) old new nspace homes list named same due is =
    subst (λ hs. with_named_space old nspace hs ≡ Ok new) same
    (named_space old nspace list named ∙ given_in check_order (register_cause old nspace list) (tt {0}) u (registered old nspace list) due ∙ ap Ok (sym is))
space_done (Err e) old new nspace homes list named same due is = tt

-- and one that was refused
pub space_refused : (r : Result (Unit {0}) Refusal) (old : Jobs) (nspace homes list : List ℕ) → is_nspace nspace ≡ true → list ≡ homes
    → Gives (λ u. u) r (first_of (register_cause old nspace list) (tt {0})) → IfErr r (λ e. (e ≡ refusals.NoMemory → ⊥) → with_named_space old nspace homes ≡ Err e)
space_refused (Ok u) old nspace homes list named same due = tt
space_refused (Err e) old nspace homes list named same due = λ some.
    subst (λ hs. with_named_space old nspace hs ≡ Err e) same
    (named_space old nspace list named ∙ over_in check_order (register_cause old nspace list) (tt {0}) (registered old nspace list) e (refuses e (first_of (register_cause old nspace list) (tt {0})) some due))
