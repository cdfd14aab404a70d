-- What later calls leave as it was.
use Rattle.std.proofs.Common.{◌≡◌, ℕ, zero, suc, ◌≤◌, ◌<◌, Bool, true, false, cond, List, [], ◌∷◌, ◌++◌, refl, ap, arith}
use Rattle.pmg_scope.specs.Scripts.{Call, Script, has_end, has_commit, ended, sealed, count_commits, commits, before, prefix, last_put, value_at}
use Rattle.pmg_scope.specs.Rules.{CommitsNeverFall, PastValuesStay, EndIsLast}

-- ---- after an end

has_end_still : (s t : Script) → has_end s ≡ true → has_end (s ++ t) ≡ true
has_end_still [] t e = absurd cc
has_end_still (Call.put scope key value ∷ cs) t e = has_end_still cs t e
has_end_still (Call.commit ∷ cs) t e = has_end_still cs t e
has_end_still (Call.enter f ∷ cs) t e = has_end_still cs t e
has_end_still (Call.terminate ∷ cs) t e = refl

has_commit_still : (s t : Script) → has_end s ≡ true → has_commit (s ++ t) ≡ has_commit s
has_commit_still [] t e = absurd cc
has_commit_still (Call.put scope key value ∷ cs) t e = has_commit_still cs t e
has_commit_still (Call.commit ∷ cs) t e = refl
has_commit_still (Call.enter f ∷ cs) t e = has_commit_still cs t e
has_commit_still (Call.terminate ∷ cs) t e = refl

ended_still : (s t : Script) → has_end s ≡ true → ended (s ++ t) ≡ ended s
ended_still [] t e = absurd cc
ended_still (Call.put scope key value ∷ cs) t e = rw (has_commit_still cs t e, ended_still cs t e) refl
ended_still (Call.commit ∷ cs) t e = ap (λ (ds : Script). Call.commit ∷ ds) (ended_still cs t e)
ended_still (Call.enter f ∷ cs) t e = ap (λ (ds : Script). Call.enter f ∷ ds) (ended_still cs t e)
ended_still (Call.terminate ∷ cs) t e = refl

pub sealed_still : (s t : Script) → has_end s ≡ true → sealed (s ++ t) ≡ sealed s
sealed_still s t e = rw (has_end_still s t e, e) (ended_still s t e)

-- ---- before an end

-- where the first calls made a commit, an end that comes later keeps what they put before it
pub has_commit_first : (s t : Script) → has_end s ≡ false → 0 < count_commits s → has_commit (s ++ t) ≡ true
has_commit_first [] t e some = absurd (omega (arith, some))
has_commit_first (Call.put scope key value ∷ cs) t e some = has_commit_first cs t e some
has_commit_first (Call.commit ∷ cs) t e some = refl
has_commit_first (Call.enter f ∷ cs) t e some = has_commit_first cs t e some
has_commit_first (Call.terminate ∷ cs) t e some = absurd cc

count_more : (s t : Script) → count_commits s ≤ count_commits (s ++ t)
count_more [] t = omega arith
count_more (Call.put scope key value ∷ cs) t = count_more cs t
count_more (Call.commit ∷ cs) t = omega (arith, count_more cs t)
count_more (Call.enter f ∷ cs) t = count_more cs t
count_more (Call.terminate ∷ cs) t = count_more cs t

pub count_kept : (b : Bool) (scope : _) (key value : List ℕ) (cs : Script) → count_commits (cond b (Call.put scope key value ∷ cs) cs) ≡ count_commits cs
count_kept true scope key value cs = refl
count_kept false scope key value cs = refl

count_ended : (s t : Script) → has_end s ≡ false → count_commits s ≤ count_commits (ended (s ++ t))
count_ended [] t e = omega arith
count_ended (Call.put scope key value ∷ cs) t e = omega (arith, count_ended cs t e, count_kept (has_commit (cs ++ t)) scope key value (ended (cs ++ t)))
count_ended (Call.commit ∷ cs) t e = omega (arith, count_ended cs t e)
count_ended (Call.enter f ∷ cs) t e = count_ended cs t e
count_ended (Call.terminate ∷ cs) t e = absurd cc

before_more : (s t : Script) (i : ℕ) → i < count_commits s → before i (s ++ t) ≡ before i s
unfolding before
before_more [] t i lt = absurd (omega (arith, lt))
before_more (Call.put scope key value ∷ cs) t i lt = ap (λ (ds : Script). Call.put scope key value ∷ ds) (before_more cs t i lt)
before_more (Call.commit ∷ cs) t zero lt = refl
before_more (Call.commit ∷ cs) t (suc i) lt = ap (λ (ds : Script). Call.commit ∷ ds) (before_more cs t i (omega (arith, lt)))
before_more (Call.enter f ∷ cs) t i lt = ap (λ (ds : Script). Call.enter f ∷ ds) (before_more cs t i lt)
before_more (Call.terminate ∷ cs) t i lt = ap (λ (ds : Script). Call.terminate ∷ ds) (before_more cs t i lt)

before_ended : (s t : Script) (i : ℕ) → has_end s ≡ false → i < count_commits s → before i (ended (s ++ t)) ≡ before i s
unfolding before
before_ended [] t i e lt = absurd (omega (arith, lt))
before_ended (Call.put scope key value ∷ cs) t i e lt =
    rw (has_commit_first cs t e (omega (arith, lt))) (ap (λ (ds : Script). Call.put scope key value ∷ ds) (before_ended cs t i e lt))
before_ended (Call.commit ∷ cs) t zero e lt = refl
before_ended (Call.commit ∷ cs) t (suc i) e lt = ap (λ (ds : Script). Call.commit ∷ ds) (before_ended cs t i e (omega (arith, lt)))
before_ended (Call.enter f ∷ cs) t i e lt = ap (λ (ds : Script). Call.enter f ∷ ds) (before_ended cs t i e lt)
before_ended (Call.terminate ∷ cs) t i e lt = absurd cc

-- ---- the rules

pub by_end : (s : Script) {P : Type 0} → (has_end s ≡ true → P) → (has_end s ≡ false → P) → P
by_end s {P} yes_end no_end = choose (has_end s) refl
  where
    choose : (b : Bool) → has_end s ≡ b → P
    choose true e = yes_end e
    choose false e = no_end e

-- what is made of the calls up to an end stays where it stays of all calls, and of those up to an end that comes later
pub still_by_end : {A : Type 0} (f : Script → A) (s t : Script) → (has_end s ≡ false → f (ended (s ++ t)) ≡ f s) → (has_end s ≡ false → f (s ++ t) ≡ f s) → f (sealed (s ++ t)) ≡ f (sealed s)
still_by_end f s t later none = by_end s (λ e. ap f (sealed_still s t e)) (λ e. by_end (s ++ t) (λ x. rw (e, x) (later e)) (λ x. rw (e, x) (none e)))

pub commits_never_fall : CommitsNeverFall
commits_never_fall s t = by_end s
    (λ e. omega (arith, ap count_commits (sealed_still s t e)))
    (λ e. by_end (s ++ t) (λ f. rw (e, f) (count_ended s t e)) (λ f. rw (e, f) (count_more s t)))

pub end_is_last : EndIsLast
end_is_last s t e = ap count_commits (sealed_still s t e)

pub open_commits : (s : Script) → has_end s ≡ false → commits s ≡ count_commits s
open_commits s e = rw e refl

prefix_still : (s t : Script) (n : ℕ) → n ≤ commits s → prefix (s ++ t) n ≡ prefix s n
prefix_still s t zero le = refl
prefix_still s t (suc i) le =
    still_by_end (before i) s t (λ e. before_ended s t i e (omega (arith, le, open_commits s e))) (λ e. before_more s t i (omega (arith, le, open_commits s e)))

pub past_values_stay : PastValuesStay
unfolding value_at
past_values_stay s t n r k le = ap (last_put r k) (prefix_still s t n le)
