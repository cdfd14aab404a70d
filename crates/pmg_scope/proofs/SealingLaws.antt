-- What was sealed last, and what is read of it.
use Rattle.std.proofs.Common.{◌≡◌, ◌⊎◌, inl, inr, ℕ, zero, suc, ◌≤◌, ◌<◌, false, List, [], ◌∷◌, ◌++◌, Option, Some, None, refl, sym, ap, ◌∙◌, arith}
use Rattle.std.proofs.Math.Nat.{eq-or-lt_of_le}
use Rattle.std.proofs.lemmas.Bool.{cases_order}
use Rattle.pmg_scope.specs.declared.scope.Reach.{Reach}
use Rattle.pmg_scope.specs.Scripts.{Call, Script, has_end, ended, sealed, count_commits, commits, before, later_of, put_of, last_put, value_at}
use Rattle.pmg_scope.specs.Sealing.{part, part_of, IsSealed, NoneSealed}
use Rattle.pmg_scope.specs.Rules.{SealedIsValue, NoneIsNoValue, PastSealsStay}
use Rattle.pmg_scope.proofs.ScriptLaws.{still_by_end, has_commit_first, open_commits}

-- ---- parts stay

part_more : (s t : Script) (i : ℕ) → i < count_commits s → part i (s ++ t) ≡ part i s
unfolding part
part_more [] t i lt = absurd (omega (arith, lt))
part_more (Call.put scope key value ∷ cs) t zero lt = ap (λ (ds : Script). Call.put scope key value ∷ ds) (part_more cs t zero lt)
part_more (Call.put scope key value ∷ cs) t (suc i) lt = part_more cs t (suc i) lt
part_more (Call.commit ∷ cs) t zero lt = refl
part_more (Call.commit ∷ cs) t (suc i) lt = part_more cs t i (omega (arith, lt))
part_more (Call.enter f ∷ cs) t zero lt = ap (λ (ds : Script). Call.enter f ∷ ds) (part_more cs t zero lt)
part_more (Call.enter f ∷ cs) t (suc i) lt = part_more cs t (suc i) lt
part_more (Call.terminate ∷ cs) t zero lt = ap (λ (ds : Script). Call.terminate ∷ ds) (part_more cs t zero lt)
part_more (Call.terminate ∷ cs) t (suc i) lt = part_more cs t (suc i) lt

part_ended : (s t : Script) (i : ℕ) → has_end s ≡ false → i < count_commits s → part i (ended (s ++ t)) ≡ part i s
unfolding part
part_ended [] t i e lt = absurd (omega (arith, lt))
part_ended (Call.put scope key value ∷ cs) t zero e lt =
    rw (has_commit_first cs t e (omega (arith, lt))) (ap (λ (ds : Script). Call.put scope key value ∷ ds) (part_ended cs t zero e lt))
part_ended (Call.put scope key value ∷ cs) t (suc i) e lt = rw (has_commit_first cs t e (omega (arith, lt))) (part_ended cs t (suc i) e lt)
part_ended (Call.commit ∷ cs) t zero e lt = refl
part_ended (Call.commit ∷ cs) t (suc i) e lt = part_ended cs t i e (omega (arith, lt))
part_ended (Call.enter f ∷ cs) t zero e lt = ap (λ (ds : Script). Call.enter f ∷ ds) (part_ended cs t zero e lt)
part_ended (Call.enter f ∷ cs) t (suc i) e lt = part_ended cs t (suc i) e lt
part_ended (Call.terminate ∷ cs) t i e lt = absurd cc

-- what a commit sealed stays, whatever is called later
pub part_still : (s t : Script) (j : ℕ) → j ≤ commits s → part_of (s ++ t) j ≡ part_of s j
unfolding part_of
part_still s t zero le = refl
part_still s t (suc i) le =
    still_by_end (part i) s t (λ e. part_ended s t i e (omega (arith, le, open_commits s e))) (λ e. part_more s t i (omega (arith, le, open_commits s e)))

-- ---- reads, part by part

pub none_earlier : (x : Option (List ℕ)) → later_of x None ≡ x
none_earlier None = refl
none_earlier (Some v) = refl

pub later_assoc : (x y z : Option (List ℕ)) → later_of (later_of x y) z ≡ later_of x (later_of y z)
later_assoc None y z = refl
later_assoc (Some v) y z = refl

module _ (r : Reach) (k : List ℕ) where
  first_part_is : (cs : Script) → before zero cs ≡ part zero cs
  unfolding before part
  first_part_is [] = refl
  first_part_is (Call.put scope key value ∷ cs) = ap (λ (ds : Script). Call.put scope key value ∷ ds) (first_part_is cs)
  first_part_is (Call.commit ∷ cs) = refl
  first_part_is (Call.enter f ∷ cs) = ap (λ (ds : Script). Call.enter f ∷ ds) (first_part_is cs)
  first_part_is (Call.terminate ∷ cs) = ap (λ (ds : Script). Call.terminate ∷ ds) (first_part_is cs)

  next_part : (n : ℕ) (cs : Script) → last_put r k (before (suc n) cs) ≡ later_of (last_put r k (part (suc n) cs)) (last_put r k (before n cs))
  unfolding before part
  next_part n [] = refl
  next_part n (Call.put scope key value ∷ cs) =
      ap (λ (x : Option (List ℕ)). later_of x (put_of r k (Call.put scope key value))) (next_part n cs)
      ∙ later_assoc (last_put r k (part (suc n) cs)) (last_put r k (before n cs)) (put_of r k (Call.put scope key value))
  next_part zero (Call.commit ∷ cs) = ap (λ (ds : Script). later_of (last_put r k ds) None) (first_part_is cs)
  next_part (suc m) (Call.commit ∷ cs) =
      none_earlier (last_put r k (before (suc m) cs)) ∙ next_part m cs
      ∙ ap (later_of (last_put r k (part (suc m) cs))) (sym (none_earlier (last_put r k (before m cs))))
  next_part n (Call.enter f ∷ cs) =
      none_earlier (last_put r k (before (suc n) cs)) ∙ next_part n cs
      ∙ ap (later_of (last_put r k (part (suc n) cs))) (sym (none_earlier (last_put r k (before n cs))))
  next_part n (Call.terminate ∷ cs) =
      none_earlier (last_put r k (before (suc n) cs)) ∙ next_part n cs
      ∙ ap (later_of (last_put r k (part (suc n) cs))) (sym (none_earlier (last_put r k (before n cs))))

  -- the value that one more commit leaves
  value_next : (s : Script) (n : ℕ) → value_at s (suc n) r k ≡ later_of (last_put r k (part_of s (suc n))) (value_at s n r k)
  unfolding value_at part_of
  value_next s zero = ap (last_put r k) (first_part_is (sealed s)) ∙ sym (none_earlier (last_put r k (part zero (sealed s))))
  value_next s (suc n) = next_part n (sealed s)

  value_first : (s : Script) → value_at s zero r k ≡ None
  unfolding value_at
  value_first s = refl

  pub value_none : (s : Script) (n : ℕ) → NoneSealed s r k n → value_at s n r k ≡ None
  value_none s zero none = value_first s
  value_none s (suc n) none = value_next s n ∙ rw (none (suc n) (omega arith) (omega arith)) (value_none s n (λ i some le. none i some (omega (arith, le))))

  pub value_sealed : (s : Script) (n j : ℕ) (bytes : List ℕ) → IsSealed s r k n j bytes → value_at s n r k ≡ Some bytes
  value_sealed s zero j bytes h = absurd (omega (arith, h.some, h.within))
  value_sealed s (suc n) j bytes h = at_last (value_sealed s n j bytes) (eq-or-lt_of_le h.within)
    where
      at_last : (IsSealed s r k n j bytes → value_at s n r k ≡ Some bytes) → (j ≡ suc n) ⊎ (j < suc n) → value_at s (suc n) r k ≡ Some bytes
      at_last before_it (inl same) = value_next s n ∙ rw (ap (λ (i : ℕ). last_put r k (part_of s i)) (sym same) ∙ h.put) refl
      at_last before_it (inr less) =
          value_next s n
          ∙ rw (h.last (suc n) less (omega arith)) (before_it (record { some = h.some; within = omega (arith, less); put = h.put; last = λ i lt le. h.last i lt (omega (arith, le)) }))

  -- whether one did
  pub sealed_or_none : (s : Script) (n : ℕ) → ((j : ℕ) × (bytes : List ℕ) × IsSealed s r k n j bytes) ⊎ NoneSealed s r k n
  sealed_or_none s zero = inr (λ i some le. absurd (omega (arith, some, le)))
  sealed_or_none s (suc n) = by_put (last_put r k (part_of s (suc n))) refl (sealed_or_none s n)
    where
      by_put : (x : Option (List ℕ)) → last_put r k (part_of s (suc n)) ≡ x → ((j : ℕ) × (bytes : List ℕ) × IsSealed s r k n j bytes) ⊎ NoneSealed s r k n
          → ((j : ℕ) × (bytes : List ℕ) × IsSealed s r k (suc n) j bytes) ⊎ NoneSealed s r k (suc n)
      by_put (Some bytes) e before_it = inl (suc n, bytes, record { some = omega arith; within = omega arith; put = e; last = λ i lt le. absurd (omega (arith, lt, le)) })
      by_put None e (inl found) = inl (found.0, found.1, one_more found.0 found.1 found.2)
        where
          still : (i : ℕ) {j : ℕ} {bytes : List ℕ} → j < i → (i ≡ suc n) ⊎ (i < suc n) → IsSealed s r k n j bytes → last_put r k (part_of s i) ≡ None
          still i lt (inl same) h = ap (λ (m : ℕ). last_put r k (part_of s m)) same ∙ e
          still i lt (inr less) h = h.last i lt (omega (arith, less))

          one_more : (j : ℕ) (bytes : List ℕ) → IsSealed s r k n j bytes → IsSealed s r k (suc n) j bytes
          one_more j bytes h = record { some = h.some; within = omega (arith, h.within); put = h.put; last = λ i lt le. still i lt (eq-or-lt_of_le le) h }
      by_put None e (inr none) = inr (λ i some le. none_more i (eq-or-lt_of_le le) none some)
        where
          none_more : (i : ℕ) → (i ≡ suc n) ⊎ (i < suc n) → NoneSealed s r k n → 0 < i → last_put r k (part_of s i) ≡ None
          none_more i (inl same) none some = ap (λ (m : ℕ). last_put r k (part_of s m)) same ∙ e
          none_more i (inr less) none some = none i some (omega (arith, less))

  -- one put alone was sealed last
  pub sealed_once : (s : Script) (n i j : ℕ) (a b : List ℕ) → IsSealed s r k n i a → IsSealed s r k n j b → (i ≡ j) × (a ≡ b)
  sealed_once s n i j a b x y = elim (cases_order i j) [
    | inl same ↦ (same, some_is (sym x.put ∙ ap (λ (m : ℕ). last_put r k (part_of s m)) same ∙ y.put))
    | inr (inl less) ↦ absurd (not_none (sym (x.last j less y.within) ∙ y.put))
    | inr (inr less) ↦ absurd (not_none (sym (y.last i less x.within) ∙ x.put))
  ]
    where
      some_is : {a b : List ℕ} → Some a ≡ Some b → a ≡ b
      some_is e = cc

      not_none : {a : List ℕ} → None ≡ Some a → ⊥
      not_none e = cc

  -- a put that was sealed last among more commits is so among fewer
  pub sealed_among_fewer : (s : Script) (n m j : ℕ) (bytes : List ℕ) → n ≤ m → j ≤ n → IsSealed s r k m j bytes → IsSealed s r k n j bytes
  sealed_among_fewer s n m j bytes le within h = record { some = h.some; within = within; put = h.put; last = λ i lt few. h.last i lt (omega (arith, few, le)) }

-- ---- the rules

pub sealed_is_value : SealedIsValue
sealed_is_value s r k n j bytes h = value_sealed r k s n j bytes h

pub none_is_no_value : NoneIsNoValue
none_is_no_value s r k n none = value_none r k s n none

pub past_seals_stay : PastSealsStay
past_seals_stay s t j le = part_still s t j le
