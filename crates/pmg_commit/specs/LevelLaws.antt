-- Laws of the level of a set of numbers.
use Rattle.std.proofs.Common.{ℕ, zero, suc, ◌+◌, ◌<◌, ◌≤◌, ◌≡◌, inl, inr, Bool, true, false, cond, ◌&&◌, ◌==◌, List, [], ◌∷◌, refl, sym, ap, ◌∙◌, arith}
use Rattle.std.specs.Ordering.{nat_cmp}
use Rattle.std.specs.FinSet as set
use Rattle.std.specs.FinMap.{nat_cmp-IsAntisymmetric}
use Rattle.std.proofs.lemmas.Cmp.{nat_cmp_total}
use Rattle.std.proofs.lemmas.Bool.{false≢true, false_from_ne_true, and_parts, and_cases, cases_lt, cases_eq, eqb-true, eqb-false}
use Rattle.pmg_value.specs.Lists.{In}
use Rattle.pmg_value.proofs.SetLemmas.{in_items}
use Rattle.pmg_commit.specs.Levels.{largest, reach, level, IsReach}

in_largest : (ns : List ℕ) (n : ℕ) → In n ns → n ≤ largest ns
unfolding largest
in_largest [] n i = absurd i
in_largest (m ∷ ns) n (inl e) = omega arith
in_largest (m ∷ ns) n (inr i) = let rest = in_largest ns n i in omega arith

reach_within : (test : ℕ → Bool) (n : ℕ) → reach test n ≤ n
unfolding reach
reach_within test zero = omega arith
reach_within test (suc n) =
    let rest = reach_within test n in
    elim ((reach test n == n) && test (suc n)) as (λ b. cond b (suc n) (reach test n) ≤ suc n) [ true ↦ omega arith | false ↦ omega arith ]

reach_passes : (test : ℕ → Bool) (n i : ℕ) → 0 < i → i ≤ reach test n → test i ≡ true
unfolding reach
reach_passes test zero i p h = absurd (omega arith)
reach_passes test (suc n) i p h =
    elim ((reach test n == n) && test (suc n)) as (λ b. ((reach test n == n) && test (suc n)) ≡ b → i ≤ cond b (suc n) (reach test n) → test i ≡ true) [
      | true ↦ λ t h.
          let parts = and_parts (reach test n == n) (test (suc n)) t in
          let at : reach test n ≡ n = eqb-true (reach test n) n parts.0 in
          elim (cases_eq i (suc n)) [
            | inl e ↦ ap test e ∙ parts.1
            | inr e ↦ reach_passes test n i p (omega arith)
          ]
      | false ↦ λ t h. reach_passes test n i p h
    ] refl h

reach_stops : (test : ℕ → Bool) (n : ℕ) → reach test n < n → test (suc (reach test n)) ≡ false
unfolding reach
reach_stops test zero h = absurd (omega arith)
reach_stops test (suc n) h =
    let within = reach_within test n in
    elim ((reach test n == n) && test (suc n)) as (λ b. ((reach test n == n) && test (suc n)) ≡ b → cond b (suc n) (reach test n) < suc n → test (suc (cond b (suc n) (reach test n))) ≡ false) [
      | true ↦ λ t h. absurd (omega arith)
      | false ↦ λ t h. elim (and_cases (reach test n == n) (test (suc n)) t) [
        | inl e ↦ let apart = eqb-false (reach test n) n e in reach_stops test n (omega arith)
        | inr e ↦ elim (cases_eq (reach test n) n) [
          | inl at ↦ ap (λ m. test (suc m)) at ∙ e
          | inr apart ↦ reach_stops test n (omega arith)
        ]
      ]
    ] refl h

-- the level is how far the set goes
pub level_is : (s : set.FinSet nat_cmp) → IsReach (set.contains s) (level s)
unfolding level
level_is s =
    let top = largest (set.items s) in
    let here = reach (set.contains s) top in
    let within : here ≤ top = reach_within (set.contains s) top in (
      λ i p h. reach_passes (set.contains s) top i p h,
      elim (cases_lt here top) [
        | inl below ↦ let e : here + 1 ≡ suc here = omega arith in ap (set.contains s) e ∙ reach_stops (set.contains s) top below
        | inr at ↦ false_from_ne_true (set.contains s (here + 1)) (λ h.
            let in_it = in_largest (set.items s) (here + 1) (in_items nat_cmp_total nat_cmp-IsAntisymmetric s (here + 1) h) in
            absurd (omega arith))
      ],
    )

-- who passes more reaches as far
pub reach_more : (p q : ℕ → Bool) (m n : ℕ) → ((i : ℕ) → p i ≡ true → q i ≡ true) → IsReach p m → IsReach q n → m ≤ n
reach_more p q m n more a b =
    elim (cases_lt n m) [
      | inl h ↦ absurd (false≢true (sym b.1 ∙ more (n + 1) (a.0 (n + 1) (omega arith) (omega arith))))
      | inr h ↦ h
    ]

pub reach_unique : (p : ℕ → Bool) (m n : ℕ) → IsReach p m → IsReach p n → m ≡ n
reach_unique p m n a b =
    let there = reach_more p p m n (λ i h. h) a b in
    let back = reach_more p p n m (λ i h. h) b a in
    omega arith

pub level_unique : (s : set.FinSet nat_cmp) (n : ℕ) → IsReach (set.contains s) n → n ≡ level s
level_unique s n a = reach_unique (set.contains s) n (level s) a (level_is s)

-- a greater set has no lower level
pub level_more : (s t : set.FinSet nat_cmp) → ((i : ℕ) → set.contains s i ≡ true → set.contains t i ≡ true) → level s ≤ level t
level_more s t more = reach_more (set.contains s) (set.contains t) (level s) (level t) more (level_is s) (level_is t)
