-- One range put into a tree of ranges.
use Rattle.std.proofs.Common.{arith, ℕ, suc, ◌-◌, ◌≡◌, ◌<◌, ◌≤◌, ◌⊎◌, inl, inr, true, false, cond, List, [], ◌∷◌, refl, sym, ap, ◌∙◌, subst}
use Rattle.std.specs.Prelude.{Option, Some, None, max}
use Rattle.std.proofs.lemmas.Bool.{cases_lt, cases_eq}
use Rattle.std.specs.Cmp.{Equal-is, ranked}
use Rattle.std.specs.Ordering.{nat_cmp, is_eq}
use Rattle.std.proofs.lemmas.Cmp.{nat_cmp_total, tied_itself}
use Rattle.std.specs.BTreeMap.{BTreeMap, get, is_at}
use Rattle.std.proofs.lemmas.Map.Lookups.{exact_unsigned}
use Rattle.std.proofs.lemmas.Map.Keys.{sorted_head, sorted_tail}
use Rattle.std.specs.List.{AllByRecursion}
use Rattle.std.specs.List.Sorted.{IsStrictlySortedBy}
use Rattle.std.specs.Map.{lookup, keys_of}
use Rattle.std.specs.declared.cmp.Ordering.TheVariants.{Less, Equal}
use Rattle.pmg_value.specs.Lists.{In}
use Rattle.pmg_join.specs.Ranges.{Between, HasRange, Covers, Spans, LieIn, AreApart}

pub some_is : {a b : ℕ} → Some a ≡ Some b → a ≡ b
some_is {a} {b} h = ap (λ o. or_zero o) h
  where
    or_zero : Option ℕ → ℕ
    or_zero None = 0
    or_zero (Some x) = x

at_itself : (k : ℕ) → is_at (nat_cmp k) k ≡ true
at_itself k = ap is_eq (tied_itself nat_cmp_total k)

-- n is m with w at the key
abbrev pub Puts : BTreeMap ℕ ℕ → BTreeMap ℕ ℕ → ℕ → Option ℕ → Type 0
Puts m n key w = (q : ℕ) → get nat_cmp n q ≡ cond (is_at (nat_cmp key) q) w (get nat_cmp m q)

pub at_key : (m n : BTreeMap ℕ ℕ) (key : ℕ) (w : Option ℕ) → Puts m n key w → get nat_cmp n key ≡ w
at_key m n key w put = put key ∙ ap (λ b. cond b w (get nat_cmp m key)) (at_itself key)

pub at_other : (m n : BTreeMap ℕ ℕ) (key : ℕ) (w : Option ℕ) → Puts m n key w → (q : ℕ) → (key ≡ q → ⊥) → get nat_cmp n q ≡ get nat_cmp m q
at_other m n key w put q other =
    elim (is_at (nat_cmp key) q) as (λ t. is_at (nat_cmp key) q ≡ t → get nat_cmp n q ≡ get nat_cmp m q) [
      | true ↦ λ t. absurd (other (exact_unsigned key q ((Equal-is _).0 t)))
      | false ↦ λ t. put q ∙ ap (λ b. cond b w (get nat_cmp m q)) t
    ] refl

-- a range of the new tree is the one that was put, or one of the old tree that begins elsewhere
pub was_there :
    (m n : BTreeMap ℕ ℕ) (key w : ℕ) → Puts m n key (Some w) → (f t : ℕ) → HasRange n f t
    → ((key ≡ f) × (w ≡ t)) ⊎ ((key ≡ f → ⊥) × HasRange m f t)
was_there m n key w put f t h = elim (cases_eq key f) [
  | inl e ↦ inl (e, some_is (sym (at_key m n key (Some w) put) ∙ ap (get nat_cmp n) e ∙ h))
  | inr apart ↦ inr (apart, sym (at_other m n key (Some w) put f apart) ∙ h)
]

pub removed_left :
    (m n : BTreeMap ℕ ℕ) (key : ℕ) → Puts m n key None → (f t : ℕ) → HasRange n f t → (key ≡ f → ⊥) × HasRange m f t
removed_left m n key put f t h = elim (cases_eq key f) [
  | inl e ↦ absurd (let bad = sym (at_key m n key None put) ∙ ap (get nat_cmp n) e ∙ h in cc)
  | inr apart ↦ (apart, sym (at_other m n key None put f apart) ∙ h)
]

-- ---- room
module _ (m n : BTreeMap ℕ ℕ) (from : ℕ) (apart : AreApart m) (none : Spans m from from → ⊥) (put : Puts m n from (Some from)) where
  below : (f t : ℕ) → HasRange m f t → f ≤ from → t < from
  below f t h le = elim (cases_lt t from) [
    | inl l ↦ l
    | inr g ↦ absurd (none (f, t, h, le, g))
  ]

  pub room_apart : AreApart n
  room_apart f t h = elim (was_there m n from from put f t h) [
    | inl e ↦ (omega (arith, e.0, e.1), λ g u i l. omega (arith, e.1, e.0, l))
    | inr o ↦ (
      (apart f t o.1).0,
      λ g u i l. elim (was_there m n from from put g u i) [
        | inl e ↦ let under = below f t o.1 (omega (arith, e.0, l)) in omega (arith, under, e.0)
        | inr p ↦ (apart f t o.1).1 g u p.1 l
      ],
    )
  ]

  pub room_kept : LieIn m n
  room_kept f t h = elim (cases_eq from f) [
    | inl e ↦ absurd (none (f, t, h, omega (arith, e), let le = (apart f t h).0 in omega (arith, le, e)))
    | inr o ↦ (f, t, at_other m n from (Some from) put f o ∙ h, omega arith, omega arith)
  ]

  pub room_no_more : (k : ℕ) → Covers n k → Covers m k
  room_no_more k (f, t, h, b) = elim (was_there m n from from put f t h) [
    | inl e ↦ absurd (omega (arith, e.0, e.1, b.0, b.1))
    | inr o ↦ (f, t, o.1, b)
  ]

  pub room_there : Spans n from from
  room_there = (from, from, at_key m n from (Some from) put, omega arith, omega arith)

pub lie_in_itself : (m n : BTreeMap ℕ ℕ) → ((q : ℕ) → get nat_cmp n q ≡ get nat_cmp m q) → LieIn m n
lie_in_itself m n same f t h = (f, t, same f ∙ h, omega arith, omega arith)

-- ---- the ranges above
module _ (m n old : BTreeMap ℕ ℕ) (from to top key u next : ℕ) (put : Puts m n key None) (at : HasRange m key u) (above : from < key) (up_to : key ≤ top) (more : top ≤ next) (much : u ≤ next) where
  pub merge_left : ((f t : ℕ) → HasRange m f t → HasRange old f t) → (f t : ℕ) → HasRange n f t → HasRange old f t
  merge_left left f t h = left f t (removed_left m n key put f t h).1

  pub merge_taken :
      ((f t : ℕ) → HasRange old f t → HasRange m f t ⊎ ((from < f) × (t ≤ top)))
      → (f t : ℕ) → HasRange old f t → HasRange n f t ⊎ ((from < f) × (t ≤ next))
  merge_taken taken f t h = elim (taken f t h) [
    | inr b ↦ inr (b.0, omega (arith, b.1, more))
    | inl i ↦ elim (cases_eq key f) [
      | inl e ↦ let ends : u ≡ t = some_is (sym at ∙ ap (get nat_cmp m) e ∙ i) in inr (omega (arith, e, above), omega (arith, ends, much))
      | inr o ↦ inl (at_other m n key None put f o ∙ i)
    ]
  ]

  pub merge_no_more :
      ((f t : ℕ) → HasRange m f t → HasRange old f t) → (next ≡ top) ⊎ (next ≡ u)
      → ((k : ℕ) → Between to top k → Covers old k) → (k : ℕ) → Between to next k → Covers old k
  merge_no_more left which covered k b = elim (cases_lt top k) [
    | inr le ↦ covered k (b.0, le)
    | inl l ↦ elim which [
      | inl e ↦ absurd (omega (arith, b.1, e, l))
      | inr e ↦ (key, u, left key u at, (omega (arith, up_to, l), omega (arith, b.1, e)))
    ]
  ]

pub max_is : (a b : ℕ) → (max a b ≡ a) ⊎ (max a b ≡ b)
max_is a b = elim (cases_lt a b) [
  | inl l ↦ inr (omega (arith, l))
  | inr g ↦ inl (omega (arith, g))
]

-- ---- what is put in

-- the ranges before and after the numbers above the one, up to the other, are put in
pub record AreFilledIn (m0 m2 : BTreeMap ℕ ℕ) (from to : ℕ) : Type 0 where
  pub apart : AreApart m2
  pub kept : LieIn m0 m2
  pub added : Spans m2 from to
  pub no_more : (k : ℕ) → Covers m2 k → Covers m0 k ⊎ Between from to k

-- m0 is the tree before, m1 without the ranges that the new one reaches, m2 with the first of them as long as all
module _ (m0 m1 m2 : BTreeMap ℕ ℕ) (from to start end last : ℕ) (apart : AreApart m0) (some : from < to)
    (first : HasRange m0 start end) (before : start ≤ from) (reaches : from ≤ end)
    (latest : (f t : ℕ) → HasRange m0 f t → f ≤ from → f ≤ start)
    (far : max to end ≤ last)
    (left : (f t : ℕ) → HasRange m1 f t → HasRange m0 f t)
    (taken : (f t : ℕ) → HasRange m0 f t → HasRange m1 f t ⊎ ((from < f) × (t ≤ last)))
    (covered : (k : ℕ) → Between (max to end) last k → Covers m0 k)
    (gone : (f t : ℕ) → HasRange m1 f t → from < f → last < f)
    (put : Puts m1 m2 start (Some last)) where
  above : (f t : ℕ) → HasRange m1 f t → start < f → last < f
  above f t h l = elim (cases_lt from f) [
    | inl g ↦ gone f t h g
    | inr le ↦ absurd (let no_later = latest f t (left f t h) le in omega (arith, no_later, l))
  ]

  pub filled_apart : AreApart m2
  filled_apart f t h = elim (was_there m1 m2 start last put f t h) [
    | inl e ↦ (
      omega (arith, e.0, e.1, before, some, far),
      λ g u i l. elim (was_there m1 m2 start last put g u i) [
        | inl d ↦ absurd (omega (arith, d.0, e.0, l))
        | inr o ↦ let past = above g u o.1 (omega (arith, e.0, l)) in omega (arith, past, e.1)
      ],
    )
    | inr o ↦ (
      (apart f t (left f t o.1)).0,
      λ g u i l. elim (was_there m1 m2 start last put g u i) [
        | inl d ↦ let under = (apart f t (left f t o.1)).1 start end first (omega (arith, l, d.0)) in omega (arith, under, d.0)
        | inr p ↦ (apart f t (left f t o.1)).1 g u (left g u p.1) l
      ],
    )
  ]

  whole : HasRange m2 start last
  whole = at_key m1 m2 start (Some last) put

  pub filled_kept : LieIn m0 m2
  filled_kept f t h = elim (taken f t h) [
    | inr b ↦ (start, last, whole, omega (arith, before, b.0), b.1)
    | inl i ↦ elim (cases_eq start f) [
      | inl e ↦ let ends : end ≡ t = some_is (sym first ∙ ap (get nat_cmp m0) e ∙ h) in (start, last, whole, omega (arith, e), omega (arith, ends, far))
      | inr o ↦ (f, t, at_other m1 m2 start (Some last) put f o ∙ i, omega arith, omega arith)
    ]
  ]

  pub filled_added : Spans m2 from to
  filled_added = (start, last, whole, before, omega (arith, far))

  pub filled_no_more : (k : ℕ) → Covers m2 k → Covers m0 k ⊎ Between from to k
  filled_no_more k (f, t, h, b) = elim (was_there m1 m2 start last put f t h) [
    | inr o ↦ inl (f, t, left f t o.1, b)
    | inl e ↦ elim (cases_lt (max to end) k) [
      | inl l ↦ inl (covered k (l, omega (arith, e.1, b.1)))
      | inr le ↦ elim (cases_lt end k) [
        | inl past ↦ inr (omega (arith, reaches, past), omega (arith, le, past))
        | inr within ↦ inl (start, end, first, (omega (arith, e.0, b.0), within))
      ]
    ]
  ]

  -- all that there is to know of the ranges then
  pub filled : AreFilledIn m0 m2 from to
  filled = record { apart = filled_apart; kept = filled_kept; added = filled_added; no_more = filled_no_more }

-- ---- what is there
pub spans_have :
    (m : BTreeMap ℕ ℕ) (from to start end : ℕ) → AreApart m → from ≤ to → HasRange m start end → start ≤ from
    → ((f t : ℕ) → HasRange m f t → f ≤ from → f ≤ start) → Spans m from to → to ≤ end
spans_have m from to start end apart order at before latest (f, t, h, le, reach) = elim (cases_eq f start) [
  | inl e ↦ let ends : t ≡ end = some_is (sym h ∙ ap (get nat_cmp m) e ∙ at) in omega (arith, ends, reach)
  | inr o ↦
      let up = latest f t h le in
      let under = (apart f t h).1 start end at (below up o) in
      absurd (omega (arith, under, before, order, reach))
]
  where
    below : {a b : ℕ} → a ≤ b → (a ≡ b → ⊥) → a < b
    below {a} {b} le other = elim (cases_lt a b) [
      | inl l ↦ l
      | inr g ↦ absurd (other (omega (arith, le, g)))
    ]

pub covers_spans : (m : BTreeMap ℕ ℕ) (n : ℕ) → 0 < n → Covers m n → Spans m (n - 1) n
covers_spans m n some (f, t, h, b) = (f, t, h, omega (arith, b.0), b.1)

pub spans_covers : (m : BTreeMap ℕ ℕ) (n : ℕ) → 0 < n → Spans m (n - 1) n → Covers m n
spans_covers m n some (f, t, h, le, reach) = (f, t, h, (omega (arith, le, some), reach))

pub next_missing : (m : BTreeMap ℕ ℕ) (end : ℕ) → AreApart m → HasRange m 0 end → Covers m (suc end) → ⊥
next_missing m end apart at (f, t, h, b) = elim (cases_lt 0 f) [
  | inl l ↦ let past = (apart 0 end at).1 f t h l in omega (arith, past, b.0)
  | inr z ↦
      let zeroth : 0 ≡ f = omega (arith, z) in
      let ends : end ≡ t = some_is (sym at ∙ ap (get nat_cmp m) zeroth ∙ h) in
      omega (arith, ends, b.1)
]

pub first_missing : (m : BTreeMap ℕ ℕ) → get nat_cmp m 0 ≡ None → Covers m 1 → ⊥
first_missing m none (f, t, h, b) = let zeroth : 0 ≡ f = omega (arith, b.0) in let bad = sym none ∙ ap (get nat_cmp m) zeroth ∙ h in cc

-- of the ranges that begin at a number or before it, none goes on past the last one
pub unreached :
    (m : BTreeMap ℕ ℕ) (n start end reach : ℕ) → AreApart m → reach ≡ max n end → HasRange m start end → start ≤ n
    → ((f t : ℕ) → HasRange m f t → f ≤ n → f ≤ start) → Covers m (suc reach) → ⊥
unreached m n start end reach apart is at before latest (f, t, h, b) = elim (cases_eq f start) [
  | inl e ↦ let ends : t ≡ end = some_is (sym h ∙ ap (get nat_cmp m) e ∙ at) in omega (arith, ends, b.1, is)
  | inr o ↦ elim (cases_lt start f) [
    | inl past ↦
        let under = (apart start end at).1 f t h past in
        let low : f ≤ n = omega (arith, under, b.0, is) in
        let up = latest f t h low in
        omega (arith, up, past)
    | inr le ↦
        let less : f < start = below le o in
        let under = (apart f t h).1 start end at less in
        omega (arith, under, before, b.1, is)
  ]
]
  where
    below : {a b : ℕ} → a ≤ b → (a ≡ b → ⊥) → a < b
    below {a} {b} le other = elim (cases_lt a b) [
      | inl l ↦ l
      | inr g ↦ absurd (other (omega (arith, le, g)))
    ]

-- up to the level, with one more range that begins there or before it, and as far as is reached from there, each number is
-- there
pub reached_with :
    (m : BTreeMap ℕ ℕ) (More : ℕ → Type 0) (level from to top reach n : ℕ) → from ≤ level → top ≡ max level to
    → ((i : ℕ) → Between from to i → More i) → ((i : ℕ) → 0 < i → i ≤ level → Covers m i ⊎ More i)
    → ((i : ℕ) → Between top reach i → Covers m i) → 0 < n → n ≤ reach → Covers m n ⊎ More n
reached_with m More level from to top reach n low is more reached further some up = elim (cases_lt level n) [
  | inr le ↦ reached n some le
  | inl past ↦ elim (cases_lt to n) [
    | inr le ↦ inr (more n (omega (arith, low, past), le))
    | inl over ↦ inl (further n (omega (arith, is, past, over), up))
  ]
]

-- no range has the number after the level where each begins past the level or ends there or before
pub not_next : (m : BTreeMap ℕ ℕ) (level : ℕ) → ((f t : ℕ) → HasRange m f t → (level < f) ⊎ (t ≤ level)) → Covers m (suc level) → ⊥
not_next m level sides (f, t, h, b) = elim (sides f t h) [
  | inl over ↦ omega (arith, over, b.0)
  | inr up ↦ omega (arith, up, b.1)
]

-- ---- many ranges
pub spans_kept : (m n : BTreeMap ℕ ℕ) → LieIn m n → (from to : ℕ) → Spans m from to → Spans n from to
spans_kept m n kept from to (start, end, h, before, past) =
    let there = kept start end h in
    (there.0, there.1, there.2, omega (arith, there.3, before), omega (arith, there.4, past))

pub lie_in_trans : (l m n : BTreeMap ℕ ℕ) → LieIn l m → LieIn m n → LieIn l n
lie_in_trans l m n a b from to h = spans_kept m n b from to (a from to h)

pub pair_there : {X : Type 0} (es : List (ℕ × X)) (key : ℕ) (x : X) → lookup (is_at (nat_cmp key)) es ≡ Some x → In (key, x) es
pair_there {X = X} [] key x h = absurd (let bad = h in cc)
pair_there {X = X} (e ∷ es) key x h =
    elim (is_at (nat_cmp key) e.0) as (λ t. is_at (nat_cmp key) e.0 ≡ t → In (key, x) (e ∷ es)) [
      | true ↦ λ t.
          let same = exact_unsigned key e.0 ((Equal-is _).0 t) in
          let found : Some e.1 ≡ Some x = sym (ap (λ b. cond b (Some e.1) (lookup (is_at (nat_cmp key)) es)) t) ∙ h in
          inl (λ i. (same i, sym (value_is found) i))
      | false ↦ λ t. inr (pair_there es key x (sym (ap (λ b. cond b (Some e.1) (lookup (is_at (nat_cmp key)) es)) t) ∙ h))
    ] refl
  where
    value_is : {a b : X} → Some a ≡ Some b → a ≡ b
    value_is {a} {b} h = ap (λ o. or_this o) h
      where
        or_this : Option X → X
        or_this None = a
        or_this (Some y) = y

key_in : {X : Type 0} (es : List (ℕ × X)) (key : ℕ) (x : X) → In (key, x) es → In key (keys_of es)
key_in [] key x i = absurd i
key_in (e ∷ es) key x (inl h) = inl (λ i. (h i).0)
key_in (e ∷ es) key x (inr i) = inr (key_in es key x i)

above_all : (k : ℕ) (ks : List ℕ) → AllByRecursion (λ y. nat_cmp k y ≡ Less) ks → (q : ℕ) → In q ks → nat_cmp k q ≡ Less
above_all k [] all q i = absurd i
above_all k (y ∷ ks) all q (inl e) = ap (nat_cmp k) e ∙ all.0
above_all k (y ∷ ks) all q (inr i) = above_all k ks all.1 q i

pub there_pair : {X : Type 0} (es : List (ℕ × X)) → IsStrictlySortedBy nat_cmp (keys_of es) → (key : ℕ) (x : X) → In (key, x) es → lookup (is_at (nat_cmp key)) es ≡ Some x
there_pair [] sorted key x i = absurd i
there_pair (e ∷ es) sorted key x (inl h) =
    ap (λ k. cond (is_at (nat_cmp k) e.0) (Some e.1) (lookup (is_at (nat_cmp key)) es)) (λ i. (h i).0)
    ∙ ap (λ b. cond b (Some e.1) (lookup (is_at (nat_cmp key)) es)) (at_itself e.0)
    ∙ ap Some (sym (λ i. (h i).1))
there_pair (e ∷ es) sorted key x (inr i) =
    let less = above_all e.0 (keys_of es) (sorted_head nat_cmp e.0 (keys_of es) sorted) key (key_in es key x i) in
    elim (is_at (nat_cmp key) e.0) as (λ t. is_at (nat_cmp key) e.0 ≡ t → lookup (is_at (nat_cmp key)) (e ∷ es) ≡ Some x) [
      | true ↦ λ t.
          let same = exact_unsigned key e.0 ((Equal-is _).0 t) in
          let tie : nat_cmp e.0 key ≡ Equal = ap (nat_cmp e.0) same ∙ tied_itself nat_cmp_total e.0 in
          absurd (let bad = sym tie ∙ less in cc)
      | false ↦ λ t. ap (λ b. cond b (Some e.1) (lookup (is_at (nat_cmp key)) es)) t ∙ there_pair es (sorted_tail nat_cmp e.0 (keys_of es) sorted) key x i
    ] refl

-- ranges in order, of which the first begins past the level
pub all_past :
    (first : ℕ × ℕ) (others : List (ℕ × ℕ)) (level f t : ℕ) → level < first.0 → IsStrictlySortedBy nat_cmp (keys_of (first ∷ others)) → In (f, t) (first ∷ others)
    → level < f
all_past first others level f t over sorted (inl e) = let same : f ≡ first.0 = λ i. (e i).0 in omega (arith, over, same)
all_past first others level f t over sorted (inr i) =
    let less = above_all first.0 (keys_of others) (sorted_head nat_cmp first.0 (keys_of others) sorted) f (key_in others f t i) in
    let after : first.0 < f = ranked first.0 f Less (sym less) in
    omega (arith, over, after)

pub in_step : {A : Type 0} (x first : A) (all others : List A) → all ≡ first ∷ others → In x all → (x ≡ first) ⊎ In x others
in_step x first all others e i = subst (In x) e i

pub in_first : {A : Type 0} (first : A) (all others : List A) → all ≡ first ∷ others → In first all
in_first first all others e = subst (In first) (sym e) (inl refl)

pub in_others : {A : Type 0} (x first : A) (all others : List A) → all ≡ first ∷ others → In x others → In x all
in_others x first all others e i = subst (In x) (sym e) (inr i)

pub in_none : {A : Type 0} (x : A) (all : List A) → all ≡ [] → In x all → ⊥
in_none x all e i = subst (In x) e i
