-- One entry put into its place.
use Rattle.std.proofs.Common.{arith, ℕ, List, [], ◌∷◌, map, ◌≡◌, ◌<◌, ◌≤◌, ◌⊎◌, inl, inr, Bool, true, false, cond, refl, sym, ap, ◌∙◌, subst}
use Rattle.std.specs.Prelude.{Option, Some, None, IfSome, IsSome}
use Rattle.std.specs.Option.{option_map}
use Rattle.std.specs.Cmp.{Equal-is, IsTotalOrder}
use Rattle.std.specs.Cmp.Lexicographic.{slice_cmp, nat_list_cmp_total}
use Rattle.std.specs.Ordering.{nat_cmp, is_eq, is_lt}
use Rattle.std.specs.declared.cmp.Ordering.{Ordering}
use Rattle.std.specs.declared.cmp.Ordering.TheVariants.{Less}
use Rattle.std.specs.BTreeMap.{BTreeMap, get, is_at}
use Rattle.std.proofs.lemmas.Cmp.{then_total, on_total, nat_cmp_total, tied_itself}
use Rattle.std.proofs.lemmas.Bool.{false≢true, cases_lt}
use Rattle.std.proofs.lemmas.Map.Lookups.{CmpEqualImpliesEq, exact_pairs, exact_bytes, exact_unsigned}
use Rattle.pmg_value.specs.Lists.{In}
use Rattle.pmg_value.specs.Spelling.{spelling}
use Rattle.pmg_value.specs.declared.value.Value.{Value}
use Rattle.pmg_commit.specs.Entries.{Entry, is_later}
use Rattle.pmg_commit.specs.EntryOrder.{Below, Later, is_later-Decides, below_cases, superseded_trans}
use Rattle.pmg_join.specs.Places.{placed, there_at, HasPlace}
use Rattle.pmg_lane.specs.Entries.{late_cmp, entry_under, late_entry, read_under, late_at, HasEntry, ReadsWithin, Accounts, Settles, NoneLeft, beats, exceeds, LateFrom, HoldAlike, IsRoomyTo}
use Rattle.pmg_lane.specs.declared.entries.Entries.{Entries}
use Rattle.pmg_lane.specs.declared.entries.Stamp.{Stamp}

pub exact_late : CmpEqualImpliesEq late_cmp
exact_late = exact_pairs nat_cmp (slice_cmp nat_cmp) exact_unsigned exact_bytes

pub late_total : IsTotalOrder late_cmp
late_total = then_total (on_total (λ x. x.0) nat_cmp_total) (on_total (λ x. x.1) nat_list_cmp_total)

pub some_is : {A : Type 0} {a b : A} → Some a ≡ Some b → a ≡ b
some_is {A} {a} {b} h = ap (λ o. or_this o) h
  where
    or_this : Option A → A
    or_this None = a
    or_this (Some x) = x

pub not_some : {A : Type 0} {a : A} → None ≡ Some a → ⊥
not_some h = cc

-- of two entries of a key, one is the other, or one is later
pub not_later : (e f : Entry) → e.key ≡ f.key → is_later e f ≡ false → (f ≡ e) ⊎ Later f e
not_later e f same t =
    let none : Later e f → ⊥ = λ l. false≢true (sym t ∙ (is_later-Decides e f).1 l) in
    elim (cases_lt e.number f.number) [
      | inl l ↦ absurd (none (inl l))
      | inr ge ↦ elim (cases_lt f.number e.number) [
        | inl l ↦ inr (inl l)
        | inr le ↦
            let eq : e.number ≡ f.number = omega (arith, ge, le) in
            elim (below_cases e.bytes f.bytes) [
              | inl b ↦ absurd (none (inr (eq, b)))
              | inr (inl s) ↦ inl (λ i. record { key = sym same i; number = sym eq i; bytes = sym s i })
              | inr (inr b) ↦ inr (inr (sym eq, b))
            ]
      ]
    ]

-- what was put under a key, in a table of what is under each
module _ {K V : Type 0} {R : K → K → Ordering} (o : IsTotalOrder R) (exact : CmpEqualImpliesEq R) (make : K → V → Entry) (m n : K → Option V) (key : K) (v : V)
    (put : (q : K) → n q ≡ cond (is_at (R key) q) (Some v) (m q)) where
  pub put_here : option_map (make key) (n key) ≡ Some (make key v)
  put_here = ap (option_map (make key)) (put key ∙ ap (λ b. cond b (Some v) (m key)) (ap is_eq (tied_itself o key)))

  pub put_there : (q : K) (e : Entry) → option_map (make q) (n q) ≡ Some e → (e ≡ make key v) ⊎ (option_map (make q) (m q) ≡ Some e)
  put_there q e h =
      elim (is_at (R key) q) as (λ t. is_at (R key) q ≡ t → (e ≡ make key v) ⊎ (option_map (make q) (m q) ≡ Some e)) [
        | true ↦ λ t.
            let same = exact key q ((Equal-is _).0 t) in
            inl (some_is (sym h ∙ sym (ap (λ k. option_map (make k) (n k)) same) ∙ put_here))
        | false ↦ λ t. inr (sym (ap (option_map (make q)) (put q ∙ ap (λ b. cond b (Some v) (m q)) t)) ∙ h)
      ] refl

  pub put_stays : (q : K) (e : Entry) → option_map (make q) (m q) ≡ Some e → (option_map (make q) (n q) ≡ Some e) ⊎ (key ≡ q)
  put_stays q e h =
      elim (is_at (R key) q) as (λ t. is_at (R key) q ≡ t → (option_map (make q) (n q) ≡ Some e) ⊎ (key ≡ q)) [
        | true ↦ λ t. inr (exact key q ((Equal-is _).0 t))
        | false ↦ λ t. inl (ap (option_map (make q)) (put q ∙ ap (λ b. cond b (Some v) (m q)) t) ∙ h)
      ] refl

-- ---- an entry that is read
module _ (a b : Entries) (level : ℕ) (key : List ℕ) (s : Stamp)
    (put : (q : List ℕ) → there_at (slice_cmp nat_cmp) b.reads q ≡ cond (is_at (slice_cmp nat_cmp key) q) (Some s) (there_at (slice_cmp nat_cmp) a.reads q))
    (late : b.late ≡ a.late) (reached : s.number ≤ level) where
  stamp_here : read_under b key ≡ Some (entry_under key s)
  stamp_here = put_here nat_list_cmp_total exact_bytes entry_under (there_at (slice_cmp nat_cmp) a.reads) (there_at (slice_cmp nat_cmp) b.reads) key s put

  stamp_there : (q : List ℕ) (e : Entry) → read_under b q ≡ Some e → (e ≡ entry_under key s) ⊎ (read_under a q ≡ Some e)
  stamp_there = put_there nat_list_cmp_total exact_bytes entry_under (there_at (slice_cmp nat_cmp) a.reads) (there_at (slice_cmp nat_cmp) b.reads) key s put

  stamp_stays : (q : List ℕ) (e : Entry) → read_under a q ≡ Some e → (read_under b q ≡ Some e) ⊎ (key ≡ q)
  stamp_stays = put_stays nat_list_cmp_total exact_bytes entry_under (there_at (slice_cmp nat_cmp) a.reads) (there_at (slice_cmp nat_cmp) b.reads) key s put

  same_late : (e : Entry) → late_at b (e.number, e.key) ≡ late_at a (e.number, e.key)
  same_late e = ap (λ t. option_map (late_entry (e.number, e.key)) (there_at late_cmp t (e.number, e.key))) late

  pub read_settles : beats (read_under a key) (entry_under key s) ≡ true → Settles level a (λ e. e ≡ entry_under key s) b NoneLeft
  read_settles newer = record { fewer = few; enough = enough }
    where
      few : (e : Entry) → HasEntry b e → HasEntry a e ⊎ (e ≡ entry_under key s)
      few e (inl h) = elim (stamp_there e.key e h) [ inl is ↦ inr is | inr was ↦ inl (inl was) ]
      few e (inr h) = inl (inr (sym (same_late e) ∙ h))

      here : HasEntry b (entry_under key s)
      here = inl stamp_here

      enough : (e : Entry) → HasEntry a e ⊎ (e ≡ entry_under key s) → Accounts level b e ⊎ NoneLeft e
      enough e (inr is) = inl (inl (subst (HasEntry b) (sym is) here))
      enough e (inl (inr h)) = inl (inl (inr (same_late e ∙ h)))
      enough e (inl (inl h)) = elim (stamp_stays e.key e h) [
        | inl is ↦ inl (inl (inl is))
        | inr same ↦
            let at : read_under a key ≡ Some e = ap (read_under a) same ∙ h in
            let later = (is_later-Decides e (entry_under key s)).0 (ap (λ o. beats o (entry_under key s)) (sym at) ∙ newer) in
            inl (inr (entry_under key s, here, ((sym same, later), inl reached)))
      ]

  pub read_within : ReadsWithin level a → ReadsWithin level b
  read_within within q = go (read_under b q) refl
    where
      go : (o : Option Entry) → read_under b q ≡ o → IfSome (read_under b q) (λ e. e.number ≤ level)
      go None is = subst (λ o. IfSome o (λ e. e.number ≤ level)) (sym is) tt
      go (Some e) is = subst (λ o. IfSome o (λ e. e.number ≤ level)) (sym is) (elim (stamp_there q e is) [
        | inl new ↦ omega (arith, ap (λ f. f.number) new, reached)
        | inr was ↦ subst (λ o. IfSome o (λ e. e.number ≤ level)) was (within q)
      ])

-- what is read has its key
pub key_read : (a : Entries) (key : List ℕ) (e : Entry) → read_under a key ≡ Some e → key ≡ e.key
key_read a key e h = go (there_at (slice_cmp nat_cmp) a.reads key) h
  where
    go : (o : Option Stamp) → option_map (entry_under key) o ≡ Some e → key ≡ e.key
    go None h = absurd (not_some h)
    go (Some s) h = ap (λ f. f.key) (some_is h)

pub key_late : (a : Entries) (place : ℕ × List ℕ) (e : Entry) → late_at a place ≡ Some e → place ≡ (e.number, e.key)
key_late a place e h = go (there_at late_cmp a.late place) h
  where
    go : (o : Option Value) → option_map (late_entry place) o ≡ Some e → place ≡ (e.number, e.key)
    go None h = absurd (not_some h)
    go (Some v) h = let e = some_is h in λ i. ((e i).number, (e i).key)

pub read_kept :
    (a : Entries) (level : ℕ) (key : List ℕ) (s : Stamp) → ReadsWithin level a → beats (read_under a key) (entry_under key s) ≡ false
    → Settles level a (λ e. e ≡ entry_under key s) a NoneLeft
read_kept a level key s within older = record { fewer = λ e h. inl h; enough = enough }
  where
    accounts : (o : Option Entry) → read_under a key ≡ o → beats o (entry_under key s) ≡ false → Accounts level a (entry_under key s)
    accounts None at h = absurd (false≢true (sym h))
    accounts (Some there) at h =
        let same = key_read a key there at in
        let here : HasEntry a there = inl (ap (read_under a) (sym same) ∙ at) in
        elim (not_later there (entry_under key s) (sym same) h) [
          | inl e ↦ inl (subst (HasEntry a) (sym e) here)
          | inr l ↦ inr (there, here, ((same, l), inl (subst (λ o. IfSome o (λ e. e.number ≤ level)) at (within key))))
        ]

    enough : (e : Entry) → HasEntry a e ⊎ (e ≡ entry_under key s) → Accounts level a e ⊎ NoneLeft e
    enough e (inl h) = inl (inl h)
    enough e (inr is) = inl (subst (Accounts level a) (sym is) (accounts (read_under a key) refl older))

-- ---- a late entry
module _ (a b : Entries) (level : ℕ) (place : ℕ × List ℕ) (v : Value)
    (put : (q : ℕ × List ℕ) → there_at late_cmp b.late q ≡ cond (is_at (late_cmp place) q) (Some v) (there_at late_cmp a.late q))
    (reads : b.reads ≡ a.reads) where
  value_here : late_at b place ≡ Some (late_entry place v)
  value_here = put_here late_total exact_late late_entry (there_at late_cmp a.late) (there_at late_cmp b.late) place v put

  value_there : (q : ℕ × List ℕ) (e : Entry) → late_at b q ≡ Some e → (e ≡ late_entry place v) ⊎ (late_at a q ≡ Some e)
  value_there = put_there late_total exact_late late_entry (there_at late_cmp a.late) (there_at late_cmp b.late) place v put

  value_stays : (q : ℕ × List ℕ) (e : Entry) → late_at a q ≡ Some e → (late_at b q ≡ Some e) ⊎ (place ≡ q)
  value_stays = put_stays late_total exact_late late_entry (there_at late_cmp a.late) (there_at late_cmp b.late) place v put

  same_read : (e : Entry) → read_under b e.key ≡ read_under a e.key
  same_read e = ap (λ t. option_map (entry_under e.key) (there_at (slice_cmp nat_cmp) t e.key)) reads

  pub late_settles : exceeds (option_map spelling (there_at late_cmp a.late place)) (spelling v) ≡ true → Settles level a (λ e. e ≡ late_entry place v) b NoneLeft
  late_settles greater = record { fewer = few; enough = enough }
    where
      few : (e : Entry) → HasEntry b e → HasEntry a e ⊎ (e ≡ late_entry place v)
      few e (inl h) = inl (inl (sym (same_read e) ∙ h))
      few e (inr h) = elim (value_there (e.number, e.key) e h) [ inl is ↦ inr is | inr was ↦ inl (inr was) ]

      here : HasEntry b (late_entry place v)
      here = inr value_here

      below : (o : Option Value) (e : Entry) → option_map (late_entry place) o ≡ Some e → exceeds (option_map spelling o) (spelling v) ≡ true → Later e (late_entry place v)
      below None e h g = absurd (not_some h)
      below (Some w) e h g = subst (λ f. Later f (late_entry place v)) (some_is h) (inr (refl, less (slice_cmp nat_cmp (spelling w) (spelling v)) refl g))
        where
          less : (r : Ordering) → slice_cmp nat_cmp (spelling w) (spelling v) ≡ r → is_lt r ≡ true → Below (spelling w) (spelling v)
          less r is h = is ∙ is_less r h
            where
              is_less : (r : Ordering) → is_lt r ≡ true → r ≡ Less
              is_less Less h = refl
              is_less Ordering.Equal h = absurd (false≢true h)
              is_less Ordering.Greater h = absurd (false≢true h)

      enough : (e : Entry) → HasEntry a e ⊎ (e ≡ late_entry place v) → Accounts level b e ⊎ NoneLeft e
      enough e (inr is) = inl (inl (subst (HasEntry b) (sym is) here))
      enough e (inl (inl h)) = inl (inl (inl (same_read e ∙ h)))
      enough e (inl (inr h)) = elim (value_stays (e.number, e.key) e h) [
        | inl is ↦ inl (inl (inr is))
        | inr same ↦
            let at : late_at a place ≡ Some e = ap (late_at a) same ∙ h in
            let later = below (there_at late_cmp a.late place) e at greater in
            inl (inr (late_entry place v, here, ((sym (λ i. (same i).1), later), inr (sym (λ i. (same i).0)))))
      ]

  pub late_from : level < place.0 → LateFrom level a b
  late_from past q =
      elim (is_at (late_cmp place) q) as (λ t. is_at (late_cmp place) q ≡ t → (late_at b q ≡ late_at a q) ⊎ (level < q.0)) [
        | true ↦ λ t. let same = exact_late place q ((Equal-is _).0 t) in inr (subst (λ p. level < p.0) same past)
        | false ↦ λ t. inl (ap (option_map (late_entry q)) (put q ∙ ap (λ b. cond b (Some v) (there_at late_cmp a.late q)) t))
      ] refl

pub late_kept :
    (a : Entries) (level : ℕ) (place : ℕ × List ℕ) (v : Value) → exceeds (option_map spelling (there_at late_cmp a.late place)) (spelling v) ≡ false
    → Settles level a (λ e. e ≡ late_entry place v) a NoneLeft
late_kept a level place v less = record { fewer = λ e h. inl h; enough = enough }
  where
    accounts : (o : Option Value) → there_at late_cmp a.late place ≡ o → exceeds (option_map spelling o) (spelling v) ≡ false → Accounts level a (late_entry place v)
    accounts None at h = absurd (false≢true (sym h))
    accounts (Some w) at h =
        let here : HasEntry a (late_entry place w) = inr (ap (option_map (late_entry place)) at) in
        elim (below_cases (spelling w) (spelling v)) [
          | inl b ↦ absurd (false≢true (sym h ∙ ap is_lt b))
          | inr (inl s) ↦ inl (subst (λ bytes. HasEntry a (record { key = place.1; number = place.0; bytes = bytes })) s here)
          | inr (inr b) ↦ inr (late_entry place w, here, ((refl, inr (refl, b)), inr refl))
        ]

    enough : (e : Entry) → HasEntry a e ⊎ (e ≡ late_entry place v) → Accounts level a e ⊎ NoneLeft e
    enough e (inl h) = inl (inl h)
    enough e (inr is) = inl (subst (Accounts level a) (sym is) (accounts (there_at late_cmp a.late place) refl less))

-- ---- one after the other
pub accounts_more : (level : ℕ) (b c : Entries) (More : Entry → Type 0) → Settles level b More c NoneLeft → (e : Entry) → Accounts level b e → Accounts level c e
accounts_more level b c More s e (inl h) = elim (s.enough e (inl h)) [ inl a ↦ a | inr none ↦ absurd none ]
accounts_more level b c More s e (inr (f, h, sup)) = elim (s.enough f (inl h)) [
  | inr none ↦ absurd none
  | inl (inl i) ↦ inr (f, i, sup)
  | inl (inr (g, i, more)) ↦ inr (g, i, superseded_trans level e f g sup more)
]

pub settles_next :
    (level : ℕ) (a b c : Entries) (x : Entry) (More Left Rest : Entry → Type 0) → Settles level a More b Left → Settles level b (λ e. e ≡ x) c NoneLeft
    → More x → ((e : Entry) → Left e → (e ≡ x) ⊎ Rest e) → Settles level a More c Rest
settles_next level a b c x More Left Rest s t more left = record {
  fewer = λ e h. elim (t.fewer e h) [ inl i ↦ s.fewer e i | inr is ↦ inr (subst More (sym is) more) ];
  enough = λ e h. elim (s.enough e h) [
    | inl i ↦ inl (accounts_more level b c (λ e. e ≡ x) t e i)
    | inr l ↦ elim (left e l) [
      | inl is ↦ elim (t.enough e (inr is)) [ inl i ↦ inl i | inr none ↦ absurd none ]
      | inr rest ↦ inr rest
    ]
  ];
}

-- ---- a place that was filled, or left as it was
module _ {K V : Type 0} {R : K → K → Ordering} (m n : BTreeMap K (Option V)) (key : K) (there filled : Option V) (at : Some there ≡ get R m key) (exact : CmpEqualImpliesEq R)
    (put : (q : K) → get R n q ≡ cond (is_at (R key) q) (Some filled) (get R m q)) where
  was_at : (q : K) → is_at (R key) q ≡ true → get R m q ≡ Some there
  was_at q t = ap (get R m) (sym (exact key q ((Equal-is _).0 t))) ∙ sym at

  pub filled_at : (q : K) → there_at R n q ≡ cond (is_at (R key) q) filled (there_at R m q)
  filled_at q = ap placed (put q) ∙ inside (is_at (R key) q)
    where
      inside : (t : Bool) → placed (cond t (Some filled) (get R m q)) ≡ cond t filled (there_at R m q)
      inside true = refl
      inside false = refl

  pub left_at : filled ≡ there → (q : K) → there_at R n q ≡ there_at R m q
  left_at same q =
      elim (is_at (R key) q) as (λ t. is_at (R key) q ≡ t → there_at R n q ≡ there_at R m q) [
        | true ↦ λ t. ap placed (put q ∙ ap (λ b. cond b (Some filled) (get R m q)) t) ∙ same ∙ ap placed (sym (was_at q t))
        | false ↦ λ t. ap placed (put q ∙ ap (λ b. cond b (Some filled) (get R m q)) t)
      ] refl

  pub filled_stay : (q : K) → HasPlace R m q → HasPlace R n q
  filled_stay q has = subst IsSome (sym (put q)) (here (is_at (R key) q))
    where
      here : (t : Bool) → IsSome (cond t (Some filled) (get R m q))
      here true = refl
      here false = has

-- the same entries in other places
pub settles_alike : (level : ℕ) (a b : Entries) (More : Entry → Type 0) → HoldAlike a b → Settles level a More a NoneLeft → Settles level a More b NoneLeft
settles_alike level a b More alike s = record {
  fewer = λ e h. elim h [ inl r ↦ inl (inl (sym (alike.0 e.key) ∙ r)) | inr l ↦ inl (inr (sym (alike.1 (e.number, e.key)) ∙ l)) ];
  enough = λ e h. elim (s.enough e h) [
    | inr none ↦ absurd none
    | inl (inl i) ↦ inl (inl (there e i))
    | inl (inr (f, i, sup)) ↦ inl (inr (f, there f i, sup))
  ];
}
  where
    there : (e : Entry) → HasEntry a e → HasEntry b e
    there e (inl r) = inl (alike.0 e.key ∙ r)
    there e (inr l) = inr (alike.1 (e.number, e.key) ∙ l)

pub within_alike : (level : ℕ) (a b : Entries) → HoldAlike a b → ReadsWithin level a → ReadsWithin level b
within_alike level a b alike within key = subst (λ o. IfSome o (λ e. e.number ≤ level)) (sym (alike.0 key)) (within key)

pub late_alike : (level : ℕ) (a b : Entries) → HoldAlike a b → LateFrom level a b
late_alike level a b alike place = inl (alike.1 place)

-- ---- room
pub alike_reads : (a b : Entries) → ((q : List ℕ) → there_at (slice_cmp nat_cmp) b.reads q ≡ there_at (slice_cmp nat_cmp) a.reads q) → b.late ≡ a.late → HoldAlike a b
alike_reads a b reads late = (λ q. ap (option_map (entry_under q)) (reads q), λ p. ap (λ t. option_map (late_entry p) (there_at late_cmp t p)) late)

pub alike_late : (a b : Entries) → b.reads ≡ a.reads → ((q : ℕ × List ℕ) → there_at late_cmp b.late q ≡ there_at late_cmp a.late q) → HoldAlike a b
alike_late a b reads late = (λ q. ap (λ t. option_map (entry_under q) (there_at (slice_cmp nat_cmp) t q)) reads, λ p. ap (option_map (late_entry p)) (late p))

pub alike_trans : (a b c : Entries) → HoldAlike a b → HoldAlike b c → HoldAlike a c
alike_trans a b c s t = (λ q. t.0 q ∙ s.0 q, λ p. t.1 p ∙ s.1 p)

pub alike_itself : (a : Entries) → HoldAlike a a
alike_itself a = (λ q. refl, λ p. refl)

pub roomy_reads :
    (level : ℕ) (a b : Entries) → ((q : List ℕ) → HasPlace (slice_cmp nat_cmp) a.reads q → HasPlace (slice_cmp nat_cmp) b.reads q) → b.late ≡ a.late
    → IsRoomyTo level a → IsRoomyTo level b
roomy_reads level a b stay late roomy p has up = stay p.1 (roomy p (subst (λ t. HasPlace late_cmp t p) late has) up)

-- ---- lists of entries
pub late_trans : (level : ℕ) (a b c : Entries) → LateFrom level a b → LateFrom level b c → LateFrom level a c
late_trans level a b c s t q = elim (t q) [
  | inr past ↦ inr past
  | inl same ↦ elim (s q) [ inl was ↦ inl (same ∙ was) | inr past ↦ inr past ]
]

pub in_map : {A B : Type 0} (f : A → B) (xs : List A) (x : A) → In x xs → In (f x) (map f xs)
in_map f [] x i = absurd i
in_map f (y ∷ ys) x (inl e) = inl (ap f e)
in_map f (y ∷ ys) x (inr i) = inr (in_map f ys x i)

pub map_step : {A B : Type 0} (f : A → B) (first : A) (all rest : List A) (y : B) → all ≡ first ∷ rest → In y (map f all) → (y ≡ f first) ⊎ In y (map f rest)
map_step f first all rest y e i = subst (λ xs. In y (map f xs)) e i

pub in_first : {A : Type 0} (first : A) (all rest : List A) → all ≡ first ∷ rest → In first all
in_first first all rest e = subst (In first) (sym e) (inl refl)

pub in_rest : {A : Type 0} (x first : A) (all rest : List A) → all ≡ first ∷ rest → In x rest → In x all
in_rest x first all rest e i = subst (In x) (sym e) (inr i)

pub settles_all :
    (level : ℕ) (a b : Entries) (More Left : Entry → Type 0) → Settles level a More b Left → ((e : Entry) → Left e → ⊥) → Settles level a More b NoneLeft
settles_all level a b More Left s none = record {
  fewer = s.fewer;
  enough = λ e h. elim (s.enough e h) [ inl i ↦ inl i | inr l ↦ absurd (none e l) ];
}
