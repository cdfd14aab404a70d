-- Entries that wait, and what is kept beside them.
use Rattle.std.proofs.Common.{arith, ℕ, List, [], ◌∷◌, map, length, ◌≡◌, ◌<◌, ◌≤◌, ◌⊎◌, inl, inr, Bool, true, false, not, ◌==◌, ◌&&◌, nat_lt, nat_le, cond, refl, sym, ap, ◌∙◌, subst}
use Rattle.std.specs.Prelude.{Option, Some, None, IsSome}
use Rattle.std.specs.List.{list_all, flat_map, AllByRecursion}
use Rattle.std.specs.Cmp.{Equal-is, ranked}
use Rattle.std.specs.declared.cmp.Ordering.TheVariants.{Less}
use Rattle.std.specs.Cmp.Lexicographic.{pointwise_decides}
use Rattle.std.specs.Ordering.{nat_cmp, is_eq}
use Rattle.std.specs.BTreeMap.{BTreeMap, get, keys, is_at}
use Rattle.std.specs.Global.{Vec}
use Rattle.std.proofs.lemmas.Bool.{leb-true, eqb-true, false≢true, ltb-true, and_parts, or_cases}
use Rattle.std.proofs.lemmas.Cmp.{nat_cmp_total, tied_itself}
use Rattle.std.proofs.lemmas.Map.Lookups.{exact_unsigned}
use Rattle.pmg_value.specs.Lists.{In}
use Rattle.pmg_value.proofs.ListLemmas.{in_parts, in_append_left, in_append_right}
use Rattle.pmg_value.proofs.RowLemmas.{key_there}
use Rattle.pmg_commit.specs.Entries.{Entry}
use Rattle.pmg_commit.specs.EntryOrder.{superseded_trans}
use Rattle.pmg_commit.specs.Pieces.{entry_of}
use Rattle.pmg_commit.specs.declared.piece.PieceEntry.{PieceEntry}
use Rattle.pmg_commit.proofs.SameEntries.{same_entries}
use Rattle.pmg_lane.specs.Entries.{HasEntry, HasPlaces, PlacesStay, Accounts, Settles, NoneLeft}
use Rattle.pmg_lane.specs.Waiting.{list_items, waiting_at, waiting_list, IsWaiting, AreFrom, AreAllFrom, WaitPast, is_free, can_wait, HaveEach, HasRoomUnder, HaveReached, IsStocked, AccountsFor, Stocks}
use Rattle.pmg_lane.specs.declared.entries.Entries.{Entries}
use Rattle.pmg_lane.proofs.Moving.{has_stays}

-- ---- numbers
pub all_from : (n : ℕ) (es : List PieceEntry) → list_all (λ e. nat_le n e.number) es ≡ true → AreFrom n es
all_from n [] all e i = absurd i
all_from n (x ∷ xs) all e (inl same) =
    let low : n ≤ x.number = leb-true n x.number (and_parts _ _ all).0 in omega (arith, low, ap (λ (y : PieceEntry). y.number) same)
all_from n (x ∷ xs) all e (inr i) = all_from n xs (and_parts _ _ all).1 e i

-- ---- those that wait, in a list
some_listed : (o : Option (Vec PieceEntry)) (e : Entry) → In e (map entry_of (list_items o)) → IsSome o
some_listed None e i = absurd i
some_listed (Some list) e i = refl

pub waits_listed : (lists : BTreeMap ℕ (Vec PieceEntry)) (e : Entry) → IsWaiting lists e → In e (waiting_list lists)
waits_listed lists e (n, i) = go (keys lists) (key_there exact_unsigned lists.entries n (some_listed (get nat_cmp lists n) e i))
  where
    go : (ks : List ℕ) → In n ks → In e (flat_map (λ n. map entry_of (waiting_at lists n)) ks)
    go [] k = absurd k
    go (q ∷ ks) (inl same) = in_append_left (map entry_of (waiting_at lists q)) _ e (subst (λ m. In e (map entry_of (waiting_at lists m))) same i)
    go (q ∷ ks) (inr k) = in_append_right (map entry_of (waiting_at lists q)) _ e (go ks k)

pub listed_waits : (lists : BTreeMap ℕ (Vec PieceEntry)) (e : Entry) → In e (waiting_list lists) → IsWaiting lists e
listed_waits lists e = go (keys lists)
  where
    go : (ks : List ℕ) → In e (flat_map (λ n. map entry_of (waiting_at lists n)) ks) → IsWaiting lists e
    go [] i = absurd i
    go (q ∷ ks) i = elim (in_parts (map entry_of (waiting_at lists q)) (flat_map (λ n. map entry_of (waiting_at lists n)) ks) e i) [
      | inl here ↦ (q, here)
      | inr rest ↦ go ks rest
    ]

-- ---- room
-- there are places for what the other has places for at the level
abbrev pub StayAt : ℕ → Entries → Entries → Type 0
StayAt level a b = (n : ℕ) (key : List ℕ) → HasPlaces a level n key → HasPlaces b level n key

pub stay_at : (level : ℕ) (a b : Entries) → PlacesStay a b → StayAt level a b
stay_at level a b stay n key has = has_stays a b level n key stay has

pub reached_stay : (a b : Entries) (lists : BTreeMap ℕ (Vec PieceEntry)) (level : ℕ) → StayAt level a b → HaveReached a lists level → HaveReached b lists level
reached_stay a b lists level stay have n up e i = stay e.number e.key (have n up e i)

-- room stays where nothing more waits under the number
pub room_stays :
    (a b : Entries) (lists others : BTreeMap ℕ (Vec PieceEntry)) (level n : ℕ) (es : List PieceEntry) → StayAt level a b
    → (level < n → waiting_at others n ≡ waiting_at lists n) → (level < n → IsSome (get nat_cmp lists n) → IsSome (get nat_cmp others n))
    → HasRoomUnder a lists level n es → HasRoomUnder b others level n es
room_stays a b lists others level n es stay same kept room = (waits, places)
  where
    past : (m : BTreeMap ℕ (Vec PieceEntry)) → can_wait m level n es ≡ true → level < n
    past m can = ltb-true level n (and_parts (nat_lt level n) (is_free (waiting_at m n) es) (and_parts (not (length es == 0)) (nat_lt level n && is_free (waiting_at m n) es) can).1).0

    waits : can_wait others level n es ≡ true → IsSome (get nat_cmp others n)
    waits can =
        let over = past others can in
        kept over (room.0 (ap (λ there. not (length es == 0) && (nat_lt level n && is_free there es)) (sym (same over)) ∙ can))

    places : can_wait others level n es ≡ false → HaveEach b level es
    places cannot e i = stay e.number e.key (room.1 (was (can_wait lists level n es) refl) e i)
      where
        was : (t : Bool) → can_wait lists level n es ≡ t → can_wait lists level n es ≡ false
        was false h = h
        was true h = absurd (false≢true (sym cannot ∙ ap (λ there. not (length es == 0) && (nat_lt level n && is_free there es)) (same (past lists h)) ∙ h))

-- ---- one after the other
pub accounts_for_more :
    (level : ℕ) (b c : Entries) (others last : BTreeMap ℕ (Vec PieceEntry)) (More : Entry → Type 0) → Stocks level b others More c last NoneLeft → (e : Entry)
    → AccountsFor level b others e → AccountsFor level c last e
accounts_for_more level b c others last More s e (inl h) = elim (s.enough e (inl h)) [ inl a ↦ a | inr none ↦ absurd none ]
accounts_for_more level b c others last More s e (inr (f, h, sup)) = elim (s.enough f (inl h)) [
  | inr none ↦ absurd none
  | inl (inl i) ↦ inr (f, i, sup)
  | inl (inr (g, i, more)) ↦ inr (g, i, superseded_trans level e f g sup more)
]

-- some of those that were left are taken too
pub stocks_next :
    (level : ℕ) (a b c : Entries) (lists others last : BTreeMap ℕ (Vec PieceEntry)) (More Left These Rest : Entry → Type 0) → Stocks level a lists More b others Left
    → Stocks level b others These c last NoneLeft → ((e : Entry) → These e → More e) → ((e : Entry) → Left e → These e ⊎ Rest e) → Stocks level a lists More c last Rest
stocks_next level a b c lists others last More Left These Rest s t more left = record {
  fewer = λ e h. elim (t.fewer e h) [ inl i ↦ s.fewer e i | inr is ↦ inr (more e is) ];
  enough = λ e h. elim (s.enough e h) [
    | inl i ↦ inl (accounts_for_more level b c others last These t e i)
    | inr l ↦ elim (left e l) [
      | inl is ↦ elim (t.enough e (inr is)) [ inl i ↦ inl i | inr none ↦ absurd none ]
      | inr rest ↦ inr rest
    ]
  ];
}

-- what was taken first had nothing more
pub stocks_then :
    (level : ℕ) (a b c : Entries) (lists others last : BTreeMap ℕ (Vec PieceEntry)) (More : Entry → Type 0) → Stocks level a lists NoneLeft b others NoneLeft
    → Stocks level b others More c last NoneLeft → Stocks level a lists More c last NoneLeft
stocks_then level a b c lists others last More s t = record {
  fewer = λ e h. elim (t.fewer e h) [ inr is ↦ inr is | inl i ↦ elim (s.fewer e i) [ inl was ↦ inl was | inr none ↦ absurd none ] ];
  enough = λ e h. elim h [
    | inr is ↦ t.enough e (inr is)
    | inl was ↦ elim (s.enough e (inl was)) [ inl i ↦ inl (accounts_for_more level b c others last More t e i) | inr none ↦ absurd none ]
  ];
}

-- what settles among those that are kept, where the same wait
pub settles_stocks :
    (level : ℕ) (a b : Entries) (lists : BTreeMap ℕ (Vec PieceEntry)) (More : Entry → Type 0) → Settles level a More b NoneLeft → Stocks level a lists More b lists NoneLeft
settles_stocks level a b lists More s = record { fewer = fewer; enough = enough }
  where
    fewer : (e : Entry) → IsStocked b lists e → IsStocked a lists e ⊎ More e
    fewer e (inl h) = elim (s.fewer e h) [ inl i ↦ inl (inl i) | inr is ↦ inr is ]
    fewer e (inr w) = inl (inr w)

    accounts : (e : Entry) → Accounts level b e → AccountsFor level b lists e
    accounts e (inl h) = inl (inl h)
    accounts e (inr (f, h, sup)) = inr (f, inl h, sup)

    settled : (e : Entry) → HasEntry a e ⊎ More e → AccountsFor level b lists e ⊎ NoneLeft e
    settled e h = elim (s.enough e h) [ inl i ↦ inl (accounts e i) | inr none ↦ absurd none ]

    enough : (e : Entry) → IsStocked a lists e ⊎ More e → AccountsFor level b lists e ⊎ NoneLeft e
    enough e (inl (inl h)) = settled e (inl h)
    enough e (inl (inr w)) = inl (inl (inr w))
    enough e (inr is) = settled e (inr is)

-- nothing changes
pub stocks_itself : (level : ℕ) (a : Entries) (lists : BTreeMap ℕ (Vec PieceEntry)) (More : Entry → Type 0) → Stocks level a lists More a lists More
stocks_itself level a lists More = record {
  fewer = λ e h. inl h;
  enough = λ e h. elim h [ inl i ↦ inl (inl i) | inr more ↦ inr more ];
}

-- ---- a list that was put
is_there : (there es : List PieceEntry) → is_free there es ≡ true → (e : Entry) → In e (map entry_of there) → In e (map entry_of es)
is_there [] es free e i = absurd i
is_there (x ∷ xs) es free e i = elim (or_cases _ _ free) [
  | inl none ↦ let bad = eqb-true (length (x ∷ xs)) 0 none in absurd (omega (arith, bad))
  | inr same ↦ subst (In e) ((pointwise_decides same_entries (map entry_of (x ∷ xs)) (map entry_of es)).0 same) i
]

module _ (a : Entries) (lists others : BTreeMap ℕ (Vec PieceEntry)) (level n : ℕ) (es : List PieceEntry) (can : can_wait lists level n es ≡ true)
    (put : (m : ℕ) → waiting_at others m ≡ cond (is_at (nat_cmp n) m) es (waiting_at lists m)) where
  free : is_free (waiting_at lists n) es ≡ true
  free = (and_parts _ _ (and_parts _ _ can).1).1

  pub past_number : level < n
  past_number = ltb-true level n (and_parts _ _ (and_parts _ _ can).1).0

  cases : (m : ℕ) → (n ≡ m) × (waiting_at others m ≡ es) ⊎ (waiting_at others m ≡ waiting_at lists m)
  cases m =
      elim (is_at (nat_cmp n) m) as (λ t. is_at (nat_cmp n) m ≡ t → (n ≡ m) × (waiting_at others m ≡ es) ⊎ (waiting_at others m ≡ waiting_at lists m)) [
        | true ↦ λ t. inl (exact_unsigned n m ((Equal-is _).0 t), put m ∙ ap (λ b. cond b es (waiting_at lists m)) t)
        | false ↦ λ t. inr (put m ∙ ap (λ b. cond b es (waiting_at lists m)) t)
      ] refl

  here : waiting_at others n ≡ es
  here = elim (cases n) [ inl is ↦ is.1 | inr same ↦ put n ∙ ap (λ b. cond b es (waiting_at lists n)) at_itself ]
    where
      at_itself : is_at (nat_cmp n) n ≡ true
      at_itself = ap is_eq (tied_itself nat_cmp_total n)

  pub list_stocks : Stocks level a lists (λ e. In e (map entry_of es)) a others NoneLeft
  list_stocks = record { fewer = fewer; enough = enough }
    where
      fewer : (e : Entry) → IsStocked a others e → IsStocked a lists e ⊎ In e (map entry_of es)
      fewer e (inl h) = inl (inl h)
      fewer e (inr (m, i)) = elim (cases m) [
        | inl is ↦ inr (subst (λ there. In e (map entry_of there)) is.1 i)
        | inr same ↦ inl (inr (m, subst (λ there. In e (map entry_of there)) same i))
      ]

      enough : (e : Entry) → IsStocked a lists e ⊎ In e (map entry_of es) → AccountsFor level a others e ⊎ NoneLeft e
      enough e (inr i) = inl (inl (inr (n, subst (λ there. In e (map entry_of there)) (sym here) i)))
      enough e (inl (inl h)) = inl (inl (inl h))
      enough e (inl (inr (m, i))) = elim (cases m) [
        | inr same ↦ inl (inl (inr (m, subst (λ there. In e (map entry_of there)) (sym same) i)))
        | inl is ↦ inl (inl (inr (
          m,
          subst (λ there. In e (map entry_of there)) (sym is.1)
              (is_there (waiting_at lists n) es free e (subst (λ q. In e (map entry_of (waiting_at lists q))) (sym is.0) i)),
        )))
      ]

  pub list_numbered : AreAllFrom lists → AreFrom n es → AreAllFrom others
  list_numbered numbered from m e i = elim (cases m) [
    | inl is ↦ let low = from e (subst (In e) is.1 i) in omega (arith, low, is.0)
    | inr same ↦ numbered m e (subst (In e) same i)
  ]

  pub list_past : WaitPast level lists → WaitPast level others
  list_past past m e i = elim (cases m) [
    | inl is ↦ let over = past_number in omega (arith, over, is.0)
    | inr same ↦ past m e (subst (In e) same i)
  ]

-- ---- a list that was taken out
module _ (lists others : BTreeMap ℕ (Vec PieceEntry)) (n : ℕ) (taken : (m : ℕ) → get nat_cmp others m ≡ cond (is_at (nat_cmp n) m) None (get nat_cmp lists m)) where
  pub left_out : (m : ℕ) → (n ≡ m) × (get nat_cmp others m ≡ None) ⊎ (get nat_cmp others m ≡ get nat_cmp lists m)
  left_out m =
      elim (is_at (nat_cmp n) m) as (λ t. is_at (nat_cmp n) m ≡ t → (n ≡ m) × (get nat_cmp others m ≡ None) ⊎ (get nat_cmp others m ≡ get nat_cmp lists m)) [
        | true ↦ λ t. inl (exact_unsigned n m ((Equal-is _).0 t), taken m ∙ ap (λ b. cond b None (get nat_cmp lists m)) t)
        | false ↦ λ t. inr (taken m ∙ ap (λ b. cond b None (get nat_cmp lists m)) t)
      ] refl

  -- what is left waited
  pub left_waits : (m : ℕ) (e : PieceEntry) → In e (waiting_at others m) → In e (waiting_at lists m)
  left_waits m e i = elim (left_out m) [
    | inl gone ↦ absurd (subst (λ o. In e (list_items o)) gone.1 i)
    | inr same ↦ subst (λ o. In e (list_items o)) same i
  ]

  pub left_numbered : AreAllFrom lists → AreAllFrom others
  left_numbered numbered m e i = numbered m e (left_waits m e i)

  -- what waited is in the list, or left
  pub waits_left : (e : Entry) → IsWaiting lists e → In e (map entry_of (waiting_at lists n)) ⊎ IsWaiting others e
  waits_left e (m, i) = elim (left_out m) [
    | inl gone ↦ inl (subst (λ q. In e (map entry_of (waiting_at lists q))) (sym gone.0) i)
    | inr same ↦ inr (m, subst (λ o. In e (map entry_of (list_items o))) (sym same) i)
  ]

  pub left_is : (e : Entry) → IsWaiting others e → IsWaiting lists e
  left_is e (m, i) = elim (left_out m) [
    | inl gone ↦ absurd (subst (λ o. In e (map entry_of (list_items o))) gone.1 i)
    | inr same ↦ (m, subst (λ o. In e (map entry_of (list_items o))) same i)
  ]

-- those of a list that was taken out are put
module _ (level : ℕ) (a b : Entries) (lists others : BTreeMap ℕ (Vec PieceEntry)) (n : ℕ) (es : List PieceEntry) (there : waiting_at lists n ≡ es)
    (taken : (m : ℕ) → get nat_cmp others m ≡ cond (is_at (nat_cmp n) m) None (get nat_cmp lists m))
    (settles : Settles level a (λ e. In e (map entry_of es)) b NoneLeft) where
  pub popped_stocks : Stocks level a lists NoneLeft b others NoneLeft
  popped_stocks = record { fewer = fewer; enough = enough }
    where
      fewer : (e : Entry) → IsStocked b others e → IsStocked a lists e ⊎ NoneLeft e
      fewer e (inr w) = inl (inr (left_is lists others n taken e w))
      fewer e (inl h) = elim (settles.fewer e h) [
        | inl i ↦ inl (inl i)
        | inr i ↦ inl (inr (n, subst (λ there. In e (map entry_of there)) (sym there) i))
      ]

      settled : (e : Entry) → HasEntry a e ⊎ In e (map entry_of es) → AccountsFor level b others e ⊎ NoneLeft e
      settled e h = elim (settles.enough e h) [
        | inl (inl i) ↦ inl (inl (inl i))
        | inl (inr (f, i, sup)) ↦ inl (inr (f, inl i, sup))
        | inr none ↦ inr none
      ]

      enough : (e : Entry) → IsStocked a lists e ⊎ NoneLeft e → AccountsFor level b others e ⊎ NoneLeft e
      enough e (inl (inl h)) = settled e (inl h)
      enough e (inl (inr w)) = elim (waits_left lists others n taken e w) [
        | inl i ↦ settled e (inr (subst (λ there. In e (map entry_of there)) there i))
        | inr rest ↦ inl (inl (inr rest))
      ]
      enough e (inr none) = absurd none

-- ---- lists one after the other
-- no list is reached, of one past the level and those after it
pub none_up_to :
    (level n : ℕ) (ns : List ℕ) (m : ℕ) → level < n → AllByRecursion (λ q. nat_cmp n q ≡ Less) ns → In m (n ∷ ns) → m ≤ level → ⊥
none_up_to level n ns m over all (inl same) up = omega (arith, over, same, up)
none_up_to level n ns m over all (inr there) up = later ns all there
  where
    later : (qs : List ℕ) → AllByRecursion (λ q. nat_cmp n q ≡ Less) qs → In m qs → ⊥
    later [] h i = i
    later (q ∷ qs) h (inl same) = let more : n < q = ranked n q Less (sym h.0) in omega (arith, over, more, same, up)
    later (q ∷ qs) h (inr i) = later qs h.1 i

pub waits_somewhere : (lists : BTreeMap ℕ (Vec PieceEntry)) (n : ℕ) (e : PieceEntry) → In e (waiting_at lists n) → In n (keys lists)
waits_somewhere lists n e i = key_there exact_unsigned lists.entries n (some (get nat_cmp lists n) i)
  where
    some : (o : Option (Vec PieceEntry)) → In e (list_items o) → IsSome o
    some None i = absurd i
    some (Some list) i = refl

-- nothing needs no room
pub room_for_none : (a : Entries) (lists : BTreeMap ℕ (Vec PieceEntry)) (level n : ℕ) (es : List PieceEntry) → es ≡ [] → HasRoomUnder a lists level n es
room_for_none a lists level n es none = subst (HasRoomUnder a lists level n) (sym none) ((λ can. absurd (false≢true can)), (λ cannot e i. absurd i))

-- there is room for what is left of others once one list of them was put
pub room_rests :
    (a b : Entries) (lists others left rest : BTreeMap ℕ (Vec PieceEntry)) (level n : ℕ) → ((m : ℕ) → get nat_cmp rest m ≡ cond (is_at (nat_cmp n) m) None (get nat_cmp left m))
    → PlacesStay a b → ((m : ℕ) → is_at (nat_cmp n) m ≡ false → waiting_at others m ≡ waiting_at lists m)
    → ((m : ℕ) → IsSome (get nat_cmp lists m) → IsSome (get nat_cmp others m)) → ((m : ℕ) → HasRoomUnder a lists level m (waiting_at left m))
    → (m : ℕ) → HasRoomUnder b others level m (waiting_at rest m)
room_rests a b lists others left rest level n taken places same stay room m =
    elim (is_at (nat_cmp n) m) as (λ t. is_at (nat_cmp n) m ≡ t → HasRoomUnder b others level m (waiting_at rest m)) [
      | true ↦ λ t. room_for_none b others level m (waiting_at rest m) (ap list_items (taken m ∙ ap (λ b. cond b None (get nat_cmp left m)) t))
      | false ↦ λ t.
          subst (HasRoomUnder b others level m) (ap list_items (sym (taken m ∙ ap (λ b. cond b None (get nat_cmp left m)) t)))
          (room_stays a b lists others level m (waiting_at left m) (stay_at level a b places) (λ _. same m t) (λ _. stay m) (room m))
    ] refl

-- nothing is left where no list is
pub stocks_all :
    (level : ℕ) (a b : Entries) (lists others left : BTreeMap ℕ (Vec PieceEntry)) (More : Entry → Type 0) → Stocks level a lists More b others (IsWaiting left)
    → ((n : ℕ) → get nat_cmp left n ≡ None) → Stocks level a lists More b others NoneLeft
stocks_all level a b lists others left More s none = record {
  fewer = s.fewer;
  enough = λ e h. elim (s.enough e h) [
    | inl i ↦ inl i
    | inr (n, i) ↦ absurd (subst (λ o. In e (map entry_of (list_items o))) (none n) i)
  ];
}

-- two things are taken one after the other
pub stocks_both :
    (level : ℕ) (a b c : Entries) (lists others last : BTreeMap ℕ (Vec PieceEntry)) (More Next : Entry → Type 0) → Stocks level a lists More b others NoneLeft
    → Stocks level b others Next c last NoneLeft → Stocks level a lists (λ e. More e ⊎ Next e) c last NoneLeft
stocks_both level a b c lists others last More Next s t = record {
  fewer = λ e h. elim (t.fewer e h) [ inr is ↦ inr (inr is) | inl i ↦ elim (s.fewer e i) [ inl was ↦ inl was | inr is ↦ inr (inl is) ] ];
  enough = λ e h. elim h [
    | inr (inr is) ↦ t.enough e (inr is)
    | inr (inl is) ↦ elim (s.enough e (inr is)) [ inl i ↦ inl (accounts_for_more level b c others last Next t e i) | inr none ↦ absurd none ]
    | inl was ↦ elim (s.enough e (inl was)) [ inl i ↦ inl (accounts_for_more level b c others last Next t e i) | inr none ↦ absurd none ]
  ];
}
