-- What is read: the latest readable entry, if there is one.
use Rattle.std.proofs.Common.{ℕ, List, [], ◌∷◌, ◌++◌, ◌≡◌, ◌⊎◌, ◌≤◌, inl, inr, Bool, true, false, ◌&&◌, not, refl, sym, ap, ◌∙◌, subst, append-nil, append_assoc, arith}
use Rattle.std.specs.Prelude.{Option, Some, None, if◌then◌else◌}
use Rattle.std.specs.Option.{option_map}
use Rattle.std.specs.List.{list_any, fold}
use Rattle.std.specs.FinSet as set
use Rattle.std.proofs.lemmas.Bool.{false≢true, cases_Bool, cases_order, false_from_ne_true, and_parts, and_from, not-true}
use Rattle.pmg_value.specs.Lists.{In}
use Rattle.pmg_value.proofs.ListLemmas.{in_from_list_any, not_in_list_any, list_any_none, find_some, find_in, find_none, in_append_left, in_append_right, in_parts}
use Rattle.pmg_commit.specs.Entries.{Entry, is_later, is_readable, best_of_two}
use Rattle.pmg_commit.specs.Levels.{level}
use Rattle.pmg_commit.specs.Knowledge.{Knowledge, is_read, read, core}
use Rattle.pmg_commit.specs.EntryOrder.{Later, Readable, is_later-Decides, is_readable-Decides, later_itself, later_trans, below_cases}
use Rattle.pmg_commit.specs.CoreLaws.{Has, has_in, in_has, numbers-core, core_keeps, kept_in_core}
use Rattle.pmg_commit.specs.Tops.{top_of}

-- e can be read under the key, and no entry that can is later
pub record IsLatest (k : Knowledge) (key : List ℕ) (e : Entry) : Type 0 where
  pub has : Has k e
  pub readable : Readable (level k.numbers) key e
  pub last : (f : Entry) → Has k f → Readable (level k.numbers) key f → Later e f → ⊥

-- no entry can be read under the key
abbrev pub NoneReadable : Knowledge → List ℕ → Type 0
NoneReadable k key = (e : Entry) → Has k e → Readable (level k.numbers) key e → ⊥

-- f can be read under the key, and is later than e
is_above : ℕ → List ℕ → Entry → Entry → Bool
is_above n key e f = is_readable n key f && is_later e f

above_parts : (n : ℕ) (key : List ℕ) (e f : Entry) → is_above n key e f ≡ true → Readable n key f × Later e f
unfolding is_above
above_parts n key e f h =
    let parts = and_parts (is_readable n key f) (is_later e f) h in
    ((is_readable-Decides n key f).0 parts.0, (is_later-Decides e f).0 parts.1)

above_from : (n : ℕ) (key : List ℕ) (e f : Entry) → Readable n key f → Later e f → is_above n key e f ≡ true
unfolding is_above
above_from n key e f r l = and_from _ _ ((is_readable-Decides n key f).1 r) ((is_later-Decides e f).1 l)

none_above : (k : Knowledge) (key : List ℕ) (e : Entry) → list_any (is_above (level k.numbers) key e) (set.items k.entries) ≡ false → (f : Entry) → Has k f → Readable (level k.numbers) key f → Later e f → ⊥
none_above k key e none f h r l =
    false≢true (sym (not_in_list_any (is_above (level k.numbers) key e) (set.items k.entries) none f (has_in k f h)) ∙ above_from (level k.numbers) key e f r l)

latest_from_test : (k : Knowledge) (key : List ℕ) (e : Entry) → Has k e → is_read k key e ≡ true → IsLatest k key e
unfolding is_above
latest_from_test k key e h t =
    let parts = and_parts (is_readable (level k.numbers) key e) _ t in
    record {
      has = h;
      readable = (is_readable-Decides (level k.numbers) key e).0 parts.0;
      last = none_above k key e (not-true _ parts.1);
    }

test_from_latest : (k : Knowledge) (key : List ℕ) (e : Entry) → IsLatest k key e → is_read k key e ≡ true
unfolding is_above
test_from_latest k key e l =
    and_from _ _ ((is_readable-Decides (level k.numbers) key e).1 l.readable)
    (ap not (list_any_none (is_above (level k.numbers) key e) (set.items k.entries) (λ f i. false_from_ne_true _ (λ h.
    let parts = above_parts (level k.numbers) key e f h in l.last f (in_has k f i) parts.0 parts.1))))

-- two latest entries have the same bytes
latest_alike : (k : Knowledge) (key : List ℕ) (e f : Entry) → IsLatest k key e → IsLatest k key f → e.bytes ≡ f.bytes
latest_alike k key e f a b =
    let not_ef = a.last f b.has b.readable in
    let not_fe = b.last e a.has a.readable in
    let same : e.number ≡ f.number = same_number e f not_ef not_fe in
    elim (below_cases e.bytes f.bytes) [
      | inl h ↦ absurd (not_ef (inr (same, h)))
      | inr (inl h) ↦ h
      | inr (inr h) ↦ absurd (not_fe (inr (sym same, h)))
    ]
  where
    same_number : (e f : Entry) → (Later e f → ⊥) → (Later f e → ⊥) → e.number ≡ f.number
    same_number e f p q = elim (cases_order e.number f.number) [
      | inl same ↦ same
      | inr (inl h) ↦ absurd (p (inl h))
      | inr (inr h) ↦ absurd (q (inl h))
    ]

pub read_latest : (k : Knowledge) (key : List ℕ) (e : Entry) → IsLatest k key e → read k key ≡ Some e.bytes
unfolding read
read_latest k key e l =
    let found = find_in (is_read k key) (set.items k.entries) e (has_in k e l.has) (test_from_latest k key e l) in
    let f = found.0 in
    let facts = find_some (is_read k key) (set.items k.entries) f found.1 in
    let other = latest_from_test k key f (in_has k f facts.0) facts.1 in
    ap (option_map (λ (g : Entry). g.bytes)) found.1 ∙ ap Some (latest_alike k key f e other l)

pub read_none : (k : Knowledge) (key : List ℕ) → NoneReadable k key → read k key ≡ None
unfolding read
read_none k key none =
    ap (option_map (λ (g : Entry). g.bytes)) (find_none (is_read k key) (set.items k.entries) (λ e i. false_from_ne_true _ (λ h.
    let l = latest_from_test k key e (in_has k e i) h in none e (in_has k e i) l.readable)))

pub latest_of : (k : Knowledge) (key : List ℕ) → ((e : Entry) × IsLatest k key e) ⊎ NoneReadable k key
latest_of k key =
    let n = level k.numbers in
    elim (cases_Bool (list_any (is_readable n key) (set.items k.entries))) [
      | inl some ↦
          let found = in_from_list_any (is_readable n key) (set.items k.entries) some in
          let e = found.0 in
          elim (top_of (is_above n key) (λ f h. later_itself f (above_parts n key f f h).1)
          (λ a b c p q. let x = above_parts n key a b p in let y = above_parts n key b c q in above_from n key a c y.0 (later_trans a b c x.1 y.1)) (set.items k.entries) e) [
            | inl none ↦ inl (e, record { has = in_has k e found.1; readable = (is_readable-Decides n key e).0 found.2; last = none_above k key e none })
            | inr top ↦ inl (top.0, record { has = in_has k top.0 top.1; readable = (above_parts n key e top.0 top.2).0; last = none_above k key top.0 top.3 })
          ]
      | inr none ↦ inr (λ e h r. false≢true (sym (not_in_list_any (is_readable n key) (set.items k.entries) none e (has_in k e h)) ∙ (is_readable-Decides n key e).1 r))
    ]

pub read-core : (k : Knowledge) (key : List ℕ) → read (core k) key ≡ read k key
read-core k key =
    let levels : level (core k).numbers ≡ level k.numbers = ap level (numbers-core k) in
    let there : (e : Entry) → Readable (level k.numbers) key e → Readable (level (core k).numbers) key e = λ e. subst (λ n. Readable n key e) (sym levels) in
    let back : (e : Entry) → Readable (level (core k).numbers) key e → Readable (level k.numbers) key e = λ e. subst (λ n. Readable n key e) levels in
    elim (latest_of k key) [
      | inl l ↦
          let e = l.0 in
          let kept = kept_in_core k e (l.1.has, λ f h s. l.1.last f h (l.1.readable.0 ∙ s.0.0, upto e f (level k.numbers) l.1.readable.1 s.1) s.0.1) in
          read_latest (core k) key e (record { has = kept; readable = there e l.1.readable; last = λ f h r. l.1.last f (core_keeps k f h).0 (back f r) })
          ∙ sym (read_latest k key e l.1)
      | inr none ↦ read_none (core k) key (λ e h r. none e (core_keeps k e h).0 (back e r)) ∙ sym (read_none k key none)
    ]
  where
    upto : (e f : Entry) (n : ℕ) → e.number ≤ n → (f.number ≤ n) ⊎ (e.number ≡ f.number) → f.number ≤ n
    upto e f n h (inl a) = a
    upto e f n h (inr b) = omega arith

-- ---- the best of a list of entries is what is read
abbrev pub IsBest : ℕ → List ℕ → List Entry → Option Entry → Type 0
IsBest n key es None = (f : Entry) → In f es → Readable n key f → ⊥
IsBest n key es (Some e) = In e es × Readable n key e × ((f : Entry) → In f es → Readable n key f → Later e f → ⊥)

best_push : (n : ℕ) (key : List ℕ) (es : List Entry) (o : Option Entry) (x : Entry) → IsBest n key es o → IsBest n key (es ++ x ∷ []) (best_of_two n key o x)
unfolding is_above
best_push n key es None x best =
    elim (is_readable n key x) as (λ b. is_readable n key x ≡ b → IsBest n key (es ++ x ∷ []) (if b then Some x else None)) [
      | true ↦ λ t. (
        in_append_right es (x ∷ []) x (inl refl),
        (is_readable-Decides n key x).0 t,
        λ f i r l. elim (in_parts es (x ∷ []) f i) [
          | inl a ↦ best f a r
          | inr (inl same) ↦ later_itself x (subst (Later x) same l)
          | inr (inr none) ↦ none
        ],
      )
      | false ↦ λ t. λ f i r. elim (in_parts es (x ∷ []) f i) [
        | inl a ↦ best f a r
        | inr (inl same) ↦ false≢true (sym t ∙ (is_readable-Decides n key x).1 (subst (Readable n key) same r))
        | inr (inr none) ↦ none
      ]
    ] refl
best_push n key es (Some e) x best =
    elim (is_above n key e x) as (λ b. is_above n key e x ≡ b → IsBest n key (es ++ x ∷ []) (if b then Some x else Some e)) [
      | true ↦ λ t. let above = above_parts n key e x t in (
        in_append_right es (x ∷ []) x (inl refl),
        above.0,
        λ f i r l. elim (in_parts es (x ∷ []) f i) [
          | inl a ↦ best.2 f a r (later_trans e x f above.1 l)
          | inr (inl same) ↦ later_itself x (subst (Later x) same l)
          | inr (inr none) ↦ none
        ],
      )
      | false ↦ λ t. (
        in_append_left es (x ∷ []) e best.0,
        best.1,
        λ f i r l. elim (in_parts es (x ∷ []) f i) [
          | inl a ↦ best.2 f a r l
          | inr (inl same) ↦ false≢true (sym t ∙ above_from n key e x (subst (Readable n key) same r) (subst (Later e) same l))
          | inr (inr none) ↦ none
        ],
      )
    ] refl

pub best_of_all : (n : ℕ) (key : List ℕ) (es xs : List Entry) (o : Option Entry) → IsBest n key es o → IsBest n key (es ++ xs) (fold (best_of_two n key) o xs)
best_of_all n key es [] o best = subst (λ l. IsBest n key l o) (sym (append-nil es)) best
best_of_all n key es (x ∷ xs) o best =
    subst (λ l. IsBest n key l (fold (best_of_two n key) (best_of_two n key o x) xs)) (append_assoc es (x ∷ []) xs)
    (best_of_all n key (es ++ x ∷ []) xs (best_of_two n key o x) (best_push n key es o x best))

-- the best of entries of k, among which are all that can be read, is what is read
pub best_read : (k : Knowledge) (key : List ℕ) (es : List Entry) → ((e : Entry) → Has k e → Readable (level k.numbers) key e → In e es) → ((e : Entry) → In e es → Has k e)
    → (o : Option Entry) → IsBest (level k.numbers) key es o → option_map (λ e. e.bytes) o ≡ read k key
best_read k key es there back None best = sym (read_none k key (λ e h r. best e (there e h r) r))
best_read k key es there back (Some e) best = sym (read_latest k key e (record { has = back e best.0; readable = best.1; last = λ f h r l. best.2 f (there f h r) r l }))

-- es are the entries of k
pub read_best : (k : Knowledge) (key : List ℕ) (es : List Entry) → ((e : Entry) → Has k e → In e es) → ((e : Entry) → In e es → Has k e)
    → option_map (λ e. e.bytes) (fold (best_of_two (level k.numbers) key) None es) ≡ read k key
read_best k key es there back =
    best_read k key es (λ e h r. there e h) back (fold (best_of_two (level k.numbers) key) None es) (best_of_all (level k.numbers) key [] es None (λ f i r. i))
