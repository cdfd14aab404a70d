-- What is read once more is known.
use Rattle.std.proofs.Common.{arith, ℕ, suc, ◌+◌, List, [], ◌∷◌, ◌++◌, ◌≡◌, ◌<◌, ◌≤◌, ◌⊎◌, inl, inr, Bool, true, false, ◌&&◌, ◌||◌, cond, refl, sym, ap, ◌∙◌, subst}
use Rattle.std.specs.Prelude.{Option, Some, None, IfSome}
use Rattle.std.specs.Option.{option_map, option_to_list}
use Rattle.std.specs.Bool.{Decides}
use Rattle.std.specs.FinSet as set
use Rattle.std.specs.List.{flat_map, fold, AllByRecursion}
use Rattle.std.specs.Ordering.{is_gt}
use Rattle.std.specs.declared.cmp.Ordering.TheVariants.{Less}
use Rattle.std.proofs.lemmas.Bool.{false_from_ne_true, cases_lt}
use Rattle.std.proofs.lemmas.Bool.Decides.{Decides-or}
use Rattle.std.proofs.lemmas.Cmp.{nat_cmp_total}
use Rattle.std.proofs.lemmas.List.Sums.{fold-append}
use Rattle.pmg_value.specs.declared.value.Value.{Value}
use Rattle.pmg_value.specs.Lists.{In}
use Rattle.pmg_value.proofs.ListLemmas.{in_parts, in_append_left, in_append_right}
use Rattle.pmg_join.specs.Ranges.{Between, Covers}
use Rattle.pmg_join.proofs.RangeLemmas.{set_of-Decides, is_between-Decides}
use Rattle.pmg_commit.specs.Entries.{Entry, is_readable, is_later, best_of_two}
use Rattle.pmg_commit.specs.EntryOrder.{is_readable-Decides, Readable, Later, later_itself}
use Rattle.pmg_commit.specs.Levels.{level}
use Rattle.pmg_commit.specs.LevelLaws.{level_unique}
use Rattle.pmg_commit.specs.Knowledge.{union, read, numbers_between}
use Rattle.pmg_commit.specs.CoreLaws.{Has, has_union, union_has_left, union_has_right, level-union}
use Rattle.pmg_commit.proofs.Rules.{numbers_are_between}
use Rattle.pmg_commit.proofs.ReadLaws.{IsBest, best_of_all, best_read, read_best}
use Rattle.pmg_join.specs.Places.{there_at}
use Rattle.pmg_lane.specs.Entries.{late_cmp, late_entry, read_under, late_at, late_list}
use Rattle.pmg_lane.specs.Merged.{merged_knowledge, merged_level, told, IsMerged, level_joined}
use Rattle.pmg_lane.specs.Waiting.{IsStocked, waiting_list}
use Rattle.pmg_lane.proofs.Waits.{listed_waits, waits_listed}
use Rattle.pmg_lane.specs.declared.entries.Entries.{Entries}
use Rattle.pmg_lane.specs.declared.merged.Merged.{Merged}
use Rattle.pmg_lane.proofs.Promoting.{number_first}
use Rattle.pmg_lane.proofs.Settling.{key_read}
use Rattle.pmg_lane.proofs.Knowing.{has_holds, holds_has, level_known, list_read, read_listed, list_late, late_listed}
use Rattle.pmg_lane.proofs.Merging.{numbers_is, has_told, told_has, told_numbers}

-- ---- one entry more, and late entries past the level
pub not_read : (level : ℕ) (key : List ℕ) (e : Entry) → level < e.number → is_readable level key e ≡ false
not_read level key e over = false_from_ne_true _ (λ h. let up = ((is_readable-Decides level key e).0 h).1 in absurd (omega (arith, over, up)))

pub passed : (level : ℕ) (key : List ℕ) (o : Option Entry) (e : Entry) → is_readable level key e ≡ false → best_of_two level key o e ≡ o
passed level key None e h = ap (λ b. cond b (Some e) None) h
passed level key (Some best) e h = ap (λ b. cond (b && is_later best e) (Some e) (Some best)) h

-- the entry, which has that key
named : (level : ℕ) (key : List ℕ) (e : Entry) → is_readable level key e ≡ true → e ≡ record { key = key; number = e.number; bytes = e.bytes }
named level key e h = let same = ((is_readable-Decides level key e).0 h).0 in λ i. record { key = sym same i; number = e.number; bytes = e.bytes }

-- f is the later of the two, where e has the key
pub next_seen :
    (level : ℕ) (key : List ℕ) (best e f : Entry) → is_readable level key e ≡ true
    → f ≡ (let named : Entry = record { key = key; number = e.number; bytes = e.bytes } in cond (is_later best named) named best) → Some f ≡ best_of_two level key (Some best) e
next_seen level key best e f h is =
    ap Some (is ∙ ap (λ (g : Entry). cond (is_later best g) g best) (sym (named level key e h)))
    ∙ chosen (is_later best e)
    ∙ sym (ap (λ b. cond (b && is_later best e) (Some e) (Some best)) h)
  where
    chosen : (b : Bool) → Some (cond b e best) ≡ cond b (Some e) (Some best)
    chosen true = refl
    chosen false = refl

one_past : (level : ℕ) (key : List ℕ) (o late : Option Entry) (rest : List Entry) → IfSome late (λ e. level < e.number)
    → fold (best_of_two level key) o (option_to_list late ++ rest) ≡ fold (best_of_two level key) o rest
one_past level key o None rest over = refl
one_past level key o (Some e) rest over = ap (λ o. fold (best_of_two level key) o rest) (passed level key o e (not_read level key e over))

late_past : (a : Entries) (place : ℕ × List ℕ) (level : ℕ) → level < place.0 → IfSome (late_at a place) (λ e. level < e.number)
late_past a place level over = go (there_at late_cmp a.late place)
  where
    go : (o : Option Value) → IfSome (option_map (late_entry place) o) (λ e. level < e.number)
    go None = tt
    go (Some v) = over

-- no place of the rest is reached, and the first is past the level
pub none_reached :
    (a : Entries) (level : ℕ) (key : List ℕ) (o : Option Entry) (place : ℕ × List ℕ) (places : List (ℕ × List ℕ)) → level < place.0 → AllByRecursion (λ p. late_cmp place p ≡ Less) places
    → fold (best_of_two level key) o (flat_map (λ p. option_to_list (late_at a p)) (place ∷ places)) ≡ o
none_reached a level key o place places over all = one_past level key o (late_at a place) _ (late_past a place level over) ∙ others places all
  where
    others : (ps : List (ℕ × List ℕ)) → AllByRecursion (λ p. late_cmp place p ≡ Less) ps → fold (best_of_two level key) o (flat_map (λ p. option_to_list (late_at a p)) ps) ≡ o
    others [] h = refl
    others (p ∷ ps) h =
        let up = number_first place p (ap is_gt h.0) in
        one_past level key o (late_at a p) _ (late_past a p level (omega (arith, over, up))) ∙ others ps h.1

-- a late place more
pub late_seen :
    (a : Entries) (level : ℕ) (key : List ℕ) (o next : Option Entry) (place : ℕ × List ℕ) (places : List (ℕ × List ℕ))
    → next ≡ fold (best_of_two level key) o (option_to_list (late_at a place))
    → fold (best_of_two level key) next (flat_map (λ p. option_to_list (late_at a p)) places)
    ≡ fold (best_of_two level key) o (flat_map (λ p. option_to_list (late_at a p)) (place ∷ places))
late_seen a level key o next place places is =
    let rest = flat_map (λ p. option_to_list (late_at a p)) places in
    ap (λ o. fold (best_of_two level key) o rest) is ∙ sym (fold-append (best_of_two level key) o (option_to_list (late_at a place)) rest)

-- ---- levels
pub level_with_more :
    (t : Merged) (from to n : ℕ) → ((i : ℕ) → 0 < i → i ≤ n → Covers t.taken.ends i ⊎ Between from to i)
    → (Covers t.taken.ends (suc n) ⊎ Between from to (suc n) → ⊥) → n ≡ level (set.union (merged_knowledge t).numbers (numbers_between from to))
level_with_more t from to n reached no_more =
    let all = set.union (merged_knowledge t).numbers (numbers_between from to) in
    let next : n + 1 ≡ suc n = omega arith in
    level_unique all n (
      λ i some up. (decides i).1 (reached i some up),
      false_from_ne_true (set.contains all (n + 1)) (λ h. no_more ((decides (suc n)).0 (ap (set.contains all) (sym next) ∙ h))),
    )
  where
    decides : (i : ℕ) → Decides (set.contains (set.union (merged_knowledge t).numbers (numbers_between from to)) i) (Covers t.taken.ends i ⊎ Between from to i)
    decides i =
        subst (λ b. Decides b (Covers t.taken.ends i ⊎ Between from to i))
        (sym (set.contains-union nat_cmp_total (merged_knowledge t).numbers (numbers_between from to) i
        ∙ (λ k. set.contains (numbers_is t k) i || numbers_are_between from to i k)))
        (Decides-or _ _ (set_of-Decides t.taken.ends i) (is_between-Decides from to i))

pub level_with_joined :
    (t o : Merged) (n : ℕ) → ((i : ℕ) → 0 < i → i ≤ n → Covers t.taken.ends i ⊎ Covers o.taken.ends i)
    → (Covers t.taken.ends (suc n) ⊎ Covers o.taken.ends (suc n) → ⊥) → n ≡ level_joined t o
level_with_joined t o n reached no_more =
    let all = set.union (merged_knowledge t).numbers (merged_knowledge o).numbers in
    let next : n + 1 ≡ suc n = omega arith in
    level_unique all n (
      λ i some up. (decides i).1 (reached i some up),
      false_from_ne_true (set.contains all (n + 1)) (λ h. no_more ((decides (suc n)).0 (ap (set.contains all) (sym next) ∙ h))),
    )
  where
    decides : (i : ℕ) → Decides (set.contains (set.union (merged_knowledge t).numbers (merged_knowledge o).numbers) i) (Covers t.taken.ends i ⊎ Covers o.taken.ends i)
    decides i =
        subst (λ b. Decides b (Covers t.taken.ends i ⊎ Covers o.taken.ends i))
        (sym (set.contains-union nat_cmp_total (merged_knowledge t).numbers (merged_knowledge o).numbers i
        ∙ (λ k. set.contains (numbers_is t k) i || set.contains (numbers_is o k) i)))
        (Decides-or _ _ (set_of-Decides t.taken.ends i) (set_of-Decides o.taken.ends i))

pub level_within : (t : Merged) (from to n : ℕ) → IsMerged t → to ≤ 4294967295 → ((i : ℕ) → 0 < i → i ≤ n → Covers t.taken.ends i ⊎ Between from to i) → n ≤ 4294967295
level_within t from to n is bound reached = elim (cases_lt 0 n) [
  | inr none ↦ omega (arith, none)
  | inl some ↦ elim (reached n some (omega arith)) [ inl there ↦ is.bound n there | inr b ↦ omega (arith, b.1, bound) ]
]

-- ---- what is read once more commits are taken too
best_now : (t : Merged) (key : List ℕ) (n : ℕ) → IsMerged t → merged_level t ≤ n → IsBest n key (option_to_list (read_under t.entries key)) (read_under t.entries key)
best_now t key n is up = go (read_under t.entries key) refl
  where
    go : (o : Option Entry) → read_under t.entries key ≡ o → IsBest n key (option_to_list o) o
    go None at = λ f i r. absurd i
    go (Some e) at =
        let low : e.number ≤ merged_level t = subst (λ o. IfSome o (λ e. e.number ≤ merged_level t)) at (is.within key) in (
          inl refl,
          (key_read t.entries key e at, omega (arith, low, up)),
          λ f i r l. elim i [ inl same ↦ later_itself e (subst (Later e) same l) | inr none ↦ none ],
        )

-- the entries of a track that may be read under the key
abbrev candidates_in : Merged → List ℕ → List Entry
candidates_in t key = (option_to_list (read_under t.entries key) ++ late_list t.entries) ++ waiting_list t.waiting.lists

-- the entries that may be read under the key
abbrev candidates : Merged → List ℕ → List Entry → List Entry
candidates t key es = candidates_in t key ++ es

module _ (t : Merged) (key : List ℕ) where
  in_candidates : (n : ℕ) (e : Entry) → IsStocked t.entries t.waiting.lists e → Readable n key e → In e (candidates_in t key)
  in_candidates n e (inl (inl at)) r =
      in_append_left (option_to_list (read_under t.entries key) ++ late_list t.entries) (waiting_list t.waiting.lists) e
      (in_append_left (option_to_list (read_under t.entries key)) (late_list t.entries) e (read_listed t.entries key e (ap (read_under t.entries) r.0 ∙ at)))
  in_candidates n e (inl (inr at)) r =
      in_append_left (option_to_list (read_under t.entries key) ++ late_list t.entries) (waiting_list t.waiting.lists) e
      (in_append_right (option_to_list (read_under t.entries key)) (late_list t.entries) e (late_listed t.entries e at))
  in_candidates n e (inr w) r =
      in_append_right (option_to_list (read_under t.entries key) ++ late_list t.entries) (waiting_list t.waiting.lists) e (waits_listed t.waiting.lists e w)

  candidates_stocked : (e : Entry) → In e (candidates_in t key) → IsStocked t.entries t.waiting.lists e
  candidates_stocked e i = elim (in_parts (option_to_list (read_under t.entries key) ++ late_list t.entries) (waiting_list t.waiting.lists) e i) [
    | inr w ↦ inr (listed_waits t.waiting.lists e w)
    | inl kept ↦ inl (elim (in_parts (option_to_list (read_under t.entries key)) (late_list t.entries) e kept) [
      | inl at ↦ list_read t.entries key e at
      | inr at ↦ list_late t.entries e at
    ])
  ]

module _ (t : Merged) (from to : ℕ) (key : List ℕ) (es : List Entry) where
  there : (n : ℕ) (e : Entry) → Has (union (merged_knowledge t) (told from to es)) e → Readable n key e → In e (candidates t key es)
  there n e h r = elim (has_union (merged_knowledge t) (told from to es) e h) [
    | inr more ↦ in_append_right (candidates_in t key) es e (has_told from to es e more)
    | inl old ↦ in_append_left (candidates_in t key) es e (in_candidates t key n e (has_holds t e old) r)
  ]

  back : (e : Entry) → In e (candidates t key es) → Has (union (merged_knowledge t) (told from to es)) e
  back e i = elim (in_parts (candidates_in t key) es e i) [
    | inr more ↦ union_has_right (merged_knowledge t) (told from to es) e (told_has from to es e more)
    | inl old ↦ union_has_left (merged_knowledge t) (told from to es) e (holds_has t e (candidates_stocked t key e old))
  ]

  pub read_more : (n : ℕ) (o : Option Entry) → IsMerged t → n ≡ level (set.union (merged_knowledge t).numbers (numbers_between from to))
      → o ≡ fold (best_of_two n key) (fold (best_of_two n key) (fold (best_of_two n key) (read_under t.entries key) (late_list t.entries)) (waiting_list t.waiting.lists)) es
      → option_map (λ e. e.bytes) o ≡ read (union (merged_knowledge t) (told from to es)) key
  read_more n o is at best =
      let k = union (merged_knowledge t) (told from to es) in
      let levels : n ≡ level k.numbers = at ∙ ap (λ s. level (set.union (merged_knowledge t).numbers s)) (sym (told_numbers from to es)) in
      let up : merged_level t ≤ n = subst (λ m. merged_level t ≤ m) (sym levels) (subst (λ m. m ≤ level k.numbers) (level_known t) (level-union (merged_knowledge t) (told from to es))) in
      best_read k key (candidates t key es) (there (level k.numbers)) back o
      (subst (λ m. IsBest m key (candidates t key es) o) levels
      (subst (IsBest n key (candidates t key es)) (sym best)
      (best_of_all n key _ es _ (best_of_all n key _ (waiting_list t.waiting.lists) _ (best_of_all n key _ (late_list t.entries) _ (best_now t key n is up))))))

-- ---- what is read where nothing else was taken
pub level_alone : (from to : ℕ) → from ≡ 0 → to ≡ level (numbers_between from to)
level_alone from to first =
    let numbers = numbers_between from to in
    level_unique numbers to (
      λ i some up. numbers_are_between from to i ∙ (is_between-Decides from to i).1 (omega (arith, first, some), up),
      false_from_ne_true (set.contains numbers (to + 1)) (λ h.
          let within = (is_between-Decides from to (to + 1)).0 (sym (numbers_are_between from to (to + 1)) ∙ h) in
          omega (arith, within.1)),
    )

pub level_after : (from to : ℕ) → (from ≡ 0 → ⊥) → 0 ≡ level (numbers_between from to)
level_after from to later =
    let numbers = numbers_between from to in
    level_unique numbers 0 (
      λ i some up. absurd (let bad : ⊥ = omega (arith, some, up) in bad),
      false_from_ne_true (set.contains numbers 1) (λ h.
          let within = (is_between-Decides from to 1).0 (sym (numbers_are_between from to 1) ∙ h) in
          later (omega (arith, within.0))),
    )

pub read_alone : (from to n : ℕ) (key : List ℕ) (es : List Entry) (o : Option Entry) → n ≡ level (numbers_between from to) → o ≡ fold (best_of_two n key) None es
    → option_map (λ e. e.bytes) o ≡ read (told from to es) key
read_alone from to n key es o at best =
    let levels : n ≡ level (told from to es).numbers = at ∙ ap level (sym (told_numbers from to es)) in
    ap (option_map (λ e. e.bytes)) (best ∙ ap (λ m. fold (best_of_two m key) None es) levels)
    ∙ read_best (told from to es) key es (has_told from to es) (told_has from to es)
