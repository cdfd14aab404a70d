-- The lines of a process of which one piece told.
use Rattle.std.proofs.Common.{arith, ℕ, ◌<◌, ◌≤◌, List, [], ◌∷◌, ◌++◌, map, ◌≡◌, ◌⊎◌, inl, inr, true, false, cond, refl, sym, ap, subst, ◌∙◌}
use Rattle.std.specs.Prelude.{Some, None}
use Rattle.std.specs.Cmp.{Equal-is}
use Rattle.std.specs.Cmp.Lexicographic.{slice_cmp, nat_list_cmp_total}
use Rattle.std.specs.List.{flat_map, list_all, AllByRecursion}
use Rattle.std.specs.List.Sorted.{IsStrictlySortedBy}
use Rattle.std.specs.Ordering.{nat_cmp, is_eq, is_lt, eq_by_cmp}
use Rattle.std.specs.declared.cmp.Ordering.{Ordering}
use Rattle.std.specs.declared.cmp.Ordering.TheVariants.{Less, Equal, Greater}
use Rattle.std.specs.BTreeMap.{IsOrdered}
use Rattle.std.specs.FinMap as finite
use Rattle.std.specs.FinMap.Entries.{find}
use Rattle.std.proofs.lemmas.Bool.{and_parts, cases_lt, false≢true, leb-true}
use Rattle.std.proofs.lemmas.Cmp.{tied_itself}
use Rattle.std.proofs.lemmas.Map.Lookups.{exact_bytes}
use Rattle.pmg_value.specs.Lists.{In, leads, is_chain}
use Rattle.pmg_value.specs.Spelling.{spelling}
use Rattle.pmg_value.specs.declared.process.Proc.{Proc}
use Rattle.pmg_value.proofs.ListLemmas.{in_map}
use Rattle.pmg_commit.specs.Entries.{Entry}
use Rattle.pmg_commit.specs.EntryOrder.{Later, later_itself}
use Rattle.pmg_commit.specs.Levels.{level}
use Rattle.pmg_commit.specs.Knowledge.{read}
use Rattle.pmg_commit.specs.Pieces.{entry_of, is_key_rising, is_numbered}
use Rattle.pmg_commit.specs.declared.piece.PieceEntry.{PieceEntry}
use Rattle.pmg_commit.proofs.ReadLaws.{read_latest, read_none}
use Rattle.pmg_lane.specs.Lanes.{known_by, level_of, single_knowledge, IsSingle, IsTrack, ShowsReads}
use Rattle.pmg_lane.specs.Merged.{told}
use Rattle.pmg_lane.specs.declared.single.Single.{Single}
use Rattle.pmg_lane.specs.declared.track.Track.{Track}
use Rattle.pmg_lane.specs.declared.track.Track.TheVariants as tracks
use Rattle.pmg_lane.specs.declared.track.Reads.{Reads}
use Rattle.pmg_lane.specs.declared.track.Reads.TheVariants as reads
use Rattle.pmg_lane.proofs.Merging.{has_told, told_has, told_numbers, in_entries_of}
use Rattle.pmg_lane.proofs.Reading.{level_alone, level_after}
use Rattle.pmg_store.specs.Dump.{key_line, proc_line, reads_of, known_text}
use Rattle.pmg_store.specs.Tables.{lines_of, rows_told}
use Rattle.pmg_store.proofs.DumpLemmas.{first_told, told_text}
use Rattle.pmg_store.proofs.Ordered.{entries_are, sorted_from}
use Rattle.pmg_store.proofs.ReadTable.{get-reads_of}

less_is : (r : Ordering) → is_lt r ≡ true → r ≡ Less
less_is Less h = refl
less_is Equal h = absurd (false≢true h)
less_is Greater h = absurd (false≢true h)

-- ---- keys that rise
below : (x k : List ℕ) (ks : List (List ℕ)) → slice_cmp nat_cmp x k ≡ Less → AllByRecursion (λ j. slice_cmp nat_cmp k j ≡ Less) ks → AllByRecursion (λ j. slice_cmp nat_cmp x j ≡ Less) ks
below x k [] h all = tt
below x k (j ∷ js) h all = (nat_list_cmp_total.trans x k j h all.0, below x k js h all.1)

above : (x : PieceEntry) (es : List PieceEntry) → leads is_key_rising (entry_of x) (map entry_of es) ≡ true
    → AllByRecursion (λ j. slice_cmp nat_cmp x.key j ≡ Less) (map (λ r. r.0) (rows_told es))
above x [] h = tt
above x (y ∷ ys) h =
    let parts = and_parts (is_key_rising (entry_of x) (entry_of y)) (leads is_key_rising (entry_of y) (map entry_of ys)) h in
    let next = less_is (slice_cmp nat_cmp x.key y.key) parts.0 in
    (next, below x.key y.key (map (λ r. r.0) (rows_told ys)) next (above y ys parts.1))

rest_rises : (x : PieceEntry) (es : List PieceEntry) → leads is_key_rising (entry_of x) (map entry_of es) ≡ true → is_chain is_key_rising (map entry_of es) ≡ true
rest_rises x [] h = refl
rest_rises x (y ∷ ys) h = (and_parts (is_key_rising (entry_of x) (entry_of y)) (leads is_key_rising (entry_of y) (map entry_of ys)) h).1

keys_sorted : (es : List PieceEntry) → is_chain is_key_rising (map entry_of es) ≡ true → IsStrictlySortedBy (slice_cmp nat_cmp) (map (λ r. r.0) (rows_told es))
unfolding IsStrictlySortedBy
keys_sorted [] h = tt
keys_sorted (x ∷ xs) h = (above x xs h, keys_sorted xs (rest_rises x xs h))

greater_at : (x : List ℕ) (es : List PieceEntry) (y : PieceEntry) → AllByRecursion (λ j. slice_cmp nat_cmp x j ≡ Less) (map (λ r. r.0) (rows_told es)) → In y es
    → slice_cmp nat_cmp x y.key ≡ Less
greater_at x [] y all i = absurd i
greater_at x (e ∷ es) y all (inl same) = ap (λ (z : PieceEntry). slice_cmp nat_cmp x z.key) same ∙ all.0
greater_at x (e ∷ es) y all (inr i) = greater_at x es y all.1 i

not_itself : (k : List ℕ) → slice_cmp nat_cmp k k ≡ Less → ⊥
not_itself k h = let tie : slice_cmp nat_cmp k k ≡ Equal = tied_itself nat_list_cmp_total k in cc

-- ---- the entry of a key
-- the only entry of the key, and what is found there
pub record IsFound (q : List ℕ) (es : List PieceEntry) (x : PieceEntry) : Type 0 where
  pub there : In x es
  pub same : q ≡ x.key
  pub found : find (slice_cmp nat_cmp) q (rows_told es) ≡ Some (spelling x.value)
  pub only : (y : PieceEntry) → In y es → q ≡ y.key → y ≡ x

-- no entry has the key, and nothing is found there
pub record IsLost (q : List ℕ) (es : List PieceEntry) : Type 0 where
  pub found : find (slice_cmp nat_cmp) q (rows_told es) ≡ None
  pub none : (y : PieceEntry) → In y es → q ≡ y.key → ⊥

search_row : (q : List ℕ) (es : List PieceEntry) → is_chain is_key_rising (map entry_of es) ≡ true → ((x : PieceEntry) × IsFound q es x) ⊎ IsLost q es
search_row q [] rising = inr (record { found = refl; none = λ y i _. i })
search_row q (x ∷ xs) rising =
    elim (eq_by_cmp (slice_cmp nat_cmp) q x.key) as (λ t. eq_by_cmp (slice_cmp nat_cmp) q x.key ≡ t → ((y : PieceEntry) × IsFound q (x ∷ xs) y) ⊎ IsLost q (x ∷ xs)) [
      | true ↦ λ t.
          let same : q ≡ x.key = exact_bytes q x.key ((Equal-is _).0 t) in
          inl (
            x,
            record {
              there = inl refl;
              same = same;
              found = ap (λ b. cond b (Some (spelling x.value)) (find (slice_cmp nat_cmp) q (rows_told xs))) t;
              only = λ y i is. elim i [
                | inl here ↦ here
                | inr later ↦ absurd (not_itself q (subst (λ k. slice_cmp nat_cmp q k ≡ Less) (sym is) (subst (λ k. slice_cmp nat_cmp k y.key ≡ Less) (sym same) (greater_at x.key xs y (above x xs rising) later))))
              ];
            },
          )
      | false ↦ λ t.
          let other : q ≡ x.key → ⊥ = λ is. false≢true (sym t ∙ ap (eq_by_cmp (slice_cmp nat_cmp) q) (sym is) ∙ ap is_eq (tied_itself nat_list_cmp_total q)) in
          let past = ap (λ b. cond b (Some (spelling x.value)) (find (slice_cmp nat_cmp) q (rows_told xs))) t in
          elim (search_row q xs (rest_rises x xs rising)) [
            | inl (y, f) ↦ inl (
              y,
              record {
                there = inr f.there;
                same = f.same;
                found = past ∙ f.found;
                only = λ z i is. elim i [ inl here ↦ absurd (other (is ∙ ap (λ (e : PieceEntry). e.key) here)) | inr later ↦ f.only z later is ];
              },
            )
            | inr l ↦ inr (record {
              found = past ∙ l.found;
              none = λ z i is. elim i [ inl here ↦ other (is ∙ ap (λ (e : PieceEntry). e.key) here) | inr later ↦ l.none z later is ];
            })
          ]
    ] refl

-- ---- what is read
all_up_to : (from to : ℕ) (es : List PieceEntry) (x : PieceEntry) → list_all (is_numbered from to) (map entry_of es) ≡ true → In x es → x.number ≤ to
all_up_to from to [] x all i = absurd i
all_up_to from to (e ∷ es) x all (inl same) =
    let parts = and_parts (is_numbered from to (entry_of e)) (list_all (is_numbered from to) (map entry_of es)) all in
    let low = leb-true e.number to (and_parts _ _ parts.0).1 in
    subst (λ (z : PieceEntry). z.number ≤ to) (sym same) low
all_up_to from to (e ∷ es) x all (inr i) = all_up_to from to es x (and_parts (is_numbered from to (entry_of e)) (list_all (is_numbered from to) (map entry_of es)) all).1 i

-- where the level is not 0, it is the last commit
level_is_last : (from to : ℕ) (es : List Entry) → 0 < level (told from to es).numbers → to ≡ level (told from to es).numbers
level_is_last from to es some =
    let is = ap level (told_numbers from to es) in
    elim (cases_lt 0 from) [
      | inr first ↦ level_alone from to (omega (arith, first)) ∙ sym is
      | inl later ↦
          let none = level_after from to (λ e. let bad : ⊥ = omega (arith, later, e) in bad) in
          absurd (omega (arith, some, is, none))
    ]

module _ (s : Single) (kept : IsSingle s) (some : 0 < level (single_knowledge s).numbers) where
  pub reads_rows : (q : List ℕ) → read (single_knowledge s) q ≡ find (slice_cmp nat_cmp) q (rows_told s.entries.items)
  reads_rows q = elim (search_row q s.entries.items kept.rising) [
    | inl (x, f) ↦
        read_latest (single_knowledge s) q (entry_of x) (record {
          has = told_has s.from s.to (map entry_of s.entries.items) (entry_of x) (in_map entry_of s.entries.items x f.there);
          readable = (f.same, subst (λ n. x.number ≤ n) (level_is_last s.from s.to (map entry_of s.entries.items) some) (all_up_to s.from s.to s.entries.items x kept.numbered f.there));
          last = λ g has r l.
              let one = in_entries_of s.entries.items g (has_told s.from s.to (map entry_of s.entries.items) g has) in
              let is : one.0 ≡ x = f.only one.0 one.1 (r.0 ∙ ap (λ (e : Entry). e.key) (sym one.2)) in
              later_itself (entry_of x) (subst (Later (entry_of x)) (sym one.2 ∙ ap entry_of is) l);
        })
        ∙ sym f.found
    | inr l ↦
        read_none (single_knowledge s) q (λ g has r.
        let one = in_entries_of s.entries.items g (has_told s.from s.to (map entry_of s.entries.items) g has) in
        l.none one.0 one.1 (r.0 ∙ ap (λ (e : Entry). e.key) (sym one.2)))
        ∙ sym l.found
  ]

-- the lines of a process of which one piece told
pub single_text : (p : Proc) (s : Single) (n : ℕ) → IsSingle s → n ≡ level_of (tracks.Single s) → 0 < n
    → known_text p (single_knowledge s) ≡ proc_line p n ++ flat_map key_line (rows_told s.entries.items)
single_text p s n kept at some =
    let k = single_knowledge s in
    let rows = rows_told s.entries.items in
    let sorted = sorted_from (slice_cmp nat_cmp) rows (keys_sorted s.entries.items kept.rising) in
    let answers : (q : List ℕ) → finite.get (reads_of k) q ≡ find (slice_cmp nat_cmp) q rows = λ q. get-reads_of k q ∙ reads_rows s kept (subst (λ m. 0 < m) at some) q in
    first_told p (tracks.Single s) n at some
    ∙ ap (λ lines. proc_line p n ++ flat_map key_line lines) (entries_are nat_list_cmp_total (finite.slice_cmp-IsAntisymmetric finite.nat_cmp-IsAntisymmetric) (reads_of k) rows sorted answers)

-- ---- what a lane shows
-- the rows that are shown
abbrev pub shown_rows : Reads → List (List ℕ × List ℕ)
shown_rows (reads.Few entries) = rows_told entries.now
shown_rows (reads.Many places) = lines_of places.now.entries

-- the places that are shown are in order
abbrev pub AreShownInOrder : Reads → Type 0
AreShownInOrder (reads.Few entries) = Unit {0}
AreShownInOrder (reads.Many places) = IsOrdered (slice_cmp nat_cmp) places.now

-- the lines of a process are its own, and those of what its lane shows
pub shown_text : (p : Proc) (t : Track) (r : Reads) (n : ℕ) → IsTrack t → ShowsReads t r → n ≡ level_of t → 0 < n → AreShownInOrder r
    → known_text p (known_by t) ≡ proc_line p n ++ flat_map key_line (shown_rows r)
shown_text p (tracks.Single s) (reads.Few entries) n kept shows at some ordered =
    single_text p s n kept at some ∙ ap (λ es. proc_line p n ++ flat_map key_line (rows_told es)) (sym shows)
shown_text p (tracks.Single s) (reads.Many places) n kept shows at some ordered = absurd shows
shown_text p (tracks.Merged m) (reads.Few entries) n kept shows at some ordered = absurd shows
shown_text p (tracks.Merged m) (reads.Many places) n kept shows at some ordered =
    told_text p m n kept at some (subst (IsOrdered (slice_cmp nat_cmp)) shows ordered)
    ∙ ap (λ tree. proc_line p n ++ flat_map key_line (lines_of tree.entries)) (sym shows)
