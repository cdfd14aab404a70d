-- What one piece told, with what is taken besides.
use Rattle.std.proofs.Common.{arith, ℕ, suc, ◌+◌, List, [], ◌++◌, map, ◌≡◌, ◌<◌, ◌≤◌, ◌⊎◌, inl, inr, ◌||◌, ◌&&◌, nat_lt, nat_le, sym, ap, ◌∙◌, subst}
use Rattle.std.specs.Prelude.{Option, None}
use Rattle.std.specs.Option.{option_map}
use Rattle.std.specs.Bool.{Decides}
use Rattle.std.specs.FinSet as set
use Rattle.std.specs.List.{fold}
use Rattle.std.proofs.lemmas.Bool.{false_from_ne_true}
use Rattle.std.proofs.lemmas.Bool.Decides.{Decides-or}
use Rattle.std.proofs.lemmas.Cmp.{nat_cmp_total}
use Rattle.pmg_value.specs.Lists.{In}
use Rattle.pmg_value.proofs.ListLemmas.{in_parts, in_append_left, in_append_right}
use Rattle.pmg_join.specs.Ranges.{is_between, Between}
use Rattle.pmg_join.proofs.RangeLemmas.{is_between-Decides}
use Rattle.pmg_commit.specs.Entries.{Entry, best_of_two}
use Rattle.pmg_commit.specs.EntryOrder.{Readable}
use Rattle.pmg_commit.specs.Levels.{level}
use Rattle.pmg_commit.specs.LevelLaws.{level_unique}
use Rattle.pmg_commit.specs.Knowledge.{union, read, numbers_between}
use Rattle.pmg_commit.specs.CoreLaws.{Has, has_union, union_has_left, union_has_right}
use Rattle.pmg_commit.specs.Pieces.{entry_of}
use Rattle.pmg_commit.proofs.Rules.{numbers_are_between}
use Rattle.pmg_commit.proofs.ReadLaws.{IsBest, best_of_all, best_read}
use Rattle.pmg_lane.specs.Merged.{told}
use Rattle.pmg_lane.specs.Lanes.{known_by, reading_of, IsTrack}
use Rattle.pmg_lane.specs.declared.track.Track.{Track}
use Rattle.pmg_lane.specs.declared.track.Track.TheVariants as tracks
use Rattle.pmg_lane.proofs.Merging.{has_told, told_has, told_numbers}
use Rattle.pmg_lane.proofs.Reading.{read_more}

pub told_contains : (from to : ℕ) (es : List Entry) (n : ℕ) → set.contains (told from to es).numbers n ≡ (nat_lt from n && nat_le n to)
told_contains from to es n = ap (λ s. set.contains s n) (told_numbers from to es) ∙ numbers_are_between from to n

-- the level that two ranges reach
pub level_both :
    (a b c d n : ℕ) (es : List Entry) → ((i : ℕ) → 0 < i → i ≤ n → Between a b i ⊎ Between c d i) → (Between a b (suc n) ⊎ Between c d (suc n) → ⊥)
    → n ≡ level (set.union (told a b es).numbers (numbers_between c d))
level_both a b c d n es reached no_more =
    let all = set.union (told a b es).numbers (numbers_between c d) in
    let next : n + 1 ≡ suc n = omega arith in
    level_unique all n (
      λ i some up. (decides i).1 (reached i some up),
      false_from_ne_true (set.contains all (n + 1)) (λ h. no_more ((decides (suc n)).0 (ap (set.contains all) (sym next) ∙ h))),
    )
  where
    decides : (i : ℕ) → Decides (set.contains (set.union (told a b es).numbers (numbers_between c d)) i) (Between a b i ⊎ Between c d i)
    decides i =
        subst (λ t. Decides t (Between a b i ⊎ Between c d i))
        (sym (set.contains-union nat_cmp_total (told a b es).numbers (numbers_between c d) i
        ∙ (λ k. set.contains (told_numbers a b es k) i || numbers_are_between c d i k)
        ∙ ap (λ t. t || is_between c d i) (numbers_are_between a b i)))
        (Decides-or _ _ (is_between-Decides a b i) (is_between-Decides c d i))

-- what is read of both
pub read_both :
    (a b c d n : ℕ) (key : List ℕ) (own more : List Entry) (o : Option Entry) → n ≡ level (set.union (told a b own).numbers (numbers_between c d))
    → o ≡ fold (best_of_two n key) (fold (best_of_two n key) None own) more
    → option_map (λ e. e.bytes) o ≡ read (union (told a b own) (told c d more)) key
read_both a b c d n key own more o at best =
    let k = union (told a b own) (told c d more) in
    let levels : n ≡ level k.numbers = at ∙ ap (λ s. level (set.union (told a b own).numbers s)) (sym (told_numbers c d more)) in
    best_read k key (own ++ more) there back o
    (subst (λ m. IsBest m key (own ++ more) o) levels
    (subst (IsBest n key (own ++ more)) (sym best)
    (best_of_all n key own more _ (best_of_all n key [] own None (λ f i r. absurd i)))))
  where
    there : (e : Entry) → Has (union (told a b own) (told c d more)) e → Readable (level (union (told a b own) (told c d more)).numbers) key e → In e (own ++ more)
    there e h r = elim (has_union (told a b own) (told c d more) e h) [
      | inl x ↦ in_append_left own more e (has_told a b own e x)
      | inr x ↦ in_append_right own more e (has_told c d more e x)
    ]

    back : (e : Entry) → In e (own ++ more) → Has (union (told a b own) (told c d more)) e
    back e i = elim (in_parts own more e i) [
      | inl x ↦ union_has_left (told a b own) (told c d more) e (told_has a b own e x)
      | inr x ↦ union_has_right (told a b own) (told c d more) e (told_has c d more e x)
    ]

-- what is read of a track once more commits are taken too
pub read_of :
    (t : Track) (from to n : ℕ) (key : List ℕ) (es : List Entry) (o : Option Entry) → IsTrack t → n ≡ level (set.union (known_by t).numbers (numbers_between from to))
    → o ≡ fold (best_of_two n key) (reading_of t n key) es → option_map (λ e. e.bytes) o ≡ read (union (known_by t) (told from to es)) key
read_of (tracks.Single s) from to n key es o is at best = read_both s.from s.to from to n key (map entry_of s.entries.items) es o at best
read_of (tracks.Merged m) from to n key es o is at best = read_more m from to key es n o is at best
