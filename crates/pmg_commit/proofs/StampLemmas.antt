-- Stamps in memory.
use Rattle.std.proofs.Common.{◌≡◌, ℕ, nat_lt, List, [], ◌∷◌, map, Option, Some, None, is_some, refl, sym, ap, ◌∙◌}
use Rattle.std.specs.List.{filter}
use Rattle.std.specs.FinMap as finite
use Rattle.std.specs.Option.{option_map}
use Rattle.std.specs.Cmp.Lexicographic.{nat_list_cmp_total}
use Rattle.pmg_value.specs.Spelling.{spelling}
use Rattle.pmg_value.specs.declared.value.Value.{Value}
use Rattle.pmg_value.specs.Rows.{rows_of}
use Rattle.pmg_scope.specs.Rows.{IsRising, table_of}
use Rattle.pmg_value.proofs.RowLemmas.{shown, entries_rising}
use Rattle.pmg_commit.specs.declared.last_puts.SealedPut.{SealedPut}
use Rattle.pmg_commit.specs.Entries.{Entry}
use Rattle.pmg_commit.specs.Sealed.{Stamps, stamp_all, stamped, stamped_entry, newer_than}
use Rattle.pmg_commit.specs.Stamped.{stamp_of}

-- the rows of the commits above a number, as entries
abbrev pub newer_rows : ℕ → List (List ℕ × SealedPut) → List Entry
newer_rows from rows = map stamped_entry (filter (λ e. nat_lt from e.1.number) (shown stamp_of rows))

pub newer-rising : (from : ℕ) (rows : List (List ℕ × SealedPut)) (m : Stamps) → IsRising rows → rows_of stamp_of rows ≡ m → newer_rows from rows ≡ newer_than from m
newer-rising from rows m rising same =
    sym (ap (λ es. map stamped_entry (filter (λ e. nat_lt from e.1.number) es)) (entries_rising nat_list_cmp_total stamp_of rows rising)) ∙ ap (newer_than from) same

keys_shown : (rows : List (List ℕ × SealedPut)) → map (λ e. e.0) (shown stamp_of rows) ≡ map (λ e. e.0) rows
keys_shown [] = refl
keys_shown (e ∷ es) = ap (λ ks. e.0 ∷ ks) (keys_shown es)

-- the keys of the rows
pub keys-rising : (rows : List (List ℕ × SealedPut)) (m : Stamps) → IsRising rows → rows_of stamp_of rows ≡ m → map (λ e. e.0) rows ≡ finite.keys m
keys-rising rows m rising same =
    sym (keys_shown rows) ∙ ap (map (λ e. e.0)) (sym (entries_rising nat_list_cmp_total stamp_of rows rising)) ∙ ap finite.keys same

pub stamped-rising : (n : ℕ) (puts : List (List ℕ × Value)) (m : Stamps) → IsRising puts → stamp_all n m (shown spelling puts) ≡ stamped n (table_of puts) m
unfolding stamped
stamped-rising n puts m rising = ap (stamp_all n m) (sym (entries_rising nat_list_cmp_total spelling puts rising))

-- something is there where something is seen
pub some_shown : {A B : Type 0} (f : A → B) (o : Option A) (b : Option B) → option_map f o ≡ b → is_some o ≡ is_some b
some_shown f None b e = ap is_some e
some_shown f (Some x) b e = ap is_some e
