-- Entries: the put of a commit under a key, and which of two counts.
use Rattle.std.specs.Prelude.{ℕ, Bool, ◌&&◌, ◌||◌, ◌==◌, nat_eq, nat_lt, nat_le, List, Option, Some, None, if◌then◌else◌, refl}
use Rattle.std.specs.Ordering.{nat_cmp, ordering_then, is_eq, is_lt}
use Rattle.std.specs.Cmp.Lexicographic.{slice_cmp, pointwise}
use Rattle.std.specs.Str.{bytes_eq}
use Rattle.std.specs.declared.cmp.Ordering.{Ordering}
use Rattle.std.specs.Coded.{Coded, code_by, coded×, coded_list, coded_ℕ}

-- A key, the number of the commit that sealed it, and the canonical bytes of its value (PMIx Standard 5.0, PMIx_Put and PMIx_Commit; the
-- numbers are this project's).
pub record Entry : Type 0 where
  pub key : List ℕ
  pub number : ℕ
  pub bytes : List ℕ

-- the order by key, then by number, then by bytes
abbrev pub entry_cmp : Entry → Entry → Ordering
entry_cmp e f = ordering_then (slice_cmp nat_cmp e.key f.key) (ordering_then (nat_cmp e.number f.number) (slice_cmp nat_cmp e.bytes f.bytes))

-- an entry as a tuple
abbrev pub coded_entry : Coded Entry
coded_entry =
    code_by (List ℕ × (ℕ × List ℕ)) (coded× (coded_list coded_ℕ) (coded× coded_ℕ (coded_list coded_ℕ))) (λ e. (e.key, (e.number, e.bytes)))
    (λ t. record { key = t.0; number = t.1.0; bytes = t.1.1 }) (λ _. refl)

-- the entries are equal
abbrev pub is_same_entry : Entry → Entry → Bool
is_same_entry e f = pointwise nat_eq e.key f.key && (e.number == f.number && is_eq (slice_cmp nat_cmp e.bytes f.bytes))

-- f is later than e: it has a greater number, or an equal number and the greater bytes
abbrev pub is_later : Entry → Entry → Bool
is_later e f = nat_lt e.number f.number || ((e.number == f.number) && is_lt (slice_cmp nat_cmp e.bytes f.bytes))

-- at that level, e is a readable entry of the key: its number is at most the level
abbrev pub is_readable : ℕ → List ℕ → Entry → Bool
is_readable level key e = bytes_eq key e.key && nat_le e.number level

-- At that level, f supersedes e: it has e's key and is later, and its number is at most the level or is e's own. Therefore e will never be
-- read again.
abbrev pub is_superseded : ℕ → Entry → Entry → Bool
is_superseded level e f = bytes_eq e.key f.key && is_later e f && (nat_le f.number level || (e.number == f.number))

-- the entry that is read under the key once e is seen too: e, if it is readable and later than the entry so far (or there was none)
abbrev pub best_of_two : ℕ → List ℕ → Option Entry → Entry → Option Entry
best_of_two level key None e = if is_readable level key e then Some e else None
best_of_two level key (Some best) e = if is_readable level key e && is_later best e then Some e else Some best
