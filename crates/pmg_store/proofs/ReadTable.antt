-- The table of what is read answers as `read` does.
use Rattle.std.proofs.Common.{ℕ, List, [], ◌∷◌, ◌≡◌, Bool, true, false, ◌||◌, cond, refl, sym, ap, ◌∙◌}
use Rattle.std.specs.Prelude.{Option, Some, None}
use Rattle.std.specs.Option.{option_map}
use Rattle.std.specs.List.{list_any}
use Rattle.std.specs.List as list
use Rattle.std.specs.Ordering.{nat_cmp, eq_by_cmp}
use Rattle.std.specs.Cmp.Lexicographic.{slice_cmp, nat_list_cmp_total}
use Rattle.std.specs.Str.{bytes_eq}
use Rattle.std.specs.FinMap as finite
use Rattle.std.specs.FinMap.Entries.{find}
use Rattle.std.specs.FinSet as set
use Rattle.std.proofs.lemmas.Map.Text.{is_eq-slice_cmp}
use Rattle.std.proofs.lemmas.Slice.Eq.{bytes_eq-Decides}
use Rattle.std.proofs.lemmas.Bool.{and_parts, or_left, or_right}
use Rattle.pmg_commit.specs.Entries.{Entry}
use Rattle.pmg_value.specs.declared.value.Value.{Value}
use Rattle.pmg_value.specs.Spelling.{spelling, IsValue}
use Rattle.pmg_value.specs.Text.{text_of}
use Rattle.pmg_commit.specs.Knowledge.{Knowledge, is_read, read}
use Rattle.pmg_store.specs.Dump.{with_reading, readings, reads_of, text_read, value_text}
use Rattle.pmg_wire.specs.Fields.{read_value}
use Rattle.pmg_wire.proofs.FieldLaws.{value_again}
use Rattle.std.proofs.lemmas.List.{append-nil}

-- an entry of the key is there
abbrev has_key : List ℕ → List Entry → Bool
has_key q es = list_any (λ e. bytes_eq q e.key) es

found_has : (k : Knowledge) (q : List ℕ) (es : List Entry) (e : Entry) → list.find (is_read k q) es ≡ Some e → has_key q es ≡ true
found_has k q [] e h = absurd cc
found_has k q (f ∷ fs) e h =
    elim (is_read k q f) as (λ b. is_read k q f ≡ b → cond b (Some f) (list.find (is_read k q) fs) ≡ Some e → has_key q (f ∷ fs) ≡ true) [
      | true ↦ λ t _. or_left (bytes_eq q f.key) (has_key q fs) (and_parts _ _ (and_parts _ _ t).0).0
      | false ↦ λ t rest. or_right (bytes_eq q f.key) (has_key q fs) (found_has k q fs e rest)
    ] refl h

read_has : (k : Knowledge) (q bytes : List ℕ) → read k q ≡ Some bytes → has_key q (set.items k.entries) ≡ true
unfolding read
read_has k q bytes h = by_found (list.find (is_read k q) (set.items k.entries)) refl h
  where
    by_found : (found : Option Entry) → list.find (is_read k q) (set.items k.entries) ≡ found → option_map (λ (e : Entry). e.bytes) found ≡ Some bytes → has_key q (set.items k.entries) ≡ true
    by_found None f e = absurd cc
    by_found (Some e) f h = found_has k q (set.items k.entries) e f

-- one entry more
step : (t h : Bool) (r rq : Option (List ℕ)) (key q : List ℕ) (others : List (List ℕ × List ℕ)) → eq_by_cmp (slice_cmp nat_cmp) q key ≡ t → (t ≡ true → rq ≡ r)
    → find (slice_cmp nat_cmp) q others ≡ cond h rq None → find (slice_cmp nat_cmp) q (with_reading r key others) ≡ cond (t || h) rq None
step true h None rq key q others t same rest = rest ∙ nothing h rq (same refl)
  where
    nothing : (b : Bool) (o : Option (List ℕ)) → o ≡ None → cond b o None ≡ o
    nothing true o e = refl
    nothing false o e = sym e
step true h (Some bytes) rq key q others t same rest = rw t (sym (same refl))
step false h None rq key q others t same rest = rest
step false h (Some bytes) rq key q others t same rest = rw t rest

find_readings : (k : Knowledge) (q : List ℕ) (es : List Entry) → find (slice_cmp nat_cmp) q (readings k es) ≡ cond (has_key q es) (read k q) None
find_readings k q [] = refl
find_readings k q (e ∷ es) =
    step (bytes_eq q e.key) (has_key q es) (read k e.key) (read k q) e.key q (readings k es) (is_eq-slice_cmp q e.key)
    (λ t. ap (read k) ((bytes_eq-Decides q e.key).0 t)) (find_readings k q es)

pub get-reads_of : (k : Knowledge) (q : List ℕ) → finite.get (reads_of k) q ≡ read k q
unfolding reads_of
get-reads_of k q =
    finite.get-from_entries nat_list_cmp_total (readings k (set.items k.entries)) q ∙ find_readings k q (set.items k.entries) ∙ whole (has_key q (set.items k.entries)) (read k q) (read_has k q)
  where
    whole : (has : Bool) (r : Option (List ℕ)) → ((bytes : List ℕ) → r ≡ Some bytes → has ≡ true) → cond has r None ≡ r
    whole true r h = refl
    whole false None h = refl
    whole false (Some bytes) h = absurd (let bad = h bytes refl in cc)

-- the text of a value's canonical bytes is the value's
pub value_text-spelling : (v : Value) → IsValue v → value_text (spelling v) ≡ text_of v
unfolding value_text
value_text-spelling v is = ap text_read (ap (λ (t : List ℕ). read_value (record { offset = 0; rest = t })) (sym (append-nil (spelling v))) ∙ value_again 0 v [] is)
