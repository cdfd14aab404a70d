-- What is known by what is kept.
use Rattle.std.proofs.Common.{ℕ, List, [], ◌∷◌, ◌++◌, ◌≡◌, inl, inr, refl, sym, ap, ◌∙◌, subst}
use Rattle.std.specs.Prelude.{Option, Some, None, IsSome}
use Rattle.std.specs.Option.{option_map, option_to_list}
use Rattle.std.specs.List.{flat_map}
use Rattle.std.specs.Cmp.Lexicographic.{slice_cmp}
use Rattle.std.specs.Ordering.{nat_cmp}
use Rattle.std.specs.BTreeMap.{get, keys}
use Rattle.std.proofs.lemmas.Map.Lookups.{exact_bytes}
use Rattle.pmg_value.specs.Lists.{In}
use Rattle.pmg_value.proofs.ListLemmas.{in_parts, in_append_left, in_append_right}
use Rattle.pmg_value.proofs.RowLemmas.{key_there}
use Rattle.pmg_value.proofs.SetLemmas.{in_from_list, from_list_in}
use Rattle.pmg_commit.specs.Entries.{Entry}
use Rattle.pmg_commit.specs.EntryOrder.{entries_total, exact_entries}
use Rattle.pmg_commit.specs.Levels.{level}
use Rattle.pmg_commit.specs.CoreLaws.{Has}
use Rattle.pmg_join.specs.Places.{placed}
use Rattle.pmg_lane.specs.Entries.{late_cmp, read_under, late_at, entry_under, late_entry, HasEntry, late_list, entries_list}
use Rattle.pmg_lane.specs.Merged.{merged_knowledge, merged_level}
use Rattle.pmg_lane.specs.Waiting.{IsStocked, waiting_list}
use Rattle.pmg_lane.proofs.Waits.{listed_waits, waits_listed}
use Rattle.pmg_lane.specs.declared.entries.Entries.{Entries}
use Rattle.pmg_lane.specs.declared.merged.Merged.{Merged}
use Rattle.pmg_lane.proofs.Settling.{exact_late, key_read, key_late}

-- ---- entries in a list
of_option : {A : Type 0} (x : A) (o : Option A) → In x (option_to_list o) → o ≡ Some x
of_option x None i = absurd i
of_option x (Some y) (inl e) = ap Some (sym e)
of_option x (Some y) (inr i) = absurd i

in_option : {A : Type 0} (x : A) (o : Option A) → o ≡ Some x → In x (option_to_list o)
in_option x o e = subst (λ o. In x (option_to_list o)) (sym e) (inl refl)

in_options : {K A : Type 0} (f : K → Option A) (ks : List K) (x : A) → In x (flat_map (λ k. option_to_list (f k)) ks) → (k : K) × (f k ≡ Some x)
in_options f [] x i = absurd i
in_options f (k ∷ ks) x i = elim (in_parts (option_to_list (f k)) (flat_map (λ k. option_to_list (f k)) ks) x i) [
  | inl a ↦ (k, of_option x (f k) a)
  | inr b ↦ in_options f ks x b
]

options_in : {K A : Type 0} (f : K → Option A) (ks : List K) (x : A) (k : K) → In k ks → f k ≡ Some x → In x (flat_map (λ k. option_to_list (f k)) ks)
options_in f [] x k i e = absurd i
options_in f (q ∷ ks) x k (inl same) e = in_append_left (option_to_list (f q)) _ x (in_option x (f q) (ap f (sym same) ∙ e))
options_in f (q ∷ ks) x k (inr i) e = in_append_right (option_to_list (f q)) _ x (options_in f ks x k i e)

has_place : {X V : Type 0} (f : V → X) (o : Option (Option V)) (x : X) → option_map f (placed o) ≡ Some x → IsSome o
has_place f None x h = absurd (let bad = h in cc)
has_place f (Some p) x h = refl

pub list_read : (a : Entries) (key : List ℕ) (e : Entry) → In e (option_to_list (read_under a key)) → HasEntry a e
list_read a key e i = let is = of_option e (read_under a key) i in inl (ap (read_under a) (sym (key_read a key e is)) ∙ is)

pub read_listed : (a : Entries) (key : List ℕ) (e : Entry) → read_under a key ≡ Some e → In e (option_to_list (read_under a key))
read_listed a key e is = in_option e (read_under a key) is

pub list_late : (a : Entries) (e : Entry) → In e (late_list a) → HasEntry a e
list_late a e i = let at = in_options (late_at a) (keys a.late) e i in inr (ap (late_at a) (sym (key_late a at.0 e at.1)) ∙ at.1)

pub late_listed : (a : Entries) (e : Entry) → late_at a (e.number, e.key) ≡ Some e → In e (late_list a)
late_listed a e h =
    options_in (late_at a) (keys a.late) e (e.number, e.key) (key_there exact_late a.late.entries (e.number, e.key) (has_place (late_entry (e.number, e.key)) (get late_cmp a.late (e.number, e.key)) e h)) h

pub in_entries : (a : Entries) (e : Entry) → In e (entries_list a) → HasEntry a e
in_entries a e i = elim (in_parts (flat_map (λ key. option_to_list (read_under a key)) (keys a.reads)) _ e i) [
  | inl r ↦ let at = in_options (read_under a) (keys a.reads) e r in inl (ap (read_under a) (sym (key_read a at.0 e at.1)) ∙ at.1)
  | inr l ↦ list_late a e l
]

pub entries_in : (a : Entries) (e : Entry) → HasEntry a e → In e (entries_list a)
entries_in a e (inl h) =
    in_append_left (flat_map (λ key. option_to_list (read_under a key)) (keys a.reads)) _ e
    (options_in (read_under a) (keys a.reads) e e.key (key_there exact_bytes a.reads.entries e.key (has_place (entry_under e.key) (get (slice_cmp nat_cmp) a.reads e.key) e h)) h)
entries_in a e (inr h) = in_append_right (flat_map (λ key. option_to_list (read_under a key)) (keys a.reads)) _ e (late_listed a e h)

pub has_holds : (t : Merged) (e : Entry) → Has (merged_knowledge t) e → IsStocked t.entries t.waiting.lists e
unfolding merged_knowledge
has_holds t e h = elim (in_parts (entries_list t.entries) (waiting_list t.waiting.lists) e (in_from_list entries_total exact_entries (entries_list t.entries ++ waiting_list t.waiting.lists) e h)) [
  | inl kept ↦ inl (in_entries t.entries e kept)
  | inr waits ↦ inr (listed_waits t.waiting.lists e waits)
]

pub holds_has : (t : Merged) (e : Entry) → IsStocked t.entries t.waiting.lists e → Has (merged_knowledge t) e
unfolding merged_knowledge
holds_has t e h = from_list_in entries_total exact_entries (entries_list t.entries ++ waiting_list t.waiting.lists) e (elim h [
  | inl kept ↦ in_append_left (entries_list t.entries) (waiting_list t.waiting.lists) e (entries_in t.entries e kept)
  | inr waits ↦ in_append_right (entries_list t.entries) (waiting_list t.waiting.lists) e (waits_listed t.waiting.lists e waits)
])

pub level_known : (t : Merged) → level (merged_knowledge t).numbers ≡ merged_level t
unfolding merged_knowledge merged_level
level_known t = refl
