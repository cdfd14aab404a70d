-- What the dump of lanes is made of.
use Rattle.std.proofs.Common.{ℕ, ◌<◌, List, [], ◌∷◌, ◌++◌, ◌≡◌, map, refl, sym, ap, ◌∙◌}
use Rattle.std.specs.Prelude.{Option, Some, None, nat_lt, if◌then◌else◌}
use Rattle.std.specs.Option.{option_map}
use Rattle.std.specs.List.{flat_map, AllByRecursion}
use Rattle.std.specs.Ordering.{nat_cmp}
use Rattle.std.specs.Cmp.Lexicographic.{slice_cmp, nat_list_cmp_total}
use Rattle.std.specs.BTreeMap.{BTreeMap, IsOrdered, get}
use Rattle.std.specs.FinMap as finite
use Rattle.std.specs.FinMap.Entries.{find}
use Rattle.std.proofs.lemmas.Bool.{lt-ltb}
use Rattle.std.proofs.lemmas.List.Elements.{recursion_from_All}
use Rattle.std.proofs.lemmas.Map.Lookups.{exact_bytes}
use Rattle.std.proofs.lemmas.Map.Views.{All-found}
use Rattle.pmg_value.specs.declared.process.Proc.{Proc}
use Rattle.pmg_value.specs.Process.{proc_cmp}
use Rattle.pmg_value.specs.Spelling.{spelling}
use Rattle.pmg_value.proofs.ProcessOrder.{procs_total, exact_procs}
use Rattle.pmg_commit.specs.Cores.{Core}
use Rattle.pmg_commit.specs.Data.{known, knowledge_in}
use Rattle.pmg_commit.specs.Entries.{Entry}
use Rattle.pmg_commit.specs.Levels.{level}
use Rattle.pmg_commit.specs.Knowledge.{Knowledge, core}
use Rattle.pmg_commit.specs.CoreLaws.{numbers-core}
use Rattle.pmg_commit.proofs.ReadLaws.{read-core}
use Rattle.pmg_lane.specs.Entries.{entry_under}
use Rattle.pmg_lane.specs.Lanes.{core_in, known_by, level_of}
use Rattle.pmg_join.specs.Places.{placed, there_at}
use Rattle.pmg_lane.specs.declared.entries.Stamp.{Stamp}
use Rattle.pmg_lane.specs.Merged.{merged_knowledge, IsMerged}
use Rattle.pmg_lane.specs.declared.merged.Merged.{Merged}
use Rattle.pmg_lane.specs.declared.track.Track.{Track}
use Rattle.pmg_lane.specs.declared.track.Track.TheVariants as tracks
use Rattle.pmg_lane.proofs.Merging.{read_known}
use Rattle.pmg_store.specs.Dump.{key_line, proc_line, reads_of, known_text, dump}
use Rattle.pmg_store.specs.Tables.{filled_before, filled, lines_of, lane_text, place_text, procs_of_lanes}
use Rattle.pmg_store.specs.Lanes.{data_in}
use Rattle.pmg_store.proofs.Filled.{find-filled, sorted_filled}
use Rattle.pmg_store.proofs.Ordered.{entries_are, sorted_from}
use Rattle.pmg_store.proofs.ReadTable.{get-reads_of}
use Rattle.pmg_store.proofs.LaneData.{get-data_in, known_in}

-- ---- one process

bytes_of : (q : List ℕ) (o : Option Stamp) → option_map (λ (e : Entry). e.bytes) (option_map (entry_under q) o) ≡ option_map (λ s. spelling s.value) o
bytes_of q None = refl
bytes_of q (Some s) = refl

-- a process of level 0 has no lines
pub silent : (p : Proc) (t : Track) → level_of t ≡ 0 → known_text p (known_by t) ≡ []
unfolding known_text
silent p t e = rw e refl

-- the line of a process is the first of its lines
pub first_told : (p : Proc) (t : Track) (n : ℕ) → n ≡ level_of t → 0 < n → known_text p (known_by t) ≡ proc_line p n ++ flat_map key_line (finite.entries (reads_of (known_by t)))
unfolding known_text
first_told p t n at some =
    let here : level (known_by t).numbers ≡ n = sym at in
    rw (here, lt-ltb 0 n some) refl

-- the lines of a process
pub told_text : (p : Proc) (t : Merged) (n : ℕ) → IsMerged t → n ≡ level_of (tracks.Merged t) → 0 < n → IsOrdered (slice_cmp nat_cmp) t.entries.reads
    → known_text p (merged_knowledge t) ≡ proc_line p n ++ flat_map key_line (lines_of t.entries.reads.entries)
told_text p t n is at some ordered =
    let k = merged_knowledge t in
    let es = t.entries.reads.entries in
    let answers : (q : List ℕ) → finite.get (reads_of k) q ≡ find (slice_cmp nat_cmp) q (lines_of es) = λ q.
    get-reads_of k q
    ∙ read_known t is q
    ∙ bytes_of q (there_at (slice_cmp nat_cmp) t.entries.reads q)
    ∙ sym (find-filled (slice_cmp nat_cmp) (λ (s : Stamp). spelling s.value) exact_bytes es ordered q) in
    let sorted = sorted_from (slice_cmp nat_cmp) (lines_of es) (sorted_filled (slice_cmp nat_cmp) (λ (s : Stamp). spelling s.value) es ordered) in
    first_told p (tracks.Merged t) n at some
    ∙ ap (λ lines. proc_line p n ++ flat_map key_line lines) (entries_are nat_list_cmp_total (finite.slice_cmp-IsAntisymmetric finite.nat_cmp-IsAntisymmetric) (reads_of k) (lines_of es) sorted answers)

-- the lines of a process of that level, of which that is read
abbrev lines_with : Proc → ℕ → finite.FinMap (slice_cmp nat_cmp) (List ℕ) → List ℕ
lines_with p n reads = if nat_lt 0 n then proc_line p n ++ flat_map key_line (finite.entries reads) else []

-- a core has the lines of the knowledge
core_text : (p : Proc) (k : Knowledge) → known_text p (core k) ≡ known_text p k
unfolding known_text
core_text p k =
    let table : reads_of (core k) ≡ reads_of k = finite.same_map nat_list_cmp_total exact_bytes (reads_of (core k)) (reads_of k) (λ q.
    get-reads_of (core k) q ∙ read-core k q ∙ sym (get-reads_of k q)) in
    λ i. lines_with p (level (numbers-core k i)) (table i)

-- ---- all processes
-- the lanes in their order are the data's entries
pub entries_in : (places : BTreeMap Proc (Option Track)) → IsOrdered proc_cmp places → finite.entries (data_in places) ≡ filled core_in places.entries
entries_in places ordered =
    let es = places.entries in
    let sorted = sorted_from proc_cmp (filled core_in es) (sorted_filled proc_cmp core_in es ordered) in
    entries_are procs_total exact_procs (data_in places) (filled core_in es) sorted (λ q. get-data_in places q ∙ sym (find-filled proc_cmp core_in exact_procs es ordered q))

pub keys_in : (places : BTreeMap Proc (Option Track)) → IsOrdered proc_cmp places → procs_of_lanes places.entries ≡ finite.keys (data_in places)
keys_in places ordered = ap (λ rows. map (λ (e : Proc × Core). e.0) rows) (sym (entries_in places ordered))

module _ (places : BTreeMap Proc (Option Track)) where
  -- what is known of the process of a lane
  known_of_lane : (p : Proc) (t : Track) → get proc_cmp places p ≡ Some (Some t) → known (data_in places) p ≡ core (known_by t)
  known_of_lane p t there = known_in places p ∙ ap (λ o. knowledge_in (option_map core_in (placed o))) there

  place_lines : (p : Proc) (place : Option Track) (es : List (Proc × Option Track)) → get proc_cmp places p ≡ Some place
      → flat_map (λ p. known_text p (known (data_in places) p)) (map (λ e. e.0) (filled_before core_in p place (filled core_in es)))
      ≡ lane_text p place ++ flat_map (λ p. known_text p (known (data_in places) p)) (map (λ e. e.0) (filled core_in es))
  place_lines p None es there = refl
  place_lines p (Some t) es there =
      ap (λ k. known_text p k ++ flat_map (λ p. known_text p (known (data_in places) p)) (map (λ e. e.0) (filled core_in es))) (known_of_lane p t there)
      ∙ ap (λ text. text ++ flat_map (λ p. known_text p (known (data_in places) p)) (map (λ e. e.0) (filled core_in es))) (core_text p (known_by t))

  -- the lines of those whose places are in the tree
  lines_of_those :
      (es : List (Proc × Option Track)) → AllByRecursion (λ e. get proc_cmp places e.0 ≡ Some e.1) es
      → flat_map (λ p. known_text p (known (data_in places) p)) (map (λ e. e.0) (filled core_in es)) ≡ flat_map place_text es
  lines_of_those [] all = refl
  lines_of_those (e ∷ es) all = place_lines e.0 e.1 es all.0 ∙ ap (λ lines. place_text e ++ lines) (lines_of_those es all.1)

  pub dump_of_places : IsOrdered proc_cmp places → dump (data_in places) ≡ flat_map place_text places.entries
  unfolding dump
  dump_of_places ordered =
      ap (λ rows. flat_map (λ p. known_text p (known (data_in places) p)) (map (λ (e : Proc × Core). e.0) rows)) (entries_in places ordered)
      ∙ lines_of_those places.entries (recursion_from_All (λ e. get proc_cmp places e.0 ≡ Some e.1) places.entries (All-found procs_total places ordered))
