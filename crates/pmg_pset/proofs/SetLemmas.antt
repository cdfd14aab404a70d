-- What is kept of the sets, from change to change.
use Rattle.std.proofs.Common.{◌≡◌, ℕ, suc, ◌≤◌, nat_lt, nat_le, not, length, arith, Bool, true, false, ◌&&◌, cond, List, [], ◌∷◌, Option, Some, None, is_some, Result, Ok, Err, refl, sym, ap, subst, ◌∙◌}
use Rattle.std.specs.Prelude.{if◌then◌else◌}
use Rattle.std.specs.FinMap as finite
use Rattle.std.specs.FinMap.Entries.{find, put, by_order}
use Rattle.std.specs.List.{list_all, sum_by}
use Rattle.std.specs.Option.{option_map}
use Rattle.std.specs.declared.cmp.Ordering.{Ordering}
use Rattle.std.specs.declared.cmp.Ordering.TheVariants.{Less, Equal, Greater}
use Rattle.std.specs.Ordering.{nat_cmp, eq_by_cmp}
use Rattle.std.specs.Cmp.Lexicographic.{slice_cmp, nat_list_cmp_total}
use Rattle.std.proofs.lemmas.Bool.{false≢true, and_parts, and_from, leb-true, le-leb}
use Rattle.pmg_value.specs.Process.{host_name}
use Rattle.pmg_value.specs.declared.process.Proc.{Proc}
use Rattle.pmg_value.specs.declared.refusal.Refusal.{Refusal}
use Rattle.pmg_value.specs.declared.refusal.Refusal.TheVariants as refusals
use Rattle.pmg_value.specs.Answers.{Fails}
use Rattle.pmg_value.specs.CheckOrder.{check_order, first_in, first_of}
use Rattle.pmg_scope.specs.Cached.{global_put}
use Rattle.pmg_scope.specs.Rows.{counted_by}
use Rattle.pmg_value.proofs.RowLemmas.{entries_of_nothing}
use Rattle.pmg_scope.proofs.SumLemmas.{len_held, sum_put}
use Rattle.pmg_commit.specs.Sealed.{Stamp, Stamps, Sealed, fresh, newer_than, is_other, piece_answer, stamped, are_within, stamp_size, stamps_size, can_seal}
use Rattle.pmg_scope.specs.declared.scope.Reach.{Reach}
use Rattle.pmg_scope.specs.declared.scope.Reach.TheVariants as reach
use Rattle.pmg_commit.proofs.GrowthLemmas.{stamped_one}
use Rattle.pmg_pset.specs.Members.{no_members, proc_bytes, are_procs}
use Rattle.pmg_pset.specs.Refusing.{is_full, change_answer, delete_cause}
use Rattle.pmg_pset.specs.Sets.{AreSets, are_sets, set_changed, host, live_in, is_live}
use Rattle.pmg_pset.proofs.MemberLemmas.{bytes_of_procs}

abbrev StampRows : Type 0
StampRows = List (List ℕ × Stamp)

-- ---- one stamp more

abbrev holds_procs : StampRows → Bool
holds_procs es = list_all (λ e. are_procs e.1.bytes) es

put_beside : (k : List ℕ) (v : Stamp) (e : List ℕ × Stamp) (es : StampRows) (o : Ordering) → are_procs v.bytes ≡ true → holds_procs (e ∷ es) ≡ true
    → holds_procs (put (slice_cmp nat_cmp) k v es) ≡ true
    → holds_procs (by_order o ((k, v) ∷ e ∷ es) ((e.0, v) ∷ es) (e ∷ put (slice_cmp nat_cmp) k v es)) ≡ true
put_beside k v e es Less is all others = and_from _ _ is all
put_beside k v e es Equal is all others = and_from _ _ is (and_parts _ _ all).1
put_beside k v e es Greater is all others = and_from _ _ (and_parts _ _ all).0 others

put_procs : (k : List ℕ) (v : Stamp) (es : StampRows) → are_procs v.bytes ≡ true → holds_procs es ≡ true → holds_procs (put (slice_cmp nat_cmp) k v es) ≡ true
put_procs k v [] is all = and_from _ _ is refl
put_procs k v (e ∷ es) is all = put_beside k v e es (slice_cmp nat_cmp k e.0) is all (put_procs k v es is (and_parts _ _ all).1)

one_more : (n : ℕ) (k bytes : List ℕ) (m : Stamps) → are_procs bytes ≡ true → are_sets m ≡ true → are_sets (stamped n (finite.insert finite.empty k bytes) m) ≡ true
one_more n k bytes m is all =
    ap are_sets (stamped_one n k bytes m) ∙ ap holds_procs (finite.entries-insert nat_list_cmp_total m k (record { number = n; bytes = bytes }))
    ∙ put_procs k (record { number = n; bytes = bytes }) (finite.entries m) is all

-- ---- limits

nothing_within : are_within finite.empty ≡ true
nothing_within = λ i. nat_le (finite.len-empty (slice_cmp nat_cmp) Stamp i) 65535 && nat_le (sum_by stamp_size ((entries_of_nothing (slice_cmp nat_cmp)) i)) 16000000

-- what a commit took is within them
within_after : (z : Sealed) (name bytes : List ℕ) → can_seal z (global_put name bytes) ≡ true → are_within (set_changed z name bytes).far ≡ true
within_after z name bytes h = (and_parts _ _ h).1

-- and so is what puts no longer value in the place of another
shorter_within : (m : Stamps) (k : List ℕ) (v w : Stamp) → Some w ≡ finite.get m k → length v.bytes ≤ length w.bytes → are_within m ≡ true → are_within (finite.insert m k v) ≡ true
shorter_within m k v w there le h =
    let parts = and_parts (nat_le (finite.len m) 65535) (nat_le (stamps_size m) 16000000) h in
    let few = leb-true (finite.len m) 65535 parts.0 in
    let short = leb-true (stamps_size m) 16000000 parts.1 in
    let len = len_held m k v w there in
    let old = ap (counted_by (λ (s : Stamp). length s.bytes) k) there in
    let sum = sum_put (λ (s : Stamp). length s.bytes) m k v in
    and_from _ _ (le-leb (finite.len (finite.insert m k v)) 65535 (omega (arith, few, len)))
    (le-leb (stamps_size (finite.insert m k v)) 16000000 (omega (arith, short, sum, old, le)))

changed_sets : (z : Sealed) (name bytes : List ℕ) → AreSets z → are_procs bytes ≡ true → are_within (set_changed z name bytes).far ≡ true → AreSets (set_changed z name bytes)
changed_sets z name bytes are is within = record {
  host = are.host;
  going = are.going;
  alike = ap (stamped (suc z.level) (finite.insert finite.empty name bytes)) are.alike;
  sets = one_more (suc z.level) name bytes z.far is are.sets;
  within = within;
}

-- a change that a commit took leaves sets
pub changed_are_sets : (z w : Sealed) (name : List ℕ) (procs : List Proc) → AreSets z → can_seal z (global_put name (proc_bytes procs)) ≡ true → w ≡ set_changed z name (proc_bytes procs) → AreSets w
changed_are_sets z w name procs are can made =
    let bytes = proc_bytes procs in
    subst AreSets (sym made) (changed_sets z name bytes are (bytes_of_procs procs) (within_after z name bytes can))

-- the process of that name and rank is the host's
pub host_is : (p : Proc) → p.nspace ≡ host_name → p.rank ≡ 0 → p ≡ host
host_is p name rank = λ i. record { nspace = name i; rank = rank i }

-- a new sealer of the host's process has no sets
pub fresh_sets : AreSets (fresh host)
fresh_sets = record { host = refl; going = refl; alike = refl; sets = ap holds_procs (entries_of_nothing (slice_cmp nat_cmp)); within = nothing_within }

-- the host's piece is the same for each reach of other processes
pub same_piece : (z : Sealed) → AreSets z → (from : ℕ) (r : Reach) → is_other r ≡ true → piece_answer z from reach.Far ≡ piece_answer z from r
same_piece z are from reach.Own other = absurd (false≢true other)
same_piece z are from reach.Near other = ap (λ (m : Stamps). if nat_lt from z.level then Ok (record { proc = z.proc; from = from; to = z.level; entries = newer_than from m }) else Err refusals.BadParam) (sym are.alike)
same_piece z are from reach.Far other = refl

-- ---- what is there

find_procs : (es : StampRows) (k : List ℕ) (stamp : Stamp) → holds_procs es ≡ true → find (slice_cmp nat_cmp) k es ≡ Some stamp → are_procs stamp.bytes ≡ true
find_procs [] k stamp all is = absurd cc
find_procs (e ∷ es) k stamp all is =
    elim (eq_by_cmp (slice_cmp nat_cmp) k e.0) as (λ b. cond b (Some e.1) (find (slice_cmp nat_cmp) k es) ≡ Some stamp → are_procs stamp.bytes ≡ true) [
      | true ↦ λ here. subst (λ (s : Stamp). are_procs s.bytes ≡ true) (some_same here) (and_parts _ _ all).0
      | false ↦ λ there. find_procs es k stamp (and_parts _ _ all).1 there
    ] is
  where
    some_same : {x y : Stamp} → Some x ≡ Some y → x ≡ y
    some_same h = cc

pub found_procs : (z : Sealed) (k : List ℕ) (stamp : Stamp) → AreSets z → Some stamp ≡ finite.get z.far k → are_procs stamp.bytes ≡ true
found_procs z k stamp are is = find_procs (finite.entries z.far) k stamp are.sets (sym (is ∙ finite.get-entries z.far k))

-- ---- deletions

live_stamp : (o : Option Stamp) → is_some (live_in o) ≡ true → (w : Stamp) × (Some w ≡ o)
live_stamp None h = absurd (false≢true h)
live_stamp (Some w) h = (w, refl)

all_hold : (b : Bool) → (((true && b) && true) && true) ≡ b
all_hold true = refl
all_hold false = refl

below_last : (n : ℕ) → nat_lt n 4294967294 ≡ not (nat_le 4294967294 n)
below_last n = grind arith

-- a commit can seal a deletion, unless its number is the last
deletes : (z : Sealed) (name : List ℕ) → AreSets z → is_live z name ≡ true → can_seal z (global_put name no_members) ≡ not (is_full z)
deletes z name are live =
    let found = live_stamp (finite.get z.far name) live in
    let long : 6 ≤ length found.0.bytes = leb-true 6 (length found.0.bytes) (and_parts _ _ (found_procs z name found.0 are found.1)).1 in
    let stamp : Stamp = record { number = suc z.level; bytes = no_members } in
    let far : are_within (set_changed z name no_members).far ≡ true =
    ap are_within (stamped_one (suc z.level) name no_members z.far) ∙ shorter_within z.far name stamp found.0 found.1 (omega (arith, long)) are.within in
    let near : are_within (set_changed z name no_members).near ≡ true =
    ap (λ m. are_within (stamped (suc z.level) (finite.insert finite.empty name no_members) m)) are.alike ∙ far in
    (λ i. not (are.going i) && nat_lt z.level 4294967294 && near i && far i) ∙ all_hold (nat_lt z.level 4294967294) ∙ below_last z.level

-- a set that was found is there
pub found_live : {A : Type 0} (f : A → List ℕ) (o : Option A) (b : Option (List ℕ)) → option_map f o ≡ b → is_some o ≡ true → is_some b ≡ true
found_live f None b same some = absurd (false≢true some)
found_live f (Some x) b same some = ap is_some (sym same)

turned : (full : Bool) (w : Sealed) → ◌≡◌ {A = Result Sealed Refusal} (if not (not full) then Err refusals.TooMany else Ok w) (if full then Err refusals.TooMany else Ok w)
turned true w = refl
turned false w = refl

-- what is due to a deletion
pub deletion_due : (z : Sealed) (name : List ℕ) (procs : List Proc) → AreSets z → is_live z name ≡ true → procs ≡ []
    → change_answer z name procs ≡ first_of (delete_cause z name) z
deletion_due z name procs are live none =
    ap (change_answer z name) none
    ∙ ap (λ (can : Bool). if not can then Err refusals.TooMany else Ok z) (deletes z name are live)
    ∙ turned (is_full z) z
    ∙ sym (λ i. if not (live i) then Err refusals.NotFound else if is_full z then Err refusals.TooMany else Ok z)

-- ---- answers, of the sets that a change makes and of its number

fails_ok : {A B : Type 0} (e : Refusal) (a : A) (b : B) → Fails e (Ok a) → Fails e (Ok b)
fails_ok refusals.NoMemory a b h = tt
fails_ok e a b h = absurd cc

fails_err : (A B : Type 0) (e d : Refusal) → Fails {Y = A} e (Err d) → Fails {Y = B} e (Err d)
fails_err A B refusals.NoMemory d h = h
fails_err A B e d h = cc

-- where the sets are not due for a cause, nor is the number
refused_in : {A B : Type 0} (es : List Refusal) (cause : Refusal → Bool) (a : A) (b : B) (e : Refusal) → Fails e (first_in es cause a) → Fails e (first_in es cause b)
refused_in {A} {B} [] cause a b e h = fails_ok e a b h
refused_in {A} {B} (d ∷ es) cause a b e h =
    elim (cause d) as (λ (c : Bool). Fails e (if c then Err d else first_in es cause a) → Fails e (if c then Err d else first_in es cause b)) [
      | true ↦ λ t. fails_err A B e d t
      | false ↦ λ t. refused_in es cause a b e t
    ] h

pub refused_alike : {A B : Type 0} (cause : Refusal → Bool) (a : A) (b : B) (e : Refusal) → Fails e (first_of cause a) → Fails e (first_of cause b)
refused_alike cause a b e h = refused_in check_order cause a b e h

-- and where they are, so is the number
made_in : {A B : Type 0} (es : List Refusal) (cause : Refusal → Bool) (a x : A) (b : B) → first_in es cause a ≡ Ok x → (a ≡ x) × (first_in es cause b ≡ Ok b)
made_in [] cause a x b h = (cc, refl)
made_in (d ∷ es) cause a x b h =
    elim (cause d) as (λ (c : Bool). (if c then Err d else first_in es cause a) ≡ Ok x → (a ≡ x) × ((if c then Err d else first_in es cause b) ≡ Ok b)) [
      | true ↦ λ t. absurd cc
      | false ↦ λ t. made_in es cause a x b t
    ] h

pub made_alike : {A B : Type 0} (cause : Refusal → Bool) (a x : A) (b : B) → first_of cause a ≡ Ok x → (a ≡ x) × (first_of cause b ≡ Ok b)
made_alike cause a x b h = made_in check_order cause a x b h
