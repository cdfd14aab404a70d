-- What a sealer keeps, from commit to commit.
use Rattle.std.proofs.Common.{◌≡◌, ℕ, suc, ◌+◌, ◌≤◌, ◌<◌, Bool, true, false, cond, ◌&&◌, ◌||◌, nat_lt, nat_le, T, List, [], ◌∷◌, length, map, Result, Ok, Err, refl, sym, ap, subst, ◌∙◌, arith}
use Rattle.std.specs.FinMap as finite
use Rattle.std.specs.FinMap.Entries.{put, by_order, below_all, is_sorted}
use Rattle.std.specs.List.{filter, list_all, sum_by}
use Rattle.std.specs.declared.cmp.Ordering.{Ordering}
use Rattle.std.specs.declared.cmp.Ordering.TheVariants.{Less, Equal, Greater}
use Rattle.std.specs.Ordering.{nat_cmp, is_lt}
use Rattle.std.specs.Cmp.Lexicographic.{slice_cmp, nat_list_cmp_total}
use Rattle.std.proofs.lemmas.Bool.{false≢true, and_parts, and_from, leb-true, lt-ltb, le-leb, le-ltb}
use Rattle.std.proofs.lemmas.List.Sums.{sum_by-cons}
use Rattle.pmg_value.specs.Lists.{leads, is_chain}
use Rattle.pmg_value.specs.Answers.{Gives}
use Rattle.pmg_value.specs.Names.{is_nspace}
use Rattle.pmg_value.specs.Process.{is_client, is_host}
use Rattle.pmg_value.specs.declared.refusal.Refusal.{Refusal}
use Rattle.pmg_value.specs.declared.refusal.Refusal.TheVariants as refusals
use Rattle.pmg_value.specs.declared.process.Proc.{Proc}
use Rattle.pmg_scope.specs.Cached.{Table, Unsealed}
use Rattle.pmg_scope.specs.Scripts.{term_key}
use Rattle.pmg_value.proofs.RowLemmas.{entries_of_nothing}
use Rattle.pmg_scope.proofs.SumLemmas.{sum_put}
use Rattle.pmg_commit.specs.Knowledge.{Contribution}
use Rattle.pmg_commit.specs.Pieces.{entry_size, body_size, is_small, is_numbered, is_key_rising, is_piece}
use Rattle.pmg_commit.specs.Sealed.{Stamp, Stamps, Sealed, fresh, stamp_all, stamped, sealed_with, ended_with, term_table, stamp_size, stamps_size, are_within, stamped_entry, newer_than}
use Rattle.pmg_commit.specs.Stamped.{are_of, are_small, IsSealer, CanBeSent, newer_answer}

abbrev pub StampRows : Type 0
StampRows = List (List ℕ × Stamp)

-- ---- limits

bytes_of : Stamp → ℕ
bytes_of s = length s.bytes

nothing_len : finite.len (finite.empty {X = Stamp} {R = slice_cmp nat_cmp}) ≡ 0
nothing_len = finite.len-empty (slice_cmp nat_cmp) Stamp

pub nothing_size : stamps_size finite.empty ≡ 0
nothing_size = ap (sum_by stamp_size) (entries_of_nothing (slice_cmp nat_cmp))

nothing_within : are_within finite.empty ≡ true
nothing_within = λ i. nat_le (nothing_len i) 65535 && nat_le (nothing_size i) 16000000

nothing_small : are_small finite.empty ≡ true
nothing_small = λ i. nat_le (nothing_len i) 65536 && nat_le (nothing_size i) 16000021

nothing_of : (n : ℕ) → are_of n finite.empty ≡ true
nothing_of n = ap (list_all (λ e. nat_lt 0 e.1.number && nat_le e.1.number n)) (entries_of_nothing (slice_cmp nat_cmp))

within_small : (m : Stamps) → are_within m ≡ true → are_small m ≡ true
within_small m h =
    let parts = and_parts (nat_le (finite.len m) 65535) (nat_le (stamps_size m) 16000000) h in
    let few = leb-true (finite.len m) 65535 parts.0 in
    let short = leb-true (stamps_size m) 16000000 parts.1 in
    and_from _ _ (le-leb (finite.len m) 65536 (omega (arith, few))) (le-leb (stamps_size m) 16000021 (omega (arith, short)))

-- ---- one more stamp

stamped_term : (n : ℕ) (m : Stamps) → stamped n term_table m ≡ finite.insert m term_key (record { number = n; bytes = 1 ∷ 1 ∷ [] })
unfolding stamped
stamped_term n m =
    ap (stamp_all n m) (finite.entries-insert nat_list_cmp_total finite.empty term_key (1 ∷ 1 ∷ []) ∙ ap (put (slice_cmp nat_cmp) term_key (1 ∷ 1 ∷ [])) (entries_of_nothing (slice_cmp nat_cmp)))

one_more_at_most : (b : Bool) (n m : ℕ) → m ≡ cond b n (n + 1) → m ≤ n + 1
one_more_at_most true n m e = omega (arith, e)
one_more_at_most false n m e = omega (arith, e)

term_small : (n : ℕ) (m : Stamps) → are_within m ≡ true → are_small (stamped n term_table m) ≡ true
term_small n m h =
    let parts = and_parts (nat_le (finite.len m) 65535) (nat_le (stamps_size m) 16000000) h in
    let few = leb-true (finite.len m) 65535 parts.0 in
    let short = leb-true (stamps_size m) 16000000 parts.1 in
    let stamp : Stamp = record { number = n; bytes = 1 ∷ 1 ∷ [] } in
    let grown = one_more_at_most (finite.contains_key m term_key) (finite.len m) (finite.len (finite.insert m term_key stamp)) (finite.len-insert nat_list_cmp_total m term_key stamp) in
    let summed = sum_put (λ s. length s.bytes) m term_key stamp in
    ap are_small (stamped_term n m)
    ∙ and_from _ _ (le-leb (finite.len (finite.insert m term_key stamp)) 65536 (omega (arith, few, grown))) (le-leb (stamps_size (finite.insert m term_key stamp)) 16000021 (omega (arith, short, summed)))

-- ---- numbers

is_of : ℕ → Stamp → Bool
is_of n s = nat_lt 0 s.number && nat_le s.number n

list_all_weaker : {A : Type 0} (p q : A → Bool) (xs : List A) → ((x : A) → p x ≡ true → q x ≡ true) → list_all p xs ≡ true → list_all q xs ≡ true
list_all_weaker p q [] weaker h = refl
list_all_weaker p q (x ∷ xs) weaker h =
    let parts = and_parts (p x) (list_all p xs) h in
    and_from (q x) (list_all q xs) (weaker x parts.0) (list_all_weaker p q xs weaker parts.1)

of_more : (n : ℕ) (m : Stamps) → are_of n m ≡ true → are_of (suc n) m ≡ true
of_more n m h = list_all_weaker _ _ (finite.entries m) (λ e h.
    let parts = and_parts (nat_lt 0 e.1.number) (nat_le e.1.number n) h in
    let le = leb-true e.1.number n parts.1 in
    and_from _ _ parts.0 (le-leb e.1.number (suc n) (omega (arith, le)))) h

put_beside_of : (n : ℕ) (k : List ℕ) (v : Stamp) (e : List ℕ × Stamp) (es : StampRows) (o : Ordering) → (nat_lt 0 v.number && nat_le v.number n) ≡ true
    → list_all (λ e. nat_lt 0 e.1.number && nat_le e.1.number n) (e ∷ es) ≡ true
    → list_all (λ e. nat_lt 0 e.1.number && nat_le e.1.number n) (put (slice_cmp nat_cmp) k v es) ≡ true
    → list_all (λ e. nat_lt 0 e.1.number && nat_le e.1.number n) (by_order o ((k, v) ∷ e ∷ es) ((e.0, v) ∷ es) (e ∷ put (slice_cmp nat_cmp) k v es)) ≡ true
put_beside_of n k v e es Less is all others = and_from _ _ is all
put_beside_of n k v e es Equal is all others = and_from _ _ is (and_parts _ _ all).1
put_beside_of n k v e es Greater is all others = and_from _ _ (and_parts _ _ all).0 others

put_of : (n : ℕ) (k : List ℕ) (v : Stamp) (es : StampRows) → (nat_lt 0 v.number && nat_le v.number n) ≡ true
    → list_all (λ e. nat_lt 0 e.1.number && nat_le e.1.number n) es ≡ true
    → list_all (λ e. nat_lt 0 e.1.number && nat_le e.1.number n) (put (slice_cmp nat_cmp) k v es) ≡ true
put_of n k v [] is all = and_from _ _ is refl
put_of n k v (e ∷ es) is all = put_beside_of n k v e es (slice_cmp nat_cmp k e.0) is all (put_of n k v es is (and_parts _ _ all).1)

stamp_all_of : (n : ℕ) (m : Stamps) (es : List (List ℕ × List ℕ)) → are_of (suc n) m ≡ true → are_of (suc n) (stamp_all (suc n) m es) ≡ true
stamp_all_of n m [] h = h
stamp_all_of n m (e ∷ es) h =
    let stamp : Stamp = record { number = suc n; bytes = e.1 } in
    let is = and_from (nat_lt 0 (suc n)) (nat_le (suc n) (suc n)) (lt-ltb 0 (suc n) (omega arith)) (le-leb (suc n) (suc n) (omega arith)) in
    stamp_all_of n (finite.insert m e.0 stamp) es
    (ap (list_all (λ e. nat_lt 0 e.1.number && nat_le e.1.number (suc n))) (finite.entries-insert nat_list_cmp_total m e.0 stamp) ∙ put_of (suc n) e.0 stamp (finite.entries m) is h)

stamped_of : (n : ℕ) (table : Table) (m : Stamps) → are_of n m ≡ true → are_of (suc n) (stamped (suc n) table m) ≡ true
unfolding stamped
stamped_of n table m h = stamp_all_of n m (finite.entries table) (of_more n m h)

-- ---- what a sealer keeps

pub fresh_is : (proc : Proc) → (is_client proc || is_host proc) ≡ true → IsSealer (fresh proc)
fresh_is proc h = record {
  commits = h;
  last = omega arith;
  free = λ e. omega arith;
  within = λ e. and_from _ _ nothing_within nothing_within;
  small = and_from _ _ nothing_small nothing_small;
  numbered = and_from _ _ (nothing_of 0) (nothing_of 0);
}

pub sealed_is : (z : Sealed) (b : Unsealed) → IsSealer z → z.level < 4294967294
    → are_within (sealed_with z b).near ≡ true → are_within (sealed_with z b).far ≡ true → IsSealer (sealed_with z b)
sealed_is z b h less near far =
    let numbered = and_parts _ _ h.numbered in
    record {
      commits = h.commits;
      last = omega (arith, less);
      free = λ e. omega (arith, less);
      within = λ e. and_from _ _ near far;
      small = and_from _ _ (within_small _ near) (within_small _ far);
      numbered = and_from _ _ (stamped_of z.level b.near z.near numbered.0) (stamped_of z.level b.far z.far numbered.1);
    }

pub ended_is : (z : Sealed) → IsSealer z → z.ended ≡ false → IsSealer (ended_with z)
ended_is z h alive =
    let numbered = and_parts _ _ h.numbered in
    let within = and_parts _ _ (h.within alive) in
    let free = h.free alive in
    record {
      commits = h.commits;
      last = omega (arith, free);
      free = λ e. absurd (false≢true (sym e));
      within = λ e. absurd (false≢true (sym e));
      small = and_from _ _ (term_small (suc z.level) z.near within.0) (term_small (suc z.level) z.far within.1);
      numbered = and_from _ _ (stamped_of z.level term_table z.near numbered.0) (stamped_of z.level term_table z.far numbered.1);
    }

-- ---- pieces

t_true : (b : Bool) → T b → b ≡ true
t_true true h = refl
t_true false h = absurd h

below_filter : (p : List ℕ × Stamp → Bool) (x : List ℕ) (es : StampRows) → below_all (slice_cmp nat_cmp) x es ≡ true → below_all (slice_cmp nat_cmp) x (filter p es) ≡ true
below_filter p x [] h = refl
below_filter p x (e ∷ es) h =
    let parts = and_parts (is_lt (slice_cmp nat_cmp x e.0)) (below_all (slice_cmp nat_cmp) x es) h in
    let others = below_filter p x es parts.1 in
    elim (p e) as (λ b. below_all (slice_cmp nat_cmp) x (cond b (e ∷ filter p es) (filter p es)) ≡ true) [
      | true ↦ and_from _ _ parts.0 others
      | false ↦ others
    ]

sorted_filter : (p : List ℕ × Stamp → Bool) (es : StampRows) → is_sorted (slice_cmp nat_cmp) es ≡ true → is_sorted (slice_cmp nat_cmp) (filter p es) ≡ true
sorted_filter p [] h = refl
sorted_filter p (e ∷ es) h =
    let parts = and_parts (below_all (slice_cmp nat_cmp) e.0 es) (is_sorted (slice_cmp nat_cmp) es) h in
    let others = sorted_filter p es parts.1 in
    elim (p e) as (λ b. is_sorted (slice_cmp nat_cmp) (cond b (e ∷ filter p es) (filter p es)) ≡ true) [
      | true ↦ and_from _ _ (below_filter p e.0 es parts.0) others
      | false ↦ others
    ]

leads_sorted : (x : List ℕ × Stamp) (es : StampRows) → below_all (slice_cmp nat_cmp) x.0 es ≡ true → is_sorted (slice_cmp nat_cmp) es ≡ true
    → leads is_key_rising (stamped_entry x) (map stamped_entry es) ≡ true
leads_sorted x [] below sorted = refl
leads_sorted x (e ∷ es) below sorted =
    let parts = and_parts (below_all (slice_cmp nat_cmp) e.0 es) (is_sorted (slice_cmp nat_cmp) es) sorted in
    and_from _ _ (and_parts (is_lt (slice_cmp nat_cmp x.0 e.0)) (below_all (slice_cmp nat_cmp) x.0 es) below).0 (leads_sorted e es parts.0 parts.1)

chain_sorted : (es : StampRows) → is_sorted (slice_cmp nat_cmp) es ≡ true → is_chain is_key_rising (map stamped_entry es) ≡ true
chain_sorted [] h = refl
chain_sorted (e ∷ es) h =
    let parts = and_parts (below_all (slice_cmp nat_cmp) e.0 es) (is_sorted (slice_cmp nat_cmp) es) h in
    leads_sorted e es parts.0 parts.1

numbered_first : (from to : ℕ) (e : List ℕ × Stamp) (es : StampRows) (b : Bool) → nat_lt from e.1.number ≡ b → nat_le e.1.number to ≡ true
    → list_all (is_numbered from to) (map stamped_entry es) ≡ true → list_all (is_numbered from to) (map stamped_entry (cond b (e ∷ es) es)) ≡ true
numbered_first from to e es true newer le others = and_from _ _ (and_from _ _ newer le) others
numbered_first from to e es false newer le others = others

numbered_filter : (from to : ℕ) (es : StampRows) → list_all (λ e. nat_lt 0 e.1.number && nat_le e.1.number to) es ≡ true
    → list_all (is_numbered from to) (map stamped_entry (filter (λ e. nat_lt from e.1.number) es)) ≡ true
numbered_filter from to [] h = refl
numbered_filter from to (e ∷ es) h =
    let parts = and_parts _ _ h in
    numbered_first from to e (filter (λ e. nat_lt from e.1.number) es) (nat_lt from e.1.number) refl (and_parts _ _ parts.0).1 (numbered_filter from to es parts.1)

length_filter : (p : List ℕ × Stamp → Bool) (es : StampRows) → length (map stamped_entry (filter p es)) ≤ length es
length_filter p [] = omega arith
length_filter p (e ∷ es) =
    let others = length_filter p es in
    elim (p e) as (λ b. length (map stamped_entry (cond b (e ∷ filter p es) (filter p es))) ≤ suc (length es)) [
      | true ↦ omega (arith, others)
      | false ↦ omega (arith, others)
    ]

size_first : (e : List ℕ × Stamp) (es fs : StampRows) (b : Bool) → sum_by entry_size (map stamped_entry fs) ≤ sum_by stamp_size es
    → sum_by entry_size (map stamped_entry (cond b (e ∷ fs) fs)) ≤ sum_by stamp_size (e ∷ es)
size_first e es fs true others =
    let left = sum_by-cons entry_size (stamped_entry e) (map stamped_entry fs) in
    let right = sum_by-cons stamp_size e es in
    omega (arith, others, left, right)
size_first e es fs false others = let right = sum_by-cons stamp_size e es in omega (arith, others, right)

size_filter : (p : List ℕ × Stamp → Bool) (es : StampRows) → sum_by entry_size (map stamped_entry (filter p es)) ≤ sum_by stamp_size es
size_filter p [] = omega arith
size_filter p (e ∷ es) = size_first e es (filter p es) (p e) (size_filter p es)

newer_small : (proc : Proc) (from : ℕ) (m : Stamps) → length proc.nspace ≤ 255 → are_small m ≡ true → is_small proc (newer_than from m) ≡ true
newer_small proc from m name small =
    let parts = and_parts (nat_le (finite.len m) 65536) (nat_le (stamps_size m) 16000021) small in
    let few = leb-true (finite.len m) 65536 parts.0 in
    let short = leb-true (stamps_size m) 16000021 parts.1 in
    let fewer = length_filter (λ e. nat_lt from e.1.number) (finite.entries m) in
    let shorter = size_filter (λ e. nat_lt from e.1.number) (finite.entries m) in
    let len = finite.len-entries m in
    and_from _ _ (le-leb (length (newer_than from m)) 65536 (omega (arith, few, fewer, len))) (le-leb (body_size proc (newer_than from m)) 16777216 (omega (arith, name, short, shorter)))

-- what is sent of a sealer's commits is well below a frame's limit
pub newer_fits : (proc : Proc) (from : ℕ) (m : Stamps) → length proc.nspace ≤ 255 → are_small m ≡ true → body_size proc (newer_than from m) ≤ 16000301
newer_fits proc from m name small =
    let parts = and_parts (nat_le (finite.len m) 65536) (nat_le (stamps_size m) 16000021) small in
    let short = leb-true (stamps_size m) 16000021 parts.1 in
    let shorter = size_filter (λ e. nat_lt from e.1.number) (finite.entries m) in
    omega (arith, name, short, shorter)

none_left : (n : ℕ) (es : StampRows) → list_all (λ e. nat_lt 0 e.1.number && nat_le e.1.number n) es ≡ true → filter (λ e. nat_lt n e.1.number) es ≡ []
none_left n [] each = refl
none_left n (e ∷ es) each =
    let parts = and_parts _ _ each in
    let within = leb-true e.1.number n (and_parts _ _ parts.0).1 in
    ap (λ b. cond b (e ∷ filter (λ x. nat_lt n x.1.number) es) (filter (λ x. nat_lt n x.1.number) es)) (le-ltb n e.1.number within) ∙ none_left n es parts.1

-- and nothing was sealed by a later commit than the last one
pub none_newer : (n : ℕ) (m : Stamps) → are_of n m ≡ true → newer_than n m ≡ []
none_newer n m numbered = ap (map stamped_entry) (none_left n (finite.entries m) numbered)

pub newer_is_piece : (proc : Proc) (from level : ℕ) (m : Stamps) → (is_client proc || is_host proc) ≡ true → length proc.nspace ≤ 255 → from < level → level ≤ 4294967295
    → are_small m ≡ true → are_of level m ≡ true
    → is_piece (record { proc = proc; from = from; to = level; entries = newer_than from m }) ≡ true
unfolding is_piece
newer_is_piece proc from level m commits name less last small numbered =
    let sorted = t_true _ (finite.entries_sorted m) in
    and_from _ _
    (and_from _ _
    (and_from _ _
    (and_from _ _ commits (and_from _ _ (lt-ltb from level less) (le-leb level 4294967295 last)))
    (newer_small proc from m name small))
    (chain_sorted (filter (λ e. nat_lt from e.1.number) (finite.entries m)) (sorted_filter (λ e. nat_lt from e.1.number) (finite.entries m) sorted)))
    (numbered_filter from level (finite.entries m) numbered)

name_short : (name : List ℕ) → is_nspace name ≡ true → length name ≤ 255
name_short name h = leb-true (length name) 255 (and_parts _ _ (and_parts _ _ h).0).1

-- what making a piece of the newer stamps answers
pub gives_piece : (proc : Proc) (from level : ℕ) (m : Stamps) (k : Contribution) (result : Result Contribution Refusal)
    → CanBeSent proc level m → is_nspace proc.nspace ≡ true → from < level
    → k ≡ record { proc = proc; from = from; to = level; entries = newer_than from m }
    → result ≡ cond (is_piece k) (Ok k) (Err refusals.BadParam)
    → Gives (λ (p : Contribution). p) result (newer_answer proc from level m)
gives_piece proc from level m k result h name less same is =
    let piece = newer_is_piece proc from level m h.commits (name_short proc.nspace name) less h.last h.small h.numbered in
    let done : result ≡ Ok k = is ∙ ap (λ b. cond b (Ok k) (Err refusals.BadParam)) (ap is_piece same ∙ piece) in
    let due : newer_answer proc from level m ≡ Ok k =
    ap (λ b. cond b (Ok (record { proc = proc; from = from; to = level; entries = newer_than from m })) (Err refusals.BadParam)) (lt-ltb from level less) ∙ ap Ok (sym same) in
    subst (λ (r : Result Contribution Refusal). Gives (λ (p : Contribution). p) r (newer_answer proc from level m)) (sym done) due
