-- What a signature keeps of a list: its processes sorted, and each once.
use Rattle.std.proofs.Common.{◌≡◌, ℕ, ◌≤◌, ◌<◌, Bool, true, false, ◌==◌, cond, nat_le, List, [], ◌∷◌, length, Ok, Err, IsTrue, refl, ap, arith}
use Rattle.std.specs.FinSet as set
use Rattle.std.specs.List.{list_all, dedup, dedup_from}
use Rattle.std.specs.List.Retain.{IsFiltered, DiffersFromLast}
use Rattle.std.specs.List.Sorted.{IsStrictlySortedBy, IsSorted, IsPermutation}
use Rattle.std.proofs.lemmas.Bool.{le-leb}
use Rattle.std.proofs.lemmas.List.Filters.{All-dedup}
use Rattle.std.proofs.lemmas.List.Sorted.{All-permutation, length_permutation}
use Rattle.std.proofs.lemmas.List.Sums.{AllPass-from_list_all, list_all-from_AllPass}
use Rattle.pmg_value.specs.declared.process.Proc.{Proc}
use Rattle.pmg_value.specs.declared.refusal.Refusal.TheVariants as refusals
use Rattle.pmg_value.specs.Process.{proc_cmp, is_client, is_same_proc}
use Rattle.pmg_value.proofs.ProcessOrder.{procs_total}
use Rattle.pmg_value.proofs.SetOrder.{len-from_list}
use Rattle.pmg_value.proofs.SortedLists.{kept_is, kept_rises, kept_set}
use Rattle.pmg_frame.specs.Fences.{AreParticipants, signature, asked_signature}

some_from : {K : Type 0} (E : K → K → Bool) (k : K) (xs : List K) → 1 ≤ length (dedup_from E k xs)
some_from E k [] = omega arith
some_from E k (x ∷ xs) = elim (E x k) as (λ b. 1 ≤ length (cond b (dedup_from E k xs) (k ∷ dedup_from E x xs))) [ true ↦ some_from E k xs | false ↦ omega arith ]

some_dedup : {K : Type 0} (E : K → K → Bool) (xs : List K) → 1 ≤ length xs → 1 ≤ length (dedup E xs)
some_dedup E [] h = absurd (omega arith)
some_dedup E (x ∷ xs) h = some_from E x xs

-- what is kept of a list
pub record KeptFrom (list ps : List Proc) : Type 0 where
  pub rising : IsStrictlySortedBy proc_cmp ps
  pub same : set.from_list {R = proc_cmp} ps ≡ set.from_list list
  pub clients : IsTrue (list_all is_client ps)
  pub some : 1 ≤ length ps

pub kept_from : (list sorted ps : List Proc) → IsPermutation list sorted → IsSorted proc_cmp sorted → IsFiltered (DiffersFromLast is_same_proc) [] sorted ps → IsTrue (list_all is_client list) → 1 ≤ length list → KeptFrom list ps
kept_from list sorted ps moved rises filtered clients some =
    let is = kept_is list sorted ps moved rises filtered in
    record {
      rising = kept_rises list sorted ps moved rises filtered;
      same = kept_set list sorted ps moved rises filtered;
      clients = rw is (list_all-from_AllPass is_client _ (All-dedup is_same_proc (λ x. is_client x ≡ true) sorted (All-permutation (λ x. is_client x ≡ true) list sorted moved (AllPass-from_list_all is_client list clients))));
      some = rw is (some_dedup is_same_proc sorted (omega (arith, some, length_permutation list sorted moved)));
    }

pub none_empty : (list : List Proc) → (length list == 0) ≡ false → 1 ≤ length list
none_empty [] h = absurd cc
none_empty (p ∷ ps) h = omega arith

pub are_participants : (list ps : List Proc) → KeptFrom list ps → length ps ≤ 4096 → AreParticipants ps
are_participants list ps k few = record { rising = k.rising; clients = k.clients; some = k.some; few = few }

-- what was asked for
pub made : (list ps : List Proc) (collect : Bool) → (length list == 0) ≡ false → list_all is_client list ≡ true → KeptFrom list ps → length ps ≤ 4096 → Ok (signature ps collect) ≡ asked_signature list collect
unfolding asked_signature
made list ps collect some clients k few =
    let count : nat_le (set.len (set.from_list {R = proc_cmp} list)) 4096 ≡ true = rw (← k.same, len-from_list procs_total ps k.rising) (le-leb _ _ few) in
    rw (some, clients, count) (ap (λ (s : set.FinSet proc_cmp). Ok (record { participants = s; collect = collect })) k.same)

pub refused : (list ps : List Proc) (collect : Bool) → (length list == 0) ≡ false → list_all is_client list ≡ true → KeptFrom list ps → 4096 < length ps → Err refusals.TooMany ≡ asked_signature list collect
unfolding asked_signature
refused list ps collect some clients k many =
    let count : nat_le (set.len (set.from_list {R = proc_cmp} list)) 4096 ≡ false = rw (← k.same, len-from_list procs_total ps k.rising) (not_le (length ps) many) in
    rw (some, clients, count) refl
  where
    not_le : (n : ℕ) → 4096 < n → nat_le n 4096 ≡ false
    not_le n h = grind arith
