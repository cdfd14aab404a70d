-- The puts that a process's commits sealed.
use Rattle.std.specs.Prelude.{ℕ, suc, ◌-◌, Bool, true, false, ◌&&◌, ◌||◌, not, nat_lt, nat_le, List, [], ◌∷◌, map, Result, Ok, Err, if◌then◌else◌, refl}
use Rattle.std.specs.Coded.{Coded, code_by, coded×, coded_list, coded_ℕ, coded_bool}
use Rattle.std.specs.FinMap as finite
use Rattle.std.specs.List.{filter, sum_by}
use Rattle.pmg_value.specs.Process.{coded_proc, is_client, is_host}
use Rattle.pmg_value.specs.declared.process.Proc.{Proc}
use Rattle.pmg_value.specs.declared.refusal.Refusal.{Refusal}
use Rattle.pmg_value.specs.declared.refusal.Refusal.TheVariants as refusals
use Rattle.pmg_scope.specs.Cached.{Table, Unsealed, row_size}
use Rattle.pmg_scope.specs.Rows.{KeyMap}
use Rattle.pmg_scope.specs.Scripts.{term_key}
use Rattle.pmg_scope.specs.declared.scope.Reach.{Reach}
use Rattle.pmg_scope.specs.declared.scope.Reach.TheVariants as reach
use Rattle.pmg_commit.specs.Entries.{Entry}
use Rattle.pmg_commit.specs.Knowledge.{Contribution}
use Rattle.pmg_scope.specs.declared.sizes.TheConstants.{MAX_CACHE_SIZE, MAX_KEYS}
use Rattle.pmg_commit.specs.declared.piece.TheConstants.{MAX_COMMIT}

-- The put that was sealed last under a key: the number of its commit, and the value's canonical bytes.
pub record Stamp : Type 0 where
  pub number : ℕ
  pub bytes : List ℕ

-- stamps by their keys
abbrev pub Stamps : Type 0
Stamps = KeyMap Stamp

-- the code of stamps
abbrev pub coded_stamps : Coded Stamps
coded_stamps =
    finite.code (coded_list coded_ℕ)
    (code_by (ℕ × List ℕ) (coded× coded_ℕ (coded_list coded_ℕ)) (λ s. (s.number, s.bytes)) (λ p. record { number = p.0; bytes = p.1 }) (λ _. refl))

-- A process, the number of its commits, whether it has ended, and the puts that were sealed last under each key. The puts are separate for
-- the other processes on its node and for processes on other nodes (PMIx Standard 5.0, PMIx_Commit; the numbers are this project's).
pub record Sealed : Type 0 where
  pub proc : Proc
  pub level : ℕ
  pub ended : Bool
  pub near : Stamps
  pub far : Stamps

-- a sealer as a tuple
abbrev pub coded_sealed : Coded Sealed
coded_sealed =
    code_by (Proc × (ℕ × (Bool × (Stamps × Stamps)))) (coded× coded_proc (coded× coded_ℕ (coded× coded_bool (coded× coded_stamps coded_stamps))))
    (λ z. (z.proc, (z.level, (z.ended, (z.near, z.far))))) (λ p. record { proc = p.0; level = p.1.0; ended = p.1.1.0; near = p.1.1.1.0; far = p.1.1.1.1 }) (λ _. refl)

-- the sealer of a process without commits
abbrev pub fresh : Proc → Sealed
fresh proc = record { proc = proc; level = 0; ended = false; near = finite.empty; far = finite.empty }

-- a sealer is of a process that commits: a client of a group, or its host
abbrev pub new_answer : Proc → Result Sealed Refusal
new_answer proc = if is_client proc || is_host proc then Ok (fresh proc) else Err refusals.BadParam

-- the stamps after the commit of that number sealed these keys and values one after the other
abbrev pub stamp_all : ℕ → Stamps → List (List ℕ × List ℕ) → Stamps
stamp_all n stamps [] = stamps
stamp_all n stamps (e ∷ es) = stamp_all n (finite.insert stamps e.0 (record { number = n; bytes = e.1 })) es

-- the stamps after the commit of that number sealed a table
unfoldable pub stamped : ℕ → Table → Stamps → Stamps
stamped n table stamps = stamp_all n stamps (finite.entries table)

-- the sealer after the next commit sealed a table for each of the two reaches, with or without the end of the process
abbrev pub stamped_with : Sealed → Bool → Table → Table → Sealed
stamped_with z ended near far = record {
  proc = z.proc;
  level = suc z.level;
  ended = ended;
  near = stamped (suc z.level) near z.near;
  far = stamped (suc z.level) far z.far;
}

-- the sealer after the next commit sealed a batch
abbrev pub sealed_with : Sealed → Unsealed → Sealed
sealed_with z b = stamped_with z z.ended b.near b.far

-- the put that an end seals for all: the key `pmix.term`, true
abbrev pub term_table : Table
term_table = finite.insert finite.empty term_key (1 ∷ 1 ∷ [])

-- the sealer after the end of the process, which is its last commit
abbrev pub ended_with : Sealed → Sealed
ended_with z = stamped_with z true term_table term_table

-- a process ends once
abbrev pub end_of : Sealed → Sealed
end_of z = if z.ended then z else ended_with z

-- the size of a key and its stamp: the bytes of key and value, and ten more
abbrev pub stamp_size : List ℕ × Stamp → ℕ
stamp_size e = row_size (e.0, e.1.bytes)

-- the size of stamps
abbrev pub stamps_size : Stamps → ℕ
stamps_size m = sum_by stamp_size (finite.entries m)

-- stamps within the limits of a cache: at most 65,535 keys, and a size of at most 16,000,000 bytes
abbrev pub are_within : Stamps → Bool
are_within m = nat_le (finite.len m) MAX_KEYS && nat_le (stamps_size m) MAX_CACHE_SIZE

-- The next commit can seal the batch. The process has not ended, and the number is not 4,294,967,295, which is kept for the end. For each
-- reach the stamps stay within the limits.
abbrev pub can_seal : Sealed → Unsealed → Bool
can_seal z b = not z.ended && nat_lt z.level (MAX_COMMIT - 1) && are_within (sealed_with z b).near && are_within (sealed_with z b).far

-- the state that a commit returns, by which it can be taken back: the sealer as it was
abbrev pub commit_answer : Sealed → Unsealed → Result Sealed Refusal
commit_answer z b = if can_seal z b then Ok z else Err refusals.TooMany

-- the answer of a commit: its number
abbrev pub seal_answer : Sealed → Unsealed → Result ℕ Refusal
seal_answer z b = if can_seal z b then Ok (suc z.level) else Err refusals.TooMany

-- the stamps for a reach; no stamps for the process's own
abbrev pub stamps_for : Sealed → Reach → Stamps
stamps_for z reach.Own = finite.empty
stamps_for z reach.Near = z.near
stamps_for z reach.Far = z.far

-- a stamp under its key, as an entry
abbrev pub stamped_entry : List ℕ × Stamp → Entry
stamped_entry e = record { key = e.0; number = e.1.number; bytes = e.1.bytes }

-- the stamps of the commits above a number, as entries in the order of their keys
abbrev pub newer_than : ℕ → Stamps → List Entry
newer_than from m = map stamped_entry (filter (λ e. nat_lt from e.1.number) (finite.entries m))

-- the puts that the commits above a number sealed for a reach
abbrev pub piece_at : Sealed → ℕ → Reach → Contribution
piece_at z from r = record { proc = z.proc; from = from; to = z.level; entries = newer_than from (stamps_for z r) }

-- a reach of other processes
abbrev pub is_other : Reach → Bool
is_other reach.Own = false
is_other reach.Near = true
is_other reach.Far = true

-- the piece from a number to the level, if there is one
abbrev pub piece_answer : Sealed → ℕ → Reach → Result Contribution Refusal
piece_answer z from r = if is_other r && nat_lt from z.level then Ok (piece_at z from r) else Err refusals.BadParam
