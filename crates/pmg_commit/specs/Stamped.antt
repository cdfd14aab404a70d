-- Stamps in memory.
use Rattle.std.specs.Prelude.{◌≡◌, ℕ, ◌+◌, ◌-◌, ◌≤◌, Bool, false, ◌&&◌, ◌||◌, nat_lt, nat_le, Result, Ok, Err, IsTrue, if◌then◌else◌}
use Rattle.std.specs.FinMap as finite
use Rattle.std.specs.List.{list_all}
use Rattle.pmg_value.specs.Process.{is_client, is_host}
use Rattle.pmg_value.specs.Spelling.{spelling}
use Rattle.pmg_value.specs.declared.process.Proc.{Proc}
use Rattle.pmg_value.specs.declared.refusal.Refusal.{Refusal}
use Rattle.pmg_value.specs.declared.refusal.Refusal.TheVariants as refusals
use Rattle.pmg_commit.specs.Knowledge.{Contribution}
use Rattle.pmg_commit.specs.declared.last_puts.SealedPut.{SealedPut}
use Rattle.pmg_commit.specs.Sealed.{Stamp, Stamps, Sealed, are_within, stamps_size, newer_than}
use Rattle.pmg_commit.specs.declared.piece.TheConstants.{MAX_COMMIT, MAX_ENTRIES}
use Rattle.pmg_scope.specs.declared.sizes.TheConstants.{MAX_CACHE_SIZE}

-- a sealed put, with its value's canonical bytes
abbrev pub stamp_of : SealedPut → Stamp
stamp_of p = record { number = p.number; bytes = spelling p.value }

-- each stamp is of one of the commits 1 to n
abbrev pub are_of : ℕ → Stamps → Bool
are_of n m = list_all (λ e. nat_lt 0 e.1.number && nat_le e.1.number n) (finite.entries m)

-- stamps that a piece can hold: stamps within the limits, and the put of an end
abbrev pub are_small : Stamps → Bool
are_small m = nat_le (finite.len m) MAX_ENTRIES && nat_le (stamps_size m) (MAX_CACHE_SIZE + 21)

-- The rules of a sealer. Its process commits. Its level ends at the greatest commit, which is kept for the end. Until then the stamps are
-- within the limits. Each stamp is of one of the commits that were made.
pub record IsSealer (z : Sealed) : Type 0 where
  pub commits : IsTrue (is_client z.proc || is_host z.proc)
  pub last : z.level ≤ MAX_COMMIT
  pub free : z.ended ≡ false → z.level ≤ MAX_COMMIT - 1
  pub within : z.ended ≡ false → IsTrue (are_within z.near && are_within z.far)
  pub small : IsTrue (are_small z.near && are_small z.far)
  pub numbered : IsTrue (are_of z.level z.near && are_of z.level z.far)

-- pieces of the process's commits up to the level can be made from the stamps
pub record CanBeSent (proc : Proc) (level : ℕ) (m : Stamps) : Type 0 where
  pub commits : IsTrue (is_client proc || is_host proc)
  pub last : level ≤ MAX_COMMIT
  pub small : IsTrue (are_small m)
  pub numbered : IsTrue (are_of level m)

-- the piece of the process's commits from+1 to the level, if there are such commits
abbrev pub newer_answer : Proc → ℕ → ℕ → Stamps → Result Contribution Refusal
newer_answer proc from level m =
    if nat_lt from level then Ok (record { proc = proc; from = from; to = level; entries = newer_than from m }) else Err refusals.BadParam
