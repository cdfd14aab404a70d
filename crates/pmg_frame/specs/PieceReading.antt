-- The reading of contributions: the fields in order from the left, and the first fault.
use Rattle.std.specs.Prelude.{ℕ, ◌==◌, Bool, true, false, ◌&&◌, ◌||◌, nat_lt, nat_le, List, Option, Some, None, Ok}
use Rattle.std.specs.Ordering.{nat_cmp, is_lt}
use Rattle.std.specs.Cmp.Lexicographic.{slice_cmp}
use Rattle.std.specs.Int.{w32, w64}
use Rattle.pmg_value.specs.declared.refusal.Cause.TheVariants as causes
use Rattle.pmg_value.specs.Spelling.{spelling}
use Rattle.pmg_wire.specs.declared.fields.Admits.TheVariants as admits
use Rattle.pmg_wire.specs.Fields.{read_key, read_proc, read_value}
use Rattle.pmg_wire.specs.Many.{many}
use Rattle.pmg_wire.specs.Reading.{Place, Read, fault, ◌>>=◌, check, number_at}
use Rattle.pmg_commit.specs.Entries.{Entry}
use Rattle.pmg_commit.specs.Knowledge.{Contribution}
use Rattle.pmg_commit.specs.declared.piece.TheConstants.{MAX_COMMIT, MAX_ENTRIES}

-- the key of an entry is greater than the key of the entry before, if there is one
abbrev pub is_after : Option Entry → List ℕ → Bool
is_after None key = true
is_after (Some before) key = is_lt (slice_cmp nat_cmp before.key key)

-- an entry of a piece of the commits from+1 to to, after another entry or none
unfoldable pub read_entry : ℕ → ℕ → Option Entry → Place → Read Entry
read_entry from to before at = do
  key ← read_key at
  _ ← check (is_after before key.0) (fault at.offset causes.Order)
  number ← number_at w64 key.1
  _ ← check (nat_lt from number.0 && nat_le number.0 to) (fault key.1.offset causes.Number)
  value ← read_value number.1
  Ok (record { key = key.0; number = number.0; bytes = spelling value.0 }, value.1)

-- the commits from+1 to to: at least one commit, unless there may be none
abbrev pub is_range : Bool → ℕ → ℕ → Bool
is_range none from to = (nat_lt from to || (none && from == to)) && nat_le to MAX_COMMIT

-- a range of commits
unfoldable pub read_range : Bool → Place → Read (ℕ × ℕ)
read_range none at = do
  from ← number_at w64 at
  to ← number_at w64 from.1
  _ ← check (is_range none from.0 to.0) (fault at.offset causes.Range)
  Ok ((from.0, to.0), to.1)

-- some commits of a process, or none if that may be
unfoldable pub read_told : Bool → Place → Read Contribution
read_told none at = do
  proc ← read_proc admits.ClientsAndHost at
  range ← read_range none proc.1
  count ← number_at w32 range.1
  _ ← check (nat_le count.0 MAX_ENTRIES) (fault range.1.offset causes.Count)
  entries ← many (read_entry range.0.0 range.0.1) count.0 None count.1
  Ok (record { proc = proc.0; from = range.0.0; to = range.0.1; entries = entries.0 }, entries.1)

-- the body of a piece
abbrev pub read_piece : Place → Read Contribution
read_piece at = read_told false at
