-- Pieces: the contributions that a frame can hold.
use Rattle.std.specs.Prelude.{ℕ, Bool, ◌+◌, ◌&&◌, ◌||◌, nat_lt, nat_le, List, length, map}
use Rattle.std.specs.List.{list_all, sum_by}
use Rattle.std.specs.Ordering.{nat_cmp, is_lt}
use Rattle.std.specs.Cmp.Lexicographic.{slice_cmp}
use Rattle.pmg_value.specs.declared.process.Proc.{Proc}
use Rattle.pmg_value.specs.Process.{is_client, is_host}
use Rattle.pmg_value.specs.Spelling.{spelling}
use Rattle.pmg_value.specs.Lists.{is_chain}
use Rattle.pmg_scope.specs.Cached.{row_size}
use Rattle.pmg_commit.specs.declared.piece.PieceEntry.{PieceEntry}
use Rattle.pmg_commit.specs.Entries.{Entry}
use Rattle.pmg_commit.specs.Knowledge.{Contribution}
use Rattle.pmg_commit.specs.declared.piece.TheConstants.{MAX_COMMIT, MAX_ENTRIES, MAX_PIECE_SIZE}

-- a piece's entry, with its value's canonical bytes
abbrev pub entry_of : PieceEntry → Entry
entry_of e = record { key = e.key; number = e.number; bytes = spelling e.value }

-- the puts that a process sealed in its commits from+1 to to
abbrev pub contribution : Proc → ℕ → ℕ → List PieceEntry → Contribution
contribution proc from to entries = record { proc = proc; from = from; to = to; entries = map entry_of entries }

-- the bytes of an entry in a frame: two of length, the key, eight of number, and the value
abbrev pub entry_size : Entry → ℕ
entry_size e = row_size (e.key, e.bytes)

-- The bytes of a frame's body: one of length, the namespace, and four of rank; twice eight of range, and
-- four of count; and the entries.
abbrev pub body_size : Proc → List Entry → ℕ
body_size proc entries = length proc.nspace + 25 + sum_by entry_size entries

-- at most as many entries and bytes as a frame can hold
abbrev pub is_small : Proc → List Entry → Bool
is_small proc entries = nat_le (length entries) MAX_ENTRIES && nat_le (body_size proc entries) MAX_PIECE_SIZE

-- the entry is of one of the commits from+1 to to
abbrev pub is_numbered : ℕ → ℕ → Entry → Bool
is_numbered from to e = nat_lt from e.number && nat_le e.number to

-- the key of f is greater than the key of e
abbrev pub is_key_rising : Entry → Entry → Bool
is_key_rising e f = is_lt (slice_cmp nat_cmp e.key f.key)

-- A contribution that is a piece. Its process may commit, it has at least one commit, and it is small enough for a frame. Its entries are
-- in the order of their keys, and each is of one of its commits.
unfoldable pub is_piece : Contribution → Bool
is_piece c =
    (is_client c.proc || is_host c.proc)
    && (nat_lt c.from c.to && nat_le c.to MAX_COMMIT)
    && is_small c.proc c.entries
    && is_chain is_key_rising c.entries
    && list_all (is_numbered c.from c.to) c.entries
