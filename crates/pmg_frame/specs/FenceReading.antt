-- The reading of headers and asks: the fields in order from the left, and the first fault.
use Rattle.std.specs.Prelude.{ℕ, Bool, true, ◌&&◌, nat_lt, nat_le, List, length, Option, Some, None, Ok}
use Rattle.std.specs.FinSet as set
use Rattle.std.specs.Int.{w32, w64}
use Rattle.std.specs.Option.{option_map}
use Rattle.std.specs.Ordering.{is_lt}
use Rattle.pmg_value.specs.Process.{proc_cmp}
use Rattle.pmg_value.specs.Signatures.{FenceName}
use Rattle.pmg_value.specs.declared.process.Proc.{Proc}
use Rattle.pmg_value.specs.declared.refusal.Cause.TheVariants as causes
use Rattle.pmg_wire.specs.declared.fields.Admits.TheVariants as admits
use Rattle.pmg_wire.specs.Fields.{read_proc, read_flag}
use Rattle.pmg_wire.specs.Many.{many}
use Rattle.pmg_wire.specs.Reading.{Place, Read, fault, ◌>>=◌, check, number_at}
use Rattle.pmg_frame.specs.Fences.{participants_of, NameFields, fence_name, is_instance, is_level, state_of, Header, FenceAsk, CommitAsk}
use Rattle.pmg_frame.specs.declared.local.Local.{Local}
use Rattle.pmg_frame.specs.declared.signature.TheConstants.{MAX_PARTICIPANTS}
use Rattle.pmg_value.specs.declared.process.TheConstants.{MAX_NODE}

-- the process is greater than the one before, if there is one
abbrev pub is_greater : Option Proc → Proc → Bool
is_greater None p = true
is_greater (Some before) p = is_lt (proc_cmp before p)

-- a participant, after another participant or none
unfoldable pub read_participant : Option Proc → Place → Read Proc
read_participant before at = do
  p ← read_proc admits.Clients at
  _ ← check (is_greater before p.0) (fault at.offset causes.Order)
  Ok p

-- the participants: their number, and each of them
unfoldable pub read_participants : Place → Read (List Proc)
read_participants at = do
  count ← number_at w32 at
  _ ← check (nat_lt 0 count.0 && nat_le count.0 MAX_PARTICIPANTS) (fault at.offset causes.Count)
  many read_participant count.0 None count.1

-- the fields of a fence's name: whether it collects, the instance, and the participants, by this reader
unfoldable pub read_fields_by : (Place → Read (List Proc)) → Place → Read NameFields
read_fields_by list at = do
  collect ← read_flag at
  number ← number_at w64 collect.1
  _ ← check (is_instance number.0) (fault collect.1.offset causes.Number)
  ps ← list number.1
  Ok (record { collect = collect.0; number = number.0; list = ps.0 }, ps.1)

-- a fence's name, with its participants by this reader
unfoldable pub read_name_by : (Place → Read (List Proc)) → Place → Read FenceName
read_name_by list at = read_fields_by list at >>= λ fields. Ok (fence_name fields.0, fields.1)

-- a fence's name
abbrev pub read_name : Place → Read FenceName
read_name at = read_name_by read_participants at

-- the index of a node
unfoldable pub read_node : Place → Read ℕ
read_node at = do
  node ← number_at w32 at
  _ ← check (nat_le node.0 MAX_NODE) (fault at.offset causes.Node)
  Ok node

-- a level
unfoldable pub read_level : Place → Read ℕ
read_level at = do
  level ← number_at w64 at
  _ ← check (is_level level.0) (fault at.offset causes.Level)
  Ok level

-- a line of a header for one participant, after another line or none
unfoldable pub read_local : FenceName → Option Local → Place → Read Local
read_local name before at = do
  p ← read_proc admits.Clients at
  _ ← check (is_greater (option_map (λ l. l.proc) before) p.0) (fault at.offset causes.Order)
  _ ← check (set.contains name.signature.participants p.0) (fault at.offset causes.Member)
  gone ← read_flag p.1
  level ← read_level gone.1
  Ok (record { proc = p.0; state = state_of gone.0; level = level.0 }, level.1)

-- the body of a header
unfoldable pub read_header : Place → Read Header
read_header at = do
  node ← read_node at
  name ← read_name node.1
  count ← number_at w32 name.1
  _ ← check (nat_lt 0 count.0 && nat_le count.0 (length (participants_of name.0))) (fault name.1.offset causes.Count)
  locals ← many (read_local name.0) count.0 None count.1
  Ok (record { node = node.0; name = name.0; locals = locals.0 }, locals.1)

-- the body of a fence ask, with the fence's participants by this reader
unfoldable pub read_ask_by : (Place → Read (List Proc)) → Place → Read FenceAsk
read_ask_by list at = do
  node ← read_node at
  name ← read_name_by list node.1
  Ok (record { node = node.0; name = name.0 }, name.1)

-- the body of a fence ask
abbrev pub read_fence_ask : Place → Read FenceAsk
read_fence_ask at = read_ask_by read_participants at

-- the body of an ask for commits
unfoldable pub read_commit_ask : Place → Read CommitAsk
read_commit_ask at = do
  node ← read_node at
  p ← read_proc admits.ClientsAndHost node.1
  level ← read_level p.1
  Ok (record { node = node.0; proc = p.0; level = level.0 }, level.1)
