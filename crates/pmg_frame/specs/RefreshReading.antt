-- The reading of refresh asks and their replies: the fields in order from the left, and the first fault.
use Rattle.std.specs.Prelude.{ℕ, Bool, true, Ok, if◌then◌else◌}
use Rattle.std.specs.Int.{w64}
use Rattle.pmg_value.specs.declared.refusal.Cause.TheVariants as causes
use Rattle.pmg_wire.specs.declared.fields.Admits.TheVariants as admits
use Rattle.pmg_wire.specs.Fields.{read_proc, read_flag, made}
use Rattle.pmg_wire.specs.Reading.{Place, Read, fault, ◌>>=◌, check, number_at}
use Rattle.pmg_frame.specs.FenceReading.{read_node, read_level}
use Rattle.pmg_frame.specs.Fences.{commit_ask}
use Rattle.pmg_frame.specs.PieceReading.{read_told}
use Rattle.pmg_frame.specs.Refreshing.{RefreshAsk, RefreshReply, refresh_ask, refresh_reply, is_request}
use Rattle.pmg_frame.specs.declared.frame.Frame.{Frame}
use Rattle.pmg_frame.specs.declared.frame.Frame.TheVariants as frames

-- the number of a request
unfoldable pub read_request : Place → Read ℕ
read_request at = do
  request ← number_at w64 at
  _ ← check (is_request request.0) (fault at.offset causes.Number)
  Ok request

-- the node that asks, the number of its request, and whether this is the reply
unfoldable pub read_asker : Place → Read (ℕ × (ℕ × Bool))
read_asker at = do
  node ← read_node at
  request ← read_request node.1
  role ← read_flag request.1
  Ok ((node.0, (request.0, role.0)), role.1)

-- an ask of that node and number: the process, and the level
unfoldable pub read_refresh_ask : ℕ → ℕ → Place → Read RefreshAsk
read_refresh_ask node request at = do
  p ← read_proc admits.ClientsAndHost at
  level ← read_level p.1
  Ok (refresh_ask request (commit_ask node p.0 level.0), level.1)

-- a reply to that node and number: some commits, or none
unfoldable pub read_refresh_reply : ℕ → ℕ → Place → Read RefreshReply
read_refresh_reply node request at = read_told true at >>= λ told. Ok (refresh_reply node request told.0, told.1)

-- the body of a refresh ask or of a reply
unfoldable pub read_refresh : Place → Read Frame
read_refresh at = read_asker at >>= λ asker.
    (if asker.0.1.1 then made frames.RefreshReply (read_refresh_reply asker.0.0 asker.0.1.0 asker.1)
    else made frames.RefreshAsk (read_refresh_ask asker.0.0 asker.0.1.0 asker.1))
