-- What may cross threads: a desk, what lies in it, and clients.
use denote.Param.Send.{IsSend, IsSync, sendable}
use denote.Ref.{NamedLft}
use Rattle.std.proofs.Crossing.{crosses as owners}
use Rattle.std.proofs.MapsCrossing.{crosses as maps}
use Rattle.pmg_publish.proofs.Crossing.{board_send, history_sync, key_send, nspace_send, nspace_sync, piece_send, proc_send, proc_sync, publisher_send, value_send, viewer_send}
use Rattle.pmg_value.proofs.array.Array.TheLaws.TheKnot.{crosses as values}
use Rattle.pmg_value.specs.contracts.blobs.Text as Text
use Rattle.pmg_value.specs.contracts.process.Proc as Proc
use Rattle.pmg_value.specs.contracts.value.Value as Value
use Rattle.pmg_jobinfo.specs.contracts.registry.Registry as Registry
use Rattle.pmg_frame.specs.contracts.signature.Signature as Signature
use Rattle.pmg_frame.specs.contracts.fence_name.FenceName as FenceName
use Rattle.pmg_frame.specs.contracts.local.Local as Local
use Rattle.pmg_frame.specs.contracts.header.Header as Header
use Rattle.pmg_frame.specs.contracts.asks.FenceAsk as FenceAsk
use Rattle.pmg_frame.specs.contracts.asks.CommitAsk as CommitAsk
use Rattle.pmg_frame.specs.contracts.refreshes.RefreshAsk as RefreshAsk
use Rattle.pmg_frame.specs.contracts.refreshes.RefreshReply as RefreshReply
use Rattle.pmg_frame.specs.contracts.frame.Frame as Frame
use Rattle.pmg_node_model.specs.contracts.sent.Sent as Sent
use Rattle.pmg_commit.specs.contracts.last_puts.SealedPut as SealedPut
use Rattle.pmg_commit.specs.contracts.piece.PieceEntry as PieceEntry
use Rattle.pmg_commit.specs.contracts.sealer.Sealer as Sealer
use Rattle.pmg_fence.specs.contracts.table.Table as Table
use Rattle.pmg_node_parts.specs.contracts.own.LocalCommits as LocalCommits
use Rattle.pmg_node_parts.specs.contracts.call.Call as CallState
use Rattle.pmg_node_parts.specs.contracts.calls.Calls as Calls
use Rattle.pmg_dmodex.specs.contracts.marks.Marks as Marks
use Rattle.pmg_dmodex.specs.contracts.pending.Pending as Pending
use Rattle.pmg_node.specs.contracts.server.Server as Server
use Rattle.pmg_node.specs.contracts.act.Act as Act
use Rattle.pmg_node.specs.contracts.act.Request as Request
use Rattle.pmg_node.specs.contracts.act.Reply as Reply
use Rattle.pmg_scope.specs.contracts.batch.Batch as Batch
use Rattle.pmg_scope.specs.contracts.cache.Cache as Cache
use Rattle.pmg_publish.specs.contracts.viewer.Told as Told
use Rattle.pmg_desk.proofs.exclusive.Exclusive.TheSendSync as Lonely
use Rattle.counted_slot.proofs.Counted.TheSendSync as Counted
use Rattle.logbook.proofs.tokens.Seen.TheSendSync as Seen
use Rattle.logbook.proofs.word.Word.TheSendSync as Word
use Rattle.pmg_history.specs.contracts.appender.Appender as Appender
use Rattle.pmg_history.specs.contracts.history.History as History
use Rattle.pmg_journal.specs.contracts.journal.Event as Event
use Rattle.pmg_journal.specs.contracts.journal.Journal as Journal
use Rattle.pmg_journal.specs.contracts.record.Step as Step
use Rattle.pmg_desk.specs.contracts.state.State as State
use Rattle.pmg_desk.specs.contracts.lock.LockState as LockState
use Rattle.pmg_desk.specs.contracts.lock.Desk as Desk
use Rattle.pmg_journal.specs.contracts.transcript.Transcript as Transcript
use Rattle.pmg_journal.specs.contracts.notes.ClientLog as ClientLog
use Rattle.pmg_desk.specs.contracts.client.Client as Client

text_send : IsSend Text.the_row
text_send = search (sendable, owners) depth 40

text_sync : IsSync Text.the_row
text_sync = search (sendable, owners) depth 40

proc_part : IsSend (Proc.the_field).row
proc_part = search (nspace_send, sendable) depth 40

value_part : IsSend (Value.the_field).row
value_part = search (values, proc_send, sendable, owners) depth 60 fits 20000

registry_send : IsSend Registry.the_row
registry_send = search (text_send, nspace_send, maps, owners, sendable) depth 60 fits 20000

registry_sync : IsSync Registry.the_row
registry_sync = search (text_sync, nspace_sync, maps, owners, sendable) depth 60 fits 20000

signature_send : IsSend Signature.the_row
signature_send = search (proc_send, owners, sendable) depth 40

signature_sync : IsSync Signature.the_row
signature_sync = search (proc_sync, owners, sendable) depth 40

fence_name_send : IsSend FenceName.the_row
fence_name_send = search (signature_send, sendable) depth 40

local_send : IsSend Local.the_row
local_send = search (proc_part, sendable) depth 40

header_send : IsSend Header.the_row
header_send = search (fence_name_send, local_send, owners, sendable) depth 40

fence_ask_send : IsSend FenceAsk.the_row
fence_ask_send = search (fence_name_send, sendable) depth 40

commit_ask_send : IsSend CommitAsk.the_row
commit_ask_send = search (proc_part, sendable) depth 40

refresh_ask_send : IsSend RefreshAsk.the_row
refresh_ask_send = search (commit_ask_send, sendable) depth 40

entry_send : IsSend PieceEntry.the_row
entry_send = search (key_send, value_part, sendable) depth 40

refresh_reply_send : IsSend RefreshReply.the_row
refresh_reply_send = search (proc_part, entry_send, owners, sendable) depth 40

pub frame_send : IsSend Frame.the_row
frame_send = search (piece_send, header_send, fence_ask_send, commit_ask_send, refresh_ask_send, refresh_reply_send, sendable) depth 60 fits 20000

frame_part : IsSend (Frame.the_field).row
frame_part = search (piece_send, header_send, fence_ask_send, commit_ask_send, refresh_ask_send, refresh_reply_send, sendable) depth 60 fits 20000

sent_send : IsSend Sent.the_row
sent_send = search (frame_part, sendable) depth 40

put_send : IsSend SealedPut.the_row
put_send = search (value_part, sendable) depth 40

sealer_send : IsSend Sealer.the_row
sealer_send = search (put_send, proc_part, key_send, maps, owners, sendable) depth 60 fits 20000

table_send : IsSend Table.the_row
table_send = search (registry_send, signature_send, signature_sync, header_send, proc_send, maps, owners, sendable) depth 80 fits 40000

own_part : IsSend (LocalCommits.the_field).row
own_part = search (sealer_send, proc_send, maps, owners, sendable) depth 60 fits 20000

standing_send : IsSend CallState.the_row
standing_send = search (fence_name_send, proc_part, proc_send, key_send, value_part, owners, sendable) depth 40 fits 20000

calls_send : IsSend Calls.the_row
calls_send = search (standing_send, fence_name_send, proc_send, key_send, maps, owners, sendable) depth 60 fits 40000

marks_send : IsSend Marks.the_row
marks_send = search (proc_send, maps, owners, sendable) depth 60 fits 20000

pending_send : IsSend Pending.the_row
pending_send = search (proc_send, maps, owners, sendable) depth 60 fits 20000

server_send : IsSend Server.the_row
server_send = search (table_send, board_send, own_part, calls_send, marks_send, pending_send, sendable) depth 40 fits 20000

batch_send : IsSend Batch.the_row
batch_send = search (values, key_send, value_send, owners, sendable) depth 60 fits 20000

request_send : IsSend Request.the_row
request_send = search (proc_part, proc_send, key_send, owners, sendable) depth 40 fits 20000

request_part : IsSend (Request.the_field).row
request_part = search (proc_part, proc_send, key_send, owners, sendable) depth 40 fits 20000

act_send : IsSend Act.the_row
act_send = search (request_part, proc_part, batch_send, frame_part, sendable) depth 40 fits 20000

act_part : IsSend (Act.the_field).row
act_part = search (request_part, proc_part, batch_send, frame_part, sendable) depth 40 fits 20000

reply_send : IsSend Reply.the_row
reply_send = search (proc_send, value_part, owners, sendable) depth 40 fits 20000

event_send : IsSend Event.the_row
event_send = search (act_part, reply_send, owners, sendable) depth 80 fits 40000

journal_part : IsSend (Journal.the_field).row
journal_part = search (registry_send, event_send, owners, sendable) depth 40 fits 20000

step_send : IsSend Step.the_row
step_send = search (sent_send, owners, sendable) depth 40 fits 20000

known_send : IsSend (History.the_row Event.the_row)
known_send = search (Seen.the_send, sendable) depth 40

known_part : IsSend (History.the_field Event.the_row).row
known_part = search (Seen.the_send, sendable) depth 40

known_sync : IsSync (History.the_row Event.the_row)
known_sync = search (Seen.the_sync, sendable) depth 40

list_part : IsSend (Appender.the_field Event.the_row).row
list_part = search (known_part, Word.the_send, sendable) depth 40

state_send : IsSend State.the_row
state_send = search (server_send, journal_part, list_part, step_send, sent_send, publisher_send, viewer_send, owners, sendable) depth 60 fits 40000

told_sync : IsSync Told.the_row
told_sync = search (history_sync, sendable) depth 40

gate_send : IsSend LockState.the_row
gate_send = search (proc_send, maps, owners, sendable) depth 60 fits 20000

pub desk_sync : IsSync Desk.the_row
desk_sync = search (registry_sync, known_sync, told_sync, gate_send, state_send, Lonely.the_send, Lonely.the_sync, Counted.the_sync, owners, sendable) depth 80 fits 40000

pub transcript_send : IsSend (Transcript.the_field).row
transcript_send = search (values, proc_part, key_send, value_part, request_part, reply_send, owners, sendable) depth 80 fits 40000

cache_send : IsSend Cache.the_row
cache_send = search (values, key_send, value_send, maps, owners, sendable) depth 60 fits 20000

notes_send : IsSend ClientLog.the_row
notes_send = search (transcript_send, cache_send, sendable) depth 40

pub client_send : (l : NamedLft) → IsSend (Client.the_row l)
client_send l = search (desk_sync, viewer_send, known_send, notes_send, sendable) depth 40
