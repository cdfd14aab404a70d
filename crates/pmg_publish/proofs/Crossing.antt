-- What may cross threads: a board, what is shown of it, viewers and the publisher.
use denote.Param.Send.{IsSend, IsSync, sendable}
use Rattle.std.proofs.Crossing.{crosses as owners}
use Rattle.std.proofs.MapsCrossing.{crosses as maps}
use Rattle.logbook.proofs.tokens.Seen.TheSendSync as Seen
use Rattle.logbook.proofs.word.Word.TheSendSync as Word
use Rattle.atomic_table.proofs.shared.Seat.TheSendSync as Seat
use Rattle.atomic_table.proofs.shared.Shared.TheSendSync as Shared
use Rattle.atomic_table.proofs.send_lease.SendLease.TheSendSync as Lease
use Rattle.left_right.proofs.part.Part.TheSendSync as Part
use Rattle.left_right.proofs.part.Deed.TheSendSync as Deed
use Rattle.pmg_value.proofs.array.Array.TheLaws.TheKnot.{crosses as values}
use Rattle.pmg_value.specs.contracts.names.Nspace as Nspace
use Rattle.pmg_value.specs.contracts.names.Key as Key
use Rattle.pmg_value.specs.contracts.process.Proc as Proc
use Rattle.pmg_value.specs.contracts.value.Value as Value
use Rattle.pmg_commit.specs.contracts.piece.Piece as Piece
use Rattle.pmg_commit.specs.contracts.piece.PieceEntry as PieceEntry
use Rattle.pmg_lane.specs.contracts.entries.Stamp as Stamp
use Rattle.pmg_lane.specs.contracts.lane.Lane as Lane
use Rattle.pmg_lane.specs.contracts.merged.Merged as Merged
use Rattle.pmg_lane.specs.contracts.single.Single as Single
use Rattle.pmg_lane.specs.contracts.track.Track as Track
use Rattle.pmg_store.specs.contracts.store.Store as Store
use Rattle.pmg_store.specs.contracts.board.Board as Board
use Rattle.pmg_publish.specs.contracts.history.History as History
use Rattle.pmg_publish.specs.contracts.parts.Parts as Parts
use Rattle.pmg_publish.specs.contracts.shown.Shown as Shown
use Rattle.pmg_publish.specs.contracts.shown.Update as Update
use Rattle.pmg_publish.specs.contracts.viewer.Viewer as Viewer
use Rattle.pmg_publish.specs.contracts.publishing.Publisher as Publisher

pub nspace_send : IsSend Nspace.the_row
nspace_send = search (sendable, owners) depth 40

pub nspace_sync : IsSync Nspace.the_row
nspace_sync = search (sendable, owners) depth 40

pub key_send : IsSend Key.the_row
key_send = search (sendable, owners) depth 40

key_sync : IsSync Key.the_row
key_sync = search (sendable, owners) depth 40

pub proc_send : IsSend Proc.the_row
proc_send = search (nspace_send, sendable) depth 40

pub proc_sync : IsSync Proc.the_row
proc_sync = search (nspace_sync, sendable) depth 40

pub value_send : IsSend Value.the_row
value_send = search (values, proc_send, sendable, owners) depth 60 fits 20000

value_sync : IsSync Value.the_row
value_sync = search (values, proc_sync, sendable, owners) depth 60 fits 20000

stamp_send : IsSend Stamp.the_row
stamp_send = search (values, value_send, proc_send, sendable, owners) depth 40 fits 20000

stamp_sync : IsSync Stamp.the_row
stamp_sync = search (values, value_sync, proc_sync, sendable, owners) depth 40 fits 20000

entry_send : IsSend PieceEntry.the_row
entry_send = search (values, value_send, key_send, sendable, owners) depth 40 fits 20000

entry_sync : IsSync PieceEntry.the_row
entry_sync = search (values, value_sync, key_sync, sendable, owners) depth 40 fits 20000

merged_send : IsSend Merged.the_row
merged_send = search (key_send, value_send, stamp_send, entry_send, maps, sendable, owners) depth 40 fits 5000

merged_sync : IsSync Merged.the_row
merged_sync = search (key_sync, value_sync, stamp_sync, entry_sync, maps, sendable, owners) depth 40 fits 5000

single_send : IsSend Single.the_row
single_send = search (entry_send, sendable, owners) depth 40

single_sync : IsSync Single.the_row
single_sync = search (entry_sync, sendable, owners) depth 40

track_send : IsSend Track.the_row
track_send = search (single_send, merged_send, entry_send, key_send, value_send, stamp_send, maps, sendable, owners) depth 60 fits 20000

track_sync : IsSync Track.the_row
track_sync = search (single_sync, merged_sync, entry_sync, key_sync, value_sync, stamp_sync, maps, sendable, owners) depth 60 fits 20000

lane_send : IsSend Lane.the_row
lane_send = search (track_send, single_send, merged_send, entry_send, key_send, value_send, stamp_send, maps, sendable, owners) depth 60 fits 20000

lane_sync : IsSync Lane.the_row
lane_sync = search (track_sync, single_sync, merged_sync, entry_sync, key_sync, value_sync, stamp_sync, maps, sendable, owners) depth 60 fits 20000

store_send : IsSend Store.the_row
store_send = search (proc_send, lane_send, maps, owners, sendable) depth 40

store_sync : IsSync Store.the_row
store_sync = search (proc_sync, lane_sync, maps, owners, sendable) depth 40

pub board_send : IsSend (Board.the_field).row
board_send = search (store_send, sendable) depth 40

pub board_sync : IsSync (Board.the_field).row
board_sync = search (store_sync, sendable) depth 40

pub piece_send : IsSend Piece.the_row
piece_send = search (values, value_send, key_send, proc_send, sendable, owners) depth 60 fits 20000

pub history_send : IsSend (History.the_field).row
history_send = search (Seen.the_send, sendable) depth 40

pub history_sync : IsSync (History.the_field).row
history_sync = search (Seen.the_sync, sendable) depth 40

shown_send : IsSend Shown.the_row
shown_send = search (board_send, history_send, sendable) depth 40

shown_sync : IsSync Shown.the_row
shown_sync = search (board_sync, history_sync, sendable) depth 40

parts_send : IsSend (Parts.the_field).row
parts_send = search (piece_send, sendable, owners) depth 40

issue_send : IsSend Update.the_row
issue_send = search (parts_send, history_send, sendable) depth 40

pub viewer_send : IsSend Viewer.the_row
viewer_send = search (shown_send, shown_sync, history_send, Seen.the_send, Part.the_send, Part.the_sync, Seat.the_send, Shared.the_send, Shared.the_sync, Lease.the_send, Lease.the_sync, sendable, owners) depth 60 fits 20000

pub publisher_send : IsSend Publisher.the_row
publisher_send = search (shown_send, shown_sync, issue_send, history_send, Seen.the_send, Word.the_send, Part.the_send, Part.the_sync, Deed.the_send, Seat.the_send, Shared.the_send, Shared.the_sync, Lease.the_send, Lease.the_sync, sendable, owners)
    depth 60 fits 20000
