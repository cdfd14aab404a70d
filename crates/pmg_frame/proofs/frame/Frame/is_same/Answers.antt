use Rattle.pmg_frame.proofs.SameLemmas.{same_piece_frames, same_header_frames, same_fence_ask_frames, same_refresh_reply_frames}
use Rattle.pmg_frame.proofs.frame.Frame.is_same.Goals as goal

pub returns-in-Piece-Piece : goal.returns-in-Piece-Piece
returns-in-Piece-Piece c = rw (c.in-Piece-Piece.is-0, c.in-Piece-Piece.is-1, c.is_same_piece.ensures) (same_piece_frames c.in-Piece-Piece.piece c.in-Piece-Piece.other)

pub returns-in-Header-Header : goal.returns-in-Header-Header
returns-in-Header-Header c = rw (c.in-Header-Header.is-0, c.in-Header-Header.is-1, c.is_same_header.ensures) (same_header_frames c.in-Header-Header.header c.in-Header-Header.other)

pub returns-in-FenceAsk-FenceAsk : goal.returns-in-FenceAsk-FenceAsk
returns-in-FenceAsk-FenceAsk c = rw (c.in-FenceAsk-FenceAsk.is-0, c.in-FenceAsk-FenceAsk.is-1, c.is_same_fence_ask.ensures) (same_fence_ask_frames c.in-FenceAsk-FenceAsk.ask c.in-FenceAsk-FenceAsk.other)

pub returns-in-RefreshReply-RefreshReply : goal.returns-in-RefreshReply-RefreshReply
returns-in-RefreshReply-RefreshReply c = rw (c.in-RefreshReply-RefreshReply.is-0, c.in-RefreshReply-RefreshReply.is-1, c.is_same_refresh_reply.ensures) (same_refresh_reply_frames c.in-RefreshReply-RefreshReply.reply c.in-RefreshReply-RefreshReply.other)
