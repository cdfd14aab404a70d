use Rattle.std.proofs.Common.{refl}
use Rattle.pmg_frame.specs.declared.frame.Frame.TheVariants as frames
use Rattle.pmg_frame.proofs.ReadBack.{fits, fits_back, reads_back}
use Rattle.pmg_frame.proofs.frame.encode_in.Goals as goal

pub returns-in-Piece-clause-read_back : goal.returns-in-Piece-clause-read_back
returns-in-Piece-clause-read_back c = let e = c.encode_piece.ensures in rw c.in-Piece.is (reads_back c.args.version (frames.Piece c.in-Piece.piece) (λ out. out.items) c.encode_piece.result c.requires e.bytes e.valid e.small)

pub returns-in-Header-clause-small : goal.returns-in-Header-clause-small
returns-in-Header-clause-small c = rw c.in-Header.is (fits c.args.version (frames.Header c.in-Header.header) c.encode_header.result refl c.encode_header.ensures.valid)

pub returns-in-Header-clause-read_back : goal.returns-in-Header-clause-read_back
returns-in-Header-clause-read_back c = let e = c.encode_header.ensures in rw c.in-Header.is (fits_back c.args.version (frames.Header c.in-Header.header) (λ out. out.items) c.encode_header.result c.requires e.bytes e.valid refl)

pub returns-in-FenceAsk-clause-small : goal.returns-in-FenceAsk-clause-small
returns-in-FenceAsk-clause-small c = rw c.in-FenceAsk.is (fits c.args.version (frames.FenceAsk c.in-FenceAsk.ask) c.encode_fence_ask.result refl c.encode_fence_ask.ensures.valid)

pub returns-in-FenceAsk-clause-read_back : goal.returns-in-FenceAsk-clause-read_back
returns-in-FenceAsk-clause-read_back c = let e = c.encode_fence_ask.ensures in rw c.in-FenceAsk.is (fits_back c.args.version (frames.FenceAsk c.in-FenceAsk.ask) (λ out. out.items) c.encode_fence_ask.result c.requires e.bytes e.valid refl)

pub returns-in-RangeAsk-clause-small : goal.returns-in-RangeAsk-clause-small
returns-in-RangeAsk-clause-small c = rw c.in-RangeAsk.is (fits c.args.version (frames.RangeAsk c.in-RangeAsk.ask) c.encode_commit_ask.result refl c.encode_commit_ask.ensures.valid)

pub returns-in-RangeAsk-clause-read_back : goal.returns-in-RangeAsk-clause-read_back
returns-in-RangeAsk-clause-read_back c = let e = c.encode_commit_ask.ensures in rw c.in-RangeAsk.is (fits_back c.args.version (frames.RangeAsk c.in-RangeAsk.ask) (λ out. out.items) c.encode_commit_ask.result c.requires e.bytes e.valid refl)

pub returns-in-DirectAsk-clause-small : goal.returns-in-DirectAsk-clause-small
returns-in-DirectAsk-clause-small c = rw c.in-DirectAsk.is (fits c.args.version (frames.DirectAsk c.in-DirectAsk.ask) c.encode_commit_ask-in-DirectAsk.result refl c.encode_commit_ask-in-DirectAsk.ensures.valid)

pub returns-in-DirectAsk-clause-read_back : goal.returns-in-DirectAsk-clause-read_back
returns-in-DirectAsk-clause-read_back c = let e = c.encode_commit_ask-in-DirectAsk.ensures in rw c.in-DirectAsk.is (fits_back c.args.version (frames.DirectAsk c.in-DirectAsk.ask) (λ out. out.items) c.encode_commit_ask-in-DirectAsk.result c.requires e.bytes e.valid refl)

pub returns-in-RefreshAsk-clause-small : goal.returns-in-RefreshAsk-clause-small
returns-in-RefreshAsk-clause-small c = rw c.in-RefreshAsk.is (fits c.args.version (frames.RefreshAsk c.in-RefreshAsk.ask) c.encode_refresh_ask.result refl c.encode_refresh_ask.ensures.valid)

pub returns-in-RefreshAsk-clause-read_back : goal.returns-in-RefreshAsk-clause-read_back
returns-in-RefreshAsk-clause-read_back c = let e = c.encode_refresh_ask.ensures in rw c.in-RefreshAsk.is (fits_back c.args.version (frames.RefreshAsk c.in-RefreshAsk.ask) (λ out. out.items) c.encode_refresh_ask.result c.requires e.bytes e.valid refl)

pub returns-in-RefreshReply-clause-read_back : goal.returns-in-RefreshReply-clause-read_back
returns-in-RefreshReply-clause-read_back c = let e = c.encode_refresh_reply.ensures in rw c.in-RefreshReply.is (reads_back c.args.version (frames.RefreshReply c.in-RefreshReply.reply) (λ out. out.items) c.encode_refresh_reply.result c.requires e.bytes e.valid e.small)
