use Rattle.std.proofs.Common.{◌≡◌, ◌++◌, [], length, sym, ◌∙◌, ap, arith}
use Rattle.std.proofs.lemmas.List.{length-map}
use Rattle.pmg_commit.specs.Pieces.{entry_of}
use Rattle.pmg_frame.specs.Spelling.{piece_body}
use Rattle.pmg_frame.specs.Versions.{head_spelling}
use Rattle.pmg_frame.proofs.PieceTests.{length-piece_body, are_pieces}
use Rattle.pmg_frame.proofs.RefreshTests.{piece_few}
use Rattle.pmg_frame.proofs.Appending.{appended_2}
use Rattle.pmg_frame.proofs.writing.encode_piece.Goals as goal

pub put_told-requires : goal.put_told-requires
put_told-requires c = omega (arith, piece_few c.args.piece.now c.size-size.ensures.piece, ap length c.entries.ensures, length-map c.entries.result.now entry_of)

pub returns-clause-bytes : goal.returns-clause-bytes
returns-clause-bytes c =
    let body = piece_body c.args.piece.now in
    let size : c.size-size.result ≡ length body = c.size-size.ensures.value ∙ sym (length-piece_body c.args.piece.now) in
    let head : c.put_head.new.out.items ≡ [] ++ head_spelling c.args.version 1 (length body) = rw (c.in_ok-out.ensures.items, size) at c.in_ok-put_head.ensures in
    let told : c.put_told.new.out.items ≡ c.put_head.new.out.items ++ body =
    rw (c.proc.ensures.value, c.from.ensures.value, c.to.ensures.value, c.entries.ensures) at c.in_ok-put_told.ensures.bytes in
    appended_2 [] c.put_head.new.out.items c.put_told.new.out.items (head_spelling c.args.version 1 (length body)) body head told

pub returns-clause-valid : goal.returns-clause-valid
returns-clause-valid c =
    ((are_pieces c.args.piece.now (rw c.proc.ensures.value at c.in_ok-put_told.ensures.name) (rw c.entries.ensures at c.in_ok-put_told.ensures.entries)).0 c.size-size.ensures.piece).0

pub returns-clause-small : goal.returns-clause-small
returns-clause-small c =
    ((are_pieces c.args.piece.now (rw c.proc.ensures.value at c.in_ok-put_told.ensures.name) (rw c.entries.ensures at c.in_ok-put_told.ensures.entries)).0 c.size-size.ensures.piece).1
