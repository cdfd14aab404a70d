use Rattle.std.proofs.Common.{rules}
use Rattle.pmg_value.specs.declared.written.TheConstants.{HEX_PIECE}
use Rattle.pmg_value.proofs.HexDigits.{text_of_pieces}
use Rattle.pmg_value.proofs.WrittenParts.{more_written, front_written, last_written}
use Rattle.pmg_value.proofs.written.WatchedWriter.put_hex.Goals as goal

pub loop-rest-preserved : goal.loop-rest-preserved
loop-rest-preserved g c =
    let parts = text_of_pieces c.loop-rest.rest.now c.split_at.result.0.now c.split_at.result.1.now HEX_PIECE c.split_at.ensures.front c.split_at.ensures.back in
    more_written _ _ _ _ _ _ _ parts c.loop-rest.invariant c.in_ok-put_hex_piece.ensures.text.1

pub returns-in_err-put_hex_piece-clause-text : goal.returns-in_err-put_hex_piece-clause-text
returns-in_err-put_hex_piece-clause-text g c =
    let parts = text_of_pieces c.loop-rest.rest.now c.split_at.result.0.now c.split_at.result.1.now HEX_PIECE c.split_at.ensures.front c.split_at.ensures.back in
    (front_written _ _ _ _ _ _ _ parts c.loop-rest.invariant c.in_err-put_hex_piece.ensures.text.0, search rules)

pub returns-clause-text : goal.returns-clause-text
returns-clause-text g c = last_written _ _ _ _ _ _ c.loop-rest.invariant c.put_hex_piece-2.ensures.text
