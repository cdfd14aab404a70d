use Rattle.std.proofs.Common.{arith, subst, ◌∙◌}
use Rattle.pmg_value.specs.Written.{Writes}
use Rattle.pmg_value.proofs.HexDigits.{encoded_text}
use Rattle.pmg_value.proofs.written.WatchedWriter.put_hex_piece.Goals as goal

pub returns-clause-text : goal.returns-clause-text
returns-clause-text g c = subst (Writes _ _ _) (c.in-Ok.ensures.written ∙ encoded_text c.args.bytes.now (λ i. omega (arith, c.type_inv.bytes i))) c.put_text.ensures.text
