use Rattle.std.proofs.Common.{length, sym, ◌∙◌}
use Rattle.pmg_commands.proofs.LineLemmas.{line_decoded}
use Rattle.pmg_commands.proofs.text.decode_line.Goals as goal

pub returns : goal.returns
returns c ok =
    line_decoded c.decode_to_slice.new.out c.decode_to_slice.result (sym c.is_ok.ensures.value ∙ ok) c.args.digits.now (length c.args.bytes.now) c.requires c.decode_to_slice.ensures.value
