use Rattle.std.proofs.Common.{sym, ◌∙◌}
use Rattle.pmg_value.proofs.BlobLemmas.{no_zero}
use Rattle.pmg_value.proofs.blobs.first_zero.Goals as goal

pub returns-then-all_within-clause-value : goal.returns-then-all_within-clause-value
returns-then-all_within-clause-value c = sym (no_zero c.args.bytes.now (sym c.all_within.ensures ∙ c.if-all_within.true))
