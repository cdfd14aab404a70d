use Rattle.std.proofs.Common.{refl}
use Rattle.pmg_value.proofs.WrittenLemmas.{rest_written}
use Rattle.pmg_value.proofs.written.WatchedWriter.put_text.Goals as goal

pub returns-clause-text : goal.returns-clause-text
returns-clause-text g c = rest_written _ _ _ _ _ _ _ refl c.in_ok-taken.ensures.bytes c.put_rest.ensures.text
