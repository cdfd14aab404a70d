use Rattle.std.proofs.Common.{List, ℕ, Bor, get_or, []}
use Rattle.pmg_jobinfo.proofs.NameLemmas.{name_is_text, name_at}
use Rattle.pmg_jobinfo.proofs.names.texts_of.Goals as goal

pub from_text-requires : goal.from_text-requires
from_text-requires c =
    let none : Bor (List ℕ) = record { ref_ptr = (0, 0); now = [] } in
    name_is_text (get_or c.args.names.now c.loop-name.name-index none).now (name_at c.args.names.now c.loop-name.name-index none c.loop-name-test.true c.requires)
