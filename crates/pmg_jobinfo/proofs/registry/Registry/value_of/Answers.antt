use Rattle.pmg_jobinfo.proofs.NameLemmas.{name_is_text}
use Rattle.pmg_jobinfo.proofs.registry.Registry.value_of.Goals as goal

pub from_text-requires : goal.from_text-requires
from_text-requires c = name_is_text c.as_bytes.result.now c.as_bytes.ensures.name
