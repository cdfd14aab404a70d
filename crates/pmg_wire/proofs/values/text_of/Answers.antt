use Rattle.pmg_wire.proofs.BlobLaws.{text_is}
use Rattle.pmg_wire.proofs.values.text_of.Goals as goal

pub from_text-requires : goal.from_text-requires
from_text-requires c = text_is _ _ _ c.offset-start.ensures.bytes c.requires c.in_ok-text.ensures
