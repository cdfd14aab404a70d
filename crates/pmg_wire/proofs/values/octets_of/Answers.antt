use Rattle.pmg_wire.proofs.BlobLaws.{blob_is}
use Rattle.pmg_wire.proofs.values.octets_of.Goals as goal

pub from_bytes-requires : goal.from_bytes-requires
from_bytes-requires c = blob_is _ _ _ c.offset-start.ensures.bytes c.requires c.in_ok-bytes.ensures
