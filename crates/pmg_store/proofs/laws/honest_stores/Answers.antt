use Rattle.pmg_store.proofs.HonestPieces.{store_reads_honestly, equal_levels_read_alike}
use Rattle.pmg_store.proofs.laws.honest_stores.Goals as goal

pub returns : goal.returns
returns c = record { store_reads_honestly = store_reads_honestly; equal_levels_read_alike = equal_levels_read_alike }
