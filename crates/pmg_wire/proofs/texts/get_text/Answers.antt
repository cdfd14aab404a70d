use Rattle.pmg_wire.proofs.BlobLaws.{zero_fits}
use Rattle.pmg_wire.proofs.texts.get_text.Goals as goal

pub overflow_add-start : goal.overflow_add-start
overflow_add-start c = record { fits = zero_fits _ _ _ _ _ _ c.offset-start.ensures.value c.offset-start.ensures.fits c.in_ok-text.ensures.read c.in-Some.ensures.bound }
