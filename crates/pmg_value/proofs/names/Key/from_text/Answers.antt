use Rattle.pmg_value.proofs.NameLemmas.{key_is_printable}
use Rattle.pmg_value.proofs.names.Key.from_text.Goals as goal

pub of-requires : goal.of-requires
of-requires c = key_is_printable c.args.key.now c.requires
