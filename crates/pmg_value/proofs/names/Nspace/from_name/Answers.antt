use Rattle.pmg_value.proofs.NameLemmas.{name_is_printable}
use Rattle.pmg_value.proofs.names.Nspace.from_name.Goals as goal

pub of-requires : goal.of-requires
of-requires c = name_is_printable c.args.name.now c.requires
