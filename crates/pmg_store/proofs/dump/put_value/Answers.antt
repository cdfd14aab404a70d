use Rattle.pmg_store.proofs.ReadTable.{value_text-spelling}
use Rattle.pmg_store.proofs.dump.put_value.Goals as goal

pub returns-clause-text : goal.returns-clause-text
returns-clause-text g c = rw (value_text-spelling c.args.value.now c.write_indented.ensures.is) c.write_indented.ensures.text
