use Rattle.pmg_store.proofs.DumpLemmas.{dump_of_places}
use Rattle.pmg_store.proofs.dump.dump_lanes.Goals as goal

pub returns-clause-text : goal.returns-clause-text
returns-clause-text g c = rw (dump_of_places c.args.places.now c.put_procs.ensures.ordered) c.put_procs.ensures.lines
