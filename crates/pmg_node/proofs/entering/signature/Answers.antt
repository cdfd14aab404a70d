use Rattle.std.proofs.Common.{sym, ◌∙◌}
use Rattle.pmg_node.proofs.EntryLemmas.{asked_within, asked_beyond}
use Rattle.pmg_node.proofs.entering.signature.Goals as goal

pub returns-in-Ok : goal.returns-in-Ok
returns-in-Ok c = asked_within c.args.procs.items c.args.collect c.in-Ok.signature (sym c.new.ensures ∙ c.in-Ok.is)

pub returns-in-Err-TooMany : goal.returns-in-Err-TooMany
returns-in-Err-TooMany c = asked_beyond c.args.procs.items c.args.collect c.in-Err-TooMany.field-0 (sym c.new.ensures ∙ c.in-Err-TooMany.is) c.in-Err-TooMany.field-0-is
