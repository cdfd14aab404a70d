use Rattle.pmg_commands.specs.Output.{failure_line}
use Rattle.pmg_commands.proofs.reporting.write_line.Goals as goal

pub returns-in-Read-clause-text : goal.returns-in-Read-clause-text
unfolding failure_line
returns-in-Read-clause-text g c = rw c.in-Read.is c.put_text.ensures.text
