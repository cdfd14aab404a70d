use Rattle.pmg_audit.proofs.LaneLemmas.{first_in}
use Rattle.pmg_audit.proofs.ordering.Making.look.Goals as goal

pub go_on-requires-clause-awake : goal.go_on-requires-clause-awake
go_on-requires-clause-awake c = first_in c.args.self.now.awake.items c.args.node c.requires.first
