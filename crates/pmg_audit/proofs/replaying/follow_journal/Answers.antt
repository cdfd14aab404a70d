use Rattle.std.proofs.Common.{map}
use Rattle.pmg_node.specs.Opening.{new_server}
use Rattle.pmg_journal.specs.Journals.{happening_of}
use Rattle.pmg_audit.proofs.ReplaySteps.{happened_so}
use Rattle.pmg_audit.proofs.replaying.follow_journal.Goals as goal

pub returns-clause-ok : goal.returns-clause-ok
returns-clause-ok c =
    happened_so (new_server c.args.registry.now c.args.node) c.args.sayings.now (map happening_of c.args.events.items) c.follow_all.new.lane c.follow_all.new.sayings c.args.evidence.node
    c.in_default.ensures.ok c.requires.node
