use Rattle.std.proofs.Common.{List, sym, subst, ◌∙◌}
use Rattle.pmg_node.specs.Opening.{new_server}
use Rattle.pmg_journal.specs.Replays.{Happening}
use Rattle.pmg_audit.specs.Replaying.{HaveHappened}
use Rattle.pmg_audit.proofs.NodeSteps.{adds_node}
use Rattle.pmg_audit.proofs.replaying.AllReplayed.replay_next.Goals as goal

pub returns-in_ok-add-in-Ok-clause-ok : goal.returns-in_ok-add-in-Ok-clause-ok
returns-in_ok-add-in-Ok-clause-ok c = λ js same.
    let jobs = c.args.registry.now in
    let k = c.args.node in
    let replay = subst (λ (es : List Happening). HaveHappened (new_server jobs k) c.args.sayings.now es c.in-Ok.replay c.retell_journal.new.sayings) (c.take_events-events.ensures.events ∙ sym same) c.in-Ok.ensures.ok in
    adds_node jobs js k c.args.self.now c.args.sayings.now c.requires.node c.in-Ok.replay c.retell_journal.new.sayings replay c.add.new.self
    c.in_ok-add-in-Ok.ensures.nodes c.in_ok-add-in-Ok.ensures.lanes c.in_ok-add-in-Ok.ensures.fresh c.in_ok-add-in-Ok.ensures.stale

pub returns-in_ok-add-in-Ok-clause-of : goal.returns-in_ok-add-in-Ok-clause-of
returns-in_ok-add-in-Ok-clause-of c = c.take_events-events.ensures.of c.args.registry.now c.requires.of

pub returns-in_err-add-in-Ok-clause-of : goal.returns-in_err-add-in-Ok-clause-of
returns-in_err-add-in-Ok-clause-of c = c.take_events-events.ensures.of c.args.registry.now c.requires.of

pub returns-in-Err-clause-of : goal.returns-in-Err-clause-of
returns-in-Err-clause-of c = c.take_events-events.ensures.of c.args.registry.now c.requires.of
