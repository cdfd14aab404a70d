use Rattle.std.proofs.Common.{◌≡◌, map, subst, ◌∙◌}
use Rattle.pmg_node.specs.Opening.{new_server}
use Rattle.pmg_node.specs.Servers.{Server}
use Rattle.pmg_journal.specs.Journals.{happening_of}
use Rattle.pmg_audit.specs.Replaying.{AllUnsaid, HaveHappened, RefusesFor}
use Rattle.pmg_audit.proofs.replaying.replay_journal.Goals as goal

pub returns-in-Err-clause-refused : goal.returns-in-Err-clause-refused
returns-in-Err-clause-refused c =
    let is : c.in_ok-server.server ≡ new_server c.args.registry.now c.args.node = c.in_ok-server.ensures ∙ (λ i. new_server (c.in_ok-registry.ensures i) c.args.node) in
    subst (λ (s : Server). RefusesFor c.in-Err.refusal (AllUnsaid s c.args.sayings.now (map happening_of c.args.events.items))) is c.in-Err.ensures.refused

pub returns-clause-ok : goal.returns-clause-ok
returns-clause-ok c =
    let is : c.in_ok-server.server ≡ new_server c.args.registry.now c.args.node = c.in_ok-server.ensures ∙ (λ i. new_server (c.in_ok-registry.ensures i) c.args.node) in
    subst (λ (s : Server). HaveHappened s c.args.sayings.now (map happening_of c.args.events.items) c.happen_all.new.self c.happen_all.new.sayings) is c.in_default.ensures.ok
