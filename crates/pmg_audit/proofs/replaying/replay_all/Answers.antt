use Rattle.std.proofs.Common.{◌≡◌, ◌<◌, ◌≤◌, length, sym, subst, ◌∙◌, arith, rules}
use Rattle.pmg_node.specs.Opening.{new_server}
use Rattle.pmg_audit.specs.Replaying.{AddsNode, AllUnsaid, SomeUnsaid}
use Rattle.pmg_audit.specs.Runs.{journal_at}
use Rattle.pmg_audit.proofs.NodeSteps.{node_added, some_unsaid}
use Rattle.pmg_audit.proofs.ReplaySteps.{refuses_on}
use Rattle.pmg_audit.proofs.replaying.replay_all.Goals as goal

pub loop-index-preserved : goal.loop-index-preserved
loop-index-preserved c =
    let jobs = c.args.registry.now in
    let js = c.args.journals.now in
    let k = c.loop-index.index in
    let here = c.from_checked-node.result in
    let node : here ≡ k = search rules in
    let next : k ≤ here = omega (arith, node) in
    let left = c.loop-index.invariant.left in
    record {
      replayed = node_added jobs js c.args.sayings.now k c.loop-index.all c.loop-index.sayings c.replay_next.new.self c.replay_next.new.sayings c.loop-index.invariant.replayed
          (subst (λ n. AddsNode jobs js n c.loop-index.all c.loop-index.sayings c.replay_next.new.self c.replay_next.new.sayings) node (c.in_default.ensures.ok js (sym (left here next))));
      of = c.replay_next.ensures.of;
      left = λ n above. c.replay_next.ensures.others n (λ same. absurd (omega (arith, above, same, node))) ∙ left n (omega (arith, above));
    }

pub returns-in-Err-clause-refused : goal.returns-in-Err-clause-refused
returns-in-Err-clause-refused c =
    let jobs = c.args.registry.now in
    let js = c.args.journals.now in
    let k = c.loop-index.index in
    let here = c.from_checked-node.result in
    let node : here ≡ k = search rules in
    let next : k ≤ here = omega (arith, node) in
    let inside : k < length jobs.nodes = search rules in
    let told = c.loop-index.invariant.left here next in
    refuses_on c.in-Err.refusal (AllUnsaid (new_server jobs here) c.loop-index.sayings (journal_at c.loop-index.journals here)) (SomeUnsaid jobs js c.args.sayings.now) c.in-Err.ensures.refused
    (λ not. some_unsaid jobs js c.args.sayings.now k c.loop-index.all c.loop-index.sayings c.loop-index.invariant.replayed inside
    (subst (λ n. AllUnsaid (new_server jobs n) c.loop-index.sayings (journal_at js n)) node (subst (AllUnsaid (new_server jobs here) c.loop-index.sayings) told not)))
