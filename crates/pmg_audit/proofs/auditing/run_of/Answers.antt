use Rattle.std.proofs.Common.{List, refl, sym, subst}
use Rattle.pmg_world.specs.Accounts.{Account}
use Rattle.pmg_audit.specs.Codes.{all_of}
use Rattle.pmg_audit.specs.Orders.{NoOrder}
use Rattle.pmg_audit.specs.OneRun.{IsOneRun}
use Rattle.pmg_audit.specs.declared.moves.Lane.{Lane}
use Rattle.pmg_audit.proofs.AuditLemmas.{one_by, order_fault, replay_fault}
use Rattle.pmg_audit.proofs.auditing.run_of.Goals as goal

pub run_with-requires : goal.run_with-requires
run_with-requires c =
    let parts = c.into_parts-nodes in
    let one = one_by c.args.registry c.requires.jobs c.args.journals.now c.args.transcripts.now c.requires.journals c.in-Ok.all c.in-Ok.ensures.ok c.in-Ok-make_order.order
    c.args.registry refl parts.result.0.items (λ i. (parts.ensures.nodes i).items) parts.result.1.items (λ i. (parts.ensures.lanes i).items) c.in-Ok-make_order.ensures.ok in
    record { run = one.run; lawful = one.lawful }

pub returns-in-Ok-make_order-clause-ok : goal.returns-in-Ok-make_order-clause-ok
returns-in-Ok-make_order-clause-ok c =
    let parts = c.into_parts-nodes in
    subst (λ (a : Account). IsOneRun c.args.journals.now c.args.transcripts.now a) (sym c.run_with.ensures)
    (one_by c.args.registry c.requires.jobs c.args.journals.now c.args.transcripts.now c.requires.journals c.in-Ok.all c.in-Ok.ensures.ok c.in-Ok-make_order.order
    c.args.registry refl parts.result.0.items (λ i. (parts.ensures.nodes i).items) parts.result.1.items (λ i. (parts.ensures.lanes i).items) c.in-Ok-make_order.ensures.ok)

pub returns-in-Err-make_order-clause-refused : goal.returns-in-Err-make_order-clause-refused
returns-in-Err-make_order-clause-refused c =
    let jobs = c.args.registry in
    let js = c.args.journals.now in
    let whole = c.in-Ok.ensures.ok in
    order_fault jobs js c.args.transcripts.now (all_of c.in-Ok.all.lanes.items) c.requires.journals whole.moves whole.agreed c.in-Err-make_order.refusal c.in-Err-make_order.ensures.few
    (λ e. subst (λ (ls : List Lane). NoOrder (all_of ls)) (λ i. (c.into_parts-nodes.ensures.lanes i).items) (c.in-Err-make_order.ensures.unordered e))

pub returns-in-Err-clause-refused : goal.returns-in-Err-clause-refused
returns-in-Err-clause-refused c =
    replay_fault c.args.registry c.args.journals.now c.args.transcripts.now c.requires.journals c.in-Err.refusal c.in-Err.ensures.refused
