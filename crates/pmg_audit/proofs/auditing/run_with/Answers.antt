use Rattle.std.proofs.Common.{◌≡◌, sym, subst}
use Rattle.pmg_world.specs.Accounts.{Account, IsAccountLawful, IsRun}
use Rattle.pmg_audit.specs.Runs.{account_by}
use Rattle.pmg_audit.proofs.auditing.run_with.Goals as goal

pub invariant_of-result : goal.invariant_of-result
invariant_of-result c =
    let same : ◌≡◌ {A = Account} (account_by c.args.registry c.args.nodes.items c.into_parts-sent.result.0.items c.into_parts-sent.result.1.items)
    (account_by c.args.registry c.args.nodes.items c.args.order.sent.items c.args.order.told.items) =
    (λ i. account_by c.args.registry c.args.nodes.items (c.into_parts-sent.ensures.sent i).items (c.into_parts-sent.ensures.told i).items) in
    (subst IsRun (sym same) c.requires.run, subst IsAccountLawful (sym same) c.requires.lawful)

pub returns : goal.returns
returns c = (λ i. account_by c.args.registry c.args.nodes.items (c.into_parts-sent.ensures.sent i).items (c.into_parts-sent.ensures.told i).items)
