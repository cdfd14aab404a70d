use Rattle.std.proofs.Common.{◌≡◌, [], List, map, None, sym, subst, rules}
use Rattle.pmg_node.specs.Acting.{act_of}
use Rattle.pmg_journal.specs.Calling.{caller_of}
use Rattle.pmg_journal.specs.Journals.{happening_of}
use Rattle.pmg_audit.specs.Codes.{audited_put}
use Rattle.pmg_audit.specs.Replaying.{TakesPutsAt}
use Rattle.pmg_audit.specs.declared.moves.Put.{Put as KeptPut}
use Rattle.pmg_audit.proofs.ReplaySteps.{none_takes, takes_at}
use Rattle.pmg_audit.proofs.replaying.puts_before.Goals as goal

pub returns-in-None-clause-some : goal.returns-in-None-clause-some
returns-in-None-clause-some c =
    let jobs = c.args.registry.now in
    let e = happening_of c.args.event.now in
    let ss = c.args.sayings.now in
    let none : caller_of (act_of c.args.event.now.act) ≡ None = search rules in
    subst (λ (xs : List KeptPut). TakesPutsAt jobs c.args.node c.args.is_free ss e (map audited_put xs) ss) (sym c.new.ensures.items)
    (takes_at jobs c.args.node c.args.is_free ss e [] ss (λ s at. none_takes s ss e none))
