use Rattle.std.proofs.Common.{map, refl, sym}
use Rattle.pmg_journal.specs.Journals.{happening_of}
use Rattle.pmg_audit.specs.Codes.{audited_put}
use Rattle.pmg_audit.specs.Replaying.{IsWhere}
use Rattle.pmg_audit.proofs.ReplaySteps.{continues_by, takes_there, unsaid_there}
use Rattle.pmg_audit.proofs.replaying.Replay.happen_next.Goals as goal

pub returns-in-None-clause-refused : goal.returns-in-None-clause-refused
returns-in-None-clause-refused c =
    let s = c.args.self.now.node in
    let e = happening_of c.args.event in
    let at : IsWhere c.registry.result.now c.id-node.result c.is_free_at-is_free.result e s = record { group = sym c.registry.ensures; index = sym c.id-node.ensures.value; free_is = c.is_free_at-is_free.ensures } in
    unsaid_there c.registry.result.now c.id-node.result c.is_free_at-is_free.result c.args.sayings.now e (c.in-None.ensures.none refl) s at

pub returns-in_ok-happen-in-Some-clause-ok : goal.returns-in_ok-happen-in-Some-clause-ok
returns-in_ok-happen-in-Some-clause-ok c =
    let s = c.args.self.now.node in
    let e = happening_of c.args.event in
    let puts = map audited_put c.in-Some.puts.items in
    let at : IsWhere c.registry.result.now c.id-node.result c.is_free_at-is_free.result e s = record { group = sym c.registry.ensures; index = sym c.id-node.ensures.value; free_is = c.is_free_at-is_free.ensures } in
    let takes = takes_there c.registry.result.now c.id-node.result c.is_free_at-is_free.result c.args.sayings.now e puts c.puts_before.new.sayings c.in-Some.ensures.some s at in
    continues_by c.args.self.now c.args.sayings.now e puts c.happen.new.self c.puts_before.new.sayings takes c.in_ok-happen-in-Some.ensures
