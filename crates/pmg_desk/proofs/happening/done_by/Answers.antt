use Rattle.std.proofs.Common.{rules, ◌≡◌, false, Err, ◌∙◌}
use Rattle.pmg_node.specs.Acting.{act_of}
use Rattle.pmg_node.specs.Servers.{IsAnswered}
use Rattle.pmg_node.specs.declared.act.Acted.{Acted}
use Rattle.pmg_journal.specs.Journals.{is_memory}
use Rattle.pmg_desk.proofs.OpenLemmas.{is_answered, event_by, due_told, refused_joins}
use Rattle.pmg_desk.proofs.happening.done_by.Goals as goal

pub returns-in-Err-2-clause-kind : goal.returns-in-Err-2-clause-kind
returns-in-Err-2-clause-kind c =
    let other : is_memory c.in-Err.refusal ≡ false = search rules in
    let told : IsAnswered {X = Acted} (Err c.in-Err.refusal) = is_answered c.in-Err.refusal other in
    event_by c.args.node.now (act_of c.args.act.now) c.in-Err.refusal told (due_told c.args.node.now (act_of c.args.act.now) (Err c.in-Err.refusal) told c.in-Err.ensures.reply)

pub returns-in-Err-2-clause-joined : goal.returns-in-Err-2-clause-joined
returns-in-Err-2-clause-joined c =
    let other : is_memory c.in-Err.refusal ≡ false = search rules in
    let told : IsAnswered {X = Acted} (Err c.in-Err.refusal) = is_answered c.in-Err.refusal other in
    c.nothing.ensures ∙ refused_joins c.args.node.now (act_of c.args.act.now) c.in-Err.refusal (due_told c.args.node.now (act_of c.args.act.now) (Err c.in-Err.refusal) told c.in-Err.ensures.reply)
