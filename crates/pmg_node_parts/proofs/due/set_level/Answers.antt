use Rattle.std.proofs.Common.{refl, sym, ap, subst, ◌∙◌}
use Rattle.pmg_value.specs.declared.process.Proc.{Proc}
use Rattle.pmg_dmodex.specs.Levels.{node_level, with_level}
use Rattle.pmg_node_parts.specs.Marking.{marks_back, AreSet}
use Rattle.pmg_node_parts.specs.declared.due.MarkUndo.{MarkUndo}
use Rattle.pmg_node_parts.proofs.SendLemmas.{mark_back, mark_missing, mark_there, marks_set}
use Rattle.pmg_node_parts.proofs.due.set_level.Goals as goal

pub returns-in_default-clause-ok : goal.returns-in_default-clause-ok
returns-in_default-clause-ok c = mark_missing c.args.marks.now c.args.proc.now c.args.node c.args.level c.get.result c.get.ensures c.in_default.is

pub returns-clause-ok : goal.returns-clause-ok
returns-clause-ok c = c.in_ok-set.ensures.ok ∙ mark_there c.args.marks.now c.args.proc.now c.args.node c.args.level c.get.result c.get.ensures c.in-Some.was c.in-Some.is

pub returns-clause-back : goal.returns-clause-back
returns-clause-back c =
    let b : MarkUndo = record { proc = c.in_ok-proc_before.proc_before; node = c.args.node; level = c.in-Some.was } in
    let was = ap (λ (p : Proc). node_level c.args.marks.now p c.args.node) c.in_ok-proc_before.ensures ∙ sym c.get.ensures ∙ c.in-Some.is in
    let is = c.in_ok-set.ensures.ok ∙ ap (λ (p : Proc). with_level c.args.marks.now p c.args.node c.args.level) (sym c.in_ok-proc_before.ensures) in
    ap (marks_back c.set.new.self) c.in_ok-push.ensures.items
    ∙ mark_back c.args.marks.now c.set.new.self c.args.before.now.items b c.in-Some.was c.args.level was refl is

pub returns-clause-set : goal.returns-clause-set
returns-clause-set c h =
    let b : MarkUndo = record { proc = c.in_ok-proc_before.proc_before; node = c.args.node; level = c.in-Some.was } in
    let was = ap (λ (p : Proc). node_level c.args.marks.now p c.args.node) c.in_ok-proc_before.ensures ∙ sym c.get.ensures ∙ c.in-Some.is in
    let is = c.in_ok-set.ensures.ok ∙ ap (λ (p : Proc). with_level c.args.marks.now p c.args.node c.args.level) (sym c.in_ok-proc_before.ensures) in
    subst (AreSet c.set.new.self) (sym c.in_ok-push.ensures.items)
    (marks_set c.args.marks.now c.set.new.self c.args.before.now.items b c.in-Some.was c.args.level was refl is h)
