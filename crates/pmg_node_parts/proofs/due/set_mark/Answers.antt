use Rattle.std.proofs.Common.{refl, sym, ap, ◌∙◌}
use Rattle.std.specs.Option.{option_map}
use Rattle.pmg_node_parts.proofs.SendLemmas.{marked_so, mark_set}
use Rattle.pmg_node_parts.proofs.due.set_mark.Goals as goal

pub returns-in_default : goal.returns-in_default
returns-in_default c =
    let to = c.args.sent.now.to in
    let none = sym c.mark_by.ensures ∙ ap (option_map (λ m. (m.0.now, m.1))) c.in_default.is in
    record { ok = sym (ap (marked_so c.args.marks.now to) none) ∙ mark_set c.args.marks.now to c.args.sent.now.frame; back = refl; set = λ h. h }

pub returns-clause-ok : goal.returns-clause-ok
returns-clause-ok c =
    let to = c.args.sent.now.to in
    let some = sym c.mark_by.ensures ∙ ap (option_map (λ m. (m.0.now, m.1))) c.in-Some.is in
    c.in_ok-set_level.ensures.ok ∙ ap (marked_so c.args.marks.now to) (sym some) ∙ mark_set c.args.marks.now to c.args.sent.now.frame
