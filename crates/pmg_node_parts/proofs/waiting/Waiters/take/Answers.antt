use Rattle.std.proofs.Common.{sym, ap, ◌∙◌}
use Rattle.std.specs.Prelude.{◌==◌}
use Rattle.std.specs.FinSet as set
use Rattle.pmg_value.specs.Rows.{map_of, changed_at}
use Rattle.pmg_value.proofs.RowLemmas.{at_key, found_is, found_there, kept_is, some_found, changed_there, changed_nowhere}
use Rattle.pmg_frame.specs.FenceOrder.{name_cmp, name_total}
use Rattle.pmg_frame.proofs.FenceOrderLemmas.{names_exact}
use Rattle.pmg_node_parts.specs.Waiters.{Procs, waiters_in}
use Rattle.pmg_node_parts.proofs.WaiterLemmas.{left_is, nobody_left}
use Rattle.pmg_node_parts.proofs.waiting.Waiters.take.Goals as goal

pub returns-in_default-clause-left : goal.returns-in_default-clause-left
returns-in_default-clause-left c =
    sym (nobody_left c.args.self.now c.args.name.now c.args.proc.now
    (kept_is name_total names_exact c.self.inside.rows.entries c.args.self.now c.args.name.now c.self.view_is _ (sym c.in_default.ensures.value)))

pub returns-in_default-clause-procs : goal.returns-in_default-clause-procs
returns-in_default-clause-procs c =
    let whole = c.args.self.now in
    let f = c.args.name.now in
    ap (λ a. map_of {R = name_cmp} a.entries) c.get_mut.follows.holds-at-none
    ∙ changed_nowhere name_total names_exact (λ (procs : Procs). procs) c.self.inside.rows.entries whole f (set.remove (waiters_in whole f) c.args.proc.now) c.self.view_is
    c.in_default.ensures.value

pub returns-clause-left : goal.returns-clause-left
returns-clause-left c =
    let is = found_there name_total names_exact c.self.inside.rows.entries c.args.self.now c.args.name.now c.self.view_is c.get_mut.result c.in-Some.procs c.in-Some.is c.get_mut.ensures.value in
    c.is_empty.ensures ∙ ap (λ (s : Procs). set.len s == 0) (left_is c.args.self.now c.args.name.now c.args.proc.now c.in-Some.procs.now c.remove.new.self is c.remove.ensures)

pub returns-clause-procs : goal.returns-clause-procs
returns-clause-procs c =
    let old = c.self.inside.rows.entries in
    let whole = c.args.self.now in
    let f = c.args.name.now in
    let there = found_is c.get_mut.result c.in-Some.procs (at_key name_cmp f old) c.in-Some.is c.get_mut.ensures.value in
    let updates = ((c.get_mut.follows.holds c.remove.new.self).3 (some_found there)).0 in
    changed_there name_total names_exact (λ (procs : Procs). procs) old (c.get_mut.follows.lender c.remove.new.self).entries whole f c.remove.new.self c.in-Some.procs.now
    c.self.view_is there updates
    ∙ ap (changed_at whole f) (left_is whole f c.args.proc.now c.in-Some.procs.now c.remove.new.self (kept_is name_total names_exact old whole f c.self.view_is _ there) c.remove.ensures)
