use Rattle.std.proofs.Common.{Option, refl, ap, sym, ◌∙◌}
use Rattle.std.specs.Option.{option_map, unwrap_or}
use Rattle.pmg_value.specs.Process.{proc_cmp}
use Rattle.pmg_value.specs.Rows.{rows_of, changed_at}
use Rattle.pmg_value.proofs.ProcessOrder.{procs_total, exact_procs}
use Rattle.pmg_value.proofs.RowLemmas.{at_key, found_is, some_found, changed_there, changed_nowhere, get-rows_of}
use Rattle.pmg_node_parts.specs.Calls.{standing_of}
use Rattle.pmg_node_model.specs.Holdings.{CallState}
use Rattle.pmg_node_parts.proofs.calls.change_row.Goals as goal

pub returns-in-Some-clause-rows : goal.returns-in-Some-clause-rows
returns-in-Some-clause-rows c =
    let old = c.args.rows.now.entries in
    let p = c.args.proc.now in
    let there = found_is c.get_mut.result c.in-Some.kept (at_key proc_cmp p old) c.in-Some.is c.get_mut.ensures.value in
    let updates = ((c.get_mut.follows.holds c.swap.new.x).3 (some_found there)).0 in
    changed_there procs_total exact_procs standing_of old (c.get_mut.follows.lender c.swap.new.x).entries (rows_of standing_of old) p c.swap.new.x c.in-Some.kept.now refl there
    updates
    ∙ ap (λ v. changed_at (rows_of {R = proc_cmp} standing_of old) p (standing_of v)) c.swap.ensures.x_after

pub returns-in-Some-clause-left : goal.returns-in-Some-clause-left
returns-in-Some-clause-left c =
    let there = found_is c.get_mut.result c.in-Some.kept (at_key proc_cmp c.args.proc.now c.args.rows.now.entries) c.in-Some.is c.get_mut.ensures.value in
    ap standing_of c.swap.ensures.y_after
    ∙ sym (ap (λ (o : Option CallState). unwrap_or o (standing_of c.args.call)) (get-rows_of procs_total standing_of c.args.rows.now.entries c.args.proc.now ∙ ap (option_map standing_of) there))

pub returns-in_default-clause-rows : goal.returns-in_default-clause-rows
returns-in_default-clause-rows c =
    let old = c.args.rows.now.entries in
    ap (λ a. rows_of {R = proc_cmp} standing_of a.entries) c.get_mut.follows.holds-at-none
    ∙ changed_nowhere procs_total exact_procs standing_of old (rows_of standing_of old) c.args.proc.now c.args.call refl c.in_default.ensures.value

pub returns-in_default-clause-left : goal.returns-in_default-clause-left
returns-in_default-clause-left c =
    sym (ap (λ (o : Option CallState). unwrap_or o (standing_of c.args.call))
    (get-rows_of procs_total standing_of c.args.rows.now.entries c.args.proc.now ∙ ap (option_map standing_of) (sym c.in_default.ensures.value)))
