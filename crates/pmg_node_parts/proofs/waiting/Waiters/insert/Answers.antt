use Rattle.std.proofs.Common.{ap, ◌∙◌, sym}
use Rattle.std.specs.FinMap as finite
use Rattle.std.specs.FinSet as set
use Rattle.std.proofs.lemmas.Result.{on_ok_weaker, on_err_weaker}
use Rattle.pmg_value.specs.Rows.{map_of}
use Rattle.pmg_value.proofs.RowLemmas.{at_key, found_is, found_there, kept_is, put_found, put_same, rows_with, some_found}
use Rattle.pmg_frame.specs.FenceOrder.{name_cmp, name_total}
use Rattle.pmg_frame.proofs.FenceOrderLemmas.{names_exact}
use Rattle.pmg_node_parts.specs.Waiters.{Procs}
use Rattle.pmg_node_parts.proofs.WaiterLemmas.{one_more, first_one}
use Rattle.pmg_node_parts.proofs.waiting.Waiters.insert.Goals as goal

pub returns-in-Some-clause-ok : goal.returns-in-Some-clause-ok
returns-in-Some-clause-ok c =
    let old = c.self.inside.rows.entries in
    let f = c.args.name.now in
    let new = c.get_mut.follows.lender c.insert.new.self in
    on_ok_weaker c.insert.result
    (λ is. one_more c.args.self.now f c.args.proc.now c.in-Some.procs.now c.insert.new.self (map_of new.entries)
    (found_there name_total names_exact old c.args.self.now f c.self.view_is c.get_mut.result c.in-Some.procs c.in-Some.is c.get_mut.ensures.value)
    (is ∙ ap (set.insert c.in-Some.procs.now) c.in_ok-proc.ensures)
    (put_found name_total names_exact old c.args.self.now f c.self.view_is c.get_mut.result c.in-Some.procs new.entries c.insert.new.self c.in-Some.is c.get_mut.ensures.value (λ some. ((c.get_mut.follows.holds c.insert.new.self).3 some).0)))
    c.insert.ensures.ok

pub returns-in-Some-clause-err : goal.returns-in-Some-clause-err
returns-in-Some-clause-err c =
    let there = found_is c.get_mut.result c.in-Some.procs (at_key name_cmp c.args.name.now c.self.inside.rows.entries) c.in-Some.is c.get_mut.ensures.value in
    on_err_weaker c.insert.result
    (λ is. put_same name_total names_exact c.self.inside.rows.entries c.args.self.now c.args.name.now c.self.view_is (c.get_mut.follows.lender c.insert.new.self).entries c.in-Some.procs.now c.insert.new.self there is ((c.get_mut.follows.holds c.insert.new.self).3 (some_found there)).0)
    c.insert.ensures.err

pub returns-clause-ok : goal.returns-clause-ok
returns-clause-ok c =
    let old = c.self.inside.rows.entries in
    let f = c.args.name.now in
    let first = c.insert-2.new.self in
    first_one c.args.self.now f c.args.proc.now first (map_of c.insert-3.new.self.entries) (kept_is name_total names_exact old c.args.self.now f c.self.view_is _ (sym c.in_default.ensures.value))
    (c.in_ok-insert.ensures.ok ∙ (λ i. set.insert (c.new-procs.ensures i) (c.in_ok-proc.ensures i)))
    (rows_with name_total names_exact (λ (m : Procs). m) c.get_mut.follows.lender-at-none.entries c.insert-3.new.self.entries c.in_ok-copy.field-0 first c.in_ok-insert-2.ensures.updates.0
    ∙ ap (λ a. finite.insert (map_of a.entries) c.in_ok-copy.field-0 first) c.get_mut.follows.holds-at-none
    ∙ (λ i. finite.insert (c.self.view_is i) (c.in_ok-copy.ensures i) first))
