use Rattle.std.proofs.Common.{sym, ap, ◌∙◌}
use Rattle.std.specs.FinMap as finite
use Rattle.std.specs.FinSet as set
use Rattle.std.proofs.lemmas.Result.{err_from_is_err_and}
use Rattle.pmg_value.specs.Process.{proc_cmp}
use Rattle.pmg_value.specs.Rows.{map_of}
use Rattle.pmg_value.proofs.ProcessOrder.{procs_total, exact_procs}
use Rattle.pmg_value.proofs.RowLemmas.{at_key, insert_same, found_is, some_found}
use Rattle.pmg_fence.specs.Kept.{found_signatures}
use Rattle.pmg_fence.proofs.ListingLemmas.{no_row}
use Rattle.pmg_fence.proofs.Trees.{changed_in, put_in}
use Rattle.pmg_fence.proofs.index.Index.put.Goals as goal

pub returns-in_err-insert-clause-err : goal.returns-in_err-insert-clause-err
returns-in_err-insert-clause-err c =
    let there = found_is c.get_mut.result c.in-Some.signatures (at_key proc_cmp c.args.proc.now c.self.inside.rows.entries) c.in-Some.is c.get_mut.ensures.value in
    let now = changed_in procs_total exact_procs _ _ _ c.args.proc.now _ c.insert.new.self c.self.view_is there ((c.get_mut.follows.holds c.insert.new.self).3 (some_found there)).0 in
    rw (err_from_is_err_and c.from_residual-in_err-insert.result c.from_residual-in_err-insert.ensures.1).1
    (now.1 ∙ ap (finite.insert c.args.self.now c.args.proc.now) c.in_err-insert.ensures.err ∙ insert_same procs_total exact_procs c.args.self.now c.args.proc.now c.in-Some.signatures.now now.0)

pub returns-in-Some-clause-ok : goal.returns-in-Some-clause-ok
returns-in-Some-clause-ok c =
    let there = found_is c.get_mut.result c.in-Some.signatures (at_key proc_cmp c.args.proc.now c.self.inside.rows.entries) c.in-Some.is c.get_mut.ensures.value in
    let now = changed_in procs_total exact_procs _ _ _ c.args.proc.now _ c.insert.new.self c.self.view_is there ((c.get_mut.follows.holds c.insert.new.self).3 (some_found there)).0 in
    now.1 ∙ ap (finite.insert c.args.self.now c.args.proc.now) (c.in_ok-insert.ensures.ok
    ∙ ap (set.insert c.in-Some.signatures.now) c.in_ok-shared.ensures ∙ ap (λ o. set.insert (found_signatures o) c.args.signature.now) (sym now.0))

pub returns-clause-ok : goal.returns-clause-ok
returns-clause-ok c =
    let none = no_row c.self.inside.rows.entries c.args.self.now c.args.proc.now c.self.view_is c.in_default.ensures.value in
    let same = ap (λ a. map_of {R = proc_cmp} a.entries) c.get_mut.follows.holds-at-none ∙ c.self.view_is in
    put_in procs_total exact_procs (λ s. s) _ _ _ c.in_ok-copy.field-0 c.insert-2.new.self same (c.in_ok-insert-3.ensures).updates.0
    ∙ ap (λ p. finite.insert c.args.self.now p c.insert-2.new.self) c.in_ok-copy.ensures
    ∙ ap (finite.insert c.args.self.now c.args.proc.now) (c.in_ok-insert-2.ensures.ok
    ∙ ap (λ s. set.insert s c.in_ok-shared.shared) c.new-signatures.ensures
    ∙ ap (set.insert set.empty) c.in_ok-shared.ensures
    ∙ ap (λ o. set.insert (found_signatures o) c.args.signature.now) (sym none))
