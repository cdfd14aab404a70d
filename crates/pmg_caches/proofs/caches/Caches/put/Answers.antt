use Rattle.std.proofs.Common.{◌≡◌, Some, None, sym, ap, subst, ◌∙◌}
use Rattle.std.specs.FinMap as finite
use Rattle.std.specs.Option.{unwrap_or}
use Rattle.std.proofs.lemmas.Result.{err_from_is_err_and, on_ok_weaker, on_err_weaker}
use Rattle.pmg_value.specs.Answers.{Gives, Fails, IsAnswer}
use Rattle.pmg_value.specs.CheckOrder.{first_of}
use Rattle.pmg_value.specs.Process.{proc_cmp}
use Rattle.pmg_value.specs.Rows.{map_of}
use Rattle.pmg_value.specs.Spelling.{spelling}
use Rattle.pmg_value.proofs.ProcessOrder.{procs_total, exact_procs}
use Rattle.pmg_value.proofs.RowLemmas.{at_key, found_is, rows_with, some_found}
use Rattle.pmg_dmodex.proofs.InnerLemmas.{kept_is, put_there, put_same}
use Rattle.pmg_scope.specs.Cached.{Cached, no_puts, put_cause, with_put}
use Rattle.pmg_caches.specs.Caching.{AllCached, cached_for}
use Rattle.pmg_caches.proofs.caches.Caches.put.Goals as goal

pub returns-in-Some-clause-answer : goal.returns-in-Some-clause-answer
returns-in-Some-clause-answer c =
    let there = found_is c.get_mut.result c.in-Some.cache (at_key proc_cmp c.args.proc.now c.self.inside.rows.entries) c.in-Some.is c.get_mut.ensures.value in
    let was = ap (λ o. unwrap_or o no_puts) (kept_is c.self.inside.rows.entries c.args.self.now c.args.proc.now c.self.view_is (Some c.in-Some.cache.now) there) in
    subst (λ (z : Cached). Gives (λ u. u) c.put.result (first_of (put_cause z c.args.scope c.args.key (spelling c.args.value)) tt)) (sym was) c.put.ensures.answer

pub returns-in-Some-clause-ok : goal.returns-in-Some-clause-ok
returns-in-Some-clause-ok c =
    let old = c.self.inside.rows.entries in
    let p = c.args.proc.now in
    let there = found_is c.get_mut.result c.in-Some.cache (at_key proc_cmp p old) c.in-Some.is c.get_mut.ensures.value in
    let new = c.get_mut.follows.lender c.put.new.self in
    let was = ap (λ o. unwrap_or o no_puts) (kept_is old c.args.self.now p c.self.view_is (Some c.in-Some.cache.now) there) in
    let put = put_there old c.args.self.now p c.self.view_is new.entries c.put.new.self ((c.get_mut.follows.holds c.put.new.self).3 (some_found there)).0 in
    on_ok_weaker c.put.result (λ is. put ∙ ap (finite.insert c.args.self.now p) (is ∙ ap (λ (z : Cached). with_put z c.args.scope c.args.key (spelling c.args.value)) (sym was))) c.put.ensures.ok

pub returns-in-Some-clause-err : goal.returns-in-Some-clause-err
returns-in-Some-clause-err c =
    let old = c.self.inside.rows.entries in
    let p = c.args.proc.now in
    let there = found_is c.get_mut.result c.in-Some.cache (at_key proc_cmp p old) c.in-Some.is c.get_mut.ensures.value in
    let new = c.get_mut.follows.lender c.put.new.self in
    on_err_weaker c.put.result
    (λ is. put_same old c.args.self.now p c.self.view_is new.entries c.in-Some.cache.now c.put.new.self there is ((c.get_mut.follows.holds c.put.new.self).3 (some_found there)).0)
    c.put.ensures.err

-- nobody put anything under the process yet
abbrev fresh : (all : AllCached) (p : _) → finite.get all p ≡ None → cached_for all p ≡ no_puts
fresh all p none = ap (λ o. unwrap_or o no_puts) none

pub returns-in_err-put-clause-answer : goal.returns-in_err-put-clause-answer
returns-in_err-put-clause-answer c =
    let none = kept_is c.self.inside.rows.entries c.args.self.now c.args.proc.now c.self.view_is None (sym c.in_default.ensures.value) in
    let was = fresh c.args.self.now c.args.proc.now none ∙ sym c.new-cache.ensures in
    let p = err_from_is_err_and c.from_residual.result c.from_residual.ensures.1 in
    rw (p.1, p.2) (subst (λ (z : Cached). Fails c.in_err-put.field-0.0 (first_of (put_cause z c.args.scope c.args.key (spelling c.args.value)) tt)) (sym was) c.in_err-put.ensures.answer)

pub returns-in_err-copy-clause-answer : goal.returns-in_err-copy-clause-answer
returns-in_err-copy-clause-answer c =
    let none = kept_is c.self.inside.rows.entries c.args.self.now c.args.proc.now c.self.view_is None (sym c.in_default.ensures.value) in
    let was = fresh c.args.self.now c.args.proc.now none ∙ sym c.new-cache.ensures in
    let due = ap (λ (z : Cached). first_of (put_cause z c.args.scope c.args.key (spelling c.args.value)) tt) was ∙ c.in_ok-put.ensures.answer in
    let p = err_from_is_err_and c.from_residual-in_err-copy.result c.from_residual-in_err-copy.ensures.1 in
    rw (p.1, p.2) (subst IsAnswer (sym due) tt)

pub returns-in_err-insert-clause-answer : goal.returns-in_err-insert-clause-answer
returns-in_err-insert-clause-answer c =
    let none = kept_is c.self.inside.rows.entries c.args.self.now c.args.proc.now c.self.view_is None (sym c.in_default.ensures.value) in
    let was = fresh c.args.self.now c.args.proc.now none ∙ sym c.new-cache.ensures in
    let due = ap (λ (z : Cached). first_of (put_cause z c.args.scope c.args.key (spelling c.args.value)) tt) was ∙ c.in_ok-put.ensures.answer in
    let p = err_from_is_err_and c.from_residual-in_err-insert.result c.from_residual-in_err-insert.ensures.1 in
    rw (p.1, p.2) (subst IsAnswer (sym due) tt)

pub returns-clause-answer : goal.returns-clause-answer
returns-clause-answer c =
    let none = kept_is c.self.inside.rows.entries c.args.self.now c.args.proc.now c.self.view_is None (sym c.in_default.ensures.value) in
    let was = fresh c.args.self.now c.args.proc.now none ∙ sym c.new-cache.ensures in
    ap (λ (z : Cached). first_of (put_cause z c.args.scope c.args.key (spelling c.args.value)) tt) was ∙ c.in_ok-put.ensures.answer

pub returns-clause-ok : goal.returns-clause-ok
returns-clause-ok c =
    let none = kept_is c.self.inside.rows.entries c.args.self.now c.args.proc.now c.self.view_is None (sym c.in_default.ensures.value) in
    let was = fresh c.args.self.now c.args.proc.now none ∙ sym c.new-cache.ensures in
    rows_with procs_total exact_procs (λ (z : Cached). z) c.get_mut.follows.lender-at-none.entries c.insert.new.self.entries c.in_ok-copy.field-0 c.put-2.new.self c.in_ok-insert.ensures.updates.0
    ∙ ap (λ a. finite.insert (map_of a.entries) c.in_ok-copy.field-0 c.put-2.new.self) c.get_mut.follows.holds-at-none
    ∙ (λ i. finite.insert (c.self.view_is i) (c.in_ok-copy.ensures i) (c.in_ok-put.ensures.ok i))
    ∙ ap (λ (z : Cached). finite.insert c.args.self.now c.args.proc.now (with_put z c.args.scope c.args.key (spelling c.args.value))) (sym was)
