use Rattle.std.proofs.Common.{◌≡◌, Ok, Err, refl, sym, ap, subst, ◌∙◌}
use Rattle.std.proofs.lemmas.Result.{err_from_is_err_and}
use Rattle.std.specs.FinMap as finite
use Rattle.pmg_value.specs.CheckOrder.{first_of}
use Rattle.pmg_value.specs.Spelling.{spelling}
use Rattle.pmg_value.specs.declared.refusal.Refusal.TheVariants as refusals
use Rattle.pmg_jobinfo.specs.Jobs.{home_of}
use Rattle.pmg_node.specs.declared.act.Reply.TheVariants as replies
use Rattle.pmg_scope.specs.Cached.{put_cause, with_put}
use Rattle.pmg_caches.specs.Caching.{AllCached, cached_for}
use Rattle.pmg_world.specs.Keeping.{Happens}
use Rattle.pmg_group_model.specs.Worlds.{Event}
use Rattle.pmg_world.specs.declared.group.Group.{Group}
use Rattle.pmg_caches.proofs.CauseLemmas.{fails_due}
use Rattle.pmg_world.proofs.GroupLemmas.{happens_by, not_short, short_happens, node_there}
use Rattle.pmg_world.proofs.PutLemmas.{free_at, put_bad, put_refused, put_full, put_done}
use Rattle.pmg_world.proofs.group.Group.put.Goals as goal

pub returns-then-is_bad_put-clause-step : goal.returns-then-is_bad_put-clause-step
returns-then-is_bad_put-clause-step c =
    let g = c.args.self.now in
    let value = spelling c.args.value.now in
    happens_by g (Event.put c.args.proc.now c.args.scope c.args.key.now value) (Err refusals.BadParam) g refl
    (λ is w stands. put_bad g w stands c.args.proc.now c.args.scope c.args.key.now value (sym c.is_bad_put.ensures ∙ c.if-is_bad_put.true))

pub returns-in-Err-clause-step : goal.returns-in-Err-clause-step
returns-in-Err-clause-step c =
    let g = c.args.self.now in
    let p = c.args.proc.now in
    let value = spelling c.args.value.now in
    happens_by g (Event.put p c.args.scope c.args.key.now value) (Err c.in-Err.refusal) g refl
    (λ is w stands.
    let s = c.index.result.now in
    let of = node_there g w stands (home_of g.registry p) c.home_of-home.result s c.home_of-home.ensures.value c.home_of-home.ensures.bound c.index.ensures in
    put_refused g w stands p c.args.scope c.args.key.now value c.in-Err.refusal (sym c.is_bad_put.ensures ∙ c.if-is_bad_put.false)
    (free_at g.registry (home_of g.registry p) (w.nodes (home_of g.registry p)) s p (Err c.in-Err.refusal) of c.in-Err.ensures))

pub returns-in_err-copy-clause-step : goal.returns-in_err-copy-clause-step
returns-in_err-copy-clause-step c =
    let p = err_from_is_err_and c.from_residual.result c.from_residual.ensures.1 in
    short_happens c.args.self.now _ c.from_residual.result _ (p.1 ∙ ap Err p.2)

pub returns-in_err-copy-2-clause-step : goal.returns-in_err-copy-2-clause-step
returns-in_err-copy-2-clause-step c =
    let p = err_from_is_err_and c.from_residual-in_err-copy-2.result c.from_residual-in_err-copy-2.ensures.1 in
    short_happens c.args.self.now _ c.from_residual-in_err-copy-2.result _ (p.1 ∙ ap Err p.2)

pub returns-in-Ok-clause-step : goal.returns-in-Ok-clause-step
returns-in-Ok-clause-step c =
    let g = c.args.self.now in
    let p = c.args.proc.now in
    let scope = c.args.scope in
    let key = c.args.key.now in
    let value = spelling c.args.value.now in
    let new : Group = record { registry = g.registry; nodes = g.nodes; caches = c.put.new.self; sent = g.sent } in
    let same_key : c.in_ok-copy.field-0 ≡ key = c.in_ok-copy.ensures in
    let same_value : spelling c.in_ok-copy-2.field-0 ≡ value = ap spelling c.in_ok-copy-2.ensures in
    let there = (λ i. first_of (put_cause (cached_for g.caches p) scope (sym same_key i) (sym same_value i)) (tt {0})) ∙ c.in-Ok.ensures.answer in
    happens_by g (Event.put p scope key value) (Ok replies.Done) new refl
    (λ is w stands.
    let s = c.index.result.now in
    let of = node_there g w stands (home_of g.registry p) c.home_of-home.result s c.home_of-home.ensures.value c.home_of-home.ensures.bound c.index.ensures in
    put_done g w stands p scope key value (sym c.is_bad_put.ensures ∙ c.if-is_bad_put.false)
    (free_at g.registry (home_of g.registry p) (w.nodes (home_of g.registry p)) s p (Ok tt) of c.in_default.ensures)
    new there refl refl refl (c.in-Ok.ensures.ok ∙ (λ i. finite.insert g.caches p (with_put (cached_for g.caches p) scope (same_key i) (same_value i)))))

pub returns-in-Err-put-clause-step : goal.returns-in-Err-put-clause-step
returns-in-Err-put-clause-step c =
    let g = c.args.self.now in
    let p = c.args.proc.now in
    let scope = c.args.scope in
    let key = c.args.key.now in
    let value = spelling c.args.value.now in
    let e = c.in-Err-put.refusal in
    let same_key : c.in_ok-copy.field-0 ≡ key = c.in_ok-copy.ensures in
    let same_value : spelling c.in_ok-copy-2.field-0 ≡ value = ap spelling c.in_ok-copy-2.ensures in
    subst (λ (x : AllCached). Happens g (Event.put p scope key value) (Err e) (record { registry = g.registry; nodes = g.nodes; caches = x; sent = g.sent })) (sym c.in-Err-put.ensures.err)
    (happens_by g (Event.put p scope key value) (Err e) g refl
    (λ is w stands.
    let s = c.index.result.now in
    let of = node_there g w stands (home_of g.registry p) c.home_of-home.result s c.home_of-home.ensures.value c.home_of-home.ensures.bound c.index.ensures in
    let due = fails_due e _ c.in-Err-put.ensures.answer (λ short. not_short (Err e) (ap Err short) is) in
    put_full g w stands p scope key value (sym c.is_bad_put.ensures ∙ c.if-is_bad_put.false)
    (free_at g.registry (home_of g.registry p) (w.nodes (home_of g.registry p)) s p (Ok tt) of c.in_default.ensures)
    e ((λ i. first_of (put_cause (cached_for g.caches p) scope (sym same_key i) (sym same_value i)) (tt {0})) ∙ due)))
