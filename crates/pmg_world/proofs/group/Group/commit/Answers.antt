use Rattle.std.proofs.Common.{◌≡◌, ◌<◌, ◌≤◌, length, Result, Ok, Err, refl, sym, ap, subst, ◌∙◌, arith}
use Rattle.std.proofs.lemmas.Bool.Decides.{nat_tests}
use Rattle.std.proofs.lemmas.Result.{err_from_is_err_and}
use Rattle.pmg_value.specs.declared.refusal.Refusal.{Refusal}
use Rattle.pmg_value.specs.declared.refusal.Refusal.TheVariants as refusals
use Rattle.pmg_scope.specs.Cached.{after_commit, unsealed_of}
use Rattle.pmg_value.specs.Rows.{changed_at}
use Rattle.pmg_node_model.specs.Acts.{Act, says}
use Rattle.pmg_node_model.specs.Fitting.{is_refusal, unless_refused}
use Rattle.pmg_node.specs.declared.act.Reply.{Reply as GivenReply}
use Rattle.pmg_caches.specs.Caching.{AllCached, cached_for}
use Rattle.pmg_world.specs.Keeping.{AreCaches, replied}
use Rattle.pmg_group_model.specs.Worlds.{Doing, Event, cache_of}
use Rattle.pmg_world.specs.declared.group.Group.{Group}
use Rattle.pmg_world.proofs.ClientLemmas.{commit_seals, unsealed_is}
use Rattle.pmg_world.proofs.GroupLemmas.{acts_on, happens_by, inside_is_node, no_refusal, outside_is_none, refused_stays, short_happens}
use Rattle.pmg_world.proofs.HappenLemmas.{commit_nowhere, commit_there}
use Rattle.pmg_world.proofs.StartLemmas.{some_server}
use Rattle.pmg_world.proofs.group.Group.commit.Goals as goal

pub returns-then-index-len-clause-step : goal.returns-then-index-len-clause-step
returns-then-index-len-clause-step c =
    let g = c.args.self.now in
    let past : length g.nodes.items ≤ c.args.index = grind (arith, nat_tests, c.if-index-len.true, c.len.ensures) in
    happens_by g (Event.commit c.args.index c.args.proc.now) (Err refusals.BadParam) g refl
    (λ is w stands. refused_stays g w stands (Event.commit c.args.index c.args.proc.now) (Err refusals.BadParam) _ refusals.BadParam
    (commit_nowhere g.registry w c.args.index c.args.proc.now (outside_is_none g w stands c.args.index past)) refl)

pub returns-in_err-batch-clause-step : goal.returns-in_err-batch-clause-step
returns-in_err-batch-clause-step c =
    let p = err_from_is_err_and c.from_residual.result c.from_residual.ensures.1 in
    short_happens c.args.self.now _ c.from_residual.result _ (p.1 ∙ ap Err p.2)

pub returns-in_err-copy-clause-step : goal.returns-in_err-copy-clause-step
returns-in_err-copy-clause-step c =
    let p = err_from_is_err_and c.from_residual-in_err-copy.result c.from_residual-in_err-copy.ensures.1 in
    short_happens c.args.self.now _ c.from_residual-in_err-copy.result _ (p.1 ∙ ap Err p.2)

pub returns-in-Ok-clause-step : goal.returns-in-Ok-clause-step
returns-in-Ok-clause-step c =
    let g = c.args.self.now in
    let p = c.args.proc.now in
    let e = Event.commit c.args.index p in
    let d = some_server g.registry in
    let new : Group = record { registry = c.act_at.new.self.registry; nodes = c.act_at.new.self.nodes; caches = c.mark_sealed.new.self; sent = c.act_at.new.self.sent } in
    let done = c.in-Ok.ensures in
    let inside : c.args.index < length g.nodes.items = grind (arith, nat_tests, c.if-index-len.false, c.len.ensures) in
    happens_by g e (Ok c.in-Ok.reply) new done.registry
    (λ is w stands.
    let same_act : Act.commit p (unsealed_of (cache_of (w.scripts p))) ≡ Act.commit c.in_ok-copy.field-0 c.in_ok-batch.batch = (λ i. Act.commit (sym c.in_ok-copy.ensures i) (sym (c.in_ok-batch.ensures ∙ unsealed_is g.caches w.scripts stands.caches p) i)) in
    acts_on g new w stands e c.args.index d (Act.commit c.in_ok-copy.field-0 c.in_ok-batch.batch) (Ok c.in-Ok.reply)
    (record { inside = inside; is = tt; reply = done.reply d; nodes = done.nodes d tt; sent = done.sent d tt; jobs = done.registry })
    (commit_there g.registry w c.args.index p (inside_is_node g w stands c.args.index inside) ∙ ap (Doing.at_node c.args.index) same_act)
    (subst (λ q. AreCaches new.caches (unless_refused (is_refusal (replied (Ok c.in-Ok.reply))) w.scripts (says g.registry (Act.commit q c.in_ok-batch.batch)))) (sym c.in_ok-copy.ensures)
    (commit_seals g.caches w.scripts stands.caches g.registry _ p _ new.caches (no_refusal c.in-Ok.reply)
    (c.mark_sealed.ensures ∙ ap (λ (x : AllCached). changed_at x p (after_commit (cached_for x p))) done.caches))))

pub returns-clause-step : goal.returns-clause-step
returns-clause-step c =
    let g = c.args.self.now in
    let p = c.args.proc.now in
    let e = Event.commit c.args.index p in
    let d = some_server g.registry in
    let answer : Result GivenReply Refusal = Err c.in-Err.refusal in
    let new = c.act_at.new.self in
    let done = c.in-Err.ensures in
    let inside : c.args.index < length g.nodes.items = grind (arith, nat_tests, c.if-index-len.false, c.len.ensures) in
    happens_by g e answer new done.registry
    (λ is w stands.
    let same_act : Act.commit p (unsealed_of (cache_of (w.scripts p))) ≡ Act.commit c.in_ok-copy.field-0 c.in_ok-batch.batch = (λ i. Act.commit (sym c.in_ok-copy.ensures i) (sym (c.in_ok-batch.ensures ∙ unsealed_is g.caches w.scripts stands.caches p) i)) in
    acts_on g new w stands e c.args.index d (Act.commit c.in_ok-copy.field-0 c.in_ok-batch.batch) answer
    (record { inside = inside; is = is; reply = done.reply d; nodes = done.nodes d is; sent = done.sent d is; jobs = done.registry })
    (commit_there g.registry w c.args.index p (inside_is_node g w stands c.args.index inside) ∙ ap (Doing.at_node c.args.index) same_act)
    (subst (λ (x : AllCached). AreCaches x w.scripts) (sym done.caches) stands.caches))

pub returns-clause-memory : goal.returns-clause-memory
returns-clause-memory c = c.in-Err.ensures.memory
