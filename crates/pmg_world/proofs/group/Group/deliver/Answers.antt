use Rattle.std.proofs.Common.{◌≡◌, ◌<◌, ◌-◌, suc, List, length, Some, None, Err, refl, sym, ap, subst, ◌∙◌, arith}
use Rattle.std.proofs.lemmas.Bool.Decides.{nat_tests}
use Rattle.std.proofs.lemmas.Result.{err_from_is_err_and}
use Rattle.pmg_value.specs.declared.refusal.Refusal.TheVariants as refusals
use Rattle.pmg_node_model.specs.Acts.{Act, says}
use Rattle.pmg_node_model.specs.Fitting.{is_refusal, unless_refused}
use Rattle.pmg_node_model.specs.declared.sent.Sent.{Sent}
use Rattle.pmg_caches.specs.Caching.{AllCached}
use Rattle.pmg_world.specs.Keeping.{AreCaches, replied}
use Rattle.pmg_group_model.specs.Worlds.{Doing, Event, numbered}
use Rattle.pmg_world.proofs.ClientLemmas.{frame_keeps}
use Rattle.pmg_world.proofs.GroupLemmas.{acts_on, happens_by, peer_inside, refused_stays, short_happens}
use Rattle.pmg_world.proofs.HappenLemmas.{frame_nowhere, frame_there, numbered_past, numbered_there, numbered_zero}
use Rattle.pmg_world.proofs.StartLemmas.{some_server}
use Rattle.pmg_world.proofs.group.Group.deliver.Goals as goal
use Rattle.pmg_world.proofs.group.Group.deliver.Goals.{then-number-eq0-via-then-number-eq0, then-number-eq0-via-else-number-eq0+then-number-len}

pub returns-then-number-eq0-clause-step : goal.returns-then-number-eq0-clause-step
returns-then-number-eq0-clause-step c =
    let g = c.args.self.now in
    let nothing : numbered g.sent.items c.args.number ≡ None = elim c.then-number-eq0.branch [
      | then-number-eq0-via-then-number-eq0 w ↦ numbered_zero g.sent.items c.args.number (grind (arith, nat_tests, w.if-number-eq0.true))
      | then-number-eq0-via-else-number-eq0+then-number-len w ↦ numbered_past g.sent.items c.args.number (grind (arith, nat_tests, w.if-number-len.true, w.len.ensures))
    ] in
    happens_by g (Event.deliver c.args.number) (Err refusals.BadParam) g refl
    (λ is w stands. refused_stays g w stands (Event.deliver c.args.number) (Err refusals.BadParam) _ refusals.BadParam
    (frame_nowhere g.registry w c.args.number (ap (λ (xs : List Sent). numbered xs c.args.number) (sym stands.sent) ∙ nothing)) refl)

pub returns-in_err-frame-clause-step : goal.returns-in_err-frame-clause-step
returns-in_err-frame-clause-step c =
    let p = err_from_is_err_and c.from_residual.result c.from_residual.ensures.1 in
    short_happens c.args.self.now _ c.from_residual.result _ (p.1 ∙ ap Err p.2)

pub act_at-requires : goal.act_at-requires
act_at-requires c =
    let g = c.args.self.now in
    let s = c.index-sent.result.now in
    let next : c.args.number ≡ suc (c.args.number - 1) = grind (arith, nat_tests, c.if-number-eq0.false) in
    let within : c.args.number - 1 < length g.sent.items = grind (arith, nat_tests, c.if-number-eq0.false, c.if-number-len.false, c.len.ensures) in
    let there = numbered_there g.sent.items (c.args.number - 1) c.args.number s next within ∙ ap Some (sym c.index-sent.ensures) in
    subst (λ n. n < length g.nodes.items) (sym c.index.ensures.value) (peer_inside g c.requires c.args.number s there)

pub returns-clause-step : goal.returns-clause-step
returns-clause-step c =
    let g = c.args.self.now in
    let s = c.index-sent.result.now in
    let next : c.args.number ≡ suc (c.args.number - 1) = grind (arith, nat_tests, c.if-number-eq0.false) in
    let within : c.args.number - 1 < length g.sent.items = grind (arith, nat_tests, c.if-number-eq0.false, c.if-number-len.false, c.len.ensures) in
    let there = numbered_there g.sent.items (c.args.number - 1) c.args.number s next within ∙ ap Some (sym c.index-sent.ensures) in
    let index = c.index.result in
    let inside : index < length g.nodes.items = subst (λ n. n < length g.nodes.items) (sym c.index.ensures.value) (peer_inside g c.requires c.args.number s there) in
    let d = some_server g.registry in
    let answer = c.act_at.result in
    let new = c.act_at.new.self in
    let done = c.act_at.ensures in
    let frame = c.in_ok-frame.frame in
    happens_by g (Event.deliver c.args.number) answer new done.registry
    (λ is w stands.
    acts_on g new w stands (Event.deliver c.args.number) index d (Act.deliver frame) answer
    (record { inside = inside; is = is; reply = done.reply d; nodes = done.nodes d is; sent = done.sent d is; jobs = done.registry })
    (frame_there g.registry w c.args.number s (ap (λ (xs : List Sent). numbered xs c.args.number) (sym stands.sent) ∙ there)
    ∙ (λ i. Doing.at_node (sym c.index.ensures.value i) (Act.deliver (sym c.in_ok-frame.ensures i))))
    (subst (λ (x : AllCached). AreCaches x (unless_refused (is_refusal (replied answer)) w.scripts (says g.registry (Act.deliver frame)))) (sym done.caches)
    (frame_keeps g.caches w.scripts stands.caches g.registry (is_refusal (replied answer)) frame)))
