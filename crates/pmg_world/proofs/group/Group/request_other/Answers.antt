use Rattle.std.proofs.Common.{◌<◌, ◌≤◌, length, Err, refl, sym, subst, ◌∙◌, arith}
use Rattle.std.proofs.lemmas.Bool.Decides.{nat_tests}
use Rattle.pmg_value.specs.declared.refusal.Refusal.TheVariants as refusals
use Rattle.pmg_node.specs.Acting.{request_of}
use Rattle.pmg_node_model.specs.Acts.{Act, says}
use Rattle.pmg_node_model.specs.Fitting.{is_refusal, unless_refused}
use Rattle.pmg_caches.specs.Caching.{AllCached}
use Rattle.pmg_world.specs.Keeping.{AreCaches, replied}
use Rattle.pmg_group_model.specs.Worlds.{Event}
use Rattle.pmg_world.proofs.ClientLemmas.{request_keeps}
use Rattle.pmg_world.proofs.GroupLemmas.{acts_on, happens_by, inside_is_node, outside_is_none, refused_stays}
use Rattle.pmg_world.proofs.HappenLemmas.{at_node_is, request_nowhere, request_there}
use Rattle.pmg_world.proofs.StartLemmas.{some_server}
use Rattle.pmg_world.proofs.group.Group.request_other.Goals as goal

pub returns-then-index-len-clause-step : goal.returns-then-index-len-clause-step
returns-then-index-len-clause-step c =
    let g = c.args.self.now in
    let r = request_of c.args.request.now in
    let past : length g.nodes.items ≤ c.args.index = grind (arith, nat_tests, c.if-index-len.true, c.len.ensures) in
    happens_by g (Event.request c.args.index r) (Err refusals.BadParam) g refl
    (λ is w stands. refused_stays g w stands (Event.request c.args.index r) (Err refusals.BadParam) _ refusals.BadParam
    (request_nowhere g.registry w c.args.index r (outside_is_none g w stands c.args.index past)) refl)

pub returns-clause-step : goal.returns-clause-step
returns-clause-step c =
    let g = c.args.self.now in
    let r = request_of c.args.request.now in
    let index = c.args.index in
    let d = some_server g.registry in
    let answer = c.request_at.result in
    let new = c.request_at.new.self in
    let done = c.request_at.ensures in
    let inside : index < length g.nodes.items = grind (arith, nat_tests, c.if-index-len.false, c.len.ensures) in
    happens_by g (Event.request index r) answer new done.registry
    (λ is w stands.
    acts_on g new w stands (Event.request index r) index d (Act.request r) answer
    (record { inside = inside; is = is; reply = done.reply d; nodes = done.nodes d is; sent = done.sent d is; jobs = done.registry })
    (request_there g.registry w index r (inside_is_node g w stands index inside) ∙ at_node_is g.registry w index r c.requires.other)
    (subst (λ (x : AllCached). AreCaches x (unless_refused (is_refusal (replied answer)) w.scripts (says g.registry (Act.request r)))) (sym done.caches)
    (request_keeps g.caches w.scripts stands.caches g.registry (is_refusal (replied answer)) r)))
