use Rattle.std.proofs.Common.{◌<◌, ◌≤◌, length, None, Err, refl, sym, subst, ◌∙◌, arith, ap}
use Rattle.std.proofs.lemmas.Bool.Decides.{nat_tests}
use Rattle.pmg_value.specs.declared.refusal.Refusal.TheVariants as refusals
use Rattle.pmg_node_model.specs.Acts.{Act, Request, says}
use Rattle.pmg_node_model.specs.Fitting.{is_refusal, unless_refused}
use Rattle.pmg_node_parts.specs.Calls.{get_of}
use Rattle.pmg_caches.specs.Caching.{AllCached, cached_for}
use Rattle.pmg_caches.proofs.CauseLemmas.{replied_due}
use Rattle.pmg_world.specs.Keeping.{AreCaches, replied}
use Rattle.pmg_group_model.specs.Worlds.{Event, reply_or_refusal}
use Rattle.pmg_world.proofs.ClientLemmas.{request_keeps}
use Rattle.pmg_world.proofs.GroupLemmas.{acts_on, happens_by, inside_is_node, node_there, outside_is_none, refused_stays, says_nothing, stays}
use Rattle.pmg_world.proofs.HappenLemmas.{asks_node, asks_own, own_answer_is, own_due, request_nowhere, request_there}
use Rattle.pmg_world.proofs.StartLemmas.{some_server}
use Rattle.pmg_world.proofs.group.Group.get.Goals as goal

pub returns-then-index-len-clause-step : goal.returns-then-index-len-clause-step
returns-then-index-len-clause-step c =
    let g = c.args.self.now in
    let r = Request.ask c.args.proc.now (get_of c.args.target.now c.args.key.now) c.args.mode in
    let past : length g.nodes.items ≤ c.args.index = grind (arith, nat_tests, c.if-index-len.true, c.len.ensures) in
    happens_by g (Event.request c.args.index r) (Err refusals.BadParam) g refl
    (λ is w stands. refused_stays g w stands (Event.request c.args.index r) (Err refusals.BadParam) _ refusals.BadParam
    (request_nowhere g.registry w c.args.index r (outside_is_none g w stands c.args.index past)) refl)

pub returns-then-is_own-clause-step : goal.returns-then-is_own-clause-step
returns-then-is_own-clause-step c =
    let g = c.args.self.now in
    let p = c.args.proc.now in
    let get = get_of c.args.target.now c.args.key.now in
    let r = Request.ask p get c.args.mode in
    let index = c.args.index in
    let key = c.args.key.now in
    let s = c.index.result.now in
    let inside : index < length g.nodes.items = grind (arith, nat_tests, c.if-index-len.false, c.len.ensures) in
    happens_by g (Event.request index r) c.own_get.result g refl
    (λ is w stands.
    let of = node_there g w stands index index s refl inside c.index.ensures in
    stays g w stands (Event.request index r) (own_due g.registry w index p key) None (replied c.own_get.result)
    (request_there g.registry w index r (inside_is_node g w stands index inside) ∙ asks_own g.registry w index p get c.args.mode (sym c.is_own.ensures ∙ c.if-is_own.true))
    (replied_due c.own_get.result _ c.own_get.ensures is ∙ ap reply_or_refusal (own_answer_is g.registry w index s (cached_for g.caches p) p key of (stands.caches p)))
    (says_nothing (is_refusal (replied c.own_get.result)) w.scripts))

pub returns-clause-step : goal.returns-clause-step
returns-clause-step c =
    let g = c.args.self.now in
    let p = c.args.proc.now in
    let get = get_of c.args.target.now c.args.key.now in
    let r = Request.ask p get c.args.mode in
    let index = c.args.index in
    let d = some_server g.registry in
    let answer = c.get_at.result in
    let new = c.get_at.new.self in
    let done = c.get_at.ensures in
    let inside : index < length g.nodes.items = grind (arith, nat_tests, c.if-index-len.false, c.len.ensures) in
    happens_by g (Event.request index r) answer new done.registry
    (λ is w stands.
    acts_on g new w stands (Event.request index r) index d (Act.request r) answer
    (record { inside = inside; is = is; reply = done.reply d; nodes = done.nodes d is; sent = done.sent d is; jobs = done.registry })
    (request_there g.registry w index r (inside_is_node g w stands index inside) ∙ asks_node g.registry w index p get c.args.mode (sym c.is_own.ensures ∙ c.if-is_own.false))
    (subst (λ (x : AllCached). AreCaches x (unless_refused (is_refusal (replied answer)) w.scripts (says g.registry (Act.request r)))) (sym done.caches)
    (request_keeps g.caches w.scripts stands.caches g.registry (is_refusal (replied answer)) r)))
