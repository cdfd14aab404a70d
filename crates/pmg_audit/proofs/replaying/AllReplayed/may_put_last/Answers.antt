use Rattle.std.proofs.Common.{◌≡◌, ◌<◌, ℕ, ltb-true, List, length, map, get_or, sym, ap, subst, ◌∙◌, rules}
use Rattle.std.proofs.lemmas.Bool.{false≢true}
use Rattle.std.proofs.lemmas.List.{get_or_default}
use Rattle.pmg_value.specs.declared.process.Proc.{Proc}
use Rattle.pmg_jobinfo.specs.Jobs.{Jobs, AreJobs, home_of}
use Rattle.pmg_node.specs.Servers.{Server}
use Rattle.pmg_node_model.proofs.KeptBasics.{home_is_node}
use Rattle.pmg_audit.specs.Agreeing.{MayPut}
use Rattle.pmg_audit.specs.Codes.{audited_put}
use Rattle.pmg_audit.specs.Replaying.{MayPutAt}
use Rattle.pmg_audit.specs.declared.moves.Put.{Put}
use Rattle.pmg_audit.specs.declared.moves.Saying.{Saying}
use Rattle.pmg_audit.proofs.LaneLemmas.{in_get}
use Rattle.pmg_audit.proofs.SayingLemmas.{each_all, each_in, each_more}
use Rattle.pmg_audit.proofs.replaying.AllReplayed.may_put_last.Goals as goal

inside : (jobs : Jobs) (p : Proc) → AreJobs jobs → home_of jobs p < length jobs.nodes
inside jobs p are = ltb-true (home_of jobs p) (length jobs.nodes) (home_is_node jobs are p)

-- the node that is found is the one at that place, whatever stands for none
node_is : (jobs : Jobs) (p : Proc) → AreJobs jobs → (nodes : List Server) → length nodes ≡ length jobs.nodes → (n : ℕ) (s : Server) → n ≡ home_of jobs p → s ≡ get_or nodes n s → (d : Server)
    → get_or nodes (home_of jobs p) d ≡ s
node_is jobs p are nodes count n s home is d =
    get_or_default nodes (home_of jobs p) d s (subst (λ l. home_of jobs p < l) (sym count) (inside jobs p are)) ∙ ap (λ k. get_or nodes k s) (sym home) ∙ sym is

pub index-requires : goal.index-requires
index-requires c =
    let less : home_of c.args.registry.now c.saying-item.result.proc < length c.args.registry.now.nodes = inside c.args.registry.now c.saying-item.result.proc c.requires.jobs in
    search rules

pub returns-then-not-may_put-clause-other : goal.returns-then-not-may_put-clause-other
returns-then-not-may_put-clause-other c = λ _ all.
    let jobs = c.args.registry.now in
    let nodes = c.args.self.now.nodes.items in
    let s : Saying = c.saying-item.result in
    let node : Server = c.index.result.now in
    let one : MayPutAt jobs nodes s = each_in (MayPutAt jobs nodes) c.args.sayings.now s all (in_get c.args.sayings.now c.loop-saying.saying-index s (search rules) c.saying-item.is) in
    let is = node_is jobs s.proc c.requires.jobs nodes c.requires.nodes c.index-home.result node (c.index-home.ensures.value ∙ c.home_of.ensures) c.index.ensures node in
    let may : MayPut node s.proc (map audited_put s.last_puts.items) = subst (λ (x : Server). MayPut x s.proc (map audited_put s.last_puts.items)) is (one node) in
    false≢true (sym c.if-not-may_put.true ∙ c.may_put.ensures.1 (subst (λ (xs : List Put). MayPut node s.proc (map audited_put xs)) (sym c.deref.ensures.value) may))

pub loop-saying-preserved : goal.loop-saying-preserved
loop-saying-preserved c =
    let jobs = c.args.registry.now in
    let nodes = c.args.self.now.nodes.items in
    let s : Saying = c.saying-item.result in
    let node : Server = c.index.result.now in
    let may : MayPut node s.proc (map audited_put s.last_puts.items) = subst (λ (xs : List Put). MayPut node s.proc (map audited_put xs)) c.deref.ensures.value (c.may_put.ensures.0 c.if-not-may_put.false) in
    let one : MayPutAt jobs nodes s = λ d. subst (λ (x : Server). MayPut x s.proc (map audited_put s.last_puts.items))
    (sym (node_is jobs s.proc c.requires.jobs nodes c.requires.nodes c.index-home.result node (c.index-home.ensures.value ∙ c.home_of.ensures) c.index.ensures d)) may in
    each_more (MayPutAt jobs nodes) c.args.sayings.now c.loop-saying.saying-index s (search rules) c.loop-saying.invariant (subst (MayPutAt jobs nodes) c.saying-item.is one)

pub returns-clause-may : goal.returns-clause-may
returns-clause-may c = λ _. each_all (MayPutAt c.args.registry.now c.args.self.now.nodes.items) c.args.sayings.now c.loop-saying.saying-index (search rules) c.loop-saying.invariant
