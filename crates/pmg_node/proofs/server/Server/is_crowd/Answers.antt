use Rattle.std.proofs.Common.{◌≡◌, ◌∙◌, min, sym, ap, subst}
use Rattle.std.specs.FinSet as set
use Rattle.pmg_jobinfo.specs.Expansion.{expansion}
use Rattle.pmg_jobinfo.specs.Jobs.{Jobs}
use Rattle.pmg_node.specs.Servers.{IsNode, Server}
use Rattle.pmg_node.proofs.EntryLemmas.{empty_few, listed_counted}
use Rattle.pmg_node.proofs.server.Server.is_crowd.Goals as goal

pub returns-then-is_empty : goal.returns-then-is_empty
returns-then-is_empty c =
    let node = subst IsNode c.self.view_is c.self.invariant.node in
    empty_few c.args.self.now.jobs node.jobs c.args.proc.now c.args.list.now (sym c.is_empty.ensures ∙ c.if-is_empty.true)

pub returns : goal.returns
returns c =
    let same : c.registry-registry.result.now ≡ c.args.self.now.jobs = c.registry-registry.ensures ∙ ap (λ (s : Server). s.jobs) c.self.view_is in
    listed_counted c.args.self.now.jobs c.args.proc.now c.args.list.now c.count_meant.result (sym c.is_empty.ensures ∙ c.if-is_empty.false)
    (c.count_meant.ensures ∙ ap (λ (jobs : Jobs). min 4097 (set.len (expansion jobs c.args.list.now))) same)
