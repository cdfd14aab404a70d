use Rattle.std.proofs.Common.{◌≡◌, true, List, sym, ap, subst, ◌∙◌}
use Rattle.std.specs.FinMap as finite
use Rattle.std.specs.List.{list_all}
use Rattle.pmg_value.specs.Process.{can_commit}
use Rattle.pmg_value.specs.declared.process.Proc.{Proc}
use Rattle.pmg_jobinfo.proofs.ListedLemmas.{listed_can_commit}
use Rattle.pmg_node_parts.specs.Marking.{zeros}
use Rattle.pmg_node_parts.specs.Sealers.{with_fresh}
use Rattle.pmg_node.specs.Servers.{IsNode}
use Rattle.pmg_node.proofs.OpeningLemmas.{new_is_node, new_parts, none_open}
use Rattle.pmg_node.proofs.server.Server.new.Goals as goal

pub fresh_sealers-requires : goal.fresh_sealers-requires
fresh_sealers-requires c =
    subst (λ (ps : List Proc). list_all can_commit ps ≡ true) (sym c.in_ok-procs_at.ensures.procs) (listed_can_commit c.args.registry c.args.id c.peers.ensures.jobs)

pub invariant_of-result : goal.invariant_of-result
invariant_of-result c =
    let sealers = c.in_ok-sealers.ensures ∙ ap (λ (ps : List Proc). with_fresh ps finite.empty) c.in_ok-procs_at.ensures.procs in
    let marks = c.in_ok-marks.ensures ∙ (λ i. zeros finite.empty ((c.deref.ensures.value ∙ c.in_ok-procs.ensures) i) ((c.deref-2.ensures.value ∙ c.in_ok-nodes.ensures.nodes) i)) in
    let is =
    new_parts c.args.registry c.args.id c.new.result c.new-2.result _ _ _ _ _ c.new.ensures.jobs c.new.ensures.fences c.new-2.ensures.near c.new-2.ensures.far
    sealers c.new-3.ensures c.new-4.ensures c.new-5.ensures marks in
    record {
      same = c.new.ensures.node;
      told = c.new.ensures.waiting;
      node = subst IsNode (sym is) (new_is_node c.args.registry c.args.id c.peers.ensures.jobs c.requires);
      replies = none_open c.new-4.result c.new-5.result.anew c.new-4.ensures;
    }

pub returns : goal.returns
returns c =
    let sealers = c.in_ok-sealers.ensures ∙ ap (λ (ps : List Proc). with_fresh ps finite.empty) c.in_ok-procs_at.ensures.procs in
    let marks = c.in_ok-marks.ensures ∙ (λ i. zeros finite.empty ((c.deref.ensures.value ∙ c.in_ok-procs.ensures) i) ((c.deref-2.ensures.value ∙ c.in_ok-nodes.ensures.nodes) i)) in
    new_parts c.args.registry c.args.id c.new.result c.new-2.result _ _ _ _ _ c.new.ensures.jobs c.new.ensures.fences c.new-2.ensures.near c.new-2.ensures.far
    sealers c.new-3.ensures c.new-4.ensures c.new-5.ensures marks
