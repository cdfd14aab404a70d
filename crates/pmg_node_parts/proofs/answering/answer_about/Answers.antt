use Rattle.std.proofs.Common.{◌++◌, ◌∙◌}
use Rattle.std.proofs.lemmas.List.{append_assoc}
use Rattle.pmg_node_parts.specs.BoardPreview.{near_ahead, far_ahead}
use Rattle.pmg_node_parts.specs.Answered.{standings, gets_answered, released_with}
use Rattle.pmg_node_parts.specs.Calls.{all_parked_on}
use Rattle.pmg_node_parts.proofs.answering.answer_about.Goals as goal

pub returns : goal.returns
returns c =
    let jobs = c.args.table.now.jobs in
    let all = c.args.calls.now in
    let q = c.args.proc.now in
    let near = near_ahead c.args.ahead.now in
    let far = far_ahead c.args.ahead.now in
    let before = standings c.args.answers.now.items in
    let got = c.in_ok-answer_gets.ensures ∙ (λ i. before ++ gets_answered (c.registry-registry.ensures i) c.args.id near far q (c.in_ok-parked_on.ensures i)) in
    c.in_ok-release_with.ensures
    ∙ (λ i. got i ++ released_with jobs (c.requires i) c.args.table.now.fences far all q)
    ∙ append_assoc before (gets_answered jobs c.args.id near far q (all_parked_on all q)) (released_with jobs c.args.id c.args.table.now.fences far all q)
