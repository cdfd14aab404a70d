use Rattle.std.proofs.Common.{map, ◌∙◌, arith}
use Rattle.std.proofs.lemmas.Result.{err_from_is_err_and}
use Rattle.std.proofs.lemmas.List.{length-map}
use Rattle.serde_json.specs.View.{view}
use Rattle.pmg_jobfile.specs.Reading.{json_nodes, spaces_in}
use Rattle.pmg_jobfile.proofs.ReadLemmas.{is_there, weaker}
use Rattle.pmg_jobfile.proofs.JobLemmas.{described}
use Rattle.pmg_jobfile.proofs.job.job_in.Goals as goal

pub returns-in_err-registry : goal.returns-in_err-registry
returns-in_err-registry c =
    let p = err_from_is_err_and c.from_residual-in_err-registry.result c.from_residual-in_err-registry.ensures.1 in
    let d = view c.args.value.now in
    let nodes = map (λ n. n.now) c.in_ok-nodes.nodes.items in
    let known = described d nodes c.in_ok-spaces.spaces.items c.len.result (is_there (json_nodes d) nodes c.in_ok-nodes.ensures)
    (omega (arith, c.len.ensures, c.in_ok-nodes.nodes.ok.0, length-map c.in_ok-nodes.nodes.items (λ n. n.now))) (is_there (spaces_in c.len.result d) c.in_ok-spaces.spaces.items c.in_ok-spaces.ensures) in
    rw (p.1, p.2) (weaker c.in_err-registry.field-0.0 (λ h. known ∙ h) (rw (c.deref.ensures.value, c.deref-2.ensures.value) at c.in_err-registry.ensures))

pub returns : goal.returns
returns c =
    let d = view c.args.value.now in
    let nodes = map (λ n. n.now) c.in_ok-nodes.nodes.items in
    let known = described d nodes c.in_ok-spaces.spaces.items c.len.result (is_there (json_nodes d) nodes c.in_ok-nodes.ensures)
    (omega (arith, c.len.ensures, c.in_ok-nodes.nodes.ok.0, length-map c.in_ok-nodes.nodes.items (λ n. n.now))) (is_there (spaces_in c.len.result d) c.in_ok-spaces.spaces.items c.in_ok-spaces.ensures) in
    known ∙ (rw (c.deref.ensures.value, c.deref-2.ensures.value) at c.in_ok-registry.ensures)
