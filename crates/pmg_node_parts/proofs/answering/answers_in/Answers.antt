use Rattle.std.proofs.Common.{◌++◌, sym, ◌∙◌}
use Rattle.pmg_node_parts.specs.Answered.{standings, released_in}
use Rattle.pmg_node_parts.proofs.AnswerLemmas.{answers_in_are}
use Rattle.pmg_node_parts.proofs.answering.answers_in.Goals as goal

pub returns : goal.returns
returns c = λ h table near far.
    let jobs = c.args.table.now.jobs in
    let all = c.args.calls.now in
    let name = c.args.name.now in
    answers_in_are jobs c.args.id h all name c.release_in.new.answers.items
    (c.in_ok-release_in.ensures ∙ (λ i. standings (c.new-answers.ensures.items i) ++ released_in jobs (c.requires i) (sym table i) (sym far i) all name))
