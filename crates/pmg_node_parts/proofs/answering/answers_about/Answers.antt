use Rattle.std.proofs.Common.{◌++◌, sym, ◌∙◌}
use Rattle.pmg_node_parts.specs.Answered.{standings, answered_about}
use Rattle.pmg_node_parts.proofs.AnswerLemmas.{answers_about_are}
use Rattle.pmg_node_parts.proofs.answering.answers_about.Goals as goal

pub returns : goal.returns
returns c = λ h table near far. let all = c.args.calls.now in answers_about_are c.args.table.now.jobs c.args.id h all c.args.proc.now c.requires.plain c.answer_about.new.answers.items
    (c.in_ok-answer_about.ensures ∙ (λ i. standings (c.new-answers.ensures.items i) ++ answered_about c.args.table.now.jobs c.args.id (sym table i) (sym near i) (sym far i) all c.args.proc.now))
