use Rattle.std.proofs.Common.{◌++◌, sym, ◌∙◌}
use Rattle.std.specs.Option.{option_map}
use Rattle.pmg_node_parts.specs.Answered.{standings, answered_about, replied_to}
use Rattle.pmg_node_parts.proofs.ReplyLemmas.{answers_then_are}
use Rattle.pmg_node_parts.proofs.answering.answers_then.Goals as goal

pub returns : goal.returns
returns c = λ h table near far.
    let jobs = c.args.table.now.jobs in
    let id = c.args.id in
    let all = c.args.calls.now in
    let q = c.args.proc.now in
    let asker = option_map (λ p. p.now) c.args.asker in
    answers_then_are jobs id h c.args.number q all c.requires.anew c.requires.plain asker c.requires.asker c.answer_reply.new.answers.items
    (c.in_ok-answer_reply.ensures
    ∙ (λ i. (c.in_ok-answer_about.ensures ∙ (λ j. standings (c.new-answers.ensures.items j) ++ answered_about jobs id (sym table j) (sym near j) (sym far j) all q)) i
    ++ replied_to (c.registry-registry.ensures i) id (sym near i) (sym far i) all asker c.args.number q))
