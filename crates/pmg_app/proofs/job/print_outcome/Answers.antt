use Rattle.std.proofs.Common.{ℕ, subst}
use Rattle.pmg_app.specs.Job.{outcome_status, outcome_text}
use Rattle.pmg_commands.specs.Output.{Prints, status_alone}
use Rattle.pmg_commands.proofs.RunLemmas.{printed_whole}
use Rattle.pmg_app.proofs.job.print_outcome.Goals as goal

pub returns-clause-printed : goal.returns-clause-printed
returns-clause-printed g c =
    let old = g.W.Write.contents c.args.writer.now.writer in
    let mid = g.W.Write.contents c.write_outcome.new.writer.writer in
    let new = g.W.Write.contents c.finish.new.writer.writer in
    let ended =
    subst (λ (n : ℕ). Prints mid new c.finish.new.writer.failure c.finish.result (status_alone n)) c.status_of.ensures.value c.finish.ensures.printed in
    printed_whole old mid new c.write_outcome.result c.write_outcome.new.writer.failure c.finish.new.writer.failure (outcome_status c.args.outcome.now) c.finish.result
    (outcome_text c.args.outcome.now) c.write_outcome.ensures.text c.write_outcome.ensures.failed c.finish.ensures.kept ended
