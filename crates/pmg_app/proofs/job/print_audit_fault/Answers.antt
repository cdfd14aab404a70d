use Rattle.pmg_app.specs.Job.{audit_line}
use Rattle.pmg_commands.proofs.RunLemmas.{printed_whole}
use Rattle.pmg_app.proofs.job.print_audit_fault.Goals as goal

pub returns-clause-printed : goal.returns-clause-printed
unfolding audit_line
returns-clause-printed g c =
    printed_whole (g.W.Write.contents c.args.writer.now.writer) (g.W.Write.contents c.write_refusal.new.writer.writer) (g.W.Write.contents c.finish.new.writer.writer)
    c.write_refusal.result c.write_refusal.new.writer.failure c.finish.new.writer.failure 4 c.finish.result (audit_line c.args.refusal)
    c.write_refusal.ensures.text c.write_refusal.ensures.failed c.finish.ensures.kept c.finish.ensures.printed
