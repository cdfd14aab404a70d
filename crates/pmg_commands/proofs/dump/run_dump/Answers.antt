use Rattle.std.proofs.Common.{ap}
use Rattle.pmg_value.specs.declared.written.WatchedWriter.{WatchedWriter}
use Rattle.pmg_store.specs.Outcomes.{or_failure}
use Rattle.pmg_commands.specs.Dump.{dump_text}
use Rattle.pmg_commands.proofs.RunLemmas.{known_runs, tells_fault}
use Rattle.pmg_commands.proofs.dump.run_dump.Goals as goal

pub returns-clause-printed : goal.returns-clause-printed
returns-clause-printed g c =
    let run = c.dump_text-outcome in
    known_runs (g.R.Read.remaining c.args.reader.now.reader) (g.W.Write.contents c.args.writer.now.writer) (g.W.Write.contents run.new.writer.writer)
    (g.W.Write.contents c.conclude.new.writer.writer) run.new.reader.failure run.new.writer.failure c.conclude.new.writer.failure c.conclude.result run.result
    (λ text. or_failure (dump_text text)) run.ensures.dumps run.ensures.read_fault run.ensures.write_fault c.conclude.ensures.kept c.conclude.ensures.printed

pub returns-clause-read_fault : goal.returns-clause-read_fault
returns-clause-read_fault g c failed =
    tells_fault (g.W.Write.contents c.args.writer.now.writer) (g.W.Write.contents c.dump_text-outcome.new.writer.writer) (g.W.Write.contents c.conclude.new.writer.writer)
    c.args.reader.now.failure c.conclude.new.writer.failure c.conclude.result c.dump_text-outcome.result (c.dump_text-outcome.ensures.failed failed)
    (λ is. ap (λ (w : WatchedWriter g.row.W.Denot). g.W.Write.contents w.writer) (c.dump_text-outcome.ensures.unwritten is)) c.conclude.ensures.printed
