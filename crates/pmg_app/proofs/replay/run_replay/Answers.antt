use Rattle.pmg_app.proofs.ScriptLemmas.{known_replies}
use Rattle.pmg_app.proofs.replay.run_replay.Goals as goal

pub returns-clause-printed : goal.returns-clause-printed
returns-clause-printed g c =
    known_replies (g.R.Read.remaining c.args.reader.now.reader) (g.R.Read.remaining c.replay-ended.new.reader.reader)
    (g.W.Write.contents c.args.writer.now.writer) (g.W.Write.contents c.replay-ended.new.writer.writer)
    (g.W.Write.contents c.conclude_script.new.writer.writer) c.args.reader.now.failure c.replay-ended.new.reader.failure c.replay-ended.new.writer.failure
    c.conclude_script.new.writer.failure c.conclude_script.result c.replay-ended.result c.replay-ended.ensures.replayed
    c.replay-ended.ensures.read_fault c.replay-ended.ensures.failed c.replay-ended.ensures.write_fault c.conclude_script.ensures.kept c.conclude_script.ensures.printed
