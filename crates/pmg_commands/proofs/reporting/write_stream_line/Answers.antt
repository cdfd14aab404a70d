use Rattle.std.proofs.Common.{codes, ◌++◌, rules}
use Rattle.pmg_value.specs.RefusalText.{refusal_text}
use Rattle.pmg_value.specs.declared.refusal.Refusal.TheVariants.{BadFrame}
use Rattle.pmg_value.proofs.WrittenLemmas.{front_of_first, front_of_second, appends_then, ok_then}
use Rattle.pmg_commands.specs.Output.{in_stream, stream_line}
use Rattle.pmg_commands.proofs.reporting.write_stream_line.Goals as goal

pub returns-in_err-put_text-clause-text : goal.returns-in_err-put_text-clause-text
unfolding stream_line
returns-in_err-put_text-clause-text g c =
    (front_of_first (in_stream c.args.stream) (front_of_first (refusal_text (BadFrame c.args.fault.now)) c.in_err-put_text.ensures.text.0), search rules)

pub returns-in_err-write_text-clause-text : goal.returns-in_err-write_text-clause-text
unfolding stream_line
returns-in_err-write_text-clause-text g c =
    (front_of_first (in_stream c.args.stream) (front_of_second (codes "refused ") c.in_err-write_text.ensures.text.0 c.in_ok-put_text.ensures.text.1), search rules)

pub returns-clause-text : goal.returns-clause-text
unfolding stream_line
returns-clause-text g c =
    let refusal = refusal_text (BadFrame c.args.fault.now) in
    let old = g.W.Write.contents c.args.writer.now.writer in
    let mid = g.W.Write.contents c.write_text.new.writer.writer in
    let first = appends_then old (g.W.Write.contents c.put_text.new.self.writer) mid (codes "refused ") refusal
    c.in_ok-write_text.ensures.text.1 c.in_ok-put_text.ensures.text.1 in (
      front_of_second (codes "refused " ++ refusal) c.write_in_stream.ensures.text.0 first,
      ok_then c.write_in_stream.result old mid (g.W.Write.contents c.write_in_stream.new.writer.writer)
          (codes "refused " ++ refusal) (in_stream c.args.stream) c.write_in_stream.ensures.text.1 first,
    )
