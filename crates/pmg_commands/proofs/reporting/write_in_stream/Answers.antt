use Rattle.std.proofs.Common.{codes, ◌++◌, rules}
use Rattle.std.specs.Prelude.{decimal}
use Rattle.pmg_value.proofs.WrittenLemmas.{front_of_first, front_of_second, appends_then, ok_then}
use Rattle.pmg_commands.specs.Output.{in_stream}
use Rattle.pmg_commands.proofs.reporting.write_in_stream.Goals as goal

pub returns-in_err-put_text-clause-text : goal.returns-in_err-put_text-clause-text
unfolding in_stream
returns-in_err-put_text-clause-text g c =
    (front_of_first (codes "\n") (front_of_first (decimal c.args.stream) c.in_err-put_text.ensures.text.0), search rules)

pub returns-in_err-put_number-clause-text : goal.returns-in_err-put_number-clause-text
unfolding in_stream
returns-in_err-put_number-clause-text g c =
    (front_of_first (codes "\n") (front_of_second (codes " in stream ") c.in_err-put_number.ensures.text.0 c.in_ok-put_text.ensures.text.1), search rules)

pub returns-clause-text : goal.returns-clause-text
unfolding in_stream
returns-clause-text g c =
    let old = g.W.Write.contents c.args.writer.now.writer in
    let mid = g.W.Write.contents c.put_number.new.self.writer in
    let first = appends_then old (g.W.Write.contents c.put_text.new.self.writer) mid (codes " in stream ") (decimal c.args.stream)
    c.in_ok-put_number.ensures.text.1 c.in_ok-put_text.ensures.text.1 in (
      front_of_second (codes " in stream " ++ decimal c.args.stream) c.put_text-2.ensures.text.0 first,
      ok_then c.put_text-2.result old mid (g.W.Write.contents c.put_text-2.new.self.writer)
          (codes " in stream " ++ decimal c.args.stream) (codes "\n") c.put_text-2.ensures.text.1 first,
    )
