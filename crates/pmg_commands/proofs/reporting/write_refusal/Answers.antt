use Rattle.std.proofs.Common.{rules, codes, ◌++◌}
use Rattle.pmg_value.specs.RefusalText.{refusal_text}
use Rattle.pmg_value.proofs.WrittenLemmas.{front_of_first, front_of_second, appends_then, ok_then}
use Rattle.pmg_commands.proofs.reporting.write_refusal.Goals as goal

pub returns-in_err-put_text-clause-text : goal.returns-in_err-put_text-clause-text
returns-in_err-put_text-clause-text g c =
    (front_of_first (codes "\n") (front_of_first (refusal_text c.args.refusal.now) c.in_err-put_text.ensures.text.0), search rules)

pub returns-in_err-write_text-clause-text : goal.returns-in_err-write_text-clause-text
returns-in_err-write_text-clause-text g c =
    (front_of_first (codes "\n") (front_of_second c.args.before.now c.in_err-write_text.ensures.text.0 c.in_ok-put_text.ensures.text.1), search rules)

pub returns-clause-text : goal.returns-clause-text
returns-clause-text g c =
    let text = refusal_text c.args.refusal.now in
    let old = g.W.Write.contents c.args.writer.now.writer in
    let mid = g.W.Write.contents c.write_text.new.writer.writer in
    let first = appends_then old (g.W.Write.contents c.put_text.new.self.writer) mid c.args.before.now text
    c.in_ok-write_text.ensures.text.1 c.in_ok-put_text.ensures.text.1 in (
      front_of_second (c.args.before.now ++ text) c.put_text-2.ensures.text.0 first,
      ok_then c.put_text-2.result old mid (g.W.Write.contents c.put_text-2.new.self.writer) (c.args.before.now ++ text) (codes "\n")
          c.put_text-2.ensures.text.1 first,
    )
