use Rattle.std.proofs.Common.{◌≤◌, ◌<◌, count_by, arith}
use Rattle.std.proofs.lemmas.Result.{err_from_is_err_and}
use Rattle.bstr.specs.Text.{lines_of}
use Rattle.pmg_commands.specs.Merge.{is_separator}
use Rattle.pmg_commands.proofs.MergeLemmas.{read_failed, many_texts, undecoded, merged_texts}
use Rattle.pmg_commands.proofs.merge.merge_text.Goals as goal

pub returns-in_err-text-clause-dumps : goal.returns-in_err-text-clause-dumps
returns-in_err-text-clause-dumps g c =
    let err = err_from_is_err_and c.from_residual.result c.from_residual.ensures.1 in
    rw (err.1, err.2) (read_failed (g.R.Read.remaining c.args.reader.now.reader) (g.W.Write.contents c.args.writer.now.writer) c.in_err-text.field-0.0
    c.in_err-text.ensures.input)

pub returns-then-separators-ge-MAX_STREAMS-clause-dumps : goal.returns-then-separators-ge-MAX_STREAMS-clause-dumps
returns-then-separators-ge-MAX_STREAMS-clause-dumps g c =
    let counted = rw c.deref.ensures.value at c.separators.ensures in
    let past = c.if-separators-ge-MAX_STREAMS.true in
    let many : 64 ≤ count_by is_separator (lines_of c.in_ok-text.text.items) = omega (arith, counted, past) in
    many_texts (g.R.Read.remaining c.args.reader.now.reader) (g.W.Write.contents c.args.writer.now.writer) c.in_ok-text.text.items
    c.in_ok-text.ensures.input many

pub returns-in_err-streams-clause-dumps : goal.returns-in_err-streams-clause-dumps
returns-in_err-streams-clause-dumps g c =
    let err = err_from_is_err_and c.from_residual-in_err-streams.result c.from_residual-in_err-streams.ensures.1 in
    let counted = rw c.deref.ensures.value at c.separators.ensures in
    let within = c.if-separators-ge-MAX_STREAMS.false in
    let few : count_by is_separator (lines_of c.in_ok-text.text.items) < 64 = omega (arith, counted, within) in
    rw (err.1, err.2) (undecoded (g.R.Read.remaining c.args.reader.now.reader) (g.W.Write.contents c.args.writer.now.writer) c.in_ok-text.text.items
    c.in_err-streams.field-0.0 c.in_ok-text.ensures.input few (rw c.deref-2.ensures.value at c.in_err-streams.ensures.fault))

pub returns-clause-dumps : goal.returns-clause-dumps
returns-clause-dumps g c =
    let counted = rw c.deref.ensures.value at c.separators.ensures in
    let within = c.if-separators-ge-MAX_STREAMS.false in
    let few : count_by is_separator (lines_of c.in_ok-text.text.items) < 64 = omega (arith, counted, within) in
    merged_texts (g.R.Read.remaining c.args.reader.now.reader) (g.W.Write.contents c.args.writer.now.writer)
    (g.W.Write.contents c.merge_inputs.new.writer.writer) c.merge_inputs.result c.in_ok-text.text.items _ c.in_ok-text.ensures.input few
    (rw c.deref-2.ensures.value at c.in_ok-streams.ensures.streams) (rw c.deref-3.ensures.value at c.merge_inputs.ensures.merges)
