use Rattle.std.proofs.Common.{Ok, Err}
use Rattle.std.proofs.lemmas.Result.{err_from_is_err_and}
use Rattle.pmg_store.specs.Dump.{dump}
use Rattle.pmg_store.specs.Dumps.{dump_of, stream_dump}
use Rattle.pmg_store.specs.Input.{input_of}
use Rattle.pmg_store.specs.Told.{data_told}
use Rattle.pmg_store.specs.declared.failure.Failure.TheVariants as failures
use Rattle.pmg_store.proofs.OutcomeLemmas.{known_stops, known_dumps, dumps_next, stops_refused}
use Rattle.pmg_store.proofs.stream.dump_stream.Goals as goal

pub returns-in_err-input-clause-dumps : goal.returns-in_err-input-clause-dumps
unfolding dump_of
returns-in_err-input-clause-dumps g c =
    let err = err_from_is_err_and c.from_residual.result c.from_residual.ensures.1 in
    rw (err.1, err.2) (
    known_stops (g.R.Read.remaining c.args.reader.now.reader) (g.W.Write.contents c.args.writer.now.writer) _ input_of stream_dump c.in_err-input.ensures.input)

pub returns-in_err-store-clause-dumps : goal.returns-in_err-store-clause-dumps
unfolding dump_of
returns-in_err-store-clause-dumps g c =
    let err = err_from_is_err_and c.from_residual-in_err-store.result c.from_residual-in_err-store.ensures.1 in
    let input = c.in_ok-input.input.items in
    let refusal = c.in_err-store.field-0.0 in
    let old = g.W.Write.contents c.args.writer.now.writer in
    rw (err.1, err.2) (
    known_dumps {T = Unit {0}} (g.R.Read.remaining c.args.reader.now.reader) old old (Err (failures.Refused refusal)) input_of input stream_dump
    c.in_ok-input.ensures.input
    (stops_refused old refusal (data_told input) (λ d. Ok (dump d)) (rw c.deref.ensures.value at c.in_err-store.ensures)))

pub returns-clause-dumps : goal.returns-clause-dumps
unfolding dump_of
returns-clause-dumps g c =
    let input = c.in_ok-input.input.items in
    let store = c.in_ok-store.store in
    let old = g.W.Write.contents c.args.writer.now.writer in
    let new = g.W.Write.contents c.dump.new.writer.writer in
    known_dumps {T = Unit {0}} (g.R.Read.remaining c.args.reader.now.reader) old new c.dump.result input_of input stream_dump
    c.in_ok-input.ensures.input
    (dumps_next old new c.dump.result (data_told input) store (λ d. Ok (dump d)) (rw c.deref.ensures.value at c.in_ok-store.ensures) c.dump.ensures.dumps)
