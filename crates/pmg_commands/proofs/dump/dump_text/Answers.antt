use Rattle.std.proofs.Common.{◌≡◌, ℕ, List, Ok, Err}
use Rattle.std.specs.Prelude.{IfSome}
use Rattle.std.specs.declared.option.Option.{Option}
use Rattle.pmg_value.specs.declared.refusal.Refusal.{Refusal}
use Rattle.std.proofs.lemmas.Result.{err_from_is_err_and}
use Rattle.pmg_store.specs.declared.failure.Failure.TheVariants as failures
use Rattle.pmg_store.specs.Dump.{dump}
use Rattle.pmg_store.specs.Dumps.{stream_dump}
use Rattle.pmg_store.specs.Input.{input_of}
use Rattle.pmg_store.specs.Outcomes.{Dumps, Stops, or_failure}
use Rattle.pmg_store.specs.Told.{data_told}
use Rattle.pmg_store.proofs.OutcomeLemmas.{known_stops, known_dumps, dumps_next, stops_refused}
use Rattle.pmg_wire.specs.Reading.{◌>>=◌}
use Rattle.pmg_commands.specs.Dump.{dump_text}
use Rattle.pmg_commands.specs.Text.{decoded}
use Rattle.pmg_commands.proofs.dump.dump_text.Goals as goal

pub returns-in_err-text-clause-dumps : goal.returns-in_err-text-clause-dumps
unfolding dump_text
returns-in_err-text-clause-dumps g c =
    let p = err_from_is_err_and c.from_residual.result c.from_residual.ensures.1 in
    rw (p.1, p.2) (known_stops (g.R.Read.remaining c.args.reader.now.reader) (g.W.Write.contents c.args.writer.now.writer) _
    input_of (λ kept. decoded kept >>= stream_dump) c.in_err-text.ensures.input)

-- what the input tells was refused, and nothing written
refused_input :
    (known old : Option (List ℕ)) (refusal : Refusal) (text : List ℕ) → IfSome known (λ bytes. or_failure (input_of bytes) ≡ Ok text)
    → Stops old old (failures.Refused refusal) (or_failure (decoded text >>= stream_dump))
    → IfSome known (λ bytes. Dumps {T = Unit {0}} old old (Err (failures.Refused refusal)) (or_failure (dump_text bytes)))
unfolding dump_text
refused_input known old refusal text read stops =
    known_dumps {T = Unit {0}} known old old (Err (failures.Refused refusal)) input_of text (λ kept. decoded kept >>= stream_dump) read stops

pub returns-in_err-frames-clause-dumps : goal.returns-in_err-frames-clause-dumps
returns-in_err-frames-clause-dumps g c =
    let p = err_from_is_err_and c.from_residual-in_err-frames.result c.from_residual-in_err-frames.ensures.1 in
    let old = g.W.Write.contents c.args.writer.now.writer in
    let refusal = c.in_err-frames.field-0.0 in
    rw (p.1, p.2) (refused_input (g.R.Read.remaining c.args.reader.now.reader) old refusal c.in_ok-text.text.items c.in_ok-text.ensures.input
    (stops_refused old refusal (decoded c.in_ok-text.text.items) stream_dump (rw c.deref.ensures.value at c.in_err-frames.ensures.fault)))

pub returns-in_err-store-clause-dumps : goal.returns-in_err-store-clause-dumps
returns-in_err-store-clause-dumps g c =
    let p = err_from_is_err_and c.from_residual-in_err-store.result c.from_residual-in_err-store.ensures.1 in
    let old = g.W.Write.contents c.args.writer.now.writer in
    let refusal = c.in_err-store.field-0.0 in
    let frames = c.in_ok-frames.frames.items in
    rw (p.1, p.2) (refused_input (g.R.Read.remaining c.args.reader.now.reader) old refusal c.in_ok-text.text.items c.in_ok-text.ensures.input
    (dumps_next {T = Unit {0}} old old (Err (failures.Refused refusal)) (decoded c.in_ok-text.text.items) frames stream_dump
    (rw c.deref.ensures.value at c.in_ok-frames.ensures.bytes)
    (stops_refused old refusal (data_told frames) (λ d. Ok (dump d)) (rw c.deref-2.ensures.value at c.in_err-store.ensures))))

pub returns-clause-dumps : goal.returns-clause-dumps
unfolding dump_text
returns-clause-dumps g c =
    let old = g.W.Write.contents c.args.writer.now.writer in
    let new = g.W.Write.contents c.dump-written.new.writer.writer in
    let frames = c.in_ok-frames.frames.items in
    known_dumps {T = Unit {0}} (g.R.Read.remaining c.args.reader.now.reader) old new c.dump-written.result input_of c.in_ok-text.text.items
    (λ kept. decoded kept >>= stream_dump) c.in_ok-text.ensures.input
    (dumps_next old new c.dump-written.result (decoded c.in_ok-text.text.items) frames stream_dump (rw c.deref.ensures.value at c.in_ok-frames.ensures.bytes)
    (dumps_next old new c.dump-written.result (data_told frames) c.in_ok-store.store (λ d. Ok (dump d)) (rw c.deref-2.ensures.value at c.in_ok-store.ensures)
    c.dump-written.ensures.dumps))
