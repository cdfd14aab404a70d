use Rattle.std.proofs.lemmas.Result.{err_from_is_err_and}
use Rattle.pmg_store.proofs.MergeLemmas.{known_gives, known_fails, known_fails_first}
use Rattle.pmg_store.proofs.merge.take_reader.Goals as goal

pub returns-in_err-input-clause-fails : goal.returns-in_err-input-clause-fails
returns-in_err-input-clause-fails g c =
    let err = err_from_is_err_and c.from_residual.result c.from_residual.ensures.1 in
    rw (err.1, err.2) (known_fails_first (g.R.Read.remaining c.args.reader.now.reader) c.in_err-input.field-0.0 c.in_err-input.ensures.input)

pub returns-in_err-take_stream-clause-fails : goal.returns-in_err-take_stream-clause-fails
returns-in_err-take_stream-clause-fails g c =
    let err = err_from_is_err_and c.from_residual-in_err-take_stream.result c.from_residual-in_err-take_stream.ensures.1 in
    rw (err.1, err.2) (known_fails (g.R.Read.remaining c.args.reader.now.reader) c.in_ok-input.input.items c.in_err-take_stream.field-0.0
    c.in_ok-input.ensures.input (rw c.deref.ensures.value at c.in_err-take_stream.ensures.fault))

pub returns-clause-taken : goal.returns-clause-taken
returns-clause-taken g c =
    let taken = rw c.deref.ensures.value at c.in_ok-take_stream.ensures.taken in
    (taken.0, known_gives (g.R.Read.remaining c.args.reader.now.reader) c.in_ok-input.input.items taken.0 c.in_ok-input.ensures.input taken.1, taken.2)
