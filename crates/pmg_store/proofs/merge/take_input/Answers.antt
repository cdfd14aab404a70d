use Rattle.std.proofs.Common.{◌≤◌, length, ap, arith, Some}
use Rattle.std.proofs.lemmas.Result.{err_from_is_err_and}
use Rattle.pmg_store.specs.declared.input.TheConstants.{INPUT_LIMIT}
use Rattle.pmg_store.specs.Outcomes.{or_failure}
use Rattle.pmg_store.proofs.MergeLemmas.{known_gives, known_fails, kept_whole}
use Rattle.pmg_store.proofs.merge.take_input.Goals as goal

pub returns-in_err-take_stream-clause-fails : goal.returns-in_err-take_stream-clause-fails
returns-in_err-take_stream-clause-fails c =
    let err = err_from_is_err_and c.from_residual.result c.from_residual.ensures.1 in
    let within : length c.args.input.now ≤ INPUT_LIMIT = omega arith in
    rw (err.1, err.2) (known_fails (Some c.args.input.now) c.args.input.now c.in_err-take_stream.field-0.0
    (ap or_failure (kept_whole c.args.input.now within)) c.in_err-take_stream.ensures.fault)

pub returns-clause-taken : goal.returns-clause-taken
returns-clause-taken c =
    let within : length c.args.input.now ≤ INPUT_LIMIT = omega arith in
    let taken = c.in_ok-take_stream.ensures.taken in
    (taken.0, known_gives (Some c.args.input.now) c.args.input.now taken.0 (ap or_failure (kept_whole c.args.input.now within)) taken.1, taken.2)
