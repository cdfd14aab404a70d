use Rattle.std.proofs.Common.{◌≡◌, ◌++◌, List, None, Ok, refl, ◌∙◌}
use Rattle.std.specs.Option.{option_copied}
use Rattle.std.proofs.lemmas.Result.{err_from_is_err_and}
use Rattle.pmg_value.specs.Signatures.{FenceName}
use Rattle.pmg_value.specs.declared.refusal.Refusal.{Refusal}
use Rattle.pmg_value.specs.declared.refusal.Refusal.TheVariants as refusals
use Rattle.pmg_wire.specs.Reading.{Place, FailsReading}
use Rattle.pmg_frame.specs.Runs.{local_ranks, RankRun, run, items_of}
use Rattle.pmg_frame.specs.RunReading.{last_or, read_local_run, read_local_part}
use Rattle.pmg_frame.specs.declared.local.Local.{Local}
use Rattle.pmg_frame.proofs.RunLoops.{last_or_is}
use Rattle.pmg_frame.proofs.local_run_reading.get_local_run.Goals as goal

part_fails : (name : FenceName) (e : Refusal) (before : List Local) (at : Place) → FailsReading e (read_local_part name (last_or None before) at) → FailsReading e (read_local_run name before at)
unfolding read_local_run
part_fails name refusals.NoMemory before at h = tt
part_fails name (refusals.BadFrame f) before at h = rw h refl
part_fails name e before at h = absurd h

part_read : (name : FenceName) (before : List Local) (at : Place) (r : RankRun Local) (after : Place) → read_local_part name (last_or None before) at ≡ Ok (r, after)
    → read_local_run name before at ≡ Ok (before ++ items_of local_ranks r, after)
unfolding read_local_run
part_read name before at r after h = rw h refl

pub returns-in_err-first : goal.returns-in_err-first
returns-in_err-first c =
    let err = err_from_is_err_and c.from_residual.result c.from_residual.ensures.1 in
    let before = c.args.before.items in
    let last : option_copied c.last.result ≡ last_or None before = (rw c.deref.ensures.value at c.last.ensures.value) ∙ last_or_is before in
    rw (err.1, err.2) (part_fails c.args.name.now c.in_err-first.field-0.0 before c.args.at.now (rw last at c.in_err-first.ensures.read))

pub returns : goal.returns
returns c =
    let before = c.args.before.items in
    let x = c.in_ok-first in
    let last : option_copied c.last.result ≡ last_or None before = (rw c.deref.ensures.value at c.last.ensures.value) ∙ last_or_is before in
    rw c.in_ok-with_run.ensures (part_read c.args.name.now before c.args.at.now (run x.first x.last) c.get_local_part.new.at (rw last at x.ensures.read))
