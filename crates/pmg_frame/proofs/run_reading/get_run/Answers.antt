use Rattle.std.proofs.Common.{◌≡◌, ◌+◌, ◌≤◌, ◌++◌, List, None, Ok, length, refl, ◌∙◌, arith}
use Rattle.std.specs.Option.{option_copied}
use Rattle.std.proofs.lemmas.List.{length-append}
use Rattle.std.proofs.lemmas.Result.{err_from_is_err_and}
use Rattle.pmg_value.specs.declared.process.Proc.{Proc}
use Rattle.pmg_value.specs.declared.refusal.Refusal.{Refusal}
use Rattle.pmg_value.specs.declared.refusal.Refusal.TheVariants as refusals
use Rattle.pmg_wire.specs.Reading.{Place, FailsReading}
use Rattle.pmg_frame.specs.Runs.{proc_ranks, RankRun, run, items_of}
use Rattle.pmg_frame.specs.RunReading.{last_or, ranks_to, read_run, read_part}
use Rattle.pmg_frame.proofs.RunLoops.{last_or_is}
use Rattle.pmg_frame.proofs.RunRules.{length-items_of}
use Rattle.pmg_frame.proofs.run_reading.get_run.Goals as goal

part_fails : (e : Refusal) (before : List Proc) (at : Place) → FailsReading e (read_part (last_or None before) (length before) at) → FailsReading e (read_run before at)
unfolding read_run
part_fails refusals.NoMemory before at h = tt
part_fails (refusals.BadFrame f) before at h = rw h refl
part_fails e before at h = absurd h

part_read : (before : List Proc) (at : Place) (r : RankRun Proc) (after : Place) → read_part (last_or None before) (length before) at ≡ Ok (r, after) → read_run before at ≡ Ok (before ++ items_of proc_ranks r, after)
unfolding read_run
part_read before at r after h = rw h refl

pub returns-in_err-first-clause-read : goal.returns-in_err-first-clause-read
returns-in_err-first-clause-read c =
    let err = err_from_is_err_and c.from_residual.result c.from_residual.ensures.1 in
    let before = c.args.before.items in
    let len : c.len.result ≡ length before = c.len.ensures ∙ c.args.before.ok.0 in
    let last : option_copied c.last.result ≡ last_or None before = (rw c.deref.ensures.value at c.last.ensures.value) ∙ last_or_is before in
    rw (err.1, err.2) (part_fails c.in_err-first.field-0.0 before c.args.at.now (rw (last, len) at c.in_err-first.ensures.read))

pub returns-clause-read : goal.returns-clause-read
returns-clause-read c =
    let before = c.args.before.items in
    let len : c.len.result ≡ length before = c.len.ensures ∙ c.args.before.ok.0 in
    let x = c.in_ok-first in
    let last : option_copied c.last.result ≡ last_or None before = (rw c.deref.ensures.value at c.last.ensures.value) ∙ last_or_is before in
    rw c.in_ok-with_run.ensures (part_read before c.args.at.now (run x.first x.last) c.get_part.new.at (rw (last, len) at x.ensures.read))

pub returns-clause-few : goal.returns-clause-few
returns-clause-few c =
    let before = c.args.before.items in
    let len : c.len.result ≡ length before = c.len.ensures ∙ c.args.before.ok.0 in
    let x = c.in_ok-first in
    let few : length before + ranks_to x.last x.first ≤ 4096 = rw len at x.ensures.few in
    let added = items_of proc_ranks (run x.first x.last) in
    rw c.in_ok-with_run.ensures (omega (arith, few, length-append before added, length-items_of proc_ranks (run x.first x.last)))
