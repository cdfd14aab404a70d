use Rattle.std.proofs.Common.{◌≡◌, ◌-◌, []}
use Rattle.pmg_frame.specs.RunReading.{repeated, read_local_run}
use Rattle.pmg_frame.proofs.local_run_reading.get_each_run.Given as goal

-- the runs that are left make all of what is read of what was read so far
abbrev pub invariant-loop : goal.invariant-loop
invariant-loop l = repeated (read_local_run l.name) (l.count - l.counter) l.locals.items l.at ≡ repeated (read_local_run l.name) l.count [] l.fn.at
