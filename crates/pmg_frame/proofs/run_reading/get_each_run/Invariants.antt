use Rattle.std.proofs.Common.{◌≡◌, ◌-◌, ◌≤◌, [], length}
use Rattle.pmg_frame.specs.RunReading.{repeated, read_run}
use Rattle.pmg_frame.proofs.run_reading.get_each_run.Given as goal

-- the runs that are left make all of what is read of what was read so far
abbrev pub invariant-loop : goal.invariant-loop
invariant-loop l = record {
  so_far : repeated read_run (l.count - l.counter) l.procs.items l.at ≡ repeated read_run l.count [] l.fn.at;
  few : length l.procs.items ≤ 4096;
}
