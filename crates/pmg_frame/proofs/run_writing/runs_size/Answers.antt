use Rattle.std.proofs.Common.{◌≡◌, ◌+◌, ◌-◌, List, Some, get_or, length, sym, ap, arith}
use Rattle.std.specs.Int.{w32, to_be_bytes}
use Rattle.std.specs.List.{slice_get, flat_map}
use Rattle.std.proofs.lemmas.Bool.{eqb-true}
use Rattle.std.proofs.lemmas.List.{length-append, length-drop}
use Rattle.std.proofs.lemmas.Option.{slice_get-get_or}
use Rattle.pmg_value.specs.declared.process.Proc.{Proc}
use Rattle.pmg_wire.specs.Spelling.{proc_spelling}
use Rattle.pmg_frame.specs.Runs.{proc_ranks, RankRun, run, runs_of}
use Rattle.pmg_frame.specs.RunSpelling.{run_spelling}
use Rattle.pmg_frame.proofs.RunFar.{rising_drop}
use Rattle.pmg_frame.proofs.RunFronts.{there_at, left_is, counted_more, sized_more, none_left}
use Rattle.pmg_frame.proofs.run_writing.runs_size.Goals as goal

pub loop-rest-preserved : goal.loop-rest-preserved
loop-rest-preserved c =
    let xs = c.loop-rest.rest.now in
    let n = c.first_run-len.result in
    let f = c.first_run-len.ensures in
    let i = c.loop-rest.invariant in
    let first = c.index-rest-0.result in
    let last = get_or xs (n - 1) first in
    let begins : slice_get xs 0 ≡ Some first = there_at xs 0 first (omega (arith, f.some, f.within)) c.index-rest-0.is in
    let ends : slice_get xs (n - 1) ≡ Some last = slice_get-get_or xs (n - 1) first (omega (arith, f.some, f.within)) in
    let size : c.proc_size.result + 4 ≡ length (run_spelling (run first last.rank)) = omega (arith, c.proc_size.ensures.value, length-append (proc_spelling first) (to_be_bytes w32 last.rank)) in
    record {
      count = counted_more proc_ranks xs n first last c.loop-rest.count (length (runs_of proc_ranks c.args.procs.now)) f.run begins ends i.count;
      size = sized_more proc_ranks run_spelling xs n first last c.loop-rest.size (c.proc_size.result + 4) (length (flat_map run_spelling (runs_of proc_ranks c.args.procs.now))) f.run begins ends size i.size;
      so_many = rw left_is (omega (arith, length-drop n xs, f.some, f.within, i.so_many));
      bound = omega (arith, i.bound, c.proc_size.ensures.bound);
      rising = rw left_is (rising_drop n xs i.rising);
    }

pub returns-clause-count : goal.returns-clause-count
returns-clause-count c =
    let xs = c.loop-rest.rest.now in
    let none = ap length (none_left proc_ranks xs (eqb-true (length xs) 0 (sym c.loop-rest-test.ensures))) in
    omega (arith, none, c.loop-rest.invariant.count)

pub returns-clause-size : goal.returns-clause-size
returns-clause-size c =
    let xs = c.loop-rest.rest.now in
    let none = ap (λ (rs : List (RankRun Proc)). length (flat_map run_spelling rs)) (none_left proc_ranks xs (eqb-true (length xs) 0 (sym c.loop-rest-test.ensures))) in
    omega (arith, none, c.loop-rest.invariant.size)
