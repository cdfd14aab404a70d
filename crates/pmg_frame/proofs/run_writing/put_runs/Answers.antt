use Rattle.std.proofs.Common.{◌≡◌, ◌-◌, ◌++◌, List, ℕ, Some, Bool, length, sym, ap, subst, ◌∙◌, arith}
use Rattle.std.specs.List.{slice_get, list_all, flat_map}
use Rattle.std.proofs.lemmas.Bool.{eqb-true}
use Rattle.std.proofs.lemmas.List.{append-nil, length-drop}
use Rattle.pmg_value.specs.Names.{is_nspace}
use Rattle.pmg_value.specs.declared.process.Proc.{Proc}
use Rattle.pmg_frame.specs.Runs.{proc_ranks, RankRun, run, runs_of}
use Rattle.pmg_frame.specs.RunSpelling.{run_spelling}
use Rattle.pmg_frame.proofs.RunFar.{rising_drop}
use Rattle.pmg_frame.proofs.RunFronts.{there_at, left_is, written_more, tested_more, none_left}
use Rattle.pmg_frame.proofs.run_writing.put_runs.Goals as goal

pub loop-rest-preserved : goal.loop-rest-preserved
loop-rest-preserved c =
    let a = c.args in
    let xs = c.loop-rest.rest.now in
    let n = c.first_run-len.result in
    let f = c.first_run-len.ensures in
    let i = c.loop-rest.invariant in
    let first = c.index-rest-0.result in
    let last = c.index-rest-len.result in
    let begins : slice_get xs 0 ≡ Some first = there_at xs 0 first (omega (arith, f.some, f.within)) c.index-rest-0.is in
    let ends : slice_get xs (n - 1) ≡ Some last = there_at xs (n - 1) last (omega (arith, f.some, f.within)) c.index-rest-len.is in
    let rank : c.number.result ≡ last.rank = c.number.ensures ∙ ap (λ (p : Proc). p.rank) (sym c.index-rest-len.is) in
    let put : c.put_run.new.out.items ≡ c.loop-rest.out.items ++ run_spelling (run first last.rank) = subst (λ (m : ℕ). c.put_run.new.out.items ≡ c.loop-rest.out.items ++ run_spelling (run first m)) rank c.in_ok-put_run.ensures.bytes in
    let named : RankRun Proc → Bool = λ r. is_nspace r.first.nspace in
    record {
      bytes = written_more proc_ranks run_spelling xs n first last c.loop-rest.out.items c.put_run.new.out.items (a.out.now.items ++ flat_map run_spelling (runs_of proc_ranks a.procs.now)) f.run begins ends put i.bytes;
      names = tested_more proc_ranks named xs n first last (list_all named (runs_of proc_ranks a.procs.now)) f.run begins ends c.in_ok-put_run.ensures.name i.names;
      rising = rw left_is (rising_drop n xs i.rising);
      few = rw left_is (omega (arith, length-drop n xs, i.few));
    }

pub returns-clause-bytes : goal.returns-clause-bytes
returns-clause-bytes c =
    let xs = c.loop-rest.rest.now in
    let none = none_left proc_ranks xs (eqb-true (length xs) 0 (sym c.loop-rest-test.ensures)) in
    sym (append-nil c.loop-rest.out.items)
    ∙ ap (λ (rs : List (RankRun Proc)). c.loop-rest.out.items ++ flat_map run_spelling rs) (sym none)
    ∙ c.loop-rest.invariant.bytes

pub returns-clause-names : goal.returns-clause-names
returns-clause-names c =
    let xs = c.loop-rest.rest.now in
    let none = none_left proc_ranks xs (eqb-true (length xs) 0 (sym c.loop-rest-test.ensures)) in
    let named : RankRun Proc → Bool = λ r. is_nspace r.first.nspace in
    sym c.loop-rest.invariant.names ∙ ap (list_all named) none
