use Rattle.std.proofs.Common.{◌≡◌, ℕ, ◌++◌, ◌-◌, List, length, Some, refl, arith, ap, sym, ◌∙◌, append-nil}
use Rattle.std.specs.List.{flat_map}
use Rattle.std.specs.Prelude.{slice_get}
use Rattle.std.proofs.lemmas.Option.{slice_get_read}
use Rattle.pmg_frame.specs.Runs.{local_ranks, RankRun, run, runs_of}
use Rattle.pmg_frame.specs.RunSpelling.{local_run_spelling}
use Rattle.pmg_frame.specs.declared.local.Local.{Local}
use Rattle.pmg_frame.proofs.RunEnds.{run_put, none_behind}
use Rattle.pmg_frame.proofs.local_run_writing.put_each_run.Goals as goal

pub loop-start-preserved : goal.loop-start-preserved
loop-start-preserved c =
    let ls = c.args.locals.now in
    let start = c.loop-start.start in
    let end = c.run_end-end.result in
    let e = c.run_end-end.ensures in
    let first = c.index-locals-start.result in
    let last = c.index-locals-end.result in
    let out = c.loop-start.out.items in
    let total = c.args.out.now.items ++ flat_map local_run_spelling (runs_of local_ranks ls) in
    let at_first : slice_get ls start ≡ Some first = slice_get_read ls (length ls) start first refl c.loop-start-test.true c.index-locals-start.is in
    let at_last : slice_get ls (end - 1) ≡ Some last = slice_get_read ls (length ls) (end - 1) last refl (omega (arith, e.after, e.within)) c.index-locals-end.is in
    let rank : c.number.result ≡ last.proc.rank = c.number.ensures ∙ ap (λ (l : Local). l.proc.rank) (sym c.index-locals-end.is) in
    let put : c.put_local_run.new.out.items ≡ out ++ local_run_spelling (run first last.proc.rank) = c.in_ok-put_local_run.ensures ∙ ap (λ (n : ℕ). out ++ local_run_spelling (run first n)) rank in
    record {
      so_far = run_put local_ranks local_run_spelling ls start end first last out c.put_local_run.new.out.items total e.after e.run at_first at_last put c.loop-start.invariant.so_far;
      within = e.within;
    }

pub returns : goal.returns
returns c =
    let ls = c.args.locals.now in
    let out = c.loop-start.out.items in
    let none = none_behind local_ranks ls c.loop-start.start c.loop-start-test.false in
    sym (append-nil out) ∙ ap (λ (rs : List (RankRun Local)). out ++ flat_map local_run_spelling rs) (sym none) ∙ c.loop-start.invariant.so_far
