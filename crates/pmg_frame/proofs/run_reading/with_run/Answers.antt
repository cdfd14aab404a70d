use Rattle.std.proofs.Common.{◌≡◌, ℕ, ◌++◌, List, ap, ◌∙◌}
use Rattle.pmg_value.specs.declared.process.Proc.{Proc}
use Rattle.pmg_frame.specs.Runs.{proc_ranks, run, items_of}
use Rattle.pmg_frame.proofs.RunLoops.{line_more, line_done}
use Rattle.pmg_frame.proofs.RunRules.{proc_ranked}
use Rattle.pmg_frame.proofs.run_reading.with_run.Goals as goal

made_of : (p : Proc) (nspace : List ℕ) (rank : ℕ) → p.nspace ≡ nspace → p.rank ≡ rank → p ≡ record { nspace = nspace; rank = rank }
made_of p nspace rank e f = ap (λ (n : List ℕ). record { nspace = n; rank = p.rank }) e ∙ ap (λ (r : ℕ). record { nspace = nspace; rank = r }) f

pub loop-rank-preserved : goal.loop-rank-preserved
loop-rank-preserved c =
    let first = c.args.first in
    let rank = c.loop-rank.rank in
    let total = c.args.procs.items ++ items_of proc_ranks (run first c.args.last) in
    let p = c.new-in-loop-rank.result in
    let made : p ≡ proc_ranks.at first rank = made_of p first.nspace rank (c.new-in-loop-rank.ensures.nspace ∙ c.in_ok-copy.ensures) (c.new-in-loop-rank.ensures.rank ∙ c.new.ensures) in
    rw (c.in_ok-push.ensures.items, made) (line_more proc_ranks proc_ranked c.loop-rank.procs.items first c.args.last rank total c.loop-rank-test.true c.loop-rank.invariant)

pub returns : goal.returns
returns c =
    let total = c.args.procs.items ++ items_of proc_ranks (run c.args.first c.args.last) in
    line_done proc_ranks c.loop-rank.procs.items c.args.first c.args.last c.loop-rank.rank total c.loop-rank-test.false c.loop-rank.invariant
