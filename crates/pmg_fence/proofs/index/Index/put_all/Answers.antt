use Rattle.std.proofs.Common.{sym, ap, ◌∙◌, ◌++◌, [], ◌∷◌, take, add-one}
use Rattle.std.proofs.Math.Seq.{take-suc}
use Rattle.pmg_fence.proofs.ListingLemmas.{one_listed, lists_more, more_then}
use Rattle.pmg_fence.proofs.index.Index.put_all.Goals as goal

pub loop-proc-preserved : goal.loop-proc-preserved
loop-proc-preserved c =
    let before = take c.loop-proc.proc-index c.args.procs.now in
    let after = ap (λ n. take n c.args.procs.now) (add-one c.loop-proc.proc-index) ∙ take-suc c.args.procs.now c.loop-proc.proc-index c.proc-item.result c.loop-proc-test.true
    ∙ ap (λ p. before ++ p ∷ []) (sym c.proc-item.is) in (
      one_listed c.loop-proc.self c.put.new.self c.args.signature.now c.proc-item.result before _ c.in_ok-put.ensures.ok after c.loop-proc.invariant.0,
      more_then c.args.self.now c.loop-proc.self c.put.new.self c.loop-proc.invariant.1 (lists_more c.loop-proc.self c.put.new.self c.proc-item.result c.args.signature.now c.in_ok-put.ensures.ok),
    )
