use Rattle.pmg_fence.proofs.ReadLemmas.{gone_done}
use Rattle.pmg_fence.proofs.table.Table.release.Goals as goal

pub returns : goal.returns
returns c =
    gone_done c.args.self.now c.args.name.now c.signature.result.now c.signature-2.result.now c.signature-3.result.now c.instance.result _ c.is_whole-whole.result c.participants-proc-items.result.now
    c.signature.ensures c.instance.ensures.value c.signature-2.ensures c.signature-3.ensures c.fence-fence.ensures.value c.is_whole-whole.ensures c.participants-proc-items.ensures.value
    c.loop-proc.gone.items c.loop-proc.proc-index c.loop-proc.invariant c.loop-proc-test.false
