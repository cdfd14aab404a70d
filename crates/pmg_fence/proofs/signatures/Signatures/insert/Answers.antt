use Rattle.pmg_frame.specs.FenceOrder.{signature_total}
use Rattle.pmg_frame.proofs.FenceOrderLemmas.{signatures_exact}
use Rattle.pmg_fence.proofs.Trees.{put_among}
use Rattle.pmg_fence.proofs.signatures.Signatures.insert.Goals as goal

pub returns-clause-ok : goal.returns-clause-ok
returns-clause-ok c =
    put_among signature_total signatures_exact c.self.inside.items c.insert.new.self c.args.self.now c.args.signature c.self.view_is (c.in_ok-insert.ensures).updates.0
