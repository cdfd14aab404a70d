use Rattle.std.proofs.Common.{take}
use Rattle.pmg_node_model.specs.Sending.{sent}
use Rattle.pmg_audit.specs.Sends.{NoneAt}
use Rattle.pmg_audit.proofs.sends.place_among.Given as goal

abbrev pub invariant-loop-place : goal.invariant-loop-place
invariant-loop-place l = NoneAt l.frames (sent l.node l.frame) (take l.place-index l.places)
