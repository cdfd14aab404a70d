use Rattle.std.proofs.Common.{◌≡◌, ap}
use Rattle.pmg_node_model.specs.Acts.{Act, Request}
use Rattle.pmg_node.specs.Acting.{request_of}
use Rattle.pmg_audit.proofs.SameActs.{same_requests}
use Rattle.pmg_audit.proofs.same.is_same_act.Goals as goal

of_request : (q r : Request) → Act.request q ≡ Act.request r → q ≡ r
of_request q r is = cc

pub returns-in-Request-other : goal.returns-in-Request-other
returns-in-Request-other c =
    let q = request_of c.in-Request.request in
    let r = request_of c.in-Request-other.other in
    rw (c.in-Request.is, c.in-Request-other.is, c.is_same_request.ensures)
    (λ h. ap (λ (x : Request). Act.request x) ((same_requests q r).0 h), λ is. (same_requests q r).1 (of_request q r is))
