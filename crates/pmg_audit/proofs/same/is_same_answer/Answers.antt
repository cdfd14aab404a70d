use Rattle.std.proofs.Common.{◌≡◌, ap}
use Rattle.pmg_value.specs.declared.refusal.Refusal.{Refusal}
use Rattle.pmg_node_model.specs.Acts.{Reply}
use Rattle.pmg_node.specs.Acting.{reply_as}
use Rattle.pmg_audit.proofs.SameActs.{same_refusals, same_replies}
use Rattle.pmg_audit.proofs.same.is_same_answer.Goals as goal

pub returns-in-Ok-other : goal.returns-in-Ok-other
returns-in-Ok-other c = rw (c.in-Ok.is, c.in-Ok-other.is, c.is_same_reply.ensures) (same_replies (reply_as c.in-Ok.reply) (reply_as c.in-Ok-other.other))

of_refusal : (e f : Refusal) → Reply.refused e ≡ Reply.refused f → e ≡ f
of_refusal e f is = cc

pub returns-in-Err-other-2 : goal.returns-in-Err-other-2
returns-in-Err-other-2 c =
    let e = c.in-Err.refusal in
    let f = c.in-Err-other-2.other in
    rw (c.in-Err.is, c.in-Err-other-2.is, c.is_same_refusal.ensures)
    (λ h. ap (λ (x : Refusal). Reply.refused x) ((same_refusals e f).0 h), λ is. (same_refusals e f).1 (of_refusal e f is))
