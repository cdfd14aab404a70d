use Rattle.std.proofs.Common.{◌≡◌, Bool, true, ◌&&◌, sym, ap, ◌∙◌}
use Rattle.std.specs.Prelude.{◌==◌}
use Rattle.std.proofs.lemmas.Bool.{eq-eqb}
use Rattle.pmg_dmodex.proofs.RefreshLemmas.{same_is}
use Rattle.pmg_fence.specs.Entering.{same_proc}
use Rattle.pmg_node_parts.proofs.answering.is_replied.Goals as goal

pub returns-then-waits_for-number : goal.returns-then-waits_for-number
returns-then-waits_for-number c =
    let same : (c.args.waits_for == c.args.number) ≡ true = eq-eqb c.args.waits_for c.args.number c.if-waits_for-number.true in
    c.eq.ensures ∙ same_is c.args.target.now c.args.proc.now ∙ sym (ap (λ (b : Bool). b && same_proc c.args.target.now c.args.proc.now) same)
