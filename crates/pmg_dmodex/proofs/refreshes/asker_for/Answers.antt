use Rattle.std.proofs.Common.{Bool, cond, Some, None, sym, ap, ◌∙◌}
use Rattle.pmg_dmodex.proofs.RefreshLemmas.{same_is}
use Rattle.pmg_dmodex.proofs.refreshes.asker_for.Goals as goal

pub returns-then-eq : goal.returns-then-eq
returns-then-eq c =
    sym (ap (λ (b : Bool). cond b (Some c.args.asked.now.0) None) (sym (same_is c.args.asked.now.1 c.args.target.now) ∙ sym c.eq.ensures ∙ c.if-eq.true))

pub returns : goal.returns
returns c =
    sym (ap (λ (b : Bool). cond b (Some c.args.asked.now.0) None) (sym (same_is c.args.asked.now.1 c.args.target.now) ∙ sym c.eq.ensures ∙ c.if-eq.false))
