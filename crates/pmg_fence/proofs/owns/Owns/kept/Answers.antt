use Rattle.std.proofs.Common.{Vec, Global, sym, ap, ◌∙◌}
use Rattle.std.specs.Option.{is_some, option_map}
use Rattle.pmg_value.specs.declared.process.Proc.{Proc}
use Rattle.pmg_frame.specs.FenceOrder.{signature_total}
use Rattle.pmg_frame.proofs.FenceOrderLemmas.{signatures_exact}
use Rattle.pmg_fence.proofs.Trees.{get_at}
use Rattle.pmg_fence.proofs.owns.Owns.kept.Goals as goal

pub returns-in-Some-clause-same : goal.returns-in-Some-clause-same
returns-in-Some-clause-same c =
    sym (signatures_exact c.args.signature.now c.in-Some.kept.now (rw c.in-Some.is at c.get_key_value.ensures.same_key))

pub returns-in-Some-clause-found : goal.returns-in-Some-clause-found
returns-in-Some-clause-found c =
    ap (λ o. is_some (option_map (λ (ps : Vec Proc Global). ps.items) o)) (rw c.in-Some.is at c.get_key_value.ensures.value)
    ∙ sym (ap is_some (get_at signature_total signatures_exact (λ (ps : Vec Proc Global). ps.items) c.self.inside.rows.entries c.args.self.now c.args.signature.now c.self.view_is))

pub returns-in-None-clause-found : goal.returns-in-None-clause-found
returns-in-None-clause-found c =
    ap (λ o. is_some (option_map (λ (ps : Vec Proc Global). ps.items) o)) (rw c.in-None.is at c.get_key_value.ensures.value)
    ∙ sym (ap is_some (get_at signature_total signatures_exact (λ (ps : Vec Proc Global). ps.items) c.self.inside.rows.entries c.args.self.now c.args.signature.now c.self.view_is))
