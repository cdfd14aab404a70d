use Rattle.std.proofs.Common.{Bor, Vec, Global, Some, sym, ap, ◌∙◌}
use Rattle.std.specs.Option.{option_map}
use Rattle.pmg_value.specs.declared.process.Proc.{Proc}
use Rattle.pmg_frame.specs.FenceOrder.{signature_total}
use Rattle.pmg_frame.proofs.FenceOrderLemmas.{signatures_exact}
use Rattle.pmg_fence.proofs.Trees.{read}
use Rattle.pmg_fence.proofs.owns.Owns.get.Goals as goal

pub returns-in-Some : goal.returns-in-Some
returns-in-Some c =
    ap Some c.as_slice.ensures.value
    ∙ ap (option_map (λ (v : Bor (Vec Proc Global)). v.now.items)) (sym c.in-Some.is)
    ∙ read signature_total signatures_exact (λ (ps : Vec Proc Global). ps.items) c.self.inside.rows.entries c.args.self.now c.args.signature.now c.get.result c.self.view_is c.get.ensures.value

pub returns-in-None : goal.returns-in-None
returns-in-None c =
    ap (option_map (λ (v : Bor (Vec Proc Global)). v.now.items)) (sym c.in-None.is)
    ∙ read signature_total signatures_exact (λ (ps : Vec Proc Global). ps.items) c.self.inside.rows.entries c.args.self.now c.args.signature.now c.get.result c.self.view_is c.get.ensures.value
