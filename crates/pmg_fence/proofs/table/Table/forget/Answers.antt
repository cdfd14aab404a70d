use Rattle.std.proofs.Common.{refl, subst, sym}
use Rattle.pmg_fence.specs.Codes.{Known}
use Rattle.pmg_fence.specs.Kept.{known_of, IsKept}
use Rattle.pmg_fence.proofs.KeptLemmas.{kept_forgotten, forget_done}
use Rattle.pmg_fence.proofs.table.Table.forget.Goals as goal

pub invariant_of-self : goal.invariant_of-self
invariant_of-self c =
    let old = known_of c.self.inside.registry c.self.inside.node c.self.inside.series c.self.inside.ends c.self.inside.waiting.items in
    subst (λ (k : Known). IsKept k c.self.inside.owns)
    (sym (forget_done old c.args.signature.now c.self.inside.registry c.self.inside.node c.self.inside.series c.forget.new.self c.self.inside.ends c.self.inside.waiting.items refl c.forget.ensures))
    (kept_forgotten old c.self.inside.owns c.args.signature.now c.self.invariant)

pub returns : goal.returns
returns c =
    forget_done c.args.self.now c.args.signature.now c.self.inside.registry c.self.inside.node c.self.inside.series c.forget.new.self c.self.inside.ends c.self.inside.waiting.items c.self.view_is c.forget.ensures
