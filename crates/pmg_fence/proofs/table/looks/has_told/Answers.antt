use Rattle.std.proofs.Common.{Bor, is_some, sym, ap, ◌∙◌}
use Rattle.std.specs.FinMap as finite
use Rattle.std.specs.Option.{option_map}
use Rattle.std.specs.Ordering.{nat_cmp}
use Rattle.pmg_fence.specs.Tables.{Fence}
use Rattle.pmg_fence.specs.Kept.{known_fence}
use Rattle.pmg_fence.proofs.table.looks.has_told.Goals as goal

pub returns-in-None : goal.returns-in-None
returns-in-None c =
    ap is_some (sym (finite.get-empty nat_cmp c.args.node))
    ∙ ap (λ o. is_some (finite.get (known_fence (option_map (λ (f : Bor Fence). f.now) o)).headers c.args.node)) (sym c.in-None.is)
