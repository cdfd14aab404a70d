use Rattle.std.proofs.Common.{sym, ap, ◌∙◌, Bor}
use Rattle.std.specs.FinMap as finite
use Rattle.std.specs.Option.{option_map}
use Rattle.pmg_value.specs.Process.{proc_cmp}
use Rattle.pmg_fence.specs.Tables.{Fence}
use Rattle.pmg_fence.specs.Kept.{known_fence}
use Rattle.pmg_fence.proofs.table.level_in.Goals as goal

pub returns-in-Some : goal.returns-in-Some
returns-in-Some c = c.level.ensures ∙ ap (λ o. finite.get (known_fence (option_map (λ (f : Bor Fence). f.now) o)).levels c.args.proc.now) (sym c.in-Some.is)

pub returns-in-None : goal.returns-in-None
returns-in-None c =
    sym (finite.get-empty proc_cmp c.args.proc.now)
    ∙ ap (λ o. finite.get (known_fence (option_map (λ (f : Bor Fence). f.now) o)).levels c.args.proc.now) (sym c.in-None.is)
