use Rattle.std.proofs.Common.{sym, ap, ◌∙◌, Bor}
use Rattle.std.specs.FinMap as finite
use Rattle.std.specs.Option.{option_map}
use Rattle.std.specs.Ordering.{nat_cmp}
use Rattle.pmg_fence.specs.Tables.{Fence, entry_in}
use Rattle.pmg_fence.specs.Kept.{known_fence}
use Rattle.pmg_fence.proofs.table.told_in.Goals as goal

pub returns-in-Some : goal.returns-in-Some
returns-in-Some c = c.told_entry.ensures ∙ ap (λ o. entry_in c.args.proc.now (finite.get (known_fence (option_map (λ (f : Bor Fence). f.now) o)).headers c.args.home)) (sym c.in-Some.is)

pub returns-in-None : goal.returns-in-None
returns-in-None c =
    ap (entry_in c.args.proc.now) (sym (finite.get-empty nat_cmp c.args.home))
    ∙ ap (λ o. entry_in c.args.proc.now (finite.get (known_fence (option_map (λ (f : Bor Fence). f.now) o)).headers c.args.home)) (sym c.in-None.is)
