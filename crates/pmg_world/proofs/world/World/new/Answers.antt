use Rattle.std.proofs.Common.{subst, sym}
use Rattle.pmg_world.specs.Accounts.{IsLed}
use Rattle.pmg_world.proofs.LedLemmas.{led_fences, led_kept, led_run, led_start}
use Rattle.pmg_world.proofs.world.World.new.Goals as goal

led : (c : goal.After-new-2) → IsLed c.in_ok-group.group c.new-2.result.items
led c = subst (IsLed c.in_ok-group.group) (sym c.new-2.ensures.items) (led_start c.in_ok-group.group c.args.registry.now c.in_ok-group.ensures.jobs c.in_ok-group.ensures.stands)

pub invariant_of-result : goal.invariant_of-result
invariant_of-result c = led c

pub returns-clause-run : goal.returns-clause-run
returns-clause-run c = led_run c.in_ok-group.group c.new-2.result.items (led c)

pub returns-clause-lawful : goal.returns-clause-lawful
returns-clause-lawful c = led_kept c.in_ok-group.group c.new-2.result.items (led c)

pub returns-clause-fences : goal.returns-clause-fences
returns-clause-fences c = led_fences c.in_ok-group.group c.new-2.result.items (led c)
