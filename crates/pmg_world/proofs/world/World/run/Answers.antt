use Rattle.std.proofs.Common.{◌≡◌, List, [], length, take, sym, ap, subst, ◌∙◌, add-one, arith}
use Rattle.std.proofs.Math.Seq.{take-length}
use Rattle.pmg_world.specs.Accounts.{Account, Adds, GoesOn, IsAccountLawful, IsLed, IsRun, account_of}
use Rattle.pmg_world.specs.KeptFences.{KeepFences}
use Rattle.pmg_world.specs.declared.event.LoggedEvent.{LoggedEvent}
use Rattle.pmg_world.specs.declared.group.Group.{Group}
use Rattle.pmg_world.specs.declared.event.Event.{Event as ToldEvent}
use Rattle.pmg_world.proofs.LedLemmas.{adds_alike, adds_next, adds_none, goes_on_more, goes_on_same, led_fences, led_kept, led_run}
use Rattle.pmg_world.proofs.world.World.run.Goals as goal

-- a world with room for more is the world that it was
module _ (group : Group) (old new : List LoggedEvent) (now : Account) (led : IsLed group old) (view : account_of group old ≡ now) (kept : new ≡ old) where
  same_world : account_of group new ≡ now
  same_world = ap (account_of group) kept ∙ view

  no_event : Adds now.told [] (account_of group new).told
  no_event = subst (λ (a : Account). Adds now.told [] a.told) (sym same_world) (adds_none now.told)

  run_still : IsRun (account_of group new)
  run_still = subst (λ (l : List LoggedEvent). IsRun (account_of group l)) (sym kept) (led_run group old led)

  kept_still : IsAccountLawful (account_of group new)
  kept_still = subst (λ (l : List LoggedEvent). IsAccountLawful (account_of group l)) (sym kept) (led_kept group old led)

  fences_still : KeepFences (account_of group new)
  fences_still = subst (λ (l : List LoggedEvent). KeepFences (account_of group l)) (sym kept) (led_fences group old led)

  goes_on_still : GoesOn now (account_of group new)
  goes_on_still = goes_on_same now (account_of group new) same_world

pub loop-done-init : goal.loop-done-init
loop-done-init c =
    let group = c.self.inside.group in
    let old = c.self.inside.told.items in
    let new = c.reserve.new.self.items in
    let now = c.args.self.now in (
      no_event group old new now c.self.invariant c.self.view_is c.reserve.ensures.items,
      ap (λ (a : Account). a.jobs) (same_world group old new now c.self.invariant c.self.view_is c.reserve.ensures.items),
      run_still group old new now c.self.invariant c.self.view_is c.reserve.ensures.items,
      kept_still group old new now c.self.invariant c.self.view_is c.reserve.ensures.items,
      fences_still group old new now c.self.invariant c.self.view_is c.reserve.ensures.items,
      goes_on_still group old new now c.self.invariant c.self.view_is c.reserve.ensures.items,
    )

pub returns-then-is_err-clause-done : goal.returns-then-is_err-clause-done
returns-then-is_err-clause-done c = no_event c.self.inside.group c.self.inside.told.items c.reserve.new.self.items c.args.self.now c.self.invariant c.self.view_is c.reserve.ensures.items

pub returns-then-is_err-clause-goes_on : goal.returns-then-is_err-clause-goes_on
returns-then-is_err-clause-goes_on c = goes_on_still c.self.inside.group c.self.inside.told.items c.reserve.new.self.items c.args.self.now c.self.invariant c.self.view_is c.reserve.ensures.items

pub returns-then-is_err-clause-run : goal.returns-then-is_err-clause-run
returns-then-is_err-clause-run c = run_still c.self.inside.group c.self.inside.told.items c.reserve.new.self.items c.args.self.now c.self.invariant c.self.view_is c.reserve.ensures.items

pub returns-then-is_err-clause-lawful : goal.returns-then-is_err-clause-lawful
returns-then-is_err-clause-lawful c = kept_still c.self.inside.group c.self.inside.told.items c.reserve.new.self.items c.args.self.now c.self.invariant c.self.view_is c.reserve.ensures.items

pub returns-then-is_err-clause-fences : goal.returns-then-is_err-clause-fences
returns-then-is_err-clause-fences c = fences_still c.self.inside.group c.self.inside.told.items c.reserve.new.self.items c.args.self.now c.self.invariant c.self.view_is c.reserve.ensures.items

pub loop-done-preserved : goal.loop-done-preserved
loop-done-preserved c = (
  adds_next c.args.self.now.told c.loop-done.self.told c.step.new.self.told c.args.events.now _ c.loop-done.done _ c.loop-done-test.true c.index-events-done.is (add-one c.loop-done.done) c.loop-done.invariant.0
      (adds_alike c.loop-done.self.told c.step.new.self.told c.in-Ok.event c.index-events-done.result c.in_default-step.ensures.told c.in-Ok.ensures),
  c.in_default-step.ensures.jobs ∙ c.loop-done.invariant.1,
  c.in_default-step.ensures.run,
  c.in_default-step.ensures.lawful,
  c.in_default-step.ensures.fences,
  goes_on_more c.args.self.now c.loop-done.self c.step.new.self c.loop-done.invariant.1 c.loop-done.invariant.5 c.in_default-step.ensures.goes_on,
)

pub returns-in-Err-clause-done : goal.returns-in-Err-clause-done
returns-in-Err-clause-done c =
    subst (λ (a : Account). Adds c.args.self.now.told (take c.loop-done.done c.args.events.now) a.told) (sym c.in-Err.ensures.err) c.loop-done.invariant.0

pub returns-in-Err-clause-goes_on : goal.returns-in-Err-clause-goes_on
returns-in-Err-clause-goes_on c =
    subst (λ (a : Account). GoesOn c.args.self.now a) (sym c.in-Err.ensures.err) c.loop-done.invariant.5

pub returns-clause-told : goal.returns-clause-told
returns-clause-told c =
    let all = c.args.events.now in
    let end : c.loop-done.done ≡ length all = omega (arith, c.loop-done.auto.done-end, c.loop-done-test.false) in
    subst (λ (xs : List ToldEvent). Adds c.args.self.now.told xs c.loop-done.self.told) (ap (λ n. take n all) end ∙ take-length all) c.loop-done.invariant.0
