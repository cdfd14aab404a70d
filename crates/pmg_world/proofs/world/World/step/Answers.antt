use Rattle.std.proofs.Common.{List, [], ◌∷◌, ◌++◌, map, refl, sym, ap, subst, ◌∙◌}
use Rattle.pmg_world.specs.Accounts.{Account, GoesOn, IsLed, IsLedBy, account_of}
use Rattle.pmg_world.specs.Telling.{event_of, happened_of}
use Rattle.pmg_world.specs.declared.event.LoggedEvent.{LoggedEvent}
use Rattle.pmg_world.proofs.LedLemmas.{adds_one, goes_on_same, happens_jobs, led_goes_on, led_group, led_fences, led_kept, led_more, led_run, same_account, same_led, told_more}
use Rattle.pmg_world.proofs.world.World.step.Goals as goal

pub invariant_of-self : goal.invariant_of-self
invariant_of-self c = subst (IsLed c.self.inside.group) (sym c.reserve.ensures.items) c.self.invariant

pub returns-in_err-reserve-clause-run : goal.returns-in_err-reserve-clause-run
returns-in_err-reserve-clause-run c = led_run c.self.inside.group c.reserve.new.self.items (subst (IsLed c.self.inside.group) (sym c.reserve.ensures.items) c.self.invariant)

pub returns-in_err-reserve-clause-lawful : goal.returns-in_err-reserve-clause-lawful
returns-in_err-reserve-clause-lawful c = led_kept c.self.inside.group c.reserve.new.self.items (subst (IsLed c.self.inside.group) (sym c.reserve.ensures.items) c.self.invariant)

pub returns-in_err-reserve-clause-fences : goal.returns-in_err-reserve-clause-fences
returns-in_err-reserve-clause-fences c = led_fences c.self.inside.group c.reserve.new.self.items (subst (IsLed c.self.inside.group) (sym c.reserve.ensures.items) c.self.invariant)

pub returns-in_err-reserve-clause-goes_on : goal.returns-in_err-reserve-clause-goes_on
returns-in_err-reserve-clause-goes_on c =
    goes_on_same c.args.self.now (account_of c.self.inside.group c.reserve.new.self.items) (ap (account_of c.self.inside.group) c.reserve.ensures.items ∙ c.self.view_is)

pub happen-answer-requires : goal.happen-answer-requires
happen-answer-requires c = led_group c.self.inside.group (map happened_of c.reserve.new.self.items) (subst (IsLed c.self.inside.group) (sym c.reserve.ensures.items) c.self.invariant)

pub invariant_of-self-then-is_short : goal.invariant_of-self-then-is_short
invariant_of-self-then-is_short c =
    same_led c.self.inside.group c.happen-answer.new.self (map happened_of c.reserve.new.self.items) (c.happen-answer.ensures.memory (c.is_short.ensures.short c.if-is_short.true))
    (subst (IsLed c.self.inside.group) (sym c.reserve.ensures.items) c.self.invariant)

pub returns-then-is_short-clause-jobs : goal.returns-then-is_short-clause-jobs
returns-then-is_short-clause-jobs c = (c.happen-answer.ensures.memory (c.is_short.ensures.short c.if-is_short.true)).jobs ∙ ap (λ (a : Account). a.jobs) c.self.view_is

pub returns-then-is_short-clause-err : goal.returns-then-is_short-clause-err
returns-then-is_short-clause-err c =
    same_account c.self.inside.group c.happen-answer.new.self c.reserve.new.self.items (c.happen-answer.ensures.memory (c.is_short.ensures.short c.if-is_short.true))
    ∙ ap (account_of c.self.inside.group) c.reserve.ensures.items ∙ c.self.view_is

pub returns-then-is_short-clause-run : goal.returns-then-is_short-clause-run
returns-then-is_short-clause-run c =
    led_run c.happen-answer.new.self c.reserve.new.self.items
    (same_led c.self.inside.group c.happen-answer.new.self (map happened_of c.reserve.new.self.items) (c.happen-answer.ensures.memory (c.is_short.ensures.short c.if-is_short.true))
    (subst (IsLed c.self.inside.group) (sym c.reserve.ensures.items) c.self.invariant))

pub returns-then-is_short-clause-lawful : goal.returns-then-is_short-clause-lawful
returns-then-is_short-clause-lawful c =
    led_kept c.happen-answer.new.self c.reserve.new.self.items
    (same_led c.self.inside.group c.happen-answer.new.self (map happened_of c.reserve.new.self.items) (c.happen-answer.ensures.memory (c.is_short.ensures.short c.if-is_short.true))
    (subst (IsLed c.self.inside.group) (sym c.reserve.ensures.items) c.self.invariant))

pub returns-then-is_short-clause-fences : goal.returns-then-is_short-clause-fences
returns-then-is_short-clause-fences c =
    led_fences c.happen-answer.new.self c.reserve.new.self.items
    (same_led c.self.inside.group c.happen-answer.new.self (map happened_of c.reserve.new.self.items) (c.happen-answer.ensures.memory (c.is_short.ensures.short c.if-is_short.true))
    (subst (IsLed c.self.inside.group) (sym c.reserve.ensures.items) c.self.invariant))

pub returns-then-is_short-clause-goes_on : goal.returns-then-is_short-clause-goes_on
returns-then-is_short-clause-goes_on c =
    goes_on_same c.args.self.now (account_of c.happen-answer.new.self c.reserve.new.self.items)
    (same_account c.self.inside.group c.happen-answer.new.self c.reserve.new.self.items (c.happen-answer.ensures.memory (c.is_short.ensures.short c.if-is_short.true))
    ∙ ap (account_of c.self.inside.group) c.reserve.ensures.items ∙ c.self.view_is)

-- the event, with its answer, is told
led_after : (c : goal.After-push_reserved) → IsLed c.happen-answer.new.self c.push_reserved.new.self.items
led_after c =
    let t : LoggedEvent = record { event = c.args.event; answer = c.happen-answer.result } in
    let told = c.reserve.new.self.items in
    subst (IsLedBy c.happen-answer.new.self) (sym (ap (map happened_of) c.push_reserved.ensures.items ∙ told_more told t))
    (led_more c.self.inside.group c.happen-answer.new.self (map happened_of told) (event_of c.args.event) c.happen-answer.result
    (subst (IsLed c.self.inside.group) (sym c.reserve.ensures.items) c.self.invariant) (c.is_short.ensures.answered c.if-is_short.false) c.happen-answer.ensures.step)

pub invariant_of-self-2 : goal.invariant_of-self-2
invariant_of-self-2 c = led_after c

pub returns-clause-jobs : goal.returns-clause-jobs
returns-clause-jobs c =
    happens_jobs c.self.inside.group (event_of c.args.event) c.happen-answer.result c.happen-answer.new.self (c.is_short.ensures.answered c.if-is_short.false) c.happen-answer.ensures.step
    ∙ ap (λ (a : Account). a.jobs) c.self.view_is

pub returns-clause-told : goal.returns-clause-told
returns-clause-told c =
    let t : LoggedEvent = record { event = c.args.event; answer = c.happen-answer.result } in
    adds_one c.args.self.now.told c.args.event t c.push_reserved.new.self.items
    (c.push_reserved.ensures.items ∙ ap (λ (l : List LoggedEvent). l ++ t ∷ []) (c.reserve.ensures.items ∙ ap (λ (a : Account). a.told) c.self.view_is)) refl

pub returns-clause-run : goal.returns-clause-run
returns-clause-run c = led_run c.happen-answer.new.self c.push_reserved.new.self.items (led_after c)

pub returns-clause-lawful : goal.returns-clause-lawful
returns-clause-lawful c = led_kept c.happen-answer.new.self c.push_reserved.new.self.items (led_after c)

pub returns-clause-fences : goal.returns-clause-fences
returns-clause-fences c = led_fences c.happen-answer.new.self c.push_reserved.new.self.items (led_after c)

pub returns-clause-goes_on : goal.returns-clause-goes_on
returns-clause-goes_on c =
    let t : LoggedEvent = record { event = c.args.event; answer = c.happen-answer.result } in
    let on =
    led_goes_on c.self.inside.group c.happen-answer.new.self c.reserve.new.self.items t (subst (IsLed c.self.inside.group) (sym c.reserve.ensures.items) c.self.invariant)
    (c.is_short.ensures.answered c.if-is_short.false) c.happen-answer.ensures.step in
    let same = ap (account_of c.self.inside.group) c.reserve.ensures.items ∙ c.self.view_is in
    subst (λ (a : Account). GoesOn a (account_of c.happen-answer.new.self c.push_reserved.new.self.items)) same
    (subst (λ (l : List LoggedEvent). GoesOn (account_of c.self.inside.group c.reserve.new.self.items) (account_of c.happen-answer.new.self l)) (sym c.push_reserved.ensures.items) on)
