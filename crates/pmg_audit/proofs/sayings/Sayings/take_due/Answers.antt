use Rattle.std.proofs.Common.{◌≡◌, [], List, IfSome, IsNone, set, drop, sym, ap, subst, ◌∙◌, rules}
use Rattle.pmg_audit.specs.Codes.{rest_of, audited_due}
use Rattle.pmg_audit.specs.Taking.{IsPlace, TakesSaying, last_of}
use Rattle.pmg_audit.specs.declared.moves.Saying.{Saying}
use Rattle.pmg_audit.proofs.SayingLemmas.{none_rest, place_inside, places_stay, popped_none, popped_some}
use Rattle.pmg_audit.proofs.sayings.Sayings.take_due.Goals as goal

pub index_mut-requires : goal.index_mut-requires
index_mut-requires c =
    let ss = c.self.inside.items.items in
    let place : IsPlace ss c.args.proc.now c.in-Some.place = c.self.invariant.found c.args.proc.now c.in-Some.place (sym (c.copied.ensures ∙ c.get.ensures.value) ∙ c.in-Some.is) in
    let inside = place_inside ss c.args.proc.now c.in-Some.place place in
    search rules

pub invariant_of-self : goal.invariant_of-self
invariant_of-self c =
    let ss = c.self.inside.items.items in
    let e : Saying = c.index_mut.result.now in
    places_stay _ ss c.in-Some.place e c.self.inside.places.entries (ap (λ (s : Saying). s.proc) c.index_mut.ensures.value) c.self.invariant

pub returns-in-Some : goal.returns-in-Some
returns-in-Some c =
    let ss = c.self.inside.items.items in
    let p = c.args.proc.now in
    let k = c.in-Some.place in
    let place : IsPlace ss p k = c.self.invariant.found p k (sym (c.copied.ensures ∙ c.get.ensures.value) ∙ c.in-Some.is) in
    let e : Saying = c.index_mut.result.now in
    let x : Saying = record { proc = e.proc; dues = c.pop_front.new.self; last_puts = e.last_puts } in
    let same = ap (λ (s : Saying). s.dues.items) (sym c.index_mut.ensures.value) in
    record {
      some = subst (λ (l : List Saying). IfSome c.pop_front.result (λ d. TakesSaying l p (audited_due d) (set ss k x))) c.self.view_is
          (popped_some p ss k e x c.pop_front.result place (ap last_of c.index_mut.ensures.value) (same ∙ c.pop_front.ensures.items));
      none = subst (λ (l : List Saying). IsNone c.pop_front.result → rest_of l p ≡ []) c.self.view_is
          (popped_none p ss k e c.pop_front.new.self.items c.pop_front.result place (same ∙ c.pop_front.ensures.items)
          (c.pop_front.ensures.rest ∙ ap (λ l. drop 1 l) (sym same)));
    }

pub returns-in-None-clause-none : goal.returns-in-None-clause-none
returns-in-None-clause-none c = λ _.
    let ss = c.self.inside.items.items in
    let p = c.args.proc.now in
    subst (λ (l : List Saying). rest_of l p ≡ []) c.self.view_is
    (none_rest ss p (c.self.invariant.none p (sym (c.copied.ensures ∙ c.get.ensures.value) ∙ c.in-None.is)))
