use Rattle.std.proofs.Common.{◌≡◌, ◌<◌, Option, Some, None, Result, Ok, Err, IfOk, IfSome, IsNone, List, ◌∷◌, length, map, get_or, drop, sym, ap, subst, ◌∙◌, rules}
use Rattle.pmg_node.specs.Acting.{act_of}
use Rattle.pmg_world.specs.Telling.{event_of}
use Rattle.pmg_world.specs.declared.event.Event.{Event}
use Rattle.pmg_audit.specs.Codes.{all_of, move_in}
use Rattle.pmg_audit.specs.Going.{IsNext, IsReady, MayGoNext}
use Rattle.pmg_audit.specs.Moves.{Move}
use Rattle.pmg_audit.specs.Orders.{IsEventOf, MayGo, moves_at}
use Rattle.pmg_audit.specs.declared.moves.Lane.{Lane}
use Rattle.pmg_audit.proofs.LaneLemmas.{next_front}
use Rattle.pmg_audit.proofs.ordering.next_at.Goals as goal

some_on : {X : Type 0} (r : Result (Option Event) X) (P Q : Event → Type 0) → IfOk r (λ o. IfSome o P) → ((e : Event) → P e → Q e) → IfOk r (λ o. IfSome o Q)
some_on (Ok (Some e)) P Q is on = on e is
some_on (Ok None) P Q is on = tt
some_on (Err x) P Q is on = tt

none_on : {X : Type 0} (r : Result (Option Event) X) (P Q : Type 0) → IfOk r (λ o. IsNone o → P → ⊥) → (Q → P) → IfOk r (λ o. IsNone o → Q → ⊥)
none_on (Ok o) P Q is on = λ none q. is none (on q)
none_on (Err x) P Q is on = tt

pub returns-in-Some : goal.returns-in-Some
returns-in-Some c =
    let inside : c.args.node < length c.args.lanes.now = search rules in
    let lanes = c.args.lanes.now in
    let frames = c.args.sends.now.frames.items in
    let n = c.args.node in
    let x = c.in-Some.next.now in
    let lane = c.index-lanes-node.result in
    let some : 0 < length lane.moves.items = search rules in
    let first : x ≡ get_or lane.moves.items 0 x = c.in-Some.ensures.lookup ∙ ap (λ (l : Lane). get_or l.moves.items 0 x) (sym c.index-lanes-node.is) in
    let there : moves_at (all_of lanes) n ≡ move_in x ∷ map move_in (drop 1 lane.moves.items) = next_front lanes n lane x inside c.index-lanes-node.is some first in
    record {
      some = some_on c.event_for.result (λ e. IsEventOf frames n (act_of x.event.act) (event_of e)) (λ e. IsNext (all_of lanes) frames n (event_of e)) c.event_for.ensures.some
          (λ e is. record { next = move_in x; later = map move_in (drop 1 lane.moves.items); there = there; event = is });
      none = none_on c.event_for.result (MayGo n (act_of x.event.act) frames) (IsReady (all_of lanes) frames n) c.event_for.ensures.none
          (λ ready. subst (λ (ms : List Move). MayGoNext n ms frames) there ready);
    }
