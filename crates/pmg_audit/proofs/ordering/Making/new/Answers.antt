use Rattle.std.proofs.Common.{◌≡◌, ◌<◌, List, [], length, map, sym, subst, rules}
use Rattle.pmg_node_model.specs.declared.sent.Sent.{Sent}
use Rattle.pmg_world.specs.Telling.{happened_of}
use Rattle.pmg_world.specs.declared.event.LoggedEvent.{LoggedEvent}
use Rattle.pmg_audit.specs.Codes.{all_of}
use Rattle.pmg_audit.specs.Going.{IsOrderGoing}
use Rattle.pmg_audit.proofs.GoingSteps.{going_start}
use Rattle.pmg_audit.proofs.StepLemmas.{ready_lane}
use Rattle.pmg_audit.proofs.ordering.Making.new.Goals as goal

pub returns : goal.returns
returns c =
    let lanes = c.args.lanes.items in
    let all = all_of lanes in
    let count : c.len.result ≡ length lanes = search rules in
    record {
      going =
          subst (λ (xs : List LoggedEvent). IsOrderGoing all all c.new.result.frames.items (map happened_of xs)) (sym c.in_ok-told.ensures.items)
          (subst (λ (fs : List Sent). IsOrderGoing all all fs []) (sym c.new.ensures.frames) (going_start all));
      numbered = c.new.ensures.numbered;
      awake = λ n ready. c.in_ok-awake.ensures n (subst (λ k. n < k) (sym count) (ready_lane lanes c.new.result.frames.items n ready));
    }
