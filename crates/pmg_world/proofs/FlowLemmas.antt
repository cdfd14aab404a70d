-- What a flow has done, frame after frame.
use Rattle.std.proofs.Common.{◌≡◌, ◌∙◌, refl, sym, ap, subst, ℕ, suc, ◌+◌, ◌<◌, ◌≤◌, ◌==◌, Bool, true, false, ◌&&◌, ◌||◌, List, [], ◌∷◌, ◌++◌, length, arith, length-append}
use Rattle.std.specs.FinSet as set
use Rattle.std.proofs.lemmas.Bool.Decides.{nat_tests}
use Rattle.pmg_node_model.specs.Acts.{Reply}
use Rattle.pmg_group_model.specs.Worlds.{Event, Happened}
use Rattle.pmg_world.specs.ReplyLines.{flow_line}
use Rattle.pmg_world.specs.Stages.{Flows, HappensOnce}
use Rattle.pmg_world.specs.GroupStates.{Happen, IsLawfulAt, IsReached, GroupState}
use Rattle.pmg_world.proofs.Deliveries.{AreRest, rest_first, rest_more, rest_same}
use Rattle.pmg_world.proofs.StateLemmas.{happen_both, happen_none}

-- Of so many frames, those that were not delivered were delivered now, so many; of no other frame is it known anew whether it was.
pub record Flowing (old new : GroupState) (frame done : ℕ) : Type 0 where
  pub few : done ≤ frame
  pub more : List Happened
  pub rest : AreRest old.delivered more frame
  pub happened : Happen old more new
  pub count : length more ≡ done
  pub still : (n : ℕ) → frame ≤ n → set.contains new.delivered (suc n) ≡ set.contains old.delivered (suc n)

pub flows_first : (s : GroupState) (level n : ℕ) → IsReached s → IsLawfulAt s → ((k : ℕ) → 0 < k → k ≤ level → set.contains s.delivered k ≡ true) → n ≤ level → Flowing s s n 0
flows_first s level n reached lawful all le = record {
  few = omega arith;
  more = [];
  rest = rest_first s.delivered level n all le;
  happened = happen_none s reached lawful;
  count = refl;
  still = λ k past. refl;
}

at_next : (old new : GroupState) (frame done : ℕ) → Flowing old new frame done → set.contains new.delivered (frame + 1) ≡ set.contains old.delivered (frame + 1)
at_next old new frame done before =
    let next : frame + 1 ≡ suc frame = omega arith in
    ap (set.contains new.delivered) next ∙ before.still frame (omega arith) ∙ ap (set.contains old.delivered) (sym next)

-- the next frame was delivered before
pub flows_past : (old new : GroupState) (frame done : ℕ) → Flowing old new frame done → set.contains new.delivered (frame + 1) ≡ true → Flowing old new (frame + 1) done
flows_past old new frame done before there = record {
  few = omega (arith, before.few);
  more = before.more;
  rest = rest_same old.delivered before.more frame (sym (at_next old new frame done before) ∙ there) before.rest;
  happened = before.happened;
  count = before.count;
  still = λ n past. before.still n (omega (arith, past));
}

-- it is delivered now
pub flows_on : (old mid new : GroupState) (frame done : ℕ) (reply : Reply) → Flowing old mid frame done → set.contains mid.delivered (frame + 1) ≡ false
    → HappensOnce mid (Event.deliver (frame + 1)) reply new → Flowing old new (frame + 1) (done + 1)
flows_on old mid new frame done reply before lacks one =
    let h : Happened = record { event = Event.deliver (frame + 1); reply = reply } in
    record {
      few = omega (arith, before.few);
      more = before.more ++ h ∷ [];
      rest = rest_more old.delivered before.more frame h refl (sym (at_next old mid frame done before) ∙ lacks) before.rest;
      happened = happen_both old mid new before.more (h ∷ []) before.happened one;
      count = length-append before.more (h ∷ []) ∙ ap (λ n. n + 1) before.count;
      still = λ n past. one.delivered n ∙ other (set.contains mid.delivered (suc n)) (suc n == frame + 1) _ (grind (arith, nat_tests, past)) ∙ before.still n (omega (arith, past));
    }
  where
    other : (a b c : Bool) → b ≡ false → (a || ((b && c) || false)) ≡ a
    other true b c _ = refl
    other false b c apart = ap (λ x. (x && c) || false) apart

pub flows_end : (old new : GroupState) (count done : ℕ) (text : List ℕ) → Flowing old new count done → count ≡ length old.sent → text ≡ flow_line done → Flows old text new
flows_end old new count done text all is line = record {
  more = all.more;
  asked = subst (AreRest old.delivered all.more) is all.rest;
  happened = all.happened;
  line = line ∙ ap flow_line (sym all.count);
}
