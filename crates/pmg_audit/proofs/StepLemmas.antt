-- An order in code, one event further.
use Rattle.std.proofs.Common.{◌≡◌, ℕ, ◌<◌, List, [], ◌∷◌, ◌++◌, length, map, set, refl, sym, ap, subst, ◌∙◌, arith}
use Rattle.std.proofs.lemmas.List.{length-append, length-map}
use Rattle.pmg_value.specs.Lists.{In}
use Rattle.pmg_node_model.specs.declared.sent.Sent.{Sent}
use Rattle.pmg_group_model.specs.Worlds.{Event}
use Rattle.pmg_world.specs.Telling.{happened_of}
use Rattle.pmg_journal.specs.Calling.{caller_of}
use Rattle.pmg_audit.specs.Codes.{all_of, lane_of}
use Rattle.pmg_audit.specs.Going.{IsOrderGoing, IsNext, IsReady, IsTaken, MayGoNext, left}
use Rattle.pmg_audit.specs.Moves.{Move}
use Rattle.pmg_audit.specs.Orders.{IsEventOf, event_happened, moves_at, puts_told}
use Rattle.pmg_audit.specs.Sends.{AreNumbered}
use Rattle.pmg_audit.specs.Telling.{OrderGoesOn, IsMaking, work}
use Rattle.pmg_audit.specs.declared.moves.Lane.{Lane}
use Rattle.pmg_audit.specs.declared.ordering.Making.{Making}
use Rattle.pmg_audit.proofs.GoingSteps.{awake_next, going_next, left_inside, left_less}

-- who may go on is one of the nodes
pub ready_lane : (lanes : List Lane) (frames : List Sent) (n : ℕ) → IsReady (all_of lanes) frames n → n < length lanes
ready_lane lanes frames n ready = by (moves_at (all_of lanes) n) refl ready
  where
    by : (ms : List Move) → moves_at (all_of lanes) n ≡ ms → MayGoNext n ms frames → n < length lanes
    by [] is may = absurd may
    by (m ∷ ms) is may = subst (λ l. n < l) (length-map lanes lane_of) (left_inside (all_of lanes) n m ms is)

module _ (m m2 : Making) (node : ℕ) (e : Event) (x : Move) (looked_at : In node m.awake.items) (is : IsNext (all_of m.lanes.items) m.sends.frames.items node e)
    (taken : IsTaken (all_of m.lanes.items) node x (all_of m2.lanes.items))
    (told : map happened_of m2.told.items ≡ map happened_of m.told.items ++ (puts_told (caller_of x.act) x.puts ++ event_happened e x.reply ∷ []))
    (sent : m2.sends.frames.items ≡ m.sends.frames.items ++ x.frames) (numbered : AreNumbered m2.sends)
    (awake : m2.awake.items ≡ m.awake.items ++ map (λ (s : Sent). s.to) x.frames) where
  abbrev rest : List (List Move)
  rest = all_of m.lanes.items

  abbrev rest2 : List (List Move)
  rest2 = set rest node taken.later

  event : IsEventOf m.sends.frames.items node x.act e
  event =
      let both : is.next ∷ is.later ≡ x ∷ taken.later = sym is.there ∙ taken.there in
      let same : is.next ≡ x = cc in
      subst (λ (y : Move). IsEventOf m.sends.frames.items node y.act e) same is.event

  lighter : work m2 < work m
  lighter =
      let one = left_less rest node x taken.later taken.there in
      let now : left (all_of m2.lanes.items) ≡ left rest2 = ap left taken.left in
      let more = ap length awake ∙ length-append m.awake.items (map (λ (s : Sent). s.to) x.frames) in
      let count = length-map x.frames (λ (s : Sent). s.to) in
      omega (arith, one, now, more, count)

  made : (all : List (List Move)) → IsMaking all m → IsMaking all m2
  made all making = record {
    going =
        subst (λ l. IsOrderGoing all l m2.sends.frames.items (map happened_of m2.told.items)) (sym taken.left)
        (subst (λ fs. IsOrderGoing all rest2 fs (map happened_of m2.told.items)) (sym sent)
        (subst (IsOrderGoing all rest2 (m.sends.frames.items ++ x.frames)) (sym told)
        (going_next all rest m.sends.frames.items (map happened_of m.told.items) node x e taken.later taken.there making.going event)));
    numbered = numbered;
    awake = λ n ready.
        subst (In n) (sym awake)
        (awake_next all rest m.sends.frames.items (map happened_of m.told.items) node x e taken.later taken.there m.awake.items making.awake looked_at n
        (subst (λ l. IsReady l (m.sends.frames.items ++ x.frames) n) taken.left (subst (λ fs. IsReady (all_of m2.lanes.items) fs n) sent ready)));
  }

  pub goes_on : OrderGoesOn m m2
  goes_on = record { making = made; less = lighter }
