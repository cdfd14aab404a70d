use Rattle.std.proofs.Common.{ℕ, ◌≡◌, ◌⊎◌, inl, inr, refl, sym, ap, ◌∙◌, subst}
use Rattle.std.specs.Prelude.{Option, Some, None, IsSome}
use Rattle.std.specs.List.{AllByRecursion}
use Rattle.std.specs.Map.{keys_of}
use Rattle.std.specs.Ordering.{nat_cmp}
use Rattle.std.specs.BTreeMap.{get}
use Rattle.std.specs.Global.{Vec}
use Rattle.std.proofs.lemmas.List.Elements.{recursion_from_All}
use Rattle.std.proofs.lemmas.Map.Lookups.{exact_unsigned}
use Rattle.pmg_value.specs.Lists.{In}
use Rattle.pmg_value.proofs.RowLemmas.{key_there}
use Rattle.pmg_commit.specs.declared.piece.PieceEntry.{PieceEntry}
use Rattle.pmg_lane.specs.Waiting.{list_items, waiting_at, HasRoomUnder}
use Rattle.pmg_lane.proofs.Settling.{alike_itself, alike_trans}
use Rattle.pmg_lane.proofs.Moving.{places_itself, stay_trans}
use Rattle.pmg_lane.proofs.Waits.{room_for_none, room_stays, stay_at}
use Rattle.pmg_lane.proofs.waiting.Waiting.make_rooms.Goals as goal

pub loop-number-init : goal.loop-number-init
loop-number-init c =
    let lists = c.args.other.now.lists in
    let all = c.into_iter-number-iterator.ensures.into_iter_gives ∙ c.iter-number-items.ensures.rest in
    let seen : (n : ℕ) (o : Option (Vec PieceEntry)) → get nat_cmp lists n ≡ o
    → In n (keys_of c.into_iter-number-iterator.result) ⊎ HasRoomUnder c.args.entries.now c.args.self.now.lists c.args.level n (waiting_at lists n) = λ n o is.
    elim o as (λ o. get nat_cmp lists n ≡ o → In n (keys_of c.into_iter-number-iterator.result) ⊎ HasRoomUnder c.args.entries.now c.args.self.now.lists c.args.level n (waiting_at lists n)) [
      | None ↦ λ is. inr (room_for_none c.args.entries.now c.args.self.now.lists c.args.level n (waiting_at lists n) (ap list_items is))
      | Some list ↦ λ is. inl (subst (λ es. In n (keys_of es)) (sym all) (key_there exact_unsigned lists.entries n (subst IsSome (sym is) refl)))
    ] is in
    record {
      alike = alike_itself c.args.entries.now;
      same = λ n. refl;
      places = places_itself c.args.entries.now;
      stay = λ n has. has;
      room = λ n. seen n (get nat_cmp lists n) refl;
      found = subst (AllByRecursion (λ e. get nat_cmp lists e.0 ≡ Some e.1)) (sym all)
          (recursion_from_All (λ e. get nat_cmp lists e.0 ≡ Some e.1) lists.entries c.iter-number-items.ensures.found);
    }

pub loop-number-preserved : goal.loop-number-preserved
loop-number-preserved c =
    let step = c.in-Some.ensures.steps in
    let inv = c.loop-number.invariant in
    let found = subst (AllByRecursion (λ e. get nat_cmp c.args.other.now.lists e.0 ≡ Some e.1)) step inv.found in
    let made = c.in_ok-make_room.ensures in
    let a = c.loop-number.entries in
    let b = c.make_room.new.entries in
    let lists = c.loop-number.self.lists in
    let others = c.make_room.new.self.lists in
    record {
      alike = alike_trans c.args.entries.now a b inv.alike made.alike;
      same = λ n. made.same n ∙ inv.same n;
      places = stay_trans c.args.entries.now a b inv.places made.places;
      stay = λ n has. made.stay n (inv.stay n has);
      room = λ n. elim (inv.room n) [
        | inr room ↦ inr (room_stays a b lists others c.args.level n (waiting_at c.args.other.now.lists n) (stay_at c.args.level a b made.places) (λ _. made.same n) (λ _. made.stay n) room)
        | inl left ↦ elim (subst (λ es. In n (keys_of es)) step left) [
          | inl here ↦ inr (subst (λ m. HasRoomUnder b others c.args.level m (waiting_at c.args.other.now.lists m)) (sym here)
              (subst (HasRoomUnder b others c.args.level c.in-Some.number.now) (c.deref.ensures.value ∙ ap list_items (sym found.0)) made.room))
          | inr rest ↦ inl rest
        ]
      ];
      found = found.1;
    }

pub returns-clause-room : goal.returns-clause-room
returns-clause-room c n = elim (c.loop-number.invariant.room n) [
  | inr room ↦ room
  | inl left ↦ absurd (subst (λ es. In n (keys_of es)) c.in-None.ensures.steps.0 left)
]
