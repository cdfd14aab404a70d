use Rattle.std.proofs.Common.{◌≡◌, All, drop, vec_len}
use Rattle.left_right.specs.Sides.{view as known_at}
use Rattle.pmg_publish.specs.Publications.{Publications}
use Rattle.pmg_publish.proofs.opening.viewers_of.Given as goal

abbrev pub invariant-loop : goal.invariant-loop
invariant-loop l = record {
  shown : l.writer.desk.shown ≡ l.fn.writer.desk.shown;
  pending : drop l.writer.behind l.writer.log.items ≡ drop l.fn.writer.behind l.fn.writer.log.items;
  place : known_at l.writer.desk.place ≡ known_at l.fn.writer.desk.place;
  count : vec_len l.all ≡ l.counter;
  viewers : All (λ (v : Publications). v ≡ l.history) l.all.items;
}
