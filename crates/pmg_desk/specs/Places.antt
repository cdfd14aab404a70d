-- The place of a state.
use Rattle.std.specs.Prelude.{◌≡◌, true, []}
use Rattle.pmg_jobinfo.specs.Jobs.{is_node}
use Rattle.pmg_desk.specs.declared.lock.Place.{Place}
use Rattle.pmg_desk.specs.declared.state.Parts.{Parts}

-- The state belongs to this desk: to its node, which is in its group, to its list of events, which nobody knew at the start, and to its
-- publisher.
pub record LiesAt (p : Place) (s : Parts) : Type 0 where
  pub node : s.journal.node ≡ p.node
  pub registry : s.journal.registry ≡ p.registry
  pub list : s.list.book ≡ p.list.book
  pub start : p.list.log ≡ []
  pub book : s.publisher.book ≡ p.told.book
  pub is_node : is_node p.registry p.node ≡ true
