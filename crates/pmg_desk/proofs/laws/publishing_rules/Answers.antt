use Rattle.pmg_desk.proofs.BoardLemmas.{publishes_what_is_held}
use Rattle.pmg_desk.proofs.laws.publishing_rules.Goals as goal

pub returns : goal.returns
returns c = record { publishes_what_is_held = publishes_what_is_held }
