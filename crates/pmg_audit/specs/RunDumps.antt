-- The dump of a node of a run.
use Rattle.std.specs.Prelude.{ℕ, List, Option, Some, None, Result, Ok, Err}
use Rattle.pmg_value.specs.declared.refusal.Refusal.TheVariants as refusals
use Rattle.pmg_store.specs.Dump.{dump}
use Rattle.pmg_store.specs.declared.failure.Failure.{Failure}
use Rattle.pmg_store.specs.declared.failure.Failure.TheVariants as failures
use Rattle.pmg_node.specs.Servers.{Server}

-- the due dump of the node: the dump of its knowledge for other nodes; a refusal if there is no such node
abbrev pub dump_due : Option Server → Result (List ℕ) Failure
dump_due None = Err (failures.Refused refusals.BadParam)
dump_due (Some s) = Ok (dump s.holding.far)
