-- The answer to a call that waits.
use Rattle.std.specs.Prelude.{◌≡◌, Option, Some}
use Rattle.pmg_value.specs.declared.process.Proc.{Proc}
use Rattle.pmg_node_model.specs.Acts.{Act, Reply, Status, status_of}
use Rattle.pmg_node.specs.Replies.{status_in}
use Rattle.pmg_node.specs.Servers.{Server, reply_to}
use Rattle.pmg_desk.specs.declared.lock.WaitFor.{WaitFor}
use Rattle.pmg_desk.specs.declared.lock.WaitFor.TheVariants as awaiteds

-- the process's status at the server is not this one
abbrev pub StandsPast : Server → Proc → Status → Type 0
StandsPast s p status = status_of s.jobs s.id s.holding p ≡ status → ⊥

-- The awaited condition holds; of a desk without a node nothing is claimed.
unfoldable pub IsThere : WaitFor → Option Server → Type 0
IsThere (awaiteds.Past p status) (Some s) = StandsPast s p.now (status_in status)
IsThere awaited held = Unit {0}

-- some server gives the reply to the act, and the process's status there is not this one
pub record RepliesPast (p : Proc) (status : Status) (a : Act) (r : Reply) : Type 0 where
  pub server : Server
  pub stands : StandsPast server p status
  pub is : reply_to server a ≡ r

-- the reply comes from such a server, if the call waits for a change of status
unfoldable pub RepliesThere : WaitFor → Act → Reply → Type 0
RepliesThere (awaiteds.Past p status) a r = RepliesPast p.now (status_in status) a r
RepliesThere awaited a r = Unit {0}
