-- Gets of a client's own keys.
use Rattle.std.specs.Prelude.{ℕ, List, Option, Some, None, Result, if◌then◌else◌}
use Rattle.std.specs.FinMap as map
use Rattle.pmg_value.specs.CheckOrder.{first_of}
use Rattle.pmg_value.specs.declared.process.Proc.{Proc}
use Rattle.pmg_value.specs.declared.refusal.Refusal.{Refusal}
use Rattle.pmg_scope.specs.Cached.{Cached}
use Rattle.pmg_get.specs.Gets.{Outcome, found_or}
use Rattle.pmg_node_model.specs.Acts.{Request, Reply, reply_of}
use Rattle.pmg_node.specs.Servers.{Server}
use Rattle.pmg_group_model.specs.Worlds.{is_own, own_cause}

-- the process and the key, if a process asks for a key of its own that the standard does not reserve
abbrev pub own_key : Request → Option (Proc × List ℕ)
own_key (Request.ask p get mode) = if is_own p get then Some (p, get.key) else None
own_key _ = None

-- the answer to a process's get of its own key, given its client's cache
unfoldable pub own_answer : Server → Cached → Proc → List ℕ → Result Reply Refusal
own_answer s c p key = first_of (own_cause s.jobs s.id s.holding p) (reply_of (found_or (map.get c.own key) Outcome.absent))
