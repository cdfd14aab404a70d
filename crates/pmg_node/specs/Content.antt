-- A node, by the content of its parts.
use Rattle.std.specs.Prelude.{◌≡◌, ℕ, [], false, Some}
use Rattle.std.specs.FinMap as finite
use Rattle.pmg_value.specs.Names.{is_reserved}
use Rattle.pmg_value.specs.declared.process.Proc.{Proc}
use Rattle.pmg_store.specs.declared.board.Board.{Board}
use Rattle.pmg_fence.specs.Codes.{Known}
use Rattle.pmg_dmodex.specs.Levels.{Levels}
use Rattle.pmg_dmodex.specs.Refreshes.{Refreshes, asker_at}
use Rattle.pmg_dmodex.specs.Requests.{Requests}
use Rattle.pmg_node_parts.specs.Codes.{Calls}
use Rattle.pmg_node_parts.specs.Owns.{LocalCommits}
use Rattle.pmg_node_model.specs.Holdings.{Get, CallState}
use Rattle.pmg_node.specs.Servers.{Server, IsNode}

-- the node with these parts
abbrev pub server_of : Known → ℕ → Board → LocalCommits → Calls → Requests → Levels → Server
server_of table id board own calls held marks = record {
  jobs = table.jobs;
  id = id;
  holding = record { near = board.near; far = board.far; sealers = own.sealers; sets = own.sets; table = table.fences; calls = calls; held = held.held; requests = held.anew.last };
  marks = marks;
}

-- each get that waits for the reply to a request is of a key that is not reserved, and is the get for which the node sent the request
abbrev pub AreOpen : Calls → Refreshes → Type 0
AreOpen calls anew = (p : Proc) (get : Get) (number : ℕ) → finite.get calls p ≡ Some (CallState.refreshing get number)
    → (is_reserved get.key ≡ false) × (asker_at anew number get.target ≡ Some p)

-- the table belongs to the node and has no waiting headers, and replies find the gets that wait for them
pub record IsContent (table : Known) (id : ℕ) (anew : Refreshes) (s : Server) : Type 0 where
  pub same : table.node ≡ id
  pub told : table.waiting ≡ []
  pub node : IsNode s
  pub replies : AreOpen s.holding.calls anew
