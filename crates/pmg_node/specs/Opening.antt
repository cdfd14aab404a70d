-- A new node.
use Rattle.std.specs.Prelude.{ℕ}
use Rattle.pmg_jobinfo.specs.Jobs.{Jobs}
use Rattle.pmg_node_model.specs.Holdings.{new_holding}
use Rattle.pmg_node_parts.specs.Marking.{new_marks}
use Rattle.pmg_node.specs.Servers.{Server}

-- a new node of the group: none of its processes has called, and nothing was sent to any node
abbrev pub new_server : Jobs → ℕ → Server
new_server jobs id = record { jobs = jobs; id = id; holding = new_holding jobs id; marks = new_marks jobs id }
