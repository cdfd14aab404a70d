-- A node, by its fields.
use Rattle.std.proofs.Common.{List}
use Rattle.pmg_dmodex.specs.Levels.{Levels}
use Rattle.pmg_fence.specs.Codes.{Known}
use Rattle.pmg_node_model.specs.Choosing.{Out, sends}
use Rattle.pmg_node_model.specs.declared.due.ToSend.{ToSend}
use Rattle.pmg_node_parts.specs.Codes.{Calls}
use Rattle.pmg_node_parts.specs.Owns.{sealed_of}
use Rattle.pmg_node.specs.Content.{server_of, IsContent}
use Rattle.pmg_node.specs.Servers.{Server}
use Rattle.pmg_node.specs.declared.server.Server.TheInside.{Inside}

-- the node that they make
abbrev pub server_in : Inside → Server
server_in inside = server_of inside.table inside.id inside.board inside.own inside.calls inside.held inside.marks

-- and the one that they make with another table, and other calls and marks
abbrev pub server_with : Inside → Known → Calls → Levels → Server
server_with inside table calls marks = server_of table inside.id inside.board inside.own calls inside.held marks

-- what they keep
abbrev pub IsInside : Inside → Type 0
IsInside inside = IsContent inside.table inside.id inside.held.anew (server_in inside)

-- what goes out of it, where this is due
abbrev pub sends_in : Inside → List ToSend → Out
sends_in inside dues = sends (sealed_of inside.own) inside.marks dues
