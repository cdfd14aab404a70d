-- A node of which an act changed the marks alone keeps what a node keeps.
use Rattle.std.proofs.Common.{◌≡◌, sym, subst}
use Rattle.pmg_dmodex.specs.Levels.{Levels}
use Rattle.pmg_node_model.specs.Acts.{Act}
use Rattle.pmg_node.specs.Content.{IsContent}
use Rattle.pmg_node.specs.Servers.{IsNode, Server, after}
use Rattle.pmg_node.specs.declared.server.Server.TheInside.{Inside}
use Rattle.pmg_node.proofs.NodeInside.{IsInside, server_in, server_with}
use Rattle.pmg_node.proofs.NodeKept.{node_stays}

pub content_after : (inside : Inside) → IsInside inside → (s : Server) → server_in inside ≡ s → (a : Act) (marks : Levels) → server_with inside inside.table inside.calls marks ≡ after s a
    → IsContent inside.table inside.id inside.held.anew (server_with inside inside.table inside.calls marks)
content_after inside kept s view a marks done =
    record { same = kept.same; told = kept.told; node = subst IsNode (sym done) (node_stays s a (subst IsNode view kept.node)); replies = kept.replies }
