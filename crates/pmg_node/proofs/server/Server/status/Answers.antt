use Rattle.pmg_node.proofs.server.Server.status.Goals as goal

pub has_ended-requires : goal.has_ended-requires
has_ended-requires c = c.is_member.ensures.client c.if-not-is_member.false
