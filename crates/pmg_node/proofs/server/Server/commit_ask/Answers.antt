use Rattle.std.proofs.Common.{sym, ap, ◌∙◌}
use Rattle.pmg_commit.specs.Data.{level_at}
use Rattle.pmg_frame.specs.Fences.{commit_ask, is_ask}
use Rattle.pmg_node_parts.proofs.SendLemmas.{ask_made}
use Rattle.pmg_node.specs.Servers.{Server}
use Rattle.pmg_node.proofs.server.Server.commit_ask.Goals as goal

pub returns-in-Ok : goal.returns-in-Ok
returns-in-Ok c =
    let due = commit_ask c.self.inside.id c.in_ok-copy.field-0 c.level-level.result in
    ask_made (is_ask due) due c.in-Ok.ask (sym c.new.ensures ∙ c.in-Ok.is)
    ∙ (λ i. commit_ask c.self.inside.id (c.in_ok-copy.ensures i) ((c.level-level.ensures.value ∙ ap (λ d. level_at d c.args.proc.now) c.far.ensures) i))
    ∙ ap (λ (s : Server). commit_ask s.id c.args.proc.now (level_at s.holding.far c.args.proc.now)) c.self.view_is
