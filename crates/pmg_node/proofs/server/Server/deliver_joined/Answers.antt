use Rattle.std.proofs.Common.{ap, ◌∙◌}
use Rattle.pmg_node.specs.Acting.{delivery_joins}
use Rattle.pmg_node.specs.Joining.{Joins}
use Rattle.pmg_node.proofs.JoiningLemmas.{delivered_joins}
use Rattle.pmg_node.proofs.server.Server.deliver_joined.Goals as goal

pub returns-clause-joined : goal.returns-clause-joined
returns-clause-joined c =
    let s = c.args.self.now in
    c.as_delivered.ensures.joined
    ∙ ap (λ (j : Joins). delivery_joins c.in_ok-delivery.delivery j) c.in_ok-joined.ensures
    ∙ delivered_joins s.jobs s.id s.holding c.args.frame.now c.in_ok-delivery.delivery c.in_ok-delivery.ensures.reply
