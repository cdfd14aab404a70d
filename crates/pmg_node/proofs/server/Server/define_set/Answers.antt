use Rattle.pmg_scope.specs.declared.scope.Reach.TheVariants as reach
use Rattle.pmg_node.proofs.ReplyLemmas.{sets_given}
use Rattle.pmg_node.proofs.server.Server.define_set.Goals as goal

pub returns-clause-near : goal.returns-clause-near
returns-clause-near c = sets_given c.args.self.now.holding c.seal.new.self.holding reach.Near (λ z. z.near) c.seal.result c.seal.ensures.near

pub returns-clause-far : goal.returns-clause-far
returns-clause-far c = sets_given c.args.self.now.holding c.seal.new.self.holding reach.Far (λ z. z.far) c.seal.result c.seal.ensures.far
