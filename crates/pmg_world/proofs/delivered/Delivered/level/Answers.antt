use Rattle.std.proofs.Common.{◌∙◌, ◌||◌, ap}
use Rattle.pmg_world.specs.Delivering.{is_number}
use Rattle.pmg_world.proofs.Deliveries.{contains_number}
use Rattle.pmg_world.proofs.delivered.Delivered.level.Goals as goal

pub returns : goal.returns
returns c n some most = contains_number c.args.self.now.frames c.args.self.now.last n ∙ ap (λ b. b || is_number n c.args.self.now.last) (c.level.ensures.reached n some most)
