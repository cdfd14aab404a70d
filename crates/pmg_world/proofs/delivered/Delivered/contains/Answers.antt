use Rattle.std.proofs.Common.{◌∙◌, ◌||◌, ap, sym}
use Rattle.pmg_world.specs.Delivering.{is_number}
use Rattle.pmg_world.proofs.Deliveries.{contains_number, is_last}
use Rattle.pmg_world.proofs.delivered.Delivered.contains.Goals as goal

pub returns-then-contains : goal.returns-then-contains
returns-then-contains c =
    let d = c.args.self.now in
    c.if-contains.true ∙ sym (contains_number d.frames d.last c.args.frame ∙ ap (λ b. b || is_number c.args.frame d.last) (sym c.contains.ensures ∙ c.if-contains.true))

pub returns-else-contains : goal.returns-else-contains
returns-else-contains c =
    let d = c.args.self.now in
    c.eq.ensures ∙ is_last d.last c.args.frame
    ∙ sym (contains_number d.frames d.last c.args.frame ∙ ap (λ b. b || is_number c.args.frame d.last) (sym c.contains.ensures ∙ c.if-contains.false))
