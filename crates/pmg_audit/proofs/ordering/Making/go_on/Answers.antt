use Rattle.std.proofs.Common.{◌≡◌, [], ◌∷◌, ◌++◌, List, map, sym, subst, ◌∙◌, rules}
use Rattle.pmg_node_model.specs.declared.sent.Sent.{Sent}
use Rattle.pmg_world.specs.Telling.{event_of, happened_of}
use Rattle.pmg_journal.specs.Calling.{caller_of}
use Rattle.pmg_audit.specs.Codes.{all_of, move_in}
use Rattle.pmg_audit.specs.Going.{IsTaken}
use Rattle.pmg_audit.specs.Moves.{Move}
use Rattle.pmg_audit.specs.Orders.{event_happened, moves_at, puts_told}
use Rattle.pmg_audit.specs.declared.moves.Lane.{Lane}
use Rattle.pmg_audit.proofs.StepLemmas.{goes_on}
use Rattle.pmg_audit.proofs.ordering.Making.go_on.Goals as goal

pub unreachable-requires : goal.unreachable-requires
unreachable-requires c =
    let none : moves_at (all_of c.args.self.now.lanes.items) c.args.node ≡ [] = search rules in
    let both : c.requires.next.next ∷ c.requires.next.later ≡ [] = sym c.requires.next.there ∙ none in
    absurd cc

pub returns : goal.returns
returns c =
    let m : Move = move_in c.in-Some.next in
    let e = event_of c.args.event in
    let left = c.in-Some.ensures in
    let told = c.in_ok-tell.ensures in
    goes_on c.args.self.now c.tell.new.self c.args.node e m c.requires.awake c.requires.next
    (subst (λ (ls : List Lane). IsTaken (all_of c.args.self.now.lanes.items) c.args.node m (all_of ls)) (λ i. (sym told.lanes i).items) left.some)
    (told.told ∙ (λ i. map happened_of (left.told i).items ++ (puts_told (caller_of m.act) m.puts ++ event_happened e m.reply ∷ [])))
    (told.sent ∙ (λ i. (left.sends i).frames.items ++ m.frames)) told.numbered
    (told.awake ∙ (λ i. (left.awake i).items ++ map (λ (s : Sent). s.to) m.frames))
