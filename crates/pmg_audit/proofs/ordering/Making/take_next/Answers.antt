use Rattle.std.proofs.Common.{◌<◌, length, drop, sym, ap, ◌∙◌, rules}
use Rattle.pmg_audit.specs.declared.moves.Lane.{Lane}
use Rattle.pmg_audit.proofs.LaneLemmas.{next_taken, none_taken}
use Rattle.pmg_audit.proofs.ordering.Making.take_next.Goals as goal

pub returns-clause-some : goal.returns-clause-some
returns-clause-some c =
    let lanes = c.args.self.now.lanes.items in
    let lane : Lane = c.index_mut.result.now in
    let inside : c.args.node < length lanes = search rules in
    let same = ap (λ (l : Lane). l.moves.items) (sym c.index_mut.ensures.value) in
    next_taken lanes c.args.node lane (record { moves = c.pop_front.new.self }) c.pop_front.result inside (same ∙ c.pop_front.ensures.items)

pub returns-clause-none : goal.returns-clause-none
returns-clause-none c =
    let lanes = c.args.self.now.lanes.items in
    let lane : Lane = c.index_mut.result.now in
    let inside : c.args.node < length lanes = search rules in
    let same = ap (λ (l : Lane). l.moves.items) (sym c.index_mut.ensures.value) in
    none_taken lanes c.args.node lane (record { moves = c.pop_front.new.self }) c.pop_front.result inside (same ∙ c.pop_front.ensures.items)
    (c.pop_front.ensures.rest ∙ ap (λ l. drop 1 l) (sym same))
