use Rattle.std.proofs.Common.{rules, ◌≡◌, refl, subst}
use Rattle.pmg_desk.specs.declared.state.Parts.{Parts}
use Rattle.pmg_desk.specs.States.{IsAt, IsStateKept}
use Rattle.pmg_desk.proofs.KeptLemmas.{kept_after}
use Rattle.pmg_desk.proofs.state.State.happen.Goals as goal

pub invariant_of-self : goal.invariant_of-self
invariant_of-self g c =
    let p : Parts = c.deref_mut.result.now in
    let opened : c.self.inside.parts.value ≡ p = search rules in
    let h = c.happen_in in
    let q : Parts = record {
      node = h.new.node;
      journal = h.new.journal;
      list = h.new.list;
      steps = h.new.steps;
      outbox = h.new.outbox;
      taken = p.taken;
      publisher = h.new.publisher;
      viewers = p.viewers;
      last = p.last;
    } in
    let at : IsAt p q = record { node = h.ensures.index; registry = h.ensures.registry; list = h.ensures.of_list; book = h.ensures.book; taken = refl } in
    kept_after p q (subst (λ (x : Parts). IsStateKept x) opened c.self.invariant) at refl refl h.ensures.read c.args.act h.result h.ensures.ok h.ensures.step h.ensures.list h.ensures.open h.ensures.events h.ensures.log h.ensures.steps
    h.ensures.memory h.ensures.closed h.ensures.err

pub returns-clause-replay : goal.returns-clause-replay
returns-clause-replay g c = (invariant_of-self g c).journal
