use Rattle.std.proofs.Common.{sym, ap, ◌∙◌}
use Rattle.pmg_value.specs.declared.refusal.Refusal.TheVariants as refusals
use Rattle.pmg_node_model.specs.Acts.{number_cause}
use Rattle.pmg_node_parts.specs.Calls.{get_of}
use Rattle.pmg_node.proofs.AskLemmas.{ask_numbered}
use Rattle.pmg_node.proofs.CommitLemmas.{then_full}
use Rattle.pmg_node.proofs.server.Server.check_ask.Goals as goal

pub returns-in-Err-clause-value : goal.returns-in-Err-clause-value
returns-in-Err-clause-value c =
    let s = c.args.self.now in
    let get = get_of c.args.target.now c.args.key.now in
    let full = number_cause s.jobs s.id s.holding get c.args.mode refusals.TooMany in
    sym (ask_numbered s.jobs s.id s.holding c.args.proc.now get c.args.mode ∙ ap (λ r. then_full r full) (sym c.check_target.ensures.value ∙ c.in-Err.is))

pub returns-clause-value : goal.returns-clause-value
returns-clause-value c =
    let s = c.args.self.now in
    let get = get_of c.args.target.now c.args.key.now in
    let full = number_cause s.jobs s.id s.holding get c.args.mode refusals.TooMany in
    c.check_number.ensures
    ∙ sym (ask_numbered s.jobs s.id s.holding c.args.proc.now get c.args.mode ∙ ap (λ r. then_full r full) (sym c.check_target.ensures.value ∙ c.in_default.is))
