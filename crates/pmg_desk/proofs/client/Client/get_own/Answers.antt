use Rattle.std.proofs.Common.{rules, Result, refl, subst, sym}
use Rattle.pmg_value.specs.declared.refusal.Refusal.{Refusal}
use Rattle.pmg_value.specs.declared.refusal.Refusal.TheVariants as refusals
use Rattle.pmg_value.specs.declared.value.Value.{Value}
use Rattle.pmg_node_model.specs.Acts.{Reply}
use Rattle.pmg_desk.specs.Reading.{GivesDue}
use Rattle.pmg_desk.proofs.client.Client.get_own.Goals as goal

pub returns-clause-own : goal.returns-clause-own
returns-clause-own c = record {
  busy = λ waits. subst (λ (r : Result Value Refusal). GivesDue r (Reply.refused refusals.Busy)) (sym (c.free_own-answer.ensures.busy waits)) refl;
  answer = c.free_own-answer.ensures.answer c.args.mode;
  noted = search rules;
}
