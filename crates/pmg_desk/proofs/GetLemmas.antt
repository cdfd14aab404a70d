-- What comes of a get.
use Rattle.std.proofs.Common.{◌≡◌, inr, Result, Ok, Err, refl, subst}
use Rattle.pmg_value.specs.declared.process.Proc.{Proc}
use Rattle.pmg_value.specs.declared.refusal.Refusal.{Refusal}
use Rattle.pmg_value.specs.declared.refusal.Refusal.TheVariants as refusals
use Rattle.pmg_value.specs.declared.value.Value.{Value}
use Rattle.pmg_get.specs.declared.view.Mode.{Mode}
use Rattle.pmg_node_model.specs.Acts.{Act, Reply, Request}
use Rattle.pmg_node_model.specs.Holdings.{Get}
use Rattle.pmg_node.specs.Replies.{taking_reply}
use Rattle.pmg_node.specs.Servers.{reply_in}
use Rattle.pmg_node.specs.declared.taking.Taking.{Taking}
use Rattle.pmg_node.specs.declared.taking.Taking.TheVariants as takings
use Rattle.pmg_journal.specs.Journals.{IsEvent}
use Rattle.pmg_desk.specs.Clients.{Client, IsLater, Tells, proc_of}
use Rattle.pmg_desk.specs.Reading.{TellsGet, found_reply}
use Rattle.pmg_desk.proofs.CallLemmas.{IsNotIdle, taken_told}

module _ (c mid d : Client) (get : Get) (mode : Mode) (first : IsLater c mid) (asked : Tells c mid (Act.request (Request.ask (proc_of c) get mode)) Reply.parked) where
  by_taking : (r : Result Value Refusal) → Tells mid d (Act.request (Request.take (proc_of mid))) (reply_in found_reply r) → TellsGet c d get mode r
  by_taking r told = inr (mid, asked, subst (λ (q : Proc). Tells mid d (Act.request (Request.take q)) (reply_in found_reply r)) first.proc told)

  -- a value was taken
  pub by_value : (t : Taking) (v : Value) → t ≡ takings.Found v → Tells mid d (Act.request (Request.take (proc_of mid))) (taking_reply t) → TellsGet c d get mode (Ok v)
  by_value t v is told = by_taking (Ok v) (subst (λ (x : Taking). Tells mid d (Act.request (Request.take (proc_of mid))) (taking_reply x)) is told)

  -- there is none
  pub by_refusal : (e : Refusal) → (IsEvent {X = Taking} (Err e) → Tells mid d (Act.request (Request.take (proc_of mid))) (Reply.refused e)) → IsEvent {X = Value} (Err e) → TellsGet c d get mode (Err e)
  by_refusal refusals.NoMemory told event = absurd event
  by_refusal refusals.Closed told event = absurd event
  by_refusal e told event = by_taking (Err e) (told tt)

  -- who takes the answer is never idle
  pub never_idle : (t : Taking) → IsLater mid d → Tells mid d (Act.request (Request.take (proc_of mid))) (taking_reply t) → t ≡ takings.Idle → ⊥
  never_idle t then told is =
      subst (λ (x : Taking). IsNotIdle (taking_reply x)) is
      (taken_told c mid d (proc_of c) get mode (taking_reply t) first then refl asked (subst (λ (q : Proc). Tells mid d (Act.request (Request.take q)) (taking_reply t)) first.proc told))
