use Rattle.std.proofs.Common.{◌≡◌, Err, refl, sym, ap, subst, ◌∙◌}
use Rattle.std.proofs.lemmas.Result.{err_from_is_err_and}
use Rattle.pmg_value.specs.Spelling.{spelling}
use Rattle.pmg_node_model.specs.Acts.{Act, Request, Reply, also, free_cause, target_cause, number_cause, reply_of}
use Rattle.pmg_node_parts.specs.Calls.{get_of}
use Rattle.pmg_node_model.specs.Holdings.{answer_in}
use Rattle.pmg_node.specs.Replies.{asked_reply}
use Rattle.pmg_node.specs.Servers.{Refuses, IsAccepted, IsAnswered}
use Rattle.pmg_node.specs.declared.parking.Asked.{Asked}
use Rattle.pmg_node.proofs.ActLemmas.{refused}
use Rattle.pmg_node.proofs.AskLemmas.{IsTold, answer_at, ask_free, ask_of, reserved_named, ask_cause, ask_reply, found_told, refused_told, parks_by}
use Rattle.pmg_node.proofs.RefusalLemmas.{refused_as, refuses_first}
use Rattle.pmg_node.proofs.ToldLemmas.{IsUnmoved, told_unmoved}
use Rattle.pmg_node.proofs.server.Server.ask.Goals as goal

-- ---- the caller or the target is refused

pub returns-in-Err : goal.returns-in-Err
returns-in-Err c =
    let s = c.args.self.now in
    let p = c.args.proc.now in
    let get = get_of c.args.target.now c.args.key.now in
    let e = c.in-Err.refusal in
    let causes = also (free_cause s.jobs s.id s.holding p) (also (target_cause s.jobs p get) (number_cause s.jobs s.id s.holding get c.args.mode)) in
    let judged = sym c.check_ask.ensures.value ∙ c.in-Err.is in
    let its = refused s (Act.request (Request.ask p get c.args.mode)) e (ask_cause s p get c.args.mode (Err e) judged) c.args.out.now.items in
    record {
      reply = subst (Refuses e) (sym its.reply) (refuses_first causes e judged);
      done = λ _. its.done;
      sent = λ _. its.sent;
      memory = λ _. refl;
      unsent = λ _. refl;
    }

-- ---- what the calls that follow take

pub tell-requires-clause-known : goal.tell-requires-clause-known
tell-requires-clause-known c =
    let s = c.args.self.now in
    (ask_free s.jobs s.id s.holding c.args.proc.now (get_of c.args.target.now c.args.key.now) c.args.mode (sym c.check_ask.ensures.value ∙ c.in_default.is)).known

pub tell-requires-clause-named : goal.tell-requires-clause-named
tell-requires-clause-named c =
    let s = c.args.self.now in
    let p = c.args.proc.now in
    let get = get_of c.args.target.now c.args.key.now in
    reserved_named s.jobs p get (ask_free s.jobs s.id s.holding p get c.args.mode (sym c.check_ask.ensures.value ∙ c.in_default.is)).named

pub wait-requires-clause-parks : goal.wait-requires-clause-parks
wait-requires-clause-parks c =
    let s = c.args.self.now in
    let get = get_of c.args.target.now c.args.key.now in
    parks_by (answer_in s.jobs s.id s.holding get c.args.mode) (c.in-Ok-Parked.ensures ∙ ap asked_reply c.in-Ok-Parked.field-0-is)

-- ---- the get waits

pub returns-in_err-wait-in-Ok-Parked-clause-reply : goal.returns-in_err-wait-in-Ok-Parked-clause-reply
returns-in_err-wait-in-Ok-Parked-clause-reply c =
    let s = c.args.self.now in
    let get = get_of c.args.target.now c.args.key.now in
    let free = sym c.check_ask.ensures.value ∙ c.in_default.is in
    let p = err_from_is_err_and c.from_residual.result c.from_residual.ensures.1 in
    let due = ask_reply s c.args.proc.now get c.args.mode c.check_ask.ensures.settled free ∙ c.in-Ok-Parked.ensures ∙ ap asked_reply c.in-Ok-Parked.field-0-is in
    rw (p.1, p.2) (subst IsAccepted (sym due) tt)

pub returns-in_ok-wait-in-Ok-Parked-clause-reply : goal.returns-in_ok-wait-in-Ok-Parked-clause-reply
returns-in_ok-wait-in-Ok-Parked-clause-reply c =
    let s = c.args.self.now in
    let get = get_of c.args.target.now c.args.key.now in
    let free = sym c.check_ask.ensures.value ∙ c.in_default.is in
    ask_reply s c.args.proc.now get c.args.mode c.check_ask.ensures.settled free ∙ c.in-Ok-Parked.ensures ∙ ap asked_reply c.in-Ok-Parked.field-0-is

pub returns-in_ok-wait-in-Ok-Parked-clause-done : goal.returns-in_ok-wait-in-Ok-Parked-clause-done
returns-in_ok-wait-in-Ok-Parked-clause-done c _ = c.in_ok-wait-in-Ok-Parked.ensures.ok

pub returns-in_ok-wait-in-Ok-Parked-clause-sent : goal.returns-in_ok-wait-in-Ok-Parked-clause-sent
returns-in_ok-wait-in-Ok-Parked-clause-sent c _ = c.in_ok-wait-in-Ok-Parked.ensures.sent

-- ---- there is nothing, or an allocation fails

pub returns-in-Err-tell : goal.returns-in-Err-tell
returns-in-Err-tell c =
    let s = c.args.self.now in
    let p = c.args.proc.now in
    let get = get_of c.args.target.now c.args.key.now in
    let e = c.in-Err-tell.refusal in
    let free = sym c.check_ask.ensures.value ∙ c.in_default.is in
    let due : IsAnswered {X = Asked} (Err e) → reply_of (answer_in s.jobs s.id s.holding get c.args.mode) ≡ Reply.refused e =
    λ answered. refused_as Asked e (reply_of (answer_in s.jobs s.id s.holding get c.args.mode)) answered c.in-Err-tell.ensures in
    let its : IsAnswered {X = Asked} (Err e) → IsUnmoved s (ask_of p get c.args.mode) c.args.out.now.items =
    λ answered. told_unmoved s p get c.args.mode c.check_ask.ensures.settled free (λ parked. refused_told e (sym (due answered) ∙ parked)) c.args.out.now.items in
    record {
      reply = subst (Refuses e) (sym (ask_reply s p get c.args.mode c.check_ask.ensures.settled free)) c.in-Err-tell.ensures;
      done = λ answered. (its answered).done;
      sent = λ answered. (its answered).sent;
      memory = λ _. refl;
      unsent = λ _. refl;
    }

-- ---- the value is found

pub returns-in-Ok-Found : goal.returns-in-Ok-Found
returns-in-Ok-Found c =
    let s = c.args.self.now in
    let get = get_of c.args.target.now c.args.key.now in
    let free = sym c.check_ask.ensures.value ∙ c.in_default.is in
    let found = c.in-Ok-Found.ensures ∙ ap asked_reply c.in-Ok-Found.field-0-is in
    let told : IsTold (reply_of (answer_at s get c.args.mode)) = λ parked. found_told (spelling c.in-Ok-Found.value) (sym found ∙ parked) in
    let its = told_unmoved s c.args.proc.now get c.args.mode c.check_ask.ensures.settled free told c.args.out.now.items in
    record {
      reply = ask_reply s c.args.proc.now get c.args.mode c.check_ask.ensures.settled free ∙ found;
      done = λ _. its.done;
      sent = λ _. its.sent;
      memory = λ _. refl;
      unsent = λ _. refl;
    }
