use Rattle.std.proofs.Common.{◌≡◌, false, Result, Ok, Err, refl, sym, ap, subst, ◌∙◌}
use Rattle.std.specs.Option.{option_map}
use Rattle.std.proofs.lemmas.Result.{err_from_is_err_and}
use Rattle.pmg_value.specs.Spelling.{spelling}
use Rattle.pmg_value.specs.declared.value.Value.{Value}
use Rattle.pmg_value.specs.declared.refusal.Refusal.{Refusal}
use Rattle.pmg_value.specs.declared.refusal.Refusal.TheVariants as refusals
use Rattle.pmg_get.specs.Gets.{Outcome, found_or}
use Rattle.pmg_jobinfo.specs.Reserved.{is_general}
use Rattle.pmg_node.specs.Acting.{reply_as}
use Rattle.pmg_node.specs.Servers.{IsAccepted, Refuses, Replies}
use Rattle.pmg_node.specs.declared.act.Reply.{Reply as GivenReply}
use Rattle.pmg_node_model.specs.Acts.{Reply, free_cause, reply_of}
use Rattle.pmg_node.proofs.RefusalLemmas.{refuses_first}
use Rattle.pmg_caches.specs.Caching.{cached_for}
use Rattle.pmg_caches.specs.OwnKeys.{own_answer}
use Rattle.pmg_group_model.specs.Worlds.{reply_or_refusal}
use Rattle.pmg_caches.proofs.CauseLemmas.{due_bad, due_refused, due_free}
use Rattle.pmg_caches.proofs.own.own_get.Goals as goal

pub returns-then-is_general : goal.returns-then-is_general
unfolding own_answer
returns-then-is_general c =
    let s = c.args.node.now in
    let free = free_cause s.jobs s.id s.holding c.args.proc.now in
    ap reply_or_refusal (due_bad (free refusals.BadParam) (free refusals.UnknownNamespace) (free refusals.NotMine) (free refusals.Terminated) (free refusals.Busy) false _ (is_general c.args.proc.now) (sym c.is_general.ensures ∙ c.if-is_general.true))

pub returns-in-Err : goal.returns-in-Err
unfolding own_answer
returns-in-Err c =
    let s = c.args.node.now in
    let free = free_cause s.jobs s.id s.holding c.args.proc.now in
    let amiss = sym c.in-Err.ensures in
    let due = due_refused (free refusals.BadParam) (free refusals.UnknownNamespace) (free refusals.NotMine) (free refusals.Terminated) (free refusals.Busy) false _ (is_general c.args.proc.now) (sym c.is_general.ensures ∙ c.if-is_general.false) c.in-Err.refusal amiss in
    subst (Refuses c.in-Err.refusal) (sym (ap reply_or_refusal due)) (refuses_first free c.in-Err.refusal amiss)

pub returns-in_err-copy-in-Some : goal.returns-in_err-copy-in-Some
unfolding own_answer
returns-in_err-copy-in-Some c =
    let s = c.args.node.now in
    let free = free_cause s.jobs s.id s.holding c.args.proc.now in
    let found = sym c.own.ensures ∙ ap (option_map (λ v. spelling v.now)) c.in-Some.is in
    let due = due_free (free refusals.BadParam) (free refusals.UnknownNamespace) (free refusals.NotMine) (free refusals.Terminated) (free refusals.Busy) false _ (is_general c.args.proc.now) (sym c.is_general.ensures ∙ c.if-is_general.false) (sym c.in_default.ensures ∙ ap Ok refl) in
    let p = err_from_is_err_and c.from_residual.result c.from_residual.ensures.1 in
    let told = reply_or_refusal (own_answer s (cached_for c.args.caches.now c.args.proc.now) c.args.proc.now c.args.key.now) in
    let found_is : told ≡ Reply.found (spelling c.in-Some.value.now) = ap reply_or_refusal (due ∙ ap (λ o. Ok (reply_of (found_or o Outcome.absent))) found) in
    subst (λ (r : Result GivenReply Refusal). Replies reply_as r told) (sym (p.1 ∙ ap Err p.2)) (subst IsAccepted (sym found_is) tt)

pub returns-in_ok-copy-in-Some : goal.returns-in_ok-copy-in-Some
unfolding own_answer
returns-in_ok-copy-in-Some c =
    let s = c.args.node.now in
    let free = free_cause s.jobs s.id s.holding c.args.proc.now in
    let found = sym c.own.ensures ∙ ap (option_map (λ v. spelling v.now)) c.in-Some.is in
    let due = due_free (free refusals.BadParam) (free refusals.UnknownNamespace) (free refusals.NotMine) (free refusals.Terminated) (free refusals.Busy) false _ (is_general c.args.proc.now) (sym c.is_general.ensures ∙ c.if-is_general.false) (sym c.in_default.ensures ∙ ap Ok refl) in
    ap reply_or_refusal (due ∙ ap (λ o. Ok (reply_of (found_or o Outcome.absent))) found) ∙ sym (ap (λ (v : Value). Reply.found (spelling v)) c.in_ok-copy-in-Some.ensures)

pub returns-in-None : goal.returns-in-None
unfolding own_answer
returns-in-None c =
    let s = c.args.node.now in
    let free = free_cause s.jobs s.id s.holding c.args.proc.now in
    let nothing = sym c.own.ensures ∙ ap (option_map (λ v. spelling v.now)) c.in-None.is in
    let due = due_free (free refusals.BadParam) (free refusals.UnknownNamespace) (free refusals.NotMine) (free refusals.Terminated) (free refusals.Busy) false _ (is_general c.args.proc.now) (sym c.is_general.ensures ∙ c.if-is_general.false) (sym c.in_default.ensures ∙ ap Ok refl) in
    ap reply_or_refusal (due ∙ ap (λ o. Ok (reply_of (found_or o Outcome.absent))) nothing)
