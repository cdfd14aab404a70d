-- What a taking is told: no get stands as answered before there is something to answer.
use Rattle.std.specs.Prelude.{IfOk}
use Rattle.std.specs.FinMap as finite
use Rattle.std.specs.Option.{option_map}
use Rattle.std.proofs.Common.{◌≡◌, inl, inr, ℕ, Bool, true, false, List, [], ◌∷◌, Option, Some, None, Result, Ok, Err, refl, sym, subst}
use Rattle.pmg_value.specs.CheckOrder.{check_order}
use Rattle.pmg_value.specs.Process.{proc_cmp}
use Rattle.pmg_value.specs.Signatures.{FenceName}
use Rattle.pmg_value.specs.declared.process.Proc.{Proc}
use Rattle.pmg_value.specs.declared.refusal.Refusal.{Refusal}
use Rattle.pmg_jobinfo.specs.Jobs.{Jobs}
use Rattle.pmg_get.specs.Gets.{Outcome}
use Rattle.pmg_get.specs.declared.view.Mode.{Mode}
use Rattle.pmg_get.specs.declared.view.Mode.TheVariants as modes
use Rattle.pmg_node_model.proofs.AfterActs.{after_act}
use Rattle.pmg_node_model.proofs.CallFacts.{call-settled}
use Rattle.pmg_node_model.proofs.Moving.{Moves, StaysOrMoves, does_call}
use Rattle.pmg_node_model.specs.Acts.{Act, Request, cause, does, serves, takes, waits_as}
use Rattle.pmg_node_model.specs.Holdings.{Get, NodeState, CallState, answer_in, call_of, released_by, settle, settled_by}
use Rattle.pmg_node.specs.Acting.{reply_as}
use Rattle.pmg_node.specs.Kinds.{IsTaking}
use Rattle.pmg_node.specs.Opening.{new_server}
use Rattle.pmg_node.specs.Servers.{Server, after, reply_in, reply_to}
use Rattle.pmg_node.specs.declared.act.Reply.{Reply as GivenReply}
use Rattle.pmg_journal.specs.Journals.{IsEvent}
use Rattle.pmg_desk.specs.Kinds.{OrRefused}
use Rattle.pmg_journal.specs.Replays.{Happening, after_all}
use Rattle.pmg_desk.specs.Clients.{Client, Tells}
use Rattle.pmg_desk.proofs.KindLemmas.{plain}
use Rattle.pmg_desk.proofs.OpenLemmas.{over_first}
use Rattle.pmg_desk.proofs.ReadLemmas.{now_tells}
use Rattle.pmg_desk.proofs.TellLemmas.{replied_so, until}

-- whatever is answered has an outcome that is told
abbrev HasOutcome : Option CallState → Type 0
HasOutcome (Some (CallState.answered get Outcome.parks)) = ⊥
HasOutcome (Some (CallState.refreshed get Outcome.parks)) = ⊥
HasOutcome c = Unit {0}

abbrev HaveOutcomes : NodeState → Type 0
HaveOutcomes h = (p : Proc) → HasOutcome (call_of h p)

released_has : (b : Bool) (f : FenceName) (gone : List Proc) → HasOutcome (Some (released_by b f gone))
released_has true f gone = tt
released_has false f gone = tt

settled_has : (get : Get) (o : Outcome) → HasOutcome (Some (settled_by get o))
settled_has get Outcome.parks = tt
settled_has get (Outcome.found value) = tt
settled_has get Outcome.absent = tt
settled_has get Outcome.outside = tt

anew_has : (get : Get) (o : Outcome) → (o ≡ Outcome.parks → ⊥) → HasOutcome (Some (CallState.refreshed get o))
anew_has get (Outcome.found value) tells = tt
anew_has get Outcome.absent tells = tt
anew_has get Outcome.outside tells = tt
anew_has get Outcome.parks tells = tells refl

waits_has : (n : ℕ) (get : Get) (mode : Mode) → HasOutcome (Some (waits_as n get mode))
waits_has n get modes.Wait = tt
waits_has n get modes.Now = tt
waits_has n get modes.Refresh = tt

module _ (jobs : Jobs) (id : ℕ) (h : NodeState) where
  settle_has : (c : Option CallState) → HasOutcome c → HasOutcome (option_map (settle jobs id h) c)
  settle_has None has = tt
  settle_has (Some (CallState.in_fence f)) has = released_has _ f _
  settle_has (Some (CallState.released f gone)) has = tt
  settle_has (Some (CallState.parked get)) has = settled_has get (answer_in jobs id h get modes.Wait)
  settle_has (Some (CallState.answered get outcome)) has = has
  settle_has (Some (CallState.refreshing get number)) has = tt
  settle_has (Some (CallState.refreshed get outcome)) has = has

  moved_has : (p : Proc) (a : Act) (c : Option CallState) → HasOutcome (call_of h p) → StaysOrMoves jobs id h p a c → HasOutcome c
  moved_has p a c has (inl same) = subst HasOutcome (sym same) has
  moved_has p a c has (inr (Moves.entering list collect is was now)) = subst HasOutcome (sym now) tt
  moved_has p a c has (inr (Moves.parking get mode is was answer now)) = subst HasOutcome (sym now) (waits_has h.requests get mode)
  moved_has p a c has (inr (Moves.leaving x others is was now)) = subst HasOutcome (sym now) tt
  moved_has p a c has (inr (Moves.taking get outcome is was now)) = subst HasOutcome (sym now) tt
  moved_has p a c has (inr (Moves.taking_anew get outcome is was now)) = subst HasOutcome (sym now) tt
  moved_has p a c has (inr (Moves.answering r get number is was replied now)) = subst HasOutcome (sym now) (anew_has get _ (now_tells _))
  moved_has p a c has (inr (Moves.ending is now)) = subst HasOutcome (sym now) tt

outcomes_stay : (s : Server) (a : Act) → HaveOutcomes s.holding → HaveOutcomes (after s a).holding
outcomes_stay s a have =
    after_act s.jobs s.id s.holding a HaveOutcomes have (λ none p.
    subst HasOutcome (sym (call-settled s.jobs s.id (does s.jobs s.id s.holding a).left p))
    (settle_has s.jobs s.id (does s.jobs s.id s.holding a).left (call_of (does s.jobs s.id s.holding a).left p)
    (moved_has s.jobs s.id s.holding p a (call_of (does s.jobs s.id s.holding a).left p) (have p) (does_call s.jobs s.id s.holding p a none))))

outcomes_after : (s : Server) (es : List Happening) → HaveOutcomes s.holding → HaveOutcomes (after_all s es).holding
outcomes_after s [] have = have
outcomes_after s (e ∷ es) have = outcomes_after (after s e.act) es (outcomes_stay s e.act have)

nobody_asked : (jobs : Jobs) (id : ℕ) → HaveOutcomes (new_server jobs id).holding
nobody_asked jobs id p = subst HasOutcome (sym (finite.get-empty proc_cmp p)) tt

takes_told : (h : NodeState) (p : Proc) (c : Option CallState) → HasOutcome c → OrRefused IsTaking (takes h p c).reply
takes_told h p None has = tt
takes_told h p (Some (CallState.in_fence f)) has = tt
takes_told h p (Some (CallState.released f gone)) has = tt
takes_told h p (Some (CallState.parked get)) has = tt
takes_told h p (Some (CallState.answered get (Outcome.found value))) has = tt
takes_told h p (Some (CallState.answered get Outcome.absent)) has = tt
takes_told h p (Some (CallState.answered get Outcome.outside)) has = tt
takes_told h p (Some (CallState.answered get Outcome.parks)) has = absurd has
takes_told h p (Some (CallState.refreshing get number)) has = tt
takes_told h p (Some (CallState.refreshed get (Outcome.found value))) has = tt
takes_told h p (Some (CallState.refreshed get Outcome.absent)) has = tt
takes_told h p (Some (CallState.refreshed get Outcome.outside)) has = tt
takes_told h p (Some (CallState.refreshed get Outcome.parks)) has = absurd has

taking_told : (s : Server) (p : Proc) → HaveOutcomes s.holding → OrRefused IsTaking (reply_to s (Act.request (Request.take p)))
unfolding does serves
taking_told s p have =
    over_first s.jobs s.id s.holding (OrRefused IsTaking) (does s.jobs s.id s.holding (Act.request (Request.take p))) check_order (cause s.jobs s.id s.holding (Act.request (Request.take p))) (λ e due. tt)
    (takes_told s.holding p (call_of s.holding p) (have p))

-- so who takes is told a value, or that there is none yet
pub told_taking : (c d : Client) (p : Proc) (r : Result GivenReply Refusal) → (IsEvent r → Tells c d (Act.request (Request.take p)) (reply_in reply_as r)) → IfOk r (λ x. IsTaking (reply_as x))
told_taking c d p (Err e) told = tt
told_taking c d p (Ok x) told = plain IsTaking x (subst (OrRefused IsTaking) is (taking_told (after_all (new_server d.jobs d.node) es) p (outcomes_after (new_server d.jobs d.node) es (nobody_asked d.jobs d.node))))
  where
    es : List Happening
    es = until c d (Act.request (Request.take p)) (reply_as x) (told tt)

    is : reply_to (after_all (new_server d.jobs d.node) es) (Act.request (Request.take p)) ≡ reply_as x
    is = replied_so c d (Act.request (Request.take p)) (reply_as x) (told tt)
