use Rattle.std.proofs.Common.{◌≡◌, List, [], ◌∷◌, ◌++◌, length, map, sym, ap, subst, ◌∙◌, append_assoc, rules}
use Rattle.std.proofs.lemmas.List.{map-append, nil_from_length}
use Rattle.pmg_node.specs.Opening.{new_server}
use Rattle.pmg_node.specs.Servers.{Server, after}
use Rattle.pmg_journal.specs.Journals.{happening_of}
use Rattle.pmg_journal.specs.Records.{AreSteps}
use Rattle.pmg_journal.specs.Replays.{Happening, IsReplay, after_all}
use Rattle.pmg_journal.specs.declared.journal.Event.{Event}
use Rattle.pmg_journal.specs.declared.record.Step.{Step}
use Rattle.pmg_journal.proofs.ReplayLemmas.{after_more}
use Rattle.pmg_audit.specs.Replaying.{AllUnsaid, HaveFollowed, IsUnsaidAt}
use Rattle.pmg_audit.proofs.ReplaySteps.{followed_more, followed_none, followed_unsaid, refuses_on}
use Rattle.pmg_audit.proofs.replaying.follow_all.Goals as goal

-- the events that are left, of which this one is the first
steps_first : (s : Server) (all rest : List Event) (x : Event) (steps others : List Step) (step : Step) → AreSteps s (map happening_of all) steps → all ≡ x ∷ rest → steps ≡ step ∷ others
    → AreSteps s (happening_of x ∷ map happening_of rest) (step ∷ others)
steps_first s all rest x steps others step are is first =
    subst (λ (l : List Event). AreSteps s (map happening_of l) (step ∷ others)) is (subst (AreSteps s (map happening_of all)) first are)

replay_first : (s : Server) (all rest : List Event) (x : Event) → IsReplay s (map happening_of all) → all ≡ x ∷ rest → IsReplay s (happening_of x ∷ map happening_of rest)
replay_first s all rest x replay is = subst (λ (l : List Event). IsReplay s (map happening_of l)) is replay

pub loop-event-init : goal.loop-event-init
loop-event-init c =
    let s = new_server c.args.registry.now c.args.node in
    let events : c.into_iter-event-iterator.result.rest.items ≡ c.args.events.items = search rules in
    let steps : c.into_iter-steps.result.rest.items ≡ c.args.steps.items = search rules in
    record {
      done = followed_none s c.args.sayings.now c.args.lane.now c.requires.empty;
      all = events;
      replay = subst (λ (l : List Event). IsReplay s (map happening_of l)) (sym events) c.requires.replay;
      steps = subst (AreSteps s (map happening_of c.into_iter-event-iterator.result.rest.items)) (sym steps)
          (subst (λ (l : List Event). AreSteps s (map happening_of l) c.args.steps.items) (sym events) c.requires.steps);
    }

pub loop-event-preserved : goal.loop-event-preserved
loop-event-preserved c =
    let s = new_server c.args.registry.now c.args.node in
    let es = c.loop-event.yielded in
    let x : Event = c.in-Some.event in
    let rest = c.next.new.self.rest.items in
    let others = c.next-in-loop-event.new.self.rest.items in
    let step : Step = c.in-Some-next.step in
    let now = after_all s (map happening_of es) in
    let cut = c.in-Some.ensures.steps.0 in
    let are = steps_first now c.loop-event.event-iterator.rest.items rest x c.loop-event.steps.rest.items others step c.loop-event.invariant.steps cut c.in-Some-next.ensures.items in
    let replay = replay_first now c.loop-event.event-iterator.rest.items rest x c.loop-event.invariant.replay cut in
    let moved : after_all s (map happening_of (es ++ x ∷ [])) ≡ after now (happening_of x).act = ap (after_all s) (map-append happening_of es (x ∷ [])) ∙ after_more s (map happening_of es) (happening_of x) in
    record {
      done = subst (λ (l : List Happening). HaveFollowed s c.args.sayings.now l c.follow_next.new.lane c.follow_next.new.sayings) (sym (map-append happening_of es (x ∷ [])))
          (followed_more s c.args.sayings.now (map happening_of es) c.loop-event.lane c.loop-event.sayings c.loop-event.invariant.done (happening_of x) step are.0 c.follow_next.new.lane c.follow_next.new.sayings
          replay.0 c.in_default-follow_next.ensures.ok);
      all = append_assoc es (x ∷ []) rest ∙ ap (λ (l : List Event). es ++ l) (sym cut) ∙ c.loop-event.invariant.all;
      replay = subst (λ (t : Server). IsReplay t (map happening_of rest)) (sym moved) replay.1;
      steps = subst (λ (t : Server). AreSteps t (map happening_of rest) others) (sym moved) are.1;
    }

pub unreachable-requires : goal.unreachable-requires
unreachable-requires c =
    let now = after_all (new_server c.args.registry.now c.args.node) (map happening_of c.loop-event.yielded) in
    let none : length c.loop-event.steps.rest.items ≡ 0 = search rules in
    subst (AreSteps now (happening_of c.in-Some.event ∷ map happening_of c.next.new.self.rest.items)) (nil_from_length c.loop-event.steps.rest.items none)
    (subst (λ (l : List Event). AreSteps now (map happening_of l) c.loop-event.steps.rest.items) c.in-Some.ensures.steps.0 c.loop-event.invariant.steps)

pub returns-in-Err-clause-refused : goal.returns-in-Err-clause-refused
returns-in-Err-clause-refused c =
    let jobs = c.args.registry.now in
    let s = new_server jobs c.args.node in
    let es = c.loop-event.yielded in
    let x : Event = c.in-Some.event in
    let rest = c.next.new.self.rest.items in
    let step : Step = c.in-Some-next.step in
    let now = after_all s (map happening_of es) in
    let cut = c.in-Some.ensures.steps.0 in
    let are = steps_first now c.loop-event.event-iterator.rest.items rest x c.loop-event.steps.rest.items c.next-in-loop-event.new.self.rest.items step c.loop-event.invariant.steps cut c.in-Some-next.ensures.items in
    let whole : c.args.events.items ≡ es ++ x ∷ rest = sym c.loop-event.invariant.all ∙ ap (λ (l : List Event). es ++ l) cut in
    let all : map happening_of c.args.events.items ≡ map happening_of es ++ happening_of x ∷ map happening_of rest = ap (map happening_of) whole ∙ map-append happening_of es (x ∷ rest) in
    refuses_on c.in-Err.refusal (IsUnsaidAt jobs c.args.node step.is_free c.loop-event.sayings (happening_of x)) (AllUnsaid s c.args.sayings.now (map happening_of c.args.events.items)) c.in-Err.ensures.refused
    (λ not. subst (AllUnsaid s c.args.sayings.now) (sym all)
    (followed_unsaid s c.args.sayings.now (map happening_of es) c.loop-event.lane c.loop-event.sayings c.loop-event.invariant.done (happening_of x) step are.0 (map happening_of rest) not))
