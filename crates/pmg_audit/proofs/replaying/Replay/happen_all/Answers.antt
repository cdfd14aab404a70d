use Rattle.std.proofs.Common.{◌≡◌, List, [], ◌∷◌, ◌++◌, map, refl, sym, ap, subst, ◌∙◌, append_assoc, rules}
use Rattle.std.proofs.lemmas.List.{map-append}
use Rattle.pmg_journal.specs.Journals.{happening_of}
use Rattle.pmg_journal.specs.Replays.{Happening}
use Rattle.pmg_journal.specs.declared.journal.Event.{Event}
use Rattle.pmg_audit.specs.Replaying.{AllUnsaid, HaveHappened, IsUnsaid}
use Rattle.pmg_audit.proofs.ReplaySteps.{all_unsaid, happened_more, happened_none, refuses_on}
use Rattle.pmg_audit.proofs.replaying.Replay.happen_all.Goals as goal

pub loop-event-init : goal.loop-event-init
loop-event-init c = record {
  done = happened_none c.args.self.now.node c.args.sayings.now c.args.self.now refl c.requires.empty c.requires.fresh;
  all = search rules;
}

pub loop-event-preserved : goal.loop-event-preserved
loop-event-preserved c =
    let es = c.loop-event.yielded in
    let x : Event = c.in-Some.event in
    record {
      done = subst (λ (l : List Happening). HaveHappened c.args.self.now.node c.args.sayings.now l c.happen_next.new.self c.happen_next.new.sayings) (sym (map-append happening_of es (x ∷ [])))
          (happened_more c.args.self.now.node c.args.sayings.now (map happening_of es) c.loop-event.self c.loop-event.sayings (happening_of x) c.happen_next.new.self c.happen_next.new.sayings
          c.loop-event.invariant.done c.in_default.ensures.ok);
      all = append_assoc es (x ∷ []) c.next.new.self.rest.items ∙ ap (λ (l : List Event). es ++ l) (sym c.in-Some.ensures.steps.0) ∙ c.loop-event.invariant.all;
    }

pub returns-in-Err-clause-refused : goal.returns-in-Err-clause-refused
returns-in-Err-clause-refused c =
    let es = c.loop-event.yielded in
    let x : Event = c.in-Some.event in
    let rest = c.next.new.self.rest.items in
    let whole : c.args.events.items ≡ es ++ x ∷ rest = sym c.loop-event.invariant.all ∙ ap (λ (l : List Event). es ++ l) c.in-Some.ensures.steps.0 in
    let cut : map happening_of c.args.events.items ≡ map happening_of es ++ happening_of x ∷ map happening_of rest = ap (map happening_of) whole ∙ map-append happening_of es (x ∷ rest) in
    refuses_on c.in-Err.refusal (IsUnsaid c.loop-event.self.node c.loop-event.sayings (happening_of x)) (AllUnsaid c.args.self.now.node c.args.sayings.now (map happening_of c.args.events.items)) c.in-Err.ensures.refused
    (λ not. subst (AllUnsaid c.args.self.now.node c.args.sayings.now) (sym cut)
    (all_unsaid c.args.self.now.node c.args.sayings.now (map happening_of es) c.loop-event.self c.loop-event.sayings (happening_of x) (map happening_of rest) c.loop-event.invariant.done not))
