-- What an act leaves under the lock.
use Rattle.std.proofs.Common.{◌≡◌, ◌⊎◌, inl, inr, ℕ, true, List, [], ◌∷◌, ◌++◌, All, Option, Some, None, Result, Ok, Err, ◌+◌, length, map, drop, refl, sym, ap, subst, ◌∙◌}
use Rattle.std.specs.Option.{option_or}
use Rattle.std.specs.Prelude.{IfSome, IfOk, IfErr, IsSome, OnErr, OnOk}
use Rattle.std.proofs.lemmas.Bool.{false≢true}
use Rattle.std.proofs.lemmas.List.{drop_at}
use Rattle.std.proofs.lemmas.Option.{none-some, same_Some}
use Rattle.logbook.specs.Pages.{Book}
use Rattle.pmg_value.specs.declared.refusal.Refusal.{Refusal}
use Rattle.pmg_value.specs.declared.refusal.Refusal.TheVariants as refusals
use Rattle.pmg_node_model.specs.declared.sent.Sent.{Sent}
use Rattle.pmg_node.specs.Acting.{act_of, reply_as}
use Rattle.pmg_node.specs.Opening.{new_server}
use Rattle.pmg_node.specs.Servers.{Server, after, reply_in, sent_by}
use Rattle.pmg_node.specs.declared.act.Act.{Act}
use Rattle.pmg_node.specs.declared.act.Reply.{Reply}
use Rattle.pmg_publish.specs.Publications.{Publications, Published}
use Rattle.pmg_history.specs.Entries.{Entries}
use Rattle.pmg_journal.specs.declared.journal.Event.{Event}
use Rattle.pmg_journal.specs.declared.journal.Journal.{Journal}
use Rattle.pmg_desk.specs.declared.state.Parts.{Parts}
use Rattle.pmg_journal.specs.declared.notes.AnswerCopies.{AnswerCopies}
use Rattle.pmg_journal.specs.Calling.{caller_of, free_at}
use Rattle.pmg_journal.specs.Journals.{IsJournal, happened, happening_of, start_of, happened_in}
use Rattle.pmg_journal.specs.Records.{AreSteps, IsEvidence, IsStep}
use Rattle.pmg_journal.specs.Replays.{Happening, IsReplay, after_all}
use Rattle.pmg_journal.specs.declared.record.Evidence.{Evidence}
use Rattle.pmg_journal.specs.declared.record.Step.{Step}
use Rattle.pmg_journal.proofs.ReplayLemmas.{steps_more}
use Rattle.pmg_desk.specs.Publishing.{published_over}
use Rattle.pmg_desk.specs.States.{StateGoesOn, StepsGoOn, IsAt, IsStateKept, IsLive}
use Rattle.pmg_desk.proofs.ReplayLemmas.{live_on, live_taken, published_on, replay_on}

-- the steps go on by what the node did: the frames that it sent lie behind those that were in the outbox before
pub steps_on : (n : Option Server) (s : Server) (a : Act) (answer : Result Reply Refusal) (out out' : List Sent) (first : ℕ) (x : Step) (xs xs' : List Step) → n ≡ Some s
    → x.is_free ≡ free_at s (caller_of (act_of a)) → length out ≡ first → out' ≡ out ++ sent_by s (act_of a) → x.sent.items ≡ drop first out' → xs' ≡ xs ++ x ∷ [] → StepsGoOn n a answer xs xs'
steps_on n s a answer out out' first x xs xs' is free count sends sent pushed = subst (λ (o : Option Server). StepsGoOn o a answer xs xs') (sym is) (record {
  step = x;
  is_step = record { free = free; sent = sent ∙ ap (drop first) sends ∙ drop_at out (sent_by s (act_of a)) first count };
  steps = pushed;
})

-- the node is none at all
none_is : (n : Option Server) (P : Type 0) → n ≡ None → IsSome n → P
none_is n P none some = absurd (false≢true (subst (λ (x : Option Server). IsSome x) none some))

module _
    (p q : Parts)
    (kept : IsStateKept p)
    (at : IsAt p q)
    (viewers : q.viewers.items ≡ p.viewers.items)
    (last : q.last ≡ p.last)
    (read : q.publisher.is_read ≡ p.publisher.is_read) where
  start_same : start_of p.journal ≡ start_of q.journal
  start_same = λ i. new_server (sym at.registry i) (sym at.node i)

  viewers_still : All (λ (v : Publications). v.book ≡ q.publisher.book) q.viewers.items
  viewers_still =
      subst (λ (b : Book). All (λ (v : Publications). v.book ≡ b) q.viewers.items) (sym at.book)
      (subst (All (λ (v : Publications). v.book ≡ p.publisher.book)) (sym viewers) kept.viewers)

  -- after one act more
  pub kept_on : (a : Act) (answer : Result Reply Refusal) → StateGoesOn p.node a answer (happened_in p.journal) p.outbox.items p.publisher.log q.node (happened_in q.journal) q.outbox.items q.publisher.log
      → StepsGoOn p.node a answer p.steps.items q.steps.items → (p.list.log ≡ p.journal.events.items → q.list.log ≡ q.journal.events.items)
      → (p.publisher.is_open ≡ true → q.publisher.is_open ≡ true) → IsStateKept q
  kept_on a answer goes step listed opened = by_node p.node refl goes step
    where
      live_at : (s : Server) → p.node ≡ Some s → IsLive (start_of p.journal) (happened_in p.journal) p.taken p.outbox.items s
      live_at s is = subst (λ (n : Option Server). IfSome n (IsLive (start_of p.journal) (happened_in p.journal) p.taken p.outbox.items)) is kept.live

      by_node : (n : Option Server) → p.node ≡ n → StateGoesOn n a answer (happened_in p.journal) p.outbox.items p.publisher.log q.node (happened_in q.journal) q.outbox.items q.publisher.log
          → StepsGoOn n a answer p.steps.items q.steps.items → IsStateKept q
      by_node None is none steps = absurd none
      by_node (Some s) is moves steps =
          let live = live_at s is in
          let some : IsSome p.node = subst (λ (n : Option Server). IsSome n) (sym is) refl in
          let is_step : IsStep (after_all (start_of p.journal) (happened_in p.journal)) (happened a answer) steps.step =
          subst (λ (x : Server). IsStep x (happened a answer) steps.step) live.node_is steps.is_step in
          let more : AreSteps (start_of p.journal) (happened_in p.journal ++ happened a answer ∷ []) (p.steps.items ++ steps.step ∷ []) =
          steps_more (start_of p.journal) (happened_in p.journal) p.steps.items (happened a answer) steps.step kept.steps is_step in
          let replay = replay_on (start_of p.journal) (happened_in p.journal) p.taken p.outbox.items s live (act_of a) (reply_in reply_as answer) (happened_in q.journal) moves.event kept.journal moves.steps.0 in
          let shown = published_on (start_of p.journal) (happened_in p.journal) p.taken p.outbox.items s live (act_of a) (reply_in reply_as answer) (happened_in q.journal) moves.event p.publisher.log kept.published in
          let lives = live_on (start_of p.journal) (happened_in p.journal) p.taken p.outbox.items s live (act_of a) (reply_in reply_as answer) (happened_in q.journal) moves.event in
          record {
            journal = subst (λ (x : Server). IsReplay x (happened_in q.journal)) start_same replay;
            published = moves.published ∙ shown ∙ ap (λ (x : Server). published_over x (happened_in q.journal)) start_same;
            live = subst (λ (n : Option Server). IfSome n (IsLive (start_of q.journal) (happened_in q.journal) q.taken q.outbox.items)) (sym moves.steps.1)
                (subst (λ (x : Server). IsLive x (happened_in q.journal) q.taken q.outbox.items (after s (act_of a))) start_same
                (subst (λ (t : ℕ). IsLive (start_of p.journal) (happened_in q.journal) t q.outbox.items (after s (act_of a))) (sym at.taken)
                (subst (λ (out : List Sent). IsLive (start_of p.journal) (happened_in q.journal) p.taken out (after s (act_of a))) (sym moves.outbox) lives)));
            list = λ _. listed (kept.list some);
            open_then = λ _. opened (kept.open_then some);
            read = read ∙ kept.read;
            viewers = viewers_still;
            steps = subst (λ (x : Server). AreSteps x (happened_in q.journal) q.steps.items) start_same
                (subst (λ (es : List Happening). AreSteps (start_of p.journal) es q.steps.items) (sym moves.event)
                (subst (λ (xs : List Step). AreSteps (start_of p.journal) (happened_in p.journal ++ happened a answer ∷ []) xs) (sym steps.steps) more));
            last = subst (λ (n : Option Server). IfSome n (λ x. x ≡ after_all (start_of q.journal) (happened_in q.journal))) (sym (last ∙ kept.none_last some)) tt;
            none_last = λ _. last ∙ kept.none_last some;
          }

  -- where nothing happened, or the node was given up
  pub kept_still : q.journal.events.items ≡ p.journal.events.items → q.publisher.log ≡ p.publisher.log → q.steps.items ≡ p.steps.items
      → (q.node ≡ None) ⊎ ((q.node ≡ p.node) × (q.list ≡ p.list) × (q.outbox.items ≡ p.outbox.items) × (q.publisher ≡ p.publisher)) → IsStateKept q
  kept_still items log steps ends = record {
    journal = subst (λ (x : Server). IsReplay x (happened_in q.journal)) start_same (subst (IsReplay (start_of p.journal)) (sym events) kept.journal);
    published = log ∙ kept.published ∙ ap (published_over (start_of p.journal)) (sym events) ∙ ap (λ (x : Server). published_over x (happened_in q.journal)) start_same;
    live = by_end ends;
    list = list_by ends;
    open_then = open_by ends;
    read = read ∙ kept.read;
    viewers = viewers_still;
    steps = subst (λ (x : Server). AreSteps x (happened_in q.journal) q.steps.items) start_same
        (subst (λ (es : List Happening). AreSteps (start_of p.journal) es q.steps.items) (sym events)
        (subst (λ (xs : List Step). AreSteps (start_of p.journal) (happened_in p.journal) xs) (sym steps) kept.steps));
    last = subst (λ (n : Option Server). IfSome n (λ x. x ≡ after_all (start_of q.journal) (happened_in q.journal))) (sym last)
        (subst (λ (x : Server). IfSome p.last (λ y. y ≡ after_all x (happened_in q.journal))) start_same
        (subst (λ (es : List Happening). IfSome p.last (λ y. y ≡ after_all (start_of p.journal) es)) (sym events) kept.last));
    none_last = none_by ends;
  }
    where
      events : happened_in q.journal ≡ happened_in p.journal
      events = ap (map happening_of) items

      list_by : (q.node ≡ None) ⊎ ((q.node ≡ p.node) × (q.list ≡ p.list) × (q.outbox.items ≡ p.outbox.items) × (q.publisher ≡ p.publisher)) → IsSome q.node → q.list.log ≡ q.journal.events.items
      list_by (inl none) some = none_is q.node (q.list.log ≡ q.journal.events.items) none some
      list_by (inr same) some =
          ap (λ (x : Entries Event). x.log) same.1 ∙ kept.list (subst (λ (n : Option Server). IsSome n) same.0 some) ∙ sym items

      open_by : (q.node ≡ None) ⊎ ((q.node ≡ p.node) × (q.list ≡ p.list) × (q.outbox.items ≡ p.outbox.items) × (q.publisher ≡ p.publisher)) → IsSome q.node → q.publisher.is_open ≡ true
      open_by (inl none) some = none_is q.node (q.publisher.is_open ≡ true) none some
      open_by (inr same) some = ap (λ (x : Published). x.is_open) same.3 ∙ kept.open_then (subst (λ (n : Option Server). IsSome n) same.0 some)

      none_by : (q.node ≡ None) ⊎ ((q.node ≡ p.node) × (q.list ≡ p.list) × (q.outbox.items ≡ p.outbox.items) × (q.publisher ≡ p.publisher)) → IsSome q.node → q.last ≡ None
      none_by (inl none) some = none_is q.node (q.last ≡ None) none some
      none_by (inr same) some = last ∙ kept.none_last (subst (λ (n : Option Server). IsSome n) same.0 some)

      by_end : (q.node ≡ None) ⊎ ((q.node ≡ p.node) × (q.list ≡ p.list) × (q.outbox.items ≡ p.outbox.items) × (q.publisher ≡ p.publisher)) → IfSome q.node (IsLive (start_of q.journal) (happened_in q.journal) q.taken q.outbox.items)
      by_end (inl none) = subst (λ (n : Option Server). IfSome n (IsLive (start_of q.journal) (happened_in q.journal) q.taken q.outbox.items)) (sym none) tt
      by_end (inr same) =
          subst (λ (n : Option Server). IfSome n (IsLive (start_of q.journal) (happened_in q.journal) q.taken q.outbox.items)) (sym same.0)
          (subst (λ (x : Server). IfSome p.node (IsLive x (happened_in q.journal) q.taken q.outbox.items)) start_same
          (subst (λ (es : List Happening). IfSome p.node (IsLive (start_of p.journal) es q.taken q.outbox.items)) (sym events)
          (subst (λ (t : ℕ). IfSome p.node (IsLive (start_of p.journal) (happened_in p.journal) t q.outbox.items)) (sym at.taken)
          (subst (λ (out : List Sent). IfSome p.node (IsLive (start_of p.journal) (happened_in p.journal) p.taken out)) (sym same.2) kept.live))))

  -- after an act, whatever comes of it
  pub kept_after : (a : Act) (r : Result AnswerCopies Refusal)
      → IfOk r (λ t. StateGoesOn p.node a t.told (happened_in p.journal) p.outbox.items p.publisher.log q.node (happened_in q.journal) q.outbox.items q.publisher.log)
      → IfOk r (λ t. StepsGoOn p.node a t.told p.steps.items q.steps.items)
      → (p.list.log ≡ p.journal.events.items → OnOk r (q.list.log ≡ q.journal.events.items))
      → (p.publisher.is_open ≡ true → OnOk r (q.publisher.is_open ≡ true)) → OnErr r (q.journal.events.items ≡ p.journal.events.items) → OnErr r (q.publisher.log ≡ p.publisher.log)
      → OnErr r (q.steps.items ≡ p.steps.items)
      → (r ≡ Err refusals.NoMemory → (q.node ≡ None) ⊎ ((q.node ≡ p.node) × (q.list ≡ p.list) × (q.outbox.items ≡ p.outbox.items) × (q.publisher ≡ p.publisher)))
      → (r ≡ Err refusals.Closed → (p.node ≡ None) × (q.node ≡ p.node) × (q.list ≡ p.list) × (q.outbox.items ≡ p.outbox.items) × (q.publisher ≡ p.publisher))
      → IfErr r (λ e. (e ≡ refusals.NoMemory) ⊎ (e ≡ refusals.Closed)) → IsStateKept q
  kept_after a (Ok t) goes step listed opened items log steps memory closed which = kept_on a t.told goes step listed opened
  kept_after a (Err e) goes step listed opened items log steps memory closed (inl is) = kept_still items log steps (memory (λ i. Err (is i)))
  kept_after a (Err e) goes step listed opened items log steps memory closed (inr is) = let shut = closed (λ i. Err (is i)) in kept_still items log steps (inr (shut.1, shut.2, shut.3, shut.4))

-- where the journal, the steps, the publisher and the viewers are the same
module _
    (p q : Parts)
    (kept : IsStateKept p)
    (journal : q.journal ≡ p.journal)
    (list : q.list ≡ p.list)
    (steps : q.steps ≡ p.steps)
    (publisher : q.publisher ≡ p.publisher)
    (viewers : q.viewers ≡ p.viewers) where
  published_same : q.publisher.log ≡ published_over (start_of q.journal) (happened_in q.journal)
  published_same = ap (λ (x : Published). x.log) publisher ∙ kept.published ∙ ap (λ (j : Journal). published_over (start_of j) (happened_in j)) (sym journal)

  viewers_same : All (λ (v : Publications). v.book ≡ q.publisher.book) q.viewers.items
  viewers_same =
      subst (λ (x : Published). All (λ (v : Publications). v.book ≡ x.book) q.viewers.items) (sym publisher)
      (subst (λ vs. All (λ (v : Publications). v.book ≡ p.publisher.book) vs) (λ i. (sym viewers i).items) kept.viewers)

  steps_same : AreSteps (start_of q.journal) (happened_in q.journal) q.steps.items
  steps_same =
      subst (λ (j : Journal). AreSteps (start_of j) (happened_in j) q.steps.items) (sym journal)
      (subst (λ (xs : List Step). AreSteps (start_of p.journal) (happened_in p.journal) xs) (λ i. (sym steps i).items) kept.steps)

  -- once all frames of the outbox are taken
  pub kept_taken : q.node ≡ p.node → q.last ≡ p.last → q.outbox.items ≡ [] → q.taken ≡ p.taken + length p.outbox.items → IsStateKept q
  kept_taken node last out taken = record {
    journal = subst IsJournal (sym journal) kept.journal;
    published = published_same;
    live = subst (λ (n : Option Server). IfSome n (IsLive (start_of q.journal) (happened_in q.journal) q.taken q.outbox.items)) (sym node)
        (subst (λ (j : Journal). IfSome p.node (IsLive (start_of j) (happened_in j) q.taken q.outbox.items)) (sym journal)
        (subst (λ (out : List Sent). IfSome p.node (IsLive (start_of p.journal) (happened_in p.journal) q.taken out)) (sym out)
        (subst (λ (t : ℕ). IfSome p.node (IsLive (start_of p.journal) (happened_in p.journal) t [])) (sym taken) (by_node p.node kept.live))));
    list = λ some. ap (λ (x : Entries Event). x.log) list ∙ kept.list (subst (λ (n : Option Server). IsSome n) node some) ∙ (λ i. (sym journal i).events.items);
    open_then = λ some. ap (λ (x : Published). x.is_open) publisher ∙ kept.open_then (subst (λ (n : Option Server). IsSome n) node some);
    read = ap (λ (x : Published). x.is_read) publisher ∙ kept.read;
    viewers = viewers_same;
    steps = steps_same;
    last = subst (λ (n : Option Server). IfSome n (λ x. x ≡ after_all (start_of q.journal) (happened_in q.journal))) (sym last)
        (subst (λ (j : Journal). IfSome p.last (λ x. x ≡ after_all (start_of j) (happened_in j))) (sym journal) kept.last);
    none_last = λ some. last ∙ kept.none_last (subst (λ (n : Option Server). IsSome n) node some);
  }
    where
      by_node : (n : Option Server) → IfSome n (IsLive (start_of p.journal) (happened_in p.journal) p.taken p.outbox.items)
          → IfSome n (IsLive (start_of p.journal) (happened_in p.journal) (p.taken + length p.outbox.items) [])
      by_node None live = tt
      by_node (Some s) live = live_taken (start_of p.journal) (happened_in p.journal) p.taken p.outbox.items s live

  -- once the node is kept as the last one
  pub kept_closed : q.node ≡ None → q.last ≡ p.node → IsStateKept q
  kept_closed node last = record {
    journal = subst IsJournal (sym journal) kept.journal;
    published = published_same;
    live = subst (λ (n : Option Server). IfSome n (IsLive (start_of q.journal) (happened_in q.journal) q.taken q.outbox.items)) (sym node) tt;
    list = none_is q.node (q.list.log ≡ q.journal.events.items) node;
    open_then = none_is q.node (q.publisher.is_open ≡ true) node;
    read = ap (λ (x : Published). x.is_read) publisher ∙ kept.read;
    viewers = viewers_same;
    steps = steps_same;
    last = subst (λ (n : Option Server). IfSome n (λ x. x ≡ after_all (start_of q.journal) (happened_in q.journal))) (sym last)
        (subst (λ (j : Journal). IfSome p.node (λ x. x ≡ after_all (start_of j) (happened_in j))) (sym journal) (by_node p.node kept.live));
    none_last = none_is q.node (q.last ≡ None) node;
  }
    where
      by_node : (n : Option Server) → IfSome n (IsLive (start_of p.journal) (happened_in p.journal) p.taken p.outbox.items)
          → IfSome n (λ x. x ≡ after_all (start_of p.journal) (happened_in p.journal))
      by_node None live = tt
      by_node (Some s) live = live.node_is

-- the evidence that is kept, by the node or by the last one
pub evidence_kept : (p : Parts) → IsStateKept p → (e : Evidence) → e.steps ≡ p.steps → option_or p.node p.last ≡ Some e.node → IsEvidence (start_of p.journal) (happened_in p.journal) e
evidence_kept p kept e steps is = record {
  replay = kept.journal;
  steps = subst (λ (xs : List Step). AreSteps (start_of p.journal) (happened_in p.journal) xs) (λ i. (sym steps i).items) kept.steps;
  node = by_node p.node p.last kept.live kept.last is;
}
  where
    by_node : (n l : Option Server) → IfSome n (IsLive (start_of p.journal) (happened_in p.journal) p.taken p.outbox.items) → IfSome l (λ x. x ≡ after_all (start_of p.journal) (happened_in p.journal))
        → option_or n l ≡ Some e.node → e.node ≡ after_all (start_of p.journal) (happened_in p.journal)
    by_node None None live last is = absurd (none-some e.node is)
    by_node None (Some s) live last is = sym (same_Some s e.node is) ∙ last
    by_node (Some s) l live last is = sym (same_Some s e.node is) ∙ live.node_is
