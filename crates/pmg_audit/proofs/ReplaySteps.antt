-- A journal that is replayed, one event further, and all journals, one node further.
use Rattle.std.specs.Prelude.{is_ok}
use Rattle.std.proofs.Common.{◌≡◌, ◌⊎◌, ℕ, Bool, true, false, cond, List, [], ◌∷◌, ◌++◌, map, Option, Some, None, Result, Ok, Err, inl, inr, refl, sym, ap, subst, ◌∙◌, append_assoc}
use Rattle.std.proofs.lemmas.Bool.{false≢true}
use Rattle.std.proofs.lemmas.List.{append-nil, map-append}
use Rattle.std.specs.Cmp.{Equal-is}
use Rattle.pmg_value.specs.CheckOrder.{first_of}
use Rattle.pmg_value.specs.declared.process.Proc.{Proc}
use Rattle.pmg_value.specs.declared.refusal.Refusal.{Refusal}
use Rattle.pmg_value.specs.declared.refusal.Refusal.TheVariants as refusals
use Rattle.pmg_value.proofs.ProcessOrder.{exact_procs}
use Rattle.pmg_jobinfo.specs.Jobs.{Jobs, home_of}
use Rattle.pmg_fence.specs.Entering.{same_proc}
use Rattle.pmg_fence.proofs.EntryLemmas.{proc_itself}
use Rattle.pmg_node_model.specs.Acts.{free_cause}
use Rattle.pmg_node.specs.Servers.{Server, after, reply_to, sent_by}
use Rattle.pmg_journal.specs.Calling.{caller_of, is_by, is_caller, may_call}
use Rattle.pmg_journal.specs.Records.{IsStep}
use Rattle.pmg_journal.specs.Replays.{Happening, IsReplay, after_all}
use Rattle.pmg_journal.specs.declared.record.Step.{Step}
use Rattle.pmg_journal.proofs.ReplayLemmas.{after_more, id_same, jobs_same, last_is}
use Rattle.pmg_audit.specs.Agreeing.{AreSaid, BeginsWith, IsSaidBy, MayPut, rest_after, tail_of}
use Rattle.pmg_audit.specs.Codes.{lane_of, rest_of}
use Rattle.pmg_audit.specs.Dues.{Due, made_due, due_event, due_in}
use Rattle.pmg_audit.specs.Moves.{Move, Put, PutsAt, Replays, server_after, event_in}
use Rattle.pmg_audit.specs.Replaying.{AllUnsaid, Continues, HaveFollowed, HaveHappened, IsAdded, IsFollowed, IsReplayed, IsUnsaid, IsUnsaidAt, IsWhere, RefusesFor, TakesPuts, TakesPutsAt, move_by, moves_by, replay_at}
use Rattle.pmg_audit.specs.Taking.{TakesSaying}
use Rattle.pmg_audit.specs.declared.moves.Lane.{Lane}
use Rattle.pmg_audit.specs.declared.moves.Saying.{Saying}
use Rattle.pmg_audit.specs.declared.replaying.Replay.{Replay}

same_caller : (p q : Proc) → same_proc p q ≡ true → p ≡ q
same_caller p q e = exact_procs p q ((Equal-is _).0 e)

-- ---- moves, one more

pub ends_more : (s : Server) (ms : List Move) (m : Move) → server_after s (ms ++ m ∷ []) ≡ after (server_after s ms) m.act
ends_more s [] m = refl
ends_more s (x ∷ ms) m = ends_more (after s x.act) ms m

end_jobs : (s : Server) (ms : List Move) → (server_after s ms).jobs ≡ s.jobs
end_jobs s [] = refl
end_jobs s (x ∷ ms) = end_jobs (after s x.act) ms

end_id : (s : Server) (ms : List Move) → (server_after s ms).id ≡ s.id
end_id s [] = refl
end_id s (x ∷ ms) = end_id (after s x.act) ms

pub end_is : (s : Server) (ms : List Move) → server_after s ms ≡ after_all s (map event_in ms)
end_is s [] = refl
end_is s (x ∷ ms) = end_is (after s x.act) ms

pub none_replayed : (s : Server) → Replays s []
unfolding Replays
none_replayed s = tt

pub replays_more : (s : Server) (ms : List Move) (m : Move) → Replays s ms → reply_to (server_after s ms) m.act ≡ m.reply → m.frames ≡ sent_by (server_after s ms) m.act → PutsAt (server_after s ms) (caller_of m.act) m.puts
    → Replays s (ms ++ m ∷ [])
unfolding Replays
replays_more s [] m all reply frames puts = (reply, frames, puts, tt)
replays_more s (x ∷ ms) m all reply frames puts = (all.0, all.1, all.2, replays_more (after s x.act) ms m all.3 reply frames puts)

replay_front : (s : Server) (es : List Happening) (e : Happening) → IsReplay s (es ++ e ∷ []) → IsReplay s es
replay_front s [] e all = tt
replay_front s (x ∷ es) e all = (all.0, replay_front (after s x.act) es e all.1)

moves_by_more : (p : Proc) (ms : List Move) (m : Move) → moves_by p (ms ++ m ∷ []) ≡ moves_by p ms ++ cond (is_by p m.act) (m ∷ []) []
moves_by_more p [] m = refl
moves_by_more p (x ∷ ms) m = by (is_by p x.act) (moves_by_more p ms m)
  where
    by : (b : Bool) → moves_by p (ms ++ m ∷ []) ≡ moves_by p ms ++ cond (is_by p m.act) (m ∷ []) []
        → cond b (x ∷ moves_by p (ms ++ m ∷ [])) (moves_by p (ms ++ m ∷ [])) ≡ cond b (x ∷ moves_by p ms) (moves_by p ms) ++ cond (is_by p m.act) (m ∷ []) []
    by true rest = ap (λ l. x ∷ l) rest
    by false rest = rest

rests_more : (p : Proc) (ms : List Move) (m : Move) (old new now : List Due) → old ≡ map due_in (moves_by p ms) ++ new → new ≡ cond (is_by p m.act) (due_in m ∷ now) now
    → old ≡ map due_in (moves_by p (ms ++ m ∷ [])) ++ now
rests_more p ms m old new now was is =
    was ∙ ap (λ l. map due_in (moves_by p ms) ++ l) is ∙ by (is_by p m.act)
    ∙ ap (λ l. l ++ now) (sym (ap (map due_in) (moves_by_more p ms m) ∙ map-append due_in (moves_by p ms) (cond (is_by p m.act) (m ∷ []) [])))
  where
    by : (b : Bool) → map due_in (moves_by p ms) ++ cond b (due_in m ∷ now) now ≡ (map due_in (moves_by p ms) ++ map due_in (cond b (m ∷ []) [])) ++ now
    by true = sym (append_assoc (map due_in (moves_by p ms)) (due_in m ∷ []) now)
    by false = ap (λ l. l ++ now) (sym (append-nil (map due_in (moves_by p ms))))

-- who calls is at home
caller_home : (s : Server) (caller : Option Proc) (puts : List Put) (p : Proc) → PutsAt s caller puts → is_caller p caller ≡ true → home_of s.jobs p ≡ s.id
caller_home s None puts p at by = absurd (false≢true by)
caller_home s (Some q) puts p at by = ap (home_of s.jobs) (same_caller p q by) ∙ at.0

none_by : (p : Proc) (ms : List Move) (m : Move) → moves_by p ms ≡ [] → (is_by p m.act ≡ true → ⊥) → moves_by p (ms ++ m ∷ []) ≡ []
none_by p ms m none away = moves_by_more p ms m ∙ (λ i. none i ++ cond (not_so (is_by p m.act) refl i) (m ∷ []) [])
  where
    not_so : (b : Bool) → is_by p m.act ≡ b → b ≡ false
    not_so true e = absurd (away e)
    not_so false e = refl

-- ---- what is said

-- what is said after some events
rests_after : (Proc → List Due) → List Happening → Proc → List Due
rests_after rest [] = rest
rests_after rest (e ∷ es) = rests_after (rest_after rest (caller_of e.act)) es

said_at : (s : Server) (rest : Proc → List Due) (es : List Happening) (e : Happening) (more : List Happening) → AreSaid s rest (es ++ e ∷ more)
    → IsSaidBy (after_all s es) (rests_after rest es) (caller_of e.act) e
unfolding AreSaid rests_after
said_at s rest [] e more said = said.0
said_at s rest (x ∷ es) e more said = said_at (after s x.act) (rest_after rest (caller_of x.act)) es e more said.1

tail_at : (p : Proc) (rest : Proc → List Due) (caller : Option Proc) (d : Due) (ds : List Due) → is_caller p caller ≡ true → rest p ≡ d ∷ ds → rest_after rest caller p ≡ ds
tail_at p rest None d ds by is = absurd (false≢true by)
tail_at p rest (Some q) d ds by is = ap (λ b. cond b (tail_of (rest p)) (rest p)) by ∙ ap tail_of is

other_at : (p : Proc) (rest : Proc → List Due) (caller : Option Proc) → is_caller p caller ≡ false → rest_after rest caller p ≡ rest p
other_at p rest None by = refl
other_at p rest (Some q) by = ap (λ b. cond b (tail_of (rest p)) (rest p)) by

rests_step : (p : Proc) (rest : Proc → List Due) (m : Move) (ms : List Move) (now : List Due) (b : Bool) → is_by p m.act ≡ b
    → rest p ≡ map due_in (cond b (m ∷ moves_by p ms) (moves_by p ms)) ++ now → rest_after rest (caller_of m.act) p ≡ map due_in (moves_by p ms) ++ now
rests_step p rest m xs now true e is = tail_at p rest (caller_of m.act) (due_in m) (map due_in (moves_by p xs) ++ now) e is
rests_step p rest m xs now false e is = other_at p rest (caller_of m.act) e ∙ is

rests_are : (p : Proc) (rest : Proc → List Due) (ms : List Move) (now : List Due) → rest p ≡ map due_in (moves_by p ms) ++ now → rests_after rest (map event_in ms) p ≡ now
unfolding rests_after
rests_are p rest [] now is = is
rests_are p rest (m ∷ ms) now is = rests_are p (rest_after rest (caller_of m.act)) ms now (rests_step p rest m ms now (is_by p m.act) refl is)

said_alike : (s : Server) (rest other : Proc → List Due) (caller : Option Proc) (e : Happening) → ((p : Proc) → rest p ≡ other p) → IsSaidBy s rest caller e → IsSaidBy s other caller e
said_alike s rest other None e same said = tt
said_alike s rest other (Some p) e same said = (said.0, subst (λ ds. BeginsWith s p ds e) (same p) said.1)

-- one event more is said
said_on : (s : Server) (rest : Proc → List Due) (es : List Happening) (e : Happening) → AreSaid s rest es → IsSaidBy (after_all s es) (rests_after rest es) (caller_of e.act) e
    → AreSaid s rest (es ++ e ∷ [])
unfolding AreSaid rests_after
said_on s rest [] e all said = (said, tt)
said_on s rest (x ∷ es) e all said = (all.0, said_on (after s x.act) (rest_after rest (caller_of x.act)) es e all.1 said)

-- who makes the event says so, where the puts before it are as its caller says
said_takes : (s : Server) (old : List Saying) (e : Happening) (puts : List Put) (new : List Saying) → TakesPuts s old e puts new → (caller : Option Proc) → caller_of e.act ≡ caller
    → IsSaidBy s (rest_of old) caller e
said_takes s old e puts new takes None is = tt
said_takes s old e puts new takes (Some p) is =
    let at : PutsAt s (Some p) puts = subst (λ (o : Option Proc). PutsAt s o puts) is takes.at in
    let by : is_by p e.act ≡ true = ap (is_caller p) is ∙ proc_itself p in
    let rest : rest_of old p ≡ made_due puts e.act e.reply ∷ rest_of new p = takes.rests p ∙ ap (λ b. cond b (made_due puts e.act e.reply ∷ rest_of new p) (rest_of new p)) by in
    (at.0, subst (λ ds. BeginsWith s p ds e) (sym rest) (refl, at.1))

-- ---- one event further

module _ (s : Server) (old : List Saying) (es : List Happening) (r : Replay) (ss : List Saying) (done : IsReplayed s old es r ss) (e : Happening) (puts : List Put) (ss2 : List Saying)
    (takes : TakesPuts r.node ss e puts ss2) (r2 : Replay) (added : IsAdded r puts e r2) where
  abbrev ms : List Move
  ms = lane_of r.lane

  abbrev m : Move
  m = move_by r.node puts e

  not_replay : (r.is_stale ≡ true) ⊎ (reply_to r.node e.act ≡ e.reply → ⊥) → IsReplay s (es ++ e ∷ []) → ⊥
  not_replay (inl stale) all = done.stale stale (replay_front s es e all)
  not_replay (inr other) all =
      other (subst (λ (x : Server). reply_to x e.act ≡ e.reply) (ap (after_all s) (sym done.events) ∙ sym (end_is s ms) ∙ sym done.node) (last_is s es e.act e.reply all))

  at_end : PutsAt (server_after s ms) (caller_of e.act) puts
  at_end = subst (λ (x : Server). PutsAt x (caller_of e.act) puts) done.node takes.at

  away : (p : Proc) → (home_of s.jobs p ≡ s.id → ⊥) → is_by p e.act ≡ true → ⊥
  away p far by = far (ap (λ (j : Jobs). home_of j p) (sym (end_jobs s ms)) ∙ caller_home (server_after s ms) (caller_of e.act) puts p at_end by ∙ end_id s ms)

  server : after_all s es ≡ r.node
  server = ap (after_all s) (sym done.events) ∙ sym (end_is s ms) ∙ sym done.node

  rest_now : (p : Proc) → rests_after (rest_of old) es p ≡ rest_of ss p
  rest_now p = ap (λ l. rests_after (rest_of old) l p) (sym done.events) ∙ rests_are p (rest_of old) ms (rest_of ss p) (done.rests p)

  pub replayed_more : IsReplayed s old (es ++ e ∷ []) r2 ss2
  replayed_more = record {
    node = added.node ∙ ap (λ (x : Server). after x e.act) done.node ∙ sym (ap (server_after s) added.lane ∙ ends_more s ms m);
    events = ap (map event_in) added.lane ∙ map-append event_in ms (m ∷ []) ∙ ap (λ l. l ++ e ∷ []) done.events;
    fresh = λ f. let both = added.fresh f in
        subst (Replays s) (sym added.lane)
        (replays_more s ms m (done.fresh both.0) (subst (λ (x : Server). reply_to x e.act ≡ e.reply) done.node both.1) (ap (λ (x : Server). sent_by x e.act) done.node) at_end);
    stale = λ t. not_replay (added.stale t);
    rests = λ p. subst (λ l. rest_of old p ≡ map due_in (moves_by p l) ++ rest_of ss2 p) (sym added.lane) (rests_more p ms m (rest_of old p) (rest_of ss p) (rest_of ss2 p) (done.rests p) (takes.rests p));
    home = λ p far. ap (moves_by p) added.lane ∙ none_by p ms m (done.home p far) (away p far);
    said = said_on s (rest_of old) es e done.said
        (subst (λ (x : Server). IsSaidBy x (rests_after (rest_of old) es) (caller_of e.act) e) (sym server)
        (said_alike r.node (rest_of ss) (rests_after (rest_of old) es) (caller_of e.act) e (λ p. sym (rest_now p)) (said_takes r.node ss e puts ss2 takes (caller_of e.act) refl)));
    lasts = takes.lasts ∙ done.lasts;
  }

-- nothing is replayed yet
pub replayed_none : (s : Server) (old : List Saying) (r : Replay) → r.node ≡ s → lane_of r.lane ≡ [] → r.is_stale ≡ false → IsReplayed s old [] r old
unfolding AreSaid
replayed_none s old r node lane stale = record {
  node = node ∙ sym (ap (server_after s) lane);
  events = ap (map event_in) lane;
  fresh = λ f. subst (Replays s) (sym lane) (none_replayed s);
  stale = λ t. absurd (false≢true (sym stale ∙ t));
  rests = λ p. sym (ap (λ l. map due_in (moves_by p l) ++ rest_of old p) lane);
  home = λ p far. ap (moves_by p) lane;
  said = tt;
  lasts = refl;
}

-- ---- an event that is not said

-- where the next event is not said the transcripts do not agree
pub not_said : (s : Server) (old : List Saying) (es : List Happening) (r : Replay) (ss : List Saying) → IsReplayed s old es r ss → (e : Happening) (more : List Happening)
    → (IsSaidBy r.node (rest_of ss) (caller_of e.act) e → ⊥) → AreSaid s (rest_of old) (es ++ e ∷ more) → ⊥
not_said s old es r ss done e more not all =
    let ms = lane_of r.lane in
    let server : after_all s es ≡ r.node = ap (after_all s) (sym done.events) ∙ sym (end_is s ms) ∙ sym done.node in
    not (subst (λ (x : Server). IsSaidBy x (rest_of ss) (caller_of e.act) e) server
    (said_alike (after_all s es) (rests_after (rest_of old) es) (rest_of ss) (caller_of e.act) e
    (λ p. ap (λ l. rests_after (rest_of old) l p) (sym done.events) ∙ rests_are p (rest_of old) ms (rest_of ss p) (done.rests p))
    (said_at s (rest_of old) es e more all)))

-- ---- the puts before an event

due_same : (d : Due) (e : Happening) → due_event d ≡ e → d ≡ made_due d.puts e.act e.reply
due_same d e is = (λ i. made_due d.puts (is i).act (is i).reply)

pub caller_takes : (s : Server) (old : List Saying) (p : Proc) (d : Due) (new : List Saying) (e : Happening) → caller_of e.act ≡ Some p → home_of s.jobs p ≡ s.id → TakesSaying old p d new → due_event d ≡ e → MayPut s p d.puts
    → TakesPuts s old e d.puts new
caller_takes s old p d new e caller home takes is may = record {
  at = subst (λ (o : Option Proc). PutsAt s o d.puts) (sym caller) (home, may);
  rests = λ q. subst (λ (o : Option Proc). rest_of old q ≡ cond (is_caller q o) (made_due d.puts e.act e.reply ∷ rest_of new q) (rest_of new q)) (sym caller) (by q (same_proc q p) refl);
  lasts = takes.lasts;
}
  where
    by : (q : Proc) (b : Bool) → same_proc q p ≡ b → rest_of old q ≡ cond b (made_due d.puts e.act e.reply ∷ rest_of new q) (rest_of new q)
    by q true same =
        subst (λ (x : Proc). rest_of old x ≡ made_due d.puts e.act e.reply ∷ rest_of new x) (sym (same_caller q p same)) (takes.here ∙ ap (λ (x : Due). x ∷ rest_of new p) (due_same d e is))
    by q false apart = sym (takes.others q apart)

pub none_takes : (s : Server) (old : List Saying) (e : Happening) → caller_of e.act ≡ None → TakesPuts s old e [] old
none_takes s old e caller = record {
  at = subst (λ (o : Option Proc). PutsAt s o []) (sym caller) refl;
  rests = λ q. subst (λ (o : Option Proc). rest_of old q ≡ cond (is_caller q o) (made_due [] e.act e.reply ∷ rest_of old q) (rest_of old q)) (sym caller) refl;
  lasts = refl;
}

-- the reasons for which an event is not said
pub not_home : (s : Server) (rest : Proc → List Due) (p : Proc) (e : Happening) → (home_of s.jobs p ≡ s.id → ⊥) → IsSaidBy s rest (Some p) e → ⊥
not_home s rest p e far said = far said.0

pub none_left : (s : Server) (rest : Proc → List Due) (p : Proc) (e : Happening) → rest p ≡ [] → IsSaidBy s rest (Some p) e → ⊥
none_left s rest p e none said = subst (λ ds. BeginsWith s p ds e) none said.1

pub other_said : (s : Server) (rest : Proc → List Due) (p : Proc) (e : Happening) (d : Due) (ds : List Due) → rest p ≡ d ∷ ds → (due_event d ≡ e → MayPut s p d.puts → ⊥) → IsSaidBy s rest (Some p) e → ⊥
other_said s rest p e d ds is other said = let first = subst (λ l. BeginsWith s p l e) is said.1 in other first.0 first.1

-- ---- as clauses say it

pub continues_by : (r : Replay) (ss : List Saying) (e : Happening) (puts : List Put) (r2 : Replay) (ss2 : List Saying) → TakesPuts r.node ss e puts ss2 → IsAdded r puts e r2 → Continues r ss e r2 ss2
unfolding Continues
continues_by r ss e puts r2 ss2 takes added = λ s first es done. replayed_more s first es r ss done e puts ss2 takes r2 added

pub unsaid_by : (s : Server) (ss : List Saying) (e : Happening) → (IsSaidBy s (rest_of ss) (caller_of e.act) e → ⊥) → IsUnsaid s ss e
unfolding IsUnsaid
unsaid_by s ss e not = not

pub happened_none : (old : Server) (ss : List Saying) (r : Replay) → r.node ≡ old → lane_of r.lane ≡ [] → r.is_stale ≡ false → HaveHappened old ss [] r ss
unfolding HaveHappened
happened_none old ss r node lane stale = replayed_none old ss r node lane stale

pub happened_more : (s : Server) (first : List Saying) (es : List Happening) (r : Replay) (ss : List Saying) (e : Happening) (r2 : Replay) (ss2 : List Saying)
    → HaveHappened s first es r ss → Continues r ss e r2 ss2 → HaveHappened s first (es ++ e ∷ []) r2 ss2
unfolding HaveHappened Continues
happened_more s first es r ss e r2 ss2 done on = on s first es done

pub all_unsaid : (s : Server) (first : List Saying) (es : List Happening) (r : Replay) (ss : List Saying) (e : Happening) (more : List Happening) → HaveHappened s first es r ss → IsUnsaid r.node ss e
    → AllUnsaid s first (es ++ e ∷ more)
unfolding HaveHappened IsUnsaid AllUnsaid
all_unsaid s first es r ss e more done not = not_said s first es r ss done e more not

-- a refusal for one reason, and for what follows from it
pub refuses_on : (e : Refusal) (P Q : Type 0) → RefusesFor e P → (P → Q) → RefusesFor e Q
refuses_on refusals.NoMemory P Q is on = tt
refuses_on refusals.Collision P Q is on = on is
refuses_on e P Q is on = absurd is

-- ---- at a node of which only the group, the index and the steps are known

-- who is free has no cause to be refused a put, and the other way
ok_unit : (r : Result (Unit {0}) Refusal) → is_ok r ≡ true → r ≡ Ok tt
ok_unit (Ok x) is = refl
ok_unit (Err e) is = absurd (false≢true is)

pub may_of_free : (s : Server) (p : Proc) (puts : List Put) (free : Bool) → free ≡ may_call s p → (puts ≡ []) ⊎ (free ≡ true) → MayPut s p puts
may_of_free s p puts free is (inl none) = inl none
may_of_free s p puts free is (inr t) = inr (ok_unit (first_of (free_cause s.jobs s.id s.holding p) tt) (sym is ∙ t))

pub free_of_may : (s : Server) (p : Proc) (puts : List Put) (free : Bool) → free ≡ may_call s p → MayPut s p puts → (puts ≡ []) ⊎ (free ≡ true)
free_of_may s p puts free is (inl none) = inl none
free_of_may s p puts free is (inr fits) = inr (is ∙ ap is_ok fits)

pub takes_at : (jobs : Jobs) (node : ℕ) (free : Bool) (old : List Saying) (e : Happening) (puts : List Put) (new : List Saying)
    → ((s : Server) → IsWhere jobs node free e s → TakesPuts s old e puts new) → TakesPutsAt jobs node free old e puts new
unfolding TakesPutsAt
takes_at jobs node free old e puts new by = by

pub takes_there : (jobs : Jobs) (node : ℕ) (free : Bool) (old : List Saying) (e : Happening) (puts : List Put) (new : List Saying) → TakesPutsAt jobs node free old e puts new
    → (s : Server) → IsWhere jobs node free e s → TakesPuts s old e puts new
unfolding TakesPutsAt
takes_there jobs node free old e puts new takes = takes

pub unsaid_at : (jobs : Jobs) (node : ℕ) (free : Bool) (ss : List Saying) (e : Happening)
    → ((s : Server) → IsWhere jobs node free e s → IsSaidBy s (rest_of ss) (caller_of e.act) e → ⊥) → IsUnsaidAt jobs node free ss e
unfolding IsUnsaidAt IsUnsaid
unsaid_at jobs node free ss e by = by

pub unsaid_there : (jobs : Jobs) (node : ℕ) (free : Bool) (ss : List Saying) (e : Happening) → IsUnsaidAt jobs node free ss e → (s : Server) → IsWhere jobs node free e s → IsUnsaid s ss e
unfolding IsUnsaidAt
unsaid_there jobs node free ss e unsaid = unsaid

where_is : (jobs : Jobs) (node : ℕ) (e : Happening) (x : Step) (s : Server) → s.jobs ≡ jobs → s.id ≡ node → IsStep s e x → IsWhere jobs node x.is_free e s
where_is jobs node e x s group index step = record { group = group; index = index; free_is = step.free }

-- what an event adds whose reply and step are known
added_at : (s : Server) (lane : Lane) (puts : List Put) (e : Happening) (x : Step) (lane2 : Lane) → lane_of lane2 ≡ lane_of lane ++ record { puts = puts; act = e.act; reply = e.reply; frames = x.sent.items } ∷ []
    → IsStep s e x → reply_to s e.act ≡ e.reply → IsAdded (replay_at s lane) puts e (replay_at (after s e.act) lane2)
added_at s lane puts e x lane2 is step replies = record {
  node = refl;
  lane = is ∙ ap (λ fs. lane_of lane ++ record { puts = puts; act = e.act; reply = e.reply; frames = fs } ∷ []) step.sent;
  fresh = λ _. (refl, replies);
  stale = λ t. absurd (false≢true t);
}

pub follows_by : (jobs : Jobs) (node : ℕ) (lane : Lane) (ss : List Saying) (e : Happening) (x : Step) (puts : List Put) (lane2 : Lane) (ss2 : List Saying) → TakesPutsAt jobs node x.is_free ss e puts ss2
    → lane_of lane2 ≡ lane_of lane ++ record { puts = puts; act = e.act; reply = e.reply; frames = x.sent.items } ∷ [] → IsFollowed jobs node lane ss e x lane2 ss2
unfolding IsFollowed
follows_by jobs node lane ss e x puts lane2 ss2 takes is = λ s group index step replies.
    continues_by (replay_at s lane) ss e puts (replay_at (after s e.act) lane2) ss2 (takes_there jobs node x.is_free ss e puts ss2 takes s (where_is jobs node e x s group index step))
    (added_at s lane puts e x lane2 is step replies)

pub followed_none : (s : Server) (ss : List Saying) (lane : Lane) → lane_of lane ≡ [] → HaveFollowed s ss [] lane ss
unfolding HaveFollowed
followed_none s ss lane none = happened_none s ss (replay_at s lane) refl none refl

-- one event more is followed, where its step is known
module _ (s : Server) (first : List Saying) (es : List Happening) (lane : Lane) (ss : List Saying) (done : HaveFollowed s first es lane ss) (e : Happening) (x : Step)
    (step : IsStep (after_all s es) e x) where
  pub followed_more : (lane2 : Lane) (ss2 : List Saying) → reply_to (after_all s es) e.act ≡ e.reply → IsFollowed s.jobs s.id lane ss e x lane2 ss2 → HaveFollowed s first (es ++ e ∷ []) lane2 ss2
  unfolding HaveFollowed IsFollowed
  followed_more lane2 ss2 replies follows =
      subst (λ (t : Server). HaveHappened s first (es ++ e ∷ []) (replay_at t lane2) ss2) (sym (after_more s es e))
      (happened_more s first es (replay_at (after_all s es) lane) ss e (replay_at (after (after_all s es) e.act) lane2) ss2 done
      (follows (after_all s es) (jobs_same s es) (id_same s es) step replies))

  pub followed_unsaid : (more : List Happening) → IsUnsaidAt s.jobs s.id x.is_free ss e → AllUnsaid s first (es ++ e ∷ more)
  unfolding HaveFollowed
  followed_unsaid more unsaid =
      all_unsaid s first es (replay_at (after_all s es) lane) ss e more done
      (unsaid_there s.jobs s.id x.is_free ss e unsaid (after_all s es) (where_is s.jobs s.id e x (after_all s es) (jobs_same s es) (id_same s es) step))

-- the node that is there is the one that the events leave
pub happened_so : (s : Server) (first : List Saying) (es : List Happening) (lane : Lane) (ss : List Saying) (node : Server) → HaveFollowed s first es lane ss → node ≡ after_all s es
    → HaveHappened s first es (replay_at node lane) ss
unfolding HaveFollowed
happened_so s first es lane ss node done is = subst (λ (t : Server). HaveHappened s first es (replay_at t lane) ss) (sym is) done
