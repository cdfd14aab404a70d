-- All journals replayed, and what follows of the transcripts.
use Rattle.std.proofs.Common.{◌≡◌, ◌⊎◌, ◌<◌, ltb-true, Bool, true, false, cond, List, [], ◌∷◌, ◌++◌, length, map, filter, get_or, inl, inr, refl, sym, ap, subst, ◌∙◌}
use Rattle.std.proofs.lemmas.List.{append-nil, append_cancel_left, map-append, length-map}
use Rattle.std.specs.Cmp.{Equal-is}
use Rattle.pmg_value.specs.Lists.{In, Each}
use Rattle.pmg_value.specs.declared.process.Proc.{Proc}
use Rattle.pmg_value.proofs.ProcessOrder.{exact_procs}
use Rattle.pmg_scope.specs.Cached.{no_puts}
use Rattle.pmg_jobinfo.specs.Jobs.{Jobs, AreJobs, home_of}
use Rattle.pmg_fence.specs.Entering.{same_proc}
use Rattle.pmg_fence.proofs.EntryLemmas.{proc_itself}
use Rattle.pmg_fence.proofs.HeaderLemmas.{by_proc}
use Rattle.pmg_node_model.proofs.KeptBasics.{home_is_node}
use Rattle.pmg_node.specs.Opening.{new_server}
use Rattle.pmg_node.specs.Servers.{Server}
use Rattle.pmg_journal.specs.Replays.{Happening, after_all}
use Rattle.pmg_journal.specs.Transcripts.{noted_in}
use Rattle.pmg_journal.specs.declared.journal.Journal.{Journal}
use Rattle.pmg_journal.specs.declared.transcript.Transcript.{Transcript}
use Rattle.pmg_audit.specs.Agreeing.{AreAgreed, AreOfOtherProcs, AreSaid, MayPut, MayPutLast, home_after, said_for}
use Rattle.pmg_audit.specs.Codes.{all_of, audited_put, rest_of, audited_due}
use Rattle.pmg_audit.specs.Dues.{Due, due_event, due_in, last_puts, dues_of, takes_all}
use Rattle.pmg_audit.specs.Moves.{Move, Put, PutsFit, event_in}
use Rattle.pmg_audit.specs.Orders.{moves_at}
use Rattle.pmg_audit.specs.Replaying.{AllMayPut, AreReplayed, AreWhole, MayPutAt, SomeUnsaid, moves_by}
use Rattle.pmg_audit.specs.Runs.{ArePut, TellsOf, journal_at}
use Rattle.pmg_audit.specs.Taking.{AreSayings, SomeLeft, last_of, lasts_of, sayers}
use Rattle.pmg_audit.specs.declared.moves.Due.{Due as KeptDue}
use Rattle.pmg_audit.specs.declared.moves.Saying.{Saying}
use Rattle.pmg_audit.specs.declared.replaying.AllReplayed.{AllReplayed}
use Rattle.pmg_audit.proofs.DueLemmas.{none_fit, said_fit}
use Rattle.pmg_audit.proofs.ReplaySteps.{end_is}
use Rattle.pmg_audit.proofs.SayingLemmas.{procs_by, rest_is}
use Rattle.pmg_journal.specs.Calling.{is_by}

abbrev IsTaken : Transcript → Type 0
IsTaken t = takes_all no_puts (noted_in t) ≡ true

each_by_in : {A : Type 0} (P : A → Type 0) (xs : List A) → ((x : A) → In x xs → P x) → Each P xs
each_by_in P [] all = tt
each_by_in P (x ∷ xs) all = (all x (inl refl), each_by_in P xs (λ y i. all y (inr i)))

each_at : {A : Type 0} (P : A → Type 0) (xs : List A) (x : A) → Each P xs → In x xs → P x
each_at P [] x each i = absurd i
each_at P (y ∷ xs) x each i = elim i [ inl same ↦ subst P (sym same) each.0 | inr later ↦ each_at P xs x each.1 later ]

-- ---- what transcripts say

-- a process has a transcript, or says nothing
said_cases : (ts : List Transcript) (p : Proc) → Each IsTaken ts → ((t : Transcript) × In t ts × (t.proc ≡ p) × (said_for ts p ≡ dues_of t) × IsTaken t) ⊎ (said_for ts p ≡ [])
said_cases [] p taken = inr refl
said_cases (t ∷ ts) p taken =
    by_proc p t.proc
    (λ same. inl (t, inl refl, sym same, ap (λ b. cond b (dues_of t) (said_for ts p)) (ap (same_proc p) (sym same) ∙ proc_itself p), taken.0))
    (λ apart.
    let rest = ap (λ b. cond b (dues_of t) (said_for ts p)) apart in
    elim (said_cases ts p taken.1) [
      | inl some ↦ inl (some.0, inr some.1, some.2, rest ∙ some.3, some.4)
      | inr none ↦ inr (rest ∙ none)
    ])

-- what a transcript says is what its process says
said_own : (ts : List Transcript) (t : Transcript) → AreOfOtherProcs ts → In t ts → said_for ts t.proc ≡ dues_of t
said_own [] t apart i = absurd i
said_own (u ∷ ts) t apart i = elim i [
  | inl same ↦ ap (λ b. cond b (dues_of u) (said_for ts t.proc)) (ap (λ (x : Transcript). same_proc t.proc x.proc) (sym same) ∙ proc_itself t.proc) ∙ ap dues_of (sym same)
  | inr later ↦ ap (λ b. cond b (dues_of u) (said_for ts t.proc)) (other (same_proc t.proc u.proc) refl later) ∙ said_own ts t apart.1 later
]
  where
    other : (b : Bool) → same_proc t.proc u.proc ≡ b → In t ts → b ≡ false
    other true e later = absurd (each_at (λ (v : Transcript). u.proc ≡ v.proc → ⊥) ts t apart.0 later (sym (exact_procs t.proc u.proc ((Equal-is _).0 e))))
    other false e later = refl

events_by : (p : Proc) (ms : List Move) → map due_event (map due_in (moves_by p ms)) ≡ filter (λ (e : Happening). is_by p e.act) (map event_in ms)
events_by p [] = refl
events_by p (m ∷ ms) = by (is_by p m.act) (events_by p ms)
  where
    by : (b : Bool) → map due_event (map due_in (moves_by p ms)) ≡ filter (λ (e : Happening). is_by p e.act) (map event_in ms)
        → map due_event (map due_in (cond b (m ∷ moves_by p ms) (moves_by p ms))) ≡ cond b (event_in m ∷ filter (λ (e : Happening). is_by p e.act) (map event_in ms)) (filter (λ (e : Happening). is_by p e.act) (map event_in ms))
    by true rest = ap (λ l. event_in m ∷ l) rest
    by false rest = rest

rest_empty : (ss : List Saying) (p : Proc) → Each (λ (s : Saying). s.dues.items ≡ []) ss → rest_of ss p ≡ []
rest_empty [] p each = refl
rest_empty (s ∷ ss) p each = by (same_proc p s.proc) (rest_empty ss p each.1)
  where
    by : (b : Bool) → rest_of ss p ≡ [] → cond b (map audited_due s.dues.items) (rest_of ss p) ≡ []
    by true rest = ap (map audited_due) each.0
    by false rest = rest

-- ---- of what processes they are

AreDistinct : List Proc → Type 0
AreDistinct [] = Unit {0}
AreDistinct (p ∷ ps) = Each (λ (q : Proc). p ≡ q → ⊥) ps × AreDistinct ps

each_proc : (p : Proc) (ss : List Saying) (ts : List Transcript) → AreSayings ss ts → Each (λ (u : Transcript). p ≡ u.proc → ⊥) ts → Each (λ (q : Proc). p ≡ q → ⊥) (sayers ss)
unfolding AreSayings
each_proc p [] [] are each = tt
each_proc p [] (t ∷ ts) are each = absurd are
each_proc p (s ∷ ss) [] are each = absurd are
each_proc p (s ∷ ss) (t ∷ ts) are each = (λ same. each.0 (same ∙ are.0.proc), each_proc p ss ts are.1 each.1)

are_distinct : (ss : List Saying) (ts : List Transcript) → AreSayings ss ts → AreOfOtherProcs ts → AreDistinct (sayers ss)
unfolding AreSayings AreDistinct
are_distinct [] [] are apart = tt
are_distinct [] (t ∷ ts) are apart = absurd are
are_distinct (s ∷ ss) [] are apart = absurd are
are_distinct (s ∷ ss) (t ∷ ts) are apart = (
  each_proc s.proc ss ts are.1 (each_by_in (λ (u : Transcript). s.proc ≡ u.proc → ⊥) ts (λ u i same. each_at (λ (v : Transcript). t.proc ≡ v.proc → ⊥) ts u apart.0 i (sym are.0.proc ∙ same))),
  are_distinct ss ts are.1 apart.1,
)

proc_in : (ss : List Saying) (s : Saying) → In s ss → In s.proc (sayers ss)
proc_in [] s i = absurd i
proc_in (r ∷ ss) s i = elim i [ inl same ↦ inl (ap (λ (x : Saying). x.proc) same) | inr later ↦ inr (proc_in ss s later) ]

own_rest : (ss : List Saying) (s : Saying) → AreDistinct (sayers ss) → In s ss → rest_of ss s.proc ≡ map audited_due s.dues.items
unfolding AreDistinct
own_rest [] s distinct i = absurd i
own_rest (r ∷ ss) s distinct i = elim i [
  | inl same ↦ ap (λ b. cond b (map audited_due r.dues.items) (rest_of ss s.proc)) (ap (λ (x : Saying). same_proc s.proc x.proc) (sym same) ∙ proc_itself s.proc)
      ∙ ap (λ (x : Saying). map audited_due x.dues.items) (sym same)
  | inr later ↦ ap (λ b. cond b (map audited_due r.dues.items) (rest_of ss s.proc)) (other (same_proc s.proc r.proc) refl later) ∙ own_rest ss s distinct.1 later
]
  where
    other : (b : Bool) → same_proc s.proc r.proc ≡ b → In s ss → b ≡ false
    other true e later = absurd (each_at (λ (q : Proc). r.proc ≡ q → ⊥) (sayers ss) s.proc distinct.0 (proc_in ss s later) (sym (exact_procs s.proc r.proc ((Equal-is _).0 e))))
    other false e later = refl

transcript_of : (ss : List Saying) (ts : List Transcript) (p : Proc) → AreSayings ss ts → In p (sayers ss) → (t : Transcript) × In t ts × (t.proc ≡ p)
unfolding AreSayings
transcript_of [] [] p are i = absurd i
transcript_of [] (t ∷ ts) p are i = absurd i
transcript_of (s ∷ ss) [] p are i = absurd are
transcript_of (s ∷ ss) (t ∷ ts) p are i = elim i [
  | inl same ↦ (t, inl refl, sym (same ∙ are.0.proc))
  | inr later ↦ let rest = transcript_of ss ts p are.1 later in (rest.0, inr rest.1, rest.2)
]

-- ---- what was put last

each_to : {A B : Type 0} (f : A → B) (P : A → Type 0) (Q : B → Type 0) → ((x : A) → P x → Q (f x)) → (xs : List A) → Each P xs → Each Q (map f xs)
each_to f P Q on [] each = tt
each_to f P Q on (x ∷ xs) each = (on x each.0, each_to f P Q on xs each.1)

each_from : {A B : Type 0} (f : A → B) (P : A → Type 0) (Q : B → Type 0) → ((x : A) → Q (f x) → P x) → (xs : List A) → Each Q (map f xs) → Each P xs
each_from f P Q on [] each = tt
each_from f P Q on (x ∷ xs) each = (on x each.0, each_from f P Q on xs each.1)

abbrev last_said : Transcript → Proc × List Put
last_said t = (t.proc, last_puts t)

lasts_are : (ss : List Saying) (ts : List Transcript) → AreSayings ss ts → lasts_of ss ≡ map last_said ts
unfolding AreSayings
lasts_are [] [] are = refl
lasts_are [] (t ∷ ts) are = absurd are
lasts_are (s ∷ ss) [] are = absurd are
lasts_are (s ∷ ss) (t ∷ ts) are = (λ i. (are.0.proc i, are.0.last i) ∷ lasts_are ss ts are.1 i)

-- ---- the end

nothing_more : (xs ys : List Happening) → xs ++ ys ≡ xs → ys ≡ []
nothing_more xs ys is = append_cancel_left xs ys [] (is ∙ sym (append-nil xs))

no_dues : (ds : List KeptDue) → map due_event (map audited_due ds) ≡ [] → ds ≡ []
no_dues [] is = refl
no_dues (d ∷ ds) is = absurd cc

module _ (jobs : Jobs) (are : AreJobs jobs) (js : List Journal) (ts : List Transcript) (first : List Saying) (sayings : AreSayings first ts) (apart : AreOfOtherProcs ts)
    (r : AllReplayed) (ss : List Saying) (done : AreReplayed jobs js first (length jobs.nodes) r ss) where
  abbrev all : List (List Move)
  all = all_of r.lanes.items

  home_inside : (p : Proc) → home_of jobs p < length jobs.nodes
  home_inside p = ltb-true (home_of jobs p) (length jobs.nodes) (home_is_node jobs are p)

  said_is : (p : Proc) → said_for ts p ≡ map due_in (moves_by p (moves_at all (home_of jobs p))) ++ rest_of ss p
  said_is p = sym (rest_is first ts sayings p) ∙ done.rests p

  made_is : (p : Proc) → map due_event (map due_in (moves_by p (moves_at all (home_of jobs p)))) ≡ filter (λ (e : Happening). is_by p e.act) (journal_at js (home_of jobs p))
  made_is p = events_by p (moves_at all (home_of jobs p)) ∙ ap (filter (λ (e : Happening). is_by p e.act)) (done.events (home_of jobs p) (home_inside p))

  server_is : (p : Proc) (d : Server) → get_or r.nodes.items (home_of jobs p) d ≡ home_after jobs js p
  server_is p d =
      done.ends (home_of jobs p) d (home_inside p) ∙ end_is (new_server jobs (home_of jobs p)) (moves_at all (home_of jobs p))
      ∙ ap (after_all (new_server jobs (home_of jobs p))) (done.events (home_of jobs p) (home_inside p))

  lasts_said : lasts_of ss ≡ map last_said ts
  lasts_said = done.lasts ∙ lasts_are first ts sayings

  -- the process may put that, once all happened
  abbrev MayLast : Proc × List Put → Type 0
  MayLast x = MayPut (home_after jobs js x.0) x.0 x.1

  all_may : AllMayPut jobs r.nodes.items ss → Each (MayPutLast jobs js) ts
  all_may each =
      each_from last_said (MayPutLast jobs js) MayLast (λ t may. may) ts
      (subst (Each MayLast) lasts_said
      (each_to last_of (MayPutAt jobs r.nodes.items) MayLast
      (λ s may. let d = home_after jobs js s.proc in subst (λ (x : Server). MayPut x s.proc (map audited_put s.last_puts.items)) (server_is s.proc d) (may d)) ss each))

  -- where it may not the transcripts do not agree
  pub barred_unlike : (AllMayPut jobs r.nodes.items ss → ⊥) → AreAgreed jobs js ts → ⊥
  barred_unlike barred agreed =
      barred (each_from last_of (MayPutAt jobs r.nodes.items) MayLast
      (λ s may d. subst (λ (x : Server). MayPut x s.proc (map audited_put s.last_puts.items)) (sym (server_is s.proc d)) may) ss
      (subst (Each MayLast) (sym lasts_said) (each_to last_said (MayPutLast jobs js) MayLast (λ t may. may) ts agreed.last)))

  module _ (taken : Each IsTaken ts) (told : Each (λ (s : Saying). s.dues.items ≡ []) ss) (last : AllMayPut jobs r.nodes.items ss) where
    all_said : (p : Proc) → map due_in (moves_by p (moves_at all (home_of jobs p))) ≡ said_for ts p
    all_said p = sym (said_is p ∙ ap (λ l. map due_in (moves_by p (moves_at all (home_of jobs p))) ++ l) (rest_empty ss p told) ∙ append-nil _)

    are_put : ArePut jobs all
    unfolding ArePut
    are_put p = elim (said_cases ts p taken) [
      | inl some ↦ subst (λ (q : Proc). PutsFit q no_puts (moves_at all (home_of jobs p))) some.2
          (said_fit some.0.proc (noted_in some.0) (moves_at all (home_of jobs p)) some.4
          (ap (λ (q : Proc). map due_in (moves_by q (moves_at all (home_of jobs p)))) some.2 ∙ all_said p ∙ some.3))
      | inr none ↦ none_fit p (moves_at all (home_of jobs p)) (all_said p ∙ none)
    ]

    are_told : Each (TellsOf jobs js) ts
    are_told = each_by_in (TellsOf jobs js) ts (λ t i. ap (map due_event) (sym (said_own ts t apart i) ∙ sym (all_said t.proc)) ∙ made_is t.proc)

    pub agreed : AreAgreed jobs js ts
    agreed = record {
      apart = apart;
      taken = taken;
      said = λ n inside. subst (λ (rest : Proc → List Due). AreSaid (new_server jobs n) rest (journal_at js n)) (λ i p. rest_is first ts sayings p i) (done.said n inside);
      calls = are_told;
      last = all_may last;
    }

    pub are_whole : r.is_stale ≡ false → AreWhole jobs js ts r
    are_whole fresh = record {
      moves = record { count = length-map r.lanes.items _ ∙ done.lanes; events = done.events; replays = done.fresh fresh };
      put = are_put;
      agreed = agreed;
      ends = record { count = done.nodes; each = λ n d inside. done.ends n d (subst (λ l. n < l) done.nodes inside) };
    }

  -- where something is left that is said, the transcripts do not agree
  pub left_unlike : SomeLeft ss → AreAgreed jobs js ts → ⊥
  left_unlike some agreed =
      let s : Saying = some.0 in
      let p = s.proc in
      let procs = procs_by ss first done.lasts in
      let distinct = subst AreDistinct (sym procs) (are_distinct first ts sayings apart) in
      let of = transcript_of first ts p sayings (subst (In p) procs (proc_in ss s some.1)) in
      let t : Transcript = of.0 in
      let tells : map due_event (dues_of t) ≡ filter (λ (e : Happening). is_by t.proc e.act) (journal_at js (home_of jobs t.proc)) = each_at (TellsOf jobs js) ts t agreed.calls of.1 in
      let own : dues_of t ≡ map due_in (moves_by t.proc (moves_at all (home_of jobs t.proc))) ++ rest_of ss t.proc = sym (said_own ts t apart of.1) ∙ said_is t.proc in
      let made = map due_event (map due_in (moves_by t.proc (moves_at all (home_of jobs t.proc)))) in
      let none : map due_event (rest_of ss t.proc) ≡ [] = nothing_more made (map due_event (rest_of ss t.proc))
      (sym (map-append due_event (map due_in (moves_by t.proc (moves_at all (home_of jobs t.proc)))) (rest_of ss t.proc)) ∙ ap (map due_event) (sym own) ∙ tells ∙ sym (made_is t.proc)) in
      some.2 (no_dues s.dues.items (ap (map due_event) (sym (own_rest ss s distinct some.1)) ∙ ap (λ (q : Proc). map due_event (rest_of ss q)) (sym of.2) ∙ none))

-- where some event is not said they do not agree either
pub unsaid_unlike : (jobs : Jobs) (js : List Journal) (ts : List Transcript) (first : List Saying) → AreSayings first ts → SomeUnsaid jobs js first → AreAgreed jobs js ts → ⊥
unfolding SomeUnsaid
unsaid_unlike jobs js ts first sayings unsaid agreed =
    unsaid.2 (subst (λ (rest : Proc → List Due). AreSaid (new_server jobs unsaid.0) rest (journal_at js unsaid.0)) (λ i p. sym (rest_is first ts sayings p) i) (agreed.said unsaid.0 unsaid.1))
