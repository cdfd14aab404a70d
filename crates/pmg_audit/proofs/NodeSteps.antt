-- All journals that are replayed, one node further, and at their end.
use Rattle.std.proofs.Common.{◌≡◌, ◌⊎◌, ℕ, zero, suc, ◌+◌, ◌<◌, ◌≤◌, true, false, ◌==◌, cond, List, [], ◌∷◌, ◌++◌, length, map, get_or, Option, Some, None, inl, inr, refl, sym, ap, subst, ◌∙◌, arith}
use Rattle.std.proofs.lemmas.Bool.{false≢true}
use Rattle.std.proofs.lemmas.Bool.Decides.{nat_tests}
use Rattle.std.proofs.lemmas.List.{map-append, length-map, length_push, get_or_append_left, get_or_push}
use Rattle.std.proofs.lemmas.Option.{slice_get-get_or, slice_get_past}
use Rattle.pmg_value.specs.declared.process.Proc.{Proc}
use Rattle.pmg_jobinfo.specs.Jobs.{Jobs, home_of}
use Rattle.pmg_fence.specs.Entering.{same_proc}
use Rattle.pmg_node.specs.Opening.{new_server}
use Rattle.pmg_node.specs.Servers.{Server, after}
use Rattle.pmg_journal.specs.Calling.{caller_of}
use Rattle.pmg_journal.specs.Replays.{Happening}
use Rattle.pmg_journal.specs.declared.journal.Journal.{Journal}
use Rattle.pmg_audit.specs.Agreeing.{AreSaid, BeginsWith, IsSaidBy, rest_after, tail_of}
use Rattle.pmg_audit.specs.Codes.{all_of, lane_of, rest_of}
use Rattle.pmg_audit.specs.Dues.{Due, due_in}
use Rattle.pmg_audit.specs.Faults.{AreStale}
use Rattle.pmg_audit.specs.Moves.{Move, Replays, server_after, event_in}
use Rattle.pmg_audit.specs.Orders.{list_or_none, moves_at}
use Rattle.pmg_audit.specs.Replaying.{AddsNode, AllUnsaid, AreReplayed, AreUnsaid, HaveHappened, IsReplayed, SomeUnsaid, moves_by}
use Rattle.pmg_audit.specs.Runs.{journal_at}
use Rattle.pmg_audit.specs.declared.moves.Saying.{Saying}
use Rattle.pmg_audit.specs.declared.replaying.AllReplayed.{AllReplayed}
use Rattle.pmg_audit.specs.declared.replaying.Replay.{Replay}

same_index : (k n : ℕ) → (k == n) ≡ true → k ≡ n
same_index k n e = grind (arith, nat_tests)

-- ---- moves of one node more

before_push : (all : List (List Move)) (ms : List Move) (n : ℕ) → n < length all → moves_at (all ++ ms ∷ []) n ≡ moves_at all n
before_push [] ms n inside = absurd (omega (arith, inside))
before_push (x ∷ all) ms zero inside = refl
before_push (x ∷ all) ms (suc n) inside = before_push all ms n (omega (arith, inside))

at_push : (all : List (List Move)) (ms : List Move) (n : ℕ) → n ≡ length all → moves_at (all ++ ms ∷ []) n ≡ ms
at_push all ms n is = subst (λ k. moves_at (all ++ ms ∷ []) k ≡ ms) (sym is) (there all)
  where
    there : (xs : List (List Move)) → moves_at (xs ++ ms ∷ []) (length xs) ≡ ms
    there xs = ap list_or_none (slice_get-get_or (xs ++ ms ∷ []) (length xs) [] (let l = length_push xs ms in omega (arith, l)) ∙ ap Some (get_or_push xs ms [] (length xs) refl))

past_push : (all : List (List Move)) (ms : List Move) (n : ℕ) → length all < n → moves_at (all ++ ms ∷ []) n ≡ moves_at all n
past_push all ms n past =
    let l = length_push all ms in
    ap list_or_none (slice_get_past (all ++ ms ∷ []) n (omega (arith, l, past))) ∙ sym (ap list_or_none (slice_get_past all n (omega (arith, past))))

past_all : (all : List (List Move)) (n : ℕ) → length all ≤ n → moves_at all n ≡ []
past_all all n past = ap list_or_none (slice_get_past all n past)

-- where n is, of so many
pub three : (n k : ℕ) → (n < k) ⊎ ((n ≡ k) ⊎ (k < n))
three zero zero = inr (inl refl)
three zero (suc k) = inl (omega arith)
three (suc n) zero = inr (inr (omega arith))
three (suc n) (suc k) = elim (three n k) [
  | inl less ↦ inl (omega (arith, less))
  | inr rest ↦ elim rest [ inl same ↦ inr (inl (ap suc same)) | inr more ↦ inr (inr (omega (arith, more))) ]
]

not_away : (n k : ℕ) → n < k → n ≡ k → ⊥
not_away n k less same = omega (arith, less, same)

not_away_more : (n k : ℕ) → k < n → n ≡ k → ⊥
not_away_more n k less same = omega (arith, less, same)

-- ---- what is said by those at home

after_alike : (rest other : Proc → List Due) (caller : Option Proc) (p : Proc) → rest p ≡ other p → rest_after rest caller p ≡ rest_after other caller p
after_alike rest other None p same = same
after_alike rest other (Some q) p same = (λ i. cond (same_proc p q) (tail_of (same i)) (same i))

said_by_alike : (s : Server) (rest other : Proc → List Due) (caller : Option Proc) (e : Happening) → ((p : Proc) → home_of s.jobs p ≡ s.id → rest p ≡ other p) → IsSaidBy s rest caller e → IsSaidBy s other caller e
said_by_alike s rest other None e same said = tt
said_by_alike s rest other (Some p) e same said = (said.0, subst (λ ds. BeginsWith s p ds e) (same p said.0) said.1)

said_home : (es : List Happening) (s : Server) (rest other : Proc → List Due) → ((p : Proc) → home_of s.jobs p ≡ s.id → rest p ≡ other p) → AreSaid s rest es → AreSaid s other es
unfolding AreSaid
said_home [] s rest other same said = tt
said_home (e ∷ es) s rest other same said = (
  said_by_alike s rest other (caller_of e.act) e same said.0,
  said_home es (after s e.act) (rest_after rest (caller_of e.act)) (rest_after other (caller_of e.act)) (λ p home. after_alike rest other (caller_of e.act) p (same p home)) said.1,
)

-- ---- one node more

module _ (jobs : Jobs) (js : List Journal) (first : List Saying) (k : ℕ) (r : AllReplayed) (ss : List Saying) (done : AreReplayed jobs js first k r ss) (inside : k < length jobs.nodes)
    (one : Replay) (ss2 : List Saying) (replay : IsReplayed (new_server jobs k) ss (journal_at js k) one ss2) (r2 : AllReplayed)
    (nodes : r2.nodes.items ≡ r.nodes.items ++ one.node ∷ []) (lanes : r2.lanes.items ≡ r.lanes.items ++ one.lane ∷ [])
    (fresh : r2.is_stale ≡ false → (r.is_stale ≡ false) × (one.is_stale ≡ false)) (stale : r2.is_stale ≡ true → (r.is_stale ≡ true) ⊎ (one.is_stale ≡ true)) where
  abbrev all : List (List Move)
  all = all_of r.lanes.items

  abbrev ms : List Move
  ms = lane_of one.lane

  all_is : all_of r2.lanes.items ≡ all ++ ms ∷ []
  all_is = ap all_of lanes ∙ map-append lane_of r.lanes.items (one.lane ∷ [])

  count : length all ≡ k
  count = length-map r.lanes.items lane_of ∙ done.lanes

  old_at : (n : ℕ) → n < k → moves_at (all_of r2.lanes.items) n ≡ moves_at all n
  old_at n less = ap (λ a. moves_at a n) all_is ∙ before_push all ms n (subst (λ l. n < l) (sym count) less)

  new_at : (n : ℕ) → n ≡ k → moves_at (all_of r2.lanes.items) n ≡ ms
  new_at n same = ap (λ a. moves_at a n) all_is ∙ at_push all ms n (same ∙ sym count)

  later_at : (n : ℕ) → k < n → moves_at (all_of r2.lanes.items) n ≡ moves_at all n
  later_at n more = ap (λ a. moves_at a n) all_is ∙ past_push all ms n (subst (λ l. l < n) (sym count) more)

  none_at : (n : ℕ) → k ≤ n → moves_at all n ≡ []
  none_at n past = past_all all n (subst (λ l. l ≤ n) (sym count) past)

  -- what holds of each of the nodes before, and of this one
  for_each : (P : ℕ → List Move → Type 0) → ((n : ℕ) → n < k → P n (moves_at all n)) → P k ms → (n : ℕ) → n < k + 1 → P n (moves_at (all_of r2.lanes.items) n)
  for_each P before now n less = elim (three n k) [
    | inl l ↦ subst (P n) (sym (old_at n l)) (before n l)
    | inr rest ↦ elim rest [
      | inl same ↦ subst (P n) (sym (new_at n same)) (subst (λ i. P i ms) (sym same) now)
      | inr more ↦ absurd (omega (arith, less, more))
    ]
  ]

  ends_now : (n : ℕ) (d : Server) → n < k + 1 → get_or r2.nodes.items n d ≡ server_after (new_server jobs n) (moves_at (all_of r2.lanes.items) n)
  ends_now n d less = elim (three n k) [
    | inl l ↦ ap (λ xs. get_or xs n d) nodes ∙ get_or_append_left r.nodes.items (one.node ∷ []) d n (subst (λ c. n < c) (sym done.nodes) l) ∙ done.ends n d l
        ∙ ap (server_after (new_server jobs n)) (sym (old_at n l))
    | inr rest ↦ elim rest [
      | inl same ↦ ap (λ xs. get_or xs n d) nodes ∙ get_or_push r.nodes.items one.node d n (done.nodes ∙ sym same) ∙ replay.node ∙ ap (λ i. server_after (new_server jobs i) ms) (sym same)
          ∙ ap (server_after (new_server jobs n)) (sym (new_at n same))
      | inr more ↦ absurd (omega (arith, less, more))
    ]
  ]

  rests_now : (p : Proc) → rest_of first p ≡ map due_in (moves_by p (moves_at (all_of r2.lanes.items) (home_of jobs p))) ++ rest_of ss2 p
  rests_now p = elim (three (home_of jobs p) k) [
    | inl l ↦ done.rests p ∙ (λ i. map due_in (moves_by p (sym (old_at (home_of jobs p) l) i)) ++ away (not_away (home_of jobs p) k l) i)
    | inr rest ↦ elim rest [
      | inl same ↦ done.rests p ∙ ap (λ l. map due_in (moves_by p l) ++ rest_of ss p) (none_at (home_of jobs p) (omega (arith, same))) ∙ replay.rests p
          ∙ ap (λ l. map due_in (moves_by p l) ++ rest_of ss2 p) (sym (new_at (home_of jobs p) same))
      | inr more ↦ done.rests p ∙ (λ i. map due_in (moves_by p (sym (later_at (home_of jobs p) more) i)) ++ away (not_away_more (home_of jobs p) k more) i)
    ]
  ]
    where
      away : (home_of jobs p ≡ k → ⊥) → rest_of ss p ≡ rest_of ss2 p
      away far = replay.rests p ∙ ap (λ l. map due_in l ++ rest_of ss2 p) (replay.home p far)

  said_here : AreSaid (new_server jobs k) (rest_of first) (journal_at js k)
  said_here =
      said_home (journal_at js k) (new_server jobs k) (rest_of ss) (rest_of first)
      (λ p home. sym (done.rests p ∙ ap (λ l. map due_in (moves_by p l) ++ rest_of ss p) (none_at (home_of jobs p) (omega (arith, home))))) replay.said

  said_now : (n : ℕ) → n < k + 1 → AreSaid (new_server jobs n) (rest_of first) (journal_at js n)
  said_now n less = elim (three n k) [
    | inl l ↦ done.said n l
    | inr rest ↦ elim rest [
      | inl same ↦ subst (λ i. AreSaid (new_server jobs i) (rest_of first) (journal_at js i)) (sym same) said_here
      | inr more ↦ absurd (omega (arith, less, more))
    ]
  ]

  stale_now : (r.is_stale ≡ true) ⊎ (one.is_stale ≡ true) → AreStale jobs js
  unfolding AreStale
  stale_now (inl before) = done.stale before
  stale_now (inr now) = (k, inside, replay.stale now)

  pub nodes_more : AreReplayed jobs js first (k + 1) r2 ss2
  nodes_more = record {
    nodes = ap length nodes ∙ length_push r.nodes.items one.node ∙ ap (λ n. n + 1) done.nodes;
    lanes = ap length lanes ∙ length_push r.lanes.items one.lane ∙ ap (λ n. n + 1) done.lanes;
    ends = ends_now;
    events = for_each (λ n l. map event_in l ≡ journal_at js n) done.events replay.events;
    fresh = λ f. let both = fresh f in for_each (λ n l. Replays (new_server jobs n) l) (done.fresh both.0) (replay.fresh both.1);
    stale = λ t. stale_now (stale t);
    rests = rests_now;
    said = said_now;
    lasts = replay.lasts ∙ done.lasts;
  }

-- no journal is replayed yet
pub nodes_none : (jobs : Jobs) (js : List Journal) (first : List Saying) (r : AllReplayed) → r.nodes.items ≡ [] → r.lanes.items ≡ [] → r.is_stale ≡ false → AreReplayed jobs js first 0 r first
nodes_none jobs js first r nodes lanes stale = record {
  nodes = ap length nodes;
  lanes = ap length lanes;
  ends = λ n d less. absurd (omega (arith, less));
  events = λ n less. absurd (omega (arith, less));
  fresh = λ f n less. absurd (omega (arith, less));
  stale = λ t. absurd (false≢true (sym stale ∙ t));
  rests = λ p. sym (ap (λ l. map due_in (moves_by p l) ++ rest_of first p) (ap (λ xs. moves_at (all_of xs) (home_of jobs p)) lanes));
  said = λ n less. absurd (omega (arith, less));
  lasts = refl;
}

-- ---- an event that is not said

pub not_said_at : (jobs : Jobs) (js : List Journal) (first : List Saying) (k : ℕ) (r : AllReplayed) (ss : List Saying) → AreReplayed jobs js first k r ss → k < length jobs.nodes
    → (AreSaid (new_server jobs k) (rest_of ss) (journal_at js k) → ⊥) → AreUnsaid jobs js (rest_of first)
not_said_at jobs js first k r ss done inside not = (
  k,
  inside,
  λ said. not (said_home (journal_at js k) (new_server jobs k) (rest_of first) (rest_of ss)
      (λ p home. done.rests p ∙ ap (λ l. map due_in (moves_by p l) ++ rest_of ss p) (past_all (all_of r.lanes.items) (home_of jobs p)
      (let count = length-map r.lanes.items lane_of ∙ done.lanes in omega (arith, count, home)))) said),
)

-- ---- as clauses say it

pub adds_node : (jobs : Jobs) (js : List Journal) (k : ℕ) (r : AllReplayed) (ss : List Saying) → k < length jobs.nodes → (one : Replay) (ss2 : List Saying)
    → HaveHappened (new_server jobs k) ss (journal_at js k) one ss2 → (r2 : AllReplayed) → r2.nodes.items ≡ r.nodes.items ++ one.node ∷ [] → r2.lanes.items ≡ r.lanes.items ++ one.lane ∷ []
    → (r2.is_stale ≡ false → (r.is_stale ≡ false) × (one.is_stale ≡ false)) → (r2.is_stale ≡ true → (r.is_stale ≡ true) ⊎ (one.is_stale ≡ true)) → AddsNode jobs js k r ss r2 ss2
unfolding HaveHappened AddsNode
adds_node jobs js k r ss inside one ss2 replay r2 nodes lanes fresh stale = λ first done. nodes_more jobs js first k r ss done inside one ss2 replay r2 nodes lanes fresh stale

pub node_added : (jobs : Jobs) (js : List Journal) (first : List Saying) (k : ℕ) (r : AllReplayed) (ss : List Saying) (r2 : AllReplayed) (ss2 : List Saying)
    → AreReplayed jobs js first k r ss → AddsNode jobs js k r ss r2 ss2 → AreReplayed jobs js first (k + 1) r2 ss2
unfolding AddsNode
node_added jobs js first k r ss r2 ss2 done adds = adds first done

pub some_unsaid : (jobs : Jobs) (js : List Journal) (first : List Saying) (k : ℕ) (r : AllReplayed) (ss : List Saying) → AreReplayed jobs js first k r ss → k < length jobs.nodes
    → AllUnsaid (new_server jobs k) ss (journal_at js k) → SomeUnsaid jobs js first
unfolding AllUnsaid SomeUnsaid
some_unsaid jobs js first k r ss done inside not = not_said_at jobs js first k r ss done inside not
