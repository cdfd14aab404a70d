-- What is told in an order is a run of the world.
use Rattle.std.proofs.Common.{◌≡◌, ◌⊎◌, ℕ, ◌<◌, Bool, true, false, ◌==◌, cond, List, [], ◌∷◌, ◌++◌, length, map, get_or, set, Option, Some, None, inl, inr, Ok, refl, sym, ap, subst, ◌∙◌, append_assoc, arith, lt-ltb}
use Rattle.std.proofs.lemmas.Bool.{false≢true}
use Rattle.std.proofs.lemmas.Bool.Decides.{nat_tests}
use Rattle.std.proofs.lemmas.List.{append-nil, get_or_default, get_or-set_same, get_or-set_other, length-set}
use Rattle.std.specs.Cmp.{Equal-is}
use Rattle.pmg_value.specs.CheckOrder.{first_of}
use Rattle.pmg_value.specs.declared.process.Proc.{Proc}
use Rattle.pmg_value.proofs.ProcessOrder.{exact_procs}
use Rattle.pmg_scope.specs.Cached.{Cached}
use Rattle.pmg_jobinfo.specs.Jobs.{Jobs, AreJobs, home_of, is_node}
use Rattle.pmg_fence.specs.Entering.{same_proc}
use Rattle.pmg_fence.specs.Rules.{Scripts}
use Rattle.pmg_fence.proofs.EntryLemmas.{proc_itself}
use Rattle.pmg_node_model.specs.Acts.{Act, Reply, Request, free_cause, says}
use Rattle.pmg_node_model.specs.Fitting.{is_refusal, unless_refused}
use Rattle.pmg_node_model.specs.Holdings.{NodeState}
use Rattle.pmg_node_model.specs.Sending.{NodeStep}
use Rattle.pmg_node_model.specs.declared.sent.Sent.{Sent}
use Rattle.pmg_node.specs.Servers.{Server, after, reply_to, sent_by}
use Rattle.pmg_group_model.specs.Worlds.{Doing, Does, Event, Happened, Run, Step, World, with_holding_at, numbered, said_in}
use Rattle.pmg_caches.specs.Caching.{AllCached, cached_for}
use Rattle.pmg_world.specs.Keeping.{AreCaches, AreNodes, IsNodeOf}
use Rattle.pmg_world.proofs.ActLemmas.{act_keeps, act_steps}
use Rattle.pmg_world.proofs.PutLemmas.{free_at}
use Rattle.pmg_group_model.proofs.RunLemmas.{next_run, run_both, run_none}
use Rattle.pmg_world.proofs.StartLemmas.{some_server}
use Rattle.pmg_journal.specs.Calling.{caller_of, is_by, is_caller}
use Rattle.pmg_audit.specs.Moves.{AllPut, FitsMove, Move, Put, PutsAt, PutsFit, Replays, Seals, cache_next, cache_then, server_after, event_in, is_own_ask, put_all}
use Rattle.pmg_audit.specs.Orders.{IsEventOf, TellsMoves, event_happened, put_rest, puts_told}
use Rattle.pmg_audit.specs.Runs.{events_at, place_of, with_place}
use Rattle.pmg_audit.proofs.ActSteps.{IsDone, act_done}
use Rattle.pmg_audit.proofs.PutSteps.{PutsDone, puts_done, with_scripts}
use Rattle.pmg_audit.proofs.LaneLemmas.{numbered_stays}

-- ---- basics

same_index : (k n : ℕ) → (k == n) ≡ true → k ≡ n
same_index k n e = grind (arith, nat_tests)

other_index : (k n : ℕ) → (k == n) ≡ false → k ≡ n → ⊥
other_index k n e same = grind (arith, nat_tests)

same_caller : (p q : Proc) → same_proc p q ≡ true → p ≡ q
same_caller p q e = exact_procs p q ((Equal-is _).0 e)

-- an act that is a get of one's own has a caller
own_ask_called : (a : Act) → ((p : Proc) → is_by p a ≡ true → is_own_ask a ≡ false) → is_own_ask a ≡ false
own_ask_called (Act.commit p b) none = refl
own_ask_called (Act.deliver frame) none = refl
own_ask_called (Act.request (Request.enter p list collect)) none = refl
own_ask_called (Act.request (Request.leave p)) none = refl
own_ask_called (Act.request (Request.ask p get mode)) none = none p (proc_itself p)
own_ask_called (Act.request (Request.take p)) none = refl
own_ask_called (Act.request (Request.terminate p)) none = refl
own_ask_called (Act.request (Request.define name list)) none = refl
own_ask_called (Act.request (Request.delete name)) none = refl
own_ask_called (Act.request Request.nudge) none = refl

-- ---- the puts before an act

-- the scripts and caches once the puts of the caller are done
record PutsStage (jobs : Jobs) (w : World) (all : AllCached) (caller : Option Proc) (puts : List Put) : Type 0 where
  scripts : Scripts
  caches : AllCached
  run : Run jobs w (puts_told caller puts) (with_scripts w scripts)
  kept : AreCaches caches scripts
  own : (q : Proc) → cached_for caches q ≡ cond (is_caller q caller) (put_all (cached_for all q) puts) (cached_for all q)
  told : (frames : List Sent) (n : ℕ) (xs : List Happened) → events_at jobs w.scripts frames n (puts_told caller puts ++ xs) ≡ events_at jobs scripts frames n xs

none_put : (jobs : Jobs) (w : World) (all : AllCached) → AreCaches all w.scripts → PutsStage jobs w all None []
none_put jobs w all kept = record { scripts = w.scripts; caches = all; run = run_none jobs w; kept = kept; own = λ q. refl; told = λ frames n xs. refl }

cond_either : (b : Bool) (x y z : Cached) → (b ≡ true → x ≡ y) → (b ≡ false → x ≡ z) → x ≡ cond b y z
cond_either true x y z one other = one refl
cond_either false x y z one other = other refl

stage_of : (jobs : Jobs) (w : World) (all : AllCached) (p : Proc) (puts : List Put) → PutsDone jobs w all p puts → PutsStage jobs w all (Some p) puts
stage_of jobs w all p puts done = record {
  scripts = done.scripts;
  caches = done.caches;
  run = done.run;
  kept = done.kept;
  own = λ q. cond_either (same_proc q p) (cached_for done.caches q) (put_all (cached_for all q) puts) (cached_for all q)
      (λ e. subst (λ (r : Proc). cached_for done.caches r ≡ put_all (cached_for all r) puts) (sym (same_caller q p e)) done.own)
      (done.others q);
  told = done.told;
}

none_stage : (jobs : Jobs) (w : World) (all : AllCached) (p : Proc) → AreCaches all w.scripts → PutsStage jobs w all (Some p) []
none_stage jobs w all p kept = record {
  scripts = w.scripts;
  caches = all;
  run = run_none jobs w;
  kept = kept;
  own = λ q. cond_either (same_proc q p) (cached_for all q) (cached_for all q) (cached_for all q) (λ e. refl) (λ e. refl);
  told = λ frames n xs. refl;
}

puts_stage : (jobs : Jobs) (w : World) (all : AllCached) → AreCaches all w.scripts → (n : ℕ) (s : Server) → IsNodeOf jobs n (w.nodes n) s
    → (caller : Option Proc) (puts : List Put) → PutsAt s caller puts → ((p : Proc) → is_caller p caller ≡ true → AllPut (cached_for all p) puts) → PutsStage jobs w all caller puts
puts_stage jobs w all kept n s of None puts at takes = subst (PutsStage jobs w all None) (sym at) (none_put jobs w all kept)
puts_stage jobs w all kept n s of (Some p) puts at takes = by at.1
  where
    home : home_of jobs p ≡ n
    home = ap (λ (j : Jobs). home_of j p) (sym of.jobs_same) ∙ at.0 ∙ of.id_same

    by : (puts ≡ []) ⊎ (first_of (free_cause s.jobs s.id s.holding p) (tt {0}) ≡ Ok tt) → PutsStage jobs w all (Some p) puts
    by (inl none) = subst (PutsStage jobs w all (Some p)) (sym none) (none_stage jobs w all p kept)
    by (inr free) =
        stage_of jobs w all p puts
        (puts_done jobs puts w all p kept
        (subst (λ k. first_of (free_cause jobs k (w.nodes k) p) (tt {0}) ≡ Ok tt) (sym home) (free_at jobs n (w.nodes n) s p (Ok tt) of (sym free)))
        (takes p (proc_itself p)))

-- ---- one move

-- where the world stands, of which these moves are left at each node
pub record IsAt (jobs : Jobs) (js : ℕ → List Move) (servers : List Server) (all : AllCached) (w : World) : Type 0 where
  pub nodes : AreNodes jobs servers w.nodes
  pub caches : AreCaches all w.scripts
  pub inside : (n : ℕ) (m : Move) (rest : List Move) → js n ≡ m ∷ rest → n < length servers
  pub replays : (n : ℕ) (d : Server) → n < length servers → Replays (get_or servers n d) (js n)
  pub fits : (p : Proc) → PutsFit p (cached_for all p) (js (home_of jobs p))

-- the first of the moves is a replay, and so are the others after it
record FirstOf (s : Server) (m : Move) (rest : List Move) : Type 0 where
  reply : reply_to s m.act ≡ m.reply
  frames : m.frames ≡ sent_by s m.act
  puts : PutsAt s (caller_of m.act) m.puts
  others : Replays (after s m.act) rest

first_of_all : (s : Server) (m : Move) (rest : List Move) → Replays s (m ∷ rest) → FirstOf s m rest
unfolding Replays
first_of_all s m rest all = record { reply = all.0; frames = all.1; puts = all.2; others = all.3 }

record FirstFits (p : Proc) (c : Cached) (m : Move) (rest : List Move) : Type 0 where
  first : FitsMove p c m
  others : PutsFit p (cache_next p c m) rest

first_fits : (p : Proc) (c : Cached) (m : Move) (rest : List Move) → PutsFit p c (m ∷ rest) → FirstFits p c m rest
unfolding PutsFit
first_fits p c m rest fits = record { first = fits.0; others = fits.1 }

-- a caller is at home at the node
home_by : (jobs : Jobs) (n : ℕ) (h : NodeState) (s : Server) (caller : Option Proc) (puts : List Put) → IsNodeOf jobs n h s → PutsAt s caller puts → (p : Proc) → is_caller p caller ≡ true → home_of jobs p ≡ n
home_by jobs n h s None puts of at p by = absurd (false≢true by)
home_by jobs n h s (Some q) puts of at p by =
    ap (home_of jobs) (same_caller p q by) ∙ ap (λ (j : Jobs). home_of j q) (sym of.jobs_same) ∙ at.0 ∙ of.id_same

-- what the next move does
pub record Moved (jobs : Jobs) (final : List Sent) (js : ℕ → List Move) (w : World) (n : ℕ) (m : Move) (rest : List Move) (e : Event) (servers : List Server) : Type 0 where
  pub scripts : Scripts
  pub nodes : ℕ → NodeState
  pub caches : AllCached
  pub run : Run jobs w (puts_told (caller_of m.act) m.puts ++ event_happened e m.reply ∷ []) (record { scripts = scripts; nodes = nodes; sent = w.sent ++ m.frames })
  pub at : IsAt jobs (put_rest js n rest) servers caches (record { scripts = scripts; nodes = nodes; sent = w.sent ++ m.frames })
  pub told : (k : ℕ) (others : List Happened) → events_at jobs w.scripts final k (puts_told (caller_of m.act) m.puts ++ event_happened e m.reply ∷ others)
      ≡ with_place k (Some (n, event_in m)) (events_at jobs scripts final k others)

next_cache : (b : Bool) (c d e : Cached) (f g : Cached → Cached) → d ≡ cond b (f c) c → e ≡ cond b (g d) d → e ≡ cond b (g (f c)) c
next_cache true c d e f g one two = two ∙ ap g one
next_cache false c d e f g one two = two ∙ one

told_next : (jobs : Jobs) (scripts : Scripts) (final : List Sent) (k n : ℕ) (e : Event) (m : Move) (others : List Happened)
    → place_of scripts final e m.reply ≡ Some (n, event_in m) → (said : Scripts) → said ≡ unless_refused (is_refusal m.reply) scripts (says jobs m.act)
    → unless_refused (is_refusal m.reply) scripts (said_in jobs e) ≡ unless_refused (is_refusal m.reply) scripts (says jobs m.act)
    → events_at jobs scripts final k (event_happened e m.reply ∷ others) ≡ with_place k (Some (n, event_in m)) (events_at jobs said final k others)
unfolding events_at
told_next jobs scripts final k n e m others place said is same =
    (λ i. with_place k (place i) (events_at jobs (same i) final k others)) ∙ ap (λ (x : Scripts). with_place k (Some (n, event_in m)) (events_at jobs x final k others)) (sym is)

module _ (jobs : Jobs) (are : AreJobs jobs) (final : List Sent) (js : ℕ → List Move) (servers : List Server) (all : AllCached) (w : World) (at : IsAt jobs js servers all w)
    (n : ℕ) (m : Move) (rest : List Move) (e : Event) (next : js n ≡ m ∷ rest) where
  abbrev s : Server
  s = get_or servers n (some_server jobs)

  within : n < length servers
  within = at.inside n m rest next

  of : IsNodeOf jobs n (w.nodes n) s
  of = at.nodes.each n (some_server jobs) within

  first : FirstOf s m rest
  first = first_of_all s m rest (subst (Replays s) next (at.replays n (some_server jobs) within))

  home : (p : Proc) → is_by p m.act ≡ true → home_of jobs p ≡ n
  home p by = home_by jobs n (w.nodes n) s (caller_of m.act) m.puts of first.puts p by

  fits_next : (p : Proc) → home_of jobs p ≡ n → FirstFits p (cached_for all p) m rest
  fits_next p is = first_fits p (cached_for all p) m rest (subst (PutsFit p (cached_for all p)) (ap js is ∙ next) (at.fits p))

  fits_first : (p : Proc) → is_by p m.act ≡ true → AllPut (cached_for all p) m.puts × Seals (put_all (cached_for all p) m.puts) m.act × (is_own_ask m.act ≡ false)
  fits_first p by = (fits_next p (home p by)).first by

  stage : PutsStage jobs w all (caller_of m.act) m.puts
  stage = puts_stage jobs w all at.caches n s of (caller_of m.act) m.puts first.puts (λ p by. (fits_first p by).0)

  abbrev new_servers : List Server
  new_servers = set servers n (after s m.act)

  move_done : (is_node jobs n ≡ true) → IsEventOf w.sent n m.act e → ((i : ℕ) (x : Sent) → numbered w.sent i ≡ Some x → numbered final i ≡ Some x)
      → IsDone jobs (with_scripts w stage.scripts) stage.caches final n m.act e m.reply
  move_done node event grows =
      subst (IsDone jobs (with_scripts w stage.scripts) stage.caches final n m.act e) first.reply
      (act_done jobs (with_scripts w stage.scripts) stage.caches stage.kept final n node s m.act e event grows
      (λ p by. (subst (λ (c : Cached). Seals c m.act) (sym (stage.own p ∙ ap (λ b. cond b (put_all (cached_for all p) m.puts) (cached_for all p)) by)) (fits_first p by).1, (fits_first p by).2))
      (own_ask_called m.act (λ p by. (fits_first p by).2)))

  module _ (node : is_node jobs n ≡ true) (done : IsDone jobs (with_scripts w stage.scripts) stage.caches final n m.act e m.reply) where
    abbrev left : World
    left = record { scripts = unless_refused (is_refusal m.reply) stage.scripts (says jobs m.act); nodes = with_holding_at w.nodes n (after s m.act).holding; sent = w.sent ++ m.frames }

    node_steps : NodeStep jobs n (w.nodes n) m.act m.reply (after s m.act).holding m.frames
    node_steps =
        subst (λ (r : Reply). NodeStep jobs n (w.nodes n) m.act r (after s m.act).holding m.frames) first.reply
        (subst (NodeStep jobs n (w.nodes n) m.act (reply_to s m.act) (after s m.act).holding) (sym first.frames)
        (act_steps jobs are servers w.nodes at.nodes n (some_server jobs) within m.act))

    event_step : Step jobs (with_scripts w stage.scripts) e m.reply left
    event_step = subst (λ (d : Doing). Does jobs (with_scripts w stage.scripts) d m.reply left) (sym done.doing_is)
        (record { new = (after s m.act).holding; out = m.frames; step = node_steps; left = refl })

    still_inside : (k : ℕ) (x : Move) (xs : List Move) (b : Bool) → (k == n) ≡ b → cond b rest (js k) ≡ x ∷ xs → k < length new_servers
    still_inside k x xs true e is = subst (λ i. i < length new_servers) (sym (same_index k n e)) (subst (λ l. n < l) (sym (length-set servers n (after s m.act))) within)
    still_inside k x xs false e is = subst (λ l. k < l) (sym (length-set servers n (after s m.act))) (at.inside k x xs is)

    still_replays : (k : ℕ) (d : Server) → k < length servers → (b : Bool) → (k == n) ≡ b → Replays (get_or new_servers k d) (cond b rest (js k))
    still_replays k d inside true e =
        subst (λ i. Replays (get_or new_servers i d) rest) (sym (same_index k n e)) (subst (λ (x : Server). Replays x rest) (sym (get_or-set_same servers n (after s m.act) d within)) first.others)
    still_replays k d inside false e = subst (λ (x : Server). Replays x (js k)) (sym (get_or-set_other servers n k (after s m.act) d (other_index k n e))) (at.replays k d inside)

    cache_is : (p : Proc) → cached_for done.caches p ≡ cache_next p (cached_for all p) m
    cache_is p = next_cache (is_by p m.act) (cached_for all p) (cached_for stage.caches p) (cached_for done.caches p) (λ (c : Cached). put_all c m.puts) (λ (c : Cached). cache_then c m.act m.reply)
        (stage.own p) (done.own p)

    not_by : (p : Proc) → (home_of jobs p ≡ n → ⊥) → (b : Bool) → is_by p m.act ≡ b → b ≡ false
    not_by p away true by = absurd (away (home p by))
    not_by p away false by = refl

    still_fits : (p : Proc) (b : Bool) → (home_of jobs p == n) ≡ b → PutsFit p (cached_for done.caches p) (cond b rest (js (home_of jobs p)))
    still_fits p true is = subst (λ (c : Cached). PutsFit p c rest) (sym (cache_is p)) (fits_next p (same_index (home_of jobs p) n is)).others
    still_fits p false is =
        let away = not_by p (other_index (home_of jobs p) n is) (is_by p m.act) refl in
        subst (λ (c : Cached). PutsFit p c (js (home_of jobs p)))
        (sym (cache_is p ∙ ap (λ b. cond b (cache_then (put_all (cached_for all p) m.puts) m.act m.reply) (cached_for all p)) away)) (at.fits p)

    moved : Moved jobs final js w n m rest e new_servers
    moved = record {
      scripts = left.scripts;
      nodes = left.nodes;
      caches = done.caches;
      run = run_both jobs (puts_told (caller_of m.act) m.puts) (event_happened e m.reply ∷ []) w (with_scripts w stage.scripts) left stage.run
          (next_run jobs (with_scripts w stage.scripts) (event_happened e m.reply) [] left (record { mid = left; step = event_step; rest = run_none jobs left }));
      at = record {
        nodes = act_keeps jobs are servers w.nodes at.nodes n (some_server jobs) within m.act;
        caches = done.kept;
        inside = λ k x xs is. still_inside k x xs (k == n) refl is;
        replays = λ k d inside. still_replays k d (subst (λ l. k < l) (length-set servers n (after s m.act)) inside) (k == n) refl;
        fits = λ p. still_fits p (home_of jobs p == n) refl;
      };
      told = λ k others. stage.told final k (event_happened e m.reply ∷ others)
          ∙ told_next jobs stage.scripts final k n e m others done.place left.scripts refl (ap (unless_refused (is_refusal m.reply) stage.scripts) done.said);
    }

  -- the move is made
  pub one_move : IsEventOf w.sent n m.act e → ((i : ℕ) (x : Sent) → numbered w.sent i ≡ Some x → numbered final i ≡ Some x) → Moved jobs final js w n m rest e new_servers
  one_move event grows =
      let node : is_node jobs n ≡ true = lt-ltb n (length jobs.nodes) (subst (λ l. n < l) at.nodes.count within) in
      moved node (move_done node event grows)

-- ---- all moves

-- frames are told after those that were sent
pub record Grows (frames final : List Sent) : Type 0 where
  pub more : List Sent
  pub is : final ≡ frames ++ more

pub tells_grow : (order : List ℕ) (js : ℕ → List Move) (frames : List Sent) (xs : List Happened) (final : List Sent) → TellsMoves js frames order xs final → Grows frames final
unfolding TellsMoves
tells_grow [] js frames xs final tells = record { more = []; is = tells.2 ∙ sym (append-nil frames) }
tells_grow (n ∷ order) js frames xs final tells =
    let later = tells_grow order (put_rest js n tells.1) (frames ++ tells.0.frames) tells.3 final tells.7 in
    record { more = tells.0.frames ++ later.more; is = later.is ∙ append_assoc frames tells.0.frames later.more }

-- what is told is a run, and tells each node's moves
pub record Woven (jobs : Jobs) (final : List Sent) (js : ℕ → List Move) (servers : List Server) (w : World) (xs : List Happened) : Type 0 where
  pub after : World
  pub run : Run jobs w xs after
  pub sent : after.sent ≡ final
  pub ends : (n : ℕ) (d : Server) → n < length servers → IsNodeOf jobs n (after.nodes n) (server_after (get_or servers n d) (js n))
  pub events : (n : ℕ) → events_at jobs w.scripts final n xs ≡ map event_in (js n)

none_told : (jobs : Jobs) (scripts : Scripts) (final : List Sent) (n : ℕ) → events_at jobs scripts final n [] ≡ []
unfolding events_at
none_told jobs scripts final n = refl

woven_none : (jobs : Jobs) (final : List Sent) (js : ℕ → List Move) (servers : List Server) (all : AllCached) (w : World) (xs : List Happened) → IsAt jobs js servers all w
    → ((n : ℕ) → js n ≡ []) → xs ≡ [] → final ≡ w.sent → Woven jobs final js servers w xs
woven_none jobs final js servers all w xs at none nothing same = record {
  after = w;
  run = subst (λ l. Run jobs w l w) (sym nothing) (run_none jobs w);
  sent = sym same;
  ends = λ n d inside. subst (λ l. IsNodeOf jobs n (w.nodes n) (server_after (get_or servers n d) l)) (sym (none n)) (at.nodes.each n d inside);
  events = λ n. ap (events_at jobs w.scripts final n) nothing ∙ none_told jobs w.scripts final n ∙ ap (map event_in) (sym (none n));
}

placed : (k n : ℕ) (m : Move) (rest more : List Move) (b : Bool) → (k == n) ≡ b → (k ≡ n → more ≡ m ∷ rest)
    → cond b (event_in m ∷ map event_in (cond b rest more)) (map event_in (cond b rest more)) ≡ map event_in more
placed k n m rest more true e is = ap (map event_in) (sym (is (same_index k n e)))
placed k n m rest more false e is = refl

ends_on : (jobs : Jobs) (k n : ℕ) (h : NodeState) (servers : List Server) (d c : Server) (m : Move) (rest more : List Move) → n < length servers → (b : Bool) → (k == n) ≡ b → (k ≡ n → more ≡ m ∷ rest)
    → IsNodeOf jobs k h (server_after (get_or (set servers n (after (get_or servers n c) m.act)) k d) (cond b rest more)) → IsNodeOf jobs k h (server_after (get_or servers k d) more)
ends_on jobs k n h servers d c m rest more inside true e is stands =
    let same = same_index k n e in
    let server : get_or (set servers n (after (get_or servers n c) m.act)) k d ≡ after (get_or servers k d) m.act =
    ap (λ i. get_or (set servers n (after (get_or servers n c) m.act)) i d) same ∙ get_or-set_same servers n (after (get_or servers n c) m.act) d inside
    ∙ ap (λ (x : Server). after x m.act) (get_or_default servers n c d inside) ∙ ap (λ i. after (get_or servers i d) m.act) (sym same) in
    subst (λ l. IsNodeOf jobs k h (server_after (get_or servers k d) l)) (sym (is same)) (subst (λ (x : Server). IsNodeOf jobs k h (server_after x rest)) server stands)
ends_on jobs k n h servers d c m rest more inside false e is stands =
    subst (λ (x : Server). IsNodeOf jobs k h (server_after x more)) (get_or-set_other servers n k (after (get_or servers n c) m.act) d (other_index k n e)) stands

-- what is told in an order is a run
pub weave : (jobs : Jobs) → AreJobs jobs → (final : List Sent) (order : List ℕ) (js : ℕ → List Move) (servers : List Server) (all : AllCached) (w : World) (xs : List Happened)
    → IsAt jobs js servers all w → TellsMoves js w.sent order xs final → Woven jobs final js servers w xs
unfolding TellsMoves
weave jobs are final [] js servers all w xs at tells = woven_none jobs final js servers all w xs at tells.0 tells.1 tells.2
weave jobs are final (n ∷ order) js servers all w xs at tells =
    let m : Move = tells.0 in
    let rest = tells.1 in
    let e : Event = tells.2 in
    let others = tells.3 in
    let next = tells.4 in
    let grows = tells_grow order (put_rest js n rest) (w.sent ++ m.frames) others final tells.7 in
    let later : final ≡ w.sent ++ (m.frames ++ grows.more) = grows.is ∙ append_assoc w.sent m.frames grows.more in
    let step = one_move jobs are final js servers all w at n m rest e next tells.5
    (λ i x there. subst (λ l. numbered l i ≡ Some x) (sym later) (numbered_stays w.sent (m.frames ++ grows.more) i x there)) in
    let mid : World = record { scripts = step.scripts; nodes = step.nodes; sent = w.sent ++ m.frames } in
    let servers2 = set servers n (after (get_or servers n (some_server jobs)) m.act) in
    let done = weave jobs are final order (put_rest js n rest) servers2 step.caches mid others step.at tells.7 in
    let puts = puts_told (caller_of m.act) m.puts in
    record {
      after = done.after;
      run = subst (λ l. Run jobs w l done.after) (append_assoc puts (event_happened e m.reply ∷ []) others ∙ sym tells.6)
          (run_both jobs (puts ++ event_happened e m.reply ∷ []) others w mid done.after step.run done.run);
      sent = done.sent;
      ends = λ k d inside. ends_on jobs k n (done.after.nodes k) servers d (some_server jobs) m rest (js k) (at.inside n m rest next) (k == n) refl (λ same. ap js same ∙ next)
          (done.ends k d (subst (λ l. k < l) (sym (length-set servers n (after (get_or servers n (some_server jobs)) m.act))) inside));
      events = λ k. ap (events_at jobs w.scripts final k) tells.6 ∙ step.told k others ∙ ap (with_place k (Some (n, event_in m))) (done.events k)
          ∙ placed k n m rest (js k) (k == n) refl (λ same. ap js same ∙ next);
    }
