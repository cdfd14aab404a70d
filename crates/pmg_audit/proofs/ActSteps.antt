-- An act of a node, as an event of the world.
use Rattle.std.proofs.Common.{◌≡◌, ◌⊎◌, ℕ, Bool, true, false, cond, List, Option, Some, None, is_some, option_map, inl, inr, refl, sym, ap, subst, ◌∙◌}
use Rattle.std.specs.FinMap as finite
use Rattle.std.specs.Option.{unwrap_or}
use Rattle.pmg_value.specs.Rows.{changed_at}
use Rattle.pmg_value.specs.declared.process.Proc.{Proc}
use Rattle.pmg_value.proofs.ProcessOrder.{exact_procs, procs_total}
use Rattle.std.specs.Cmp.{Equal-is}
use Rattle.pmg_scope.specs.Cached.{Cached, Unsealed, after_commit, no_puts, unsealed_of}
use Rattle.pmg_jobinfo.specs.Jobs.{Jobs, is_node}
use Rattle.pmg_fence.specs.Entering.{same_proc}
use Rattle.pmg_fence.proofs.EntryLemmas.{proc_itself}
use Rattle.pmg_node_model.specs.Acts.{Act, Done, Reply, Request, does, says}
use Rattle.pmg_node_model.specs.Fitting.{is_refusal, unless_refused}
use Rattle.pmg_node_model.specs.Sending.{sent}
use Rattle.pmg_node_model.specs.declared.sent.Sent.{Sent}
use Rattle.pmg_node_model.proofs.KeptBasics.{act_cases}
use Rattle.pmg_frame.specs.declared.frame.Frame.{Frame}
use Rattle.pmg_node.specs.Servers.{Server, reply_to}
use Rattle.pmg_group_model.specs.Worlds.{Doing, Event, World, cache_of, doing, numbered, said_in}
use Rattle.pmg_caches.specs.Caching.{AllCached, cached_for}
use Rattle.pmg_caches.specs.OwnKeys.{own_key}
use Rattle.pmg_world.specs.Keeping.{AreCaches}
use Rattle.pmg_world.proofs.ClientLemmas.{commit_seals, frame_keeps, request_keeps, unsealed_is}
use Rattle.pmg_world.proofs.HappenLemmas.{at_node_is, commit_there, frame_there, request_there}
use Rattle.pmg_journal.specs.Replays.{happening}
use Rattle.pmg_journal.specs.Transcripts.{commit_by}
use Rattle.pmg_audit.specs.Moves.{Seals, cache_then, is_own_ask}
use Rattle.pmg_audit.specs.Orders.{IsEventOf}
use Rattle.pmg_audit.specs.Runs.{place_of}
use Rattle.pmg_journal.specs.Calling.{is_by}

-- ---- replies of commits

-- a commit is refused, or has its number
abbrev IsCommitted : Reply → Type 0
IsCommitted r = ((is_refusal r ≡ true) × ((c : Cached) → commit_by c r ≡ c)) ⊎ ((is_refusal r ≡ false) × ((c : Cached) → commit_by c r ≡ after_commit c))

commit_replied : (s : Server) (p : Proc) (b : Unsealed) → IsCommitted (reply_to s (Act.commit p b))
unfolding does
commit_replied s p b = act_cases s.jobs s.id s.holding (Act.commit p b) (λ (d : Done). IsCommitted d.reply) (λ free. inr (refl, λ c. refl)) (λ e. inl (refl, λ c. refl))

-- ---- caches

cond_same : {X : Type 0} (b : Bool) (x : X) → cond b x x ≡ x
cond_same true x = refl
cond_same false x = refl

-- the cache of each process once one's is sealed
sealed_by : (all : AllCached) (p q : Proc) → cached_for (changed_at all p (after_commit (cached_for all p))) q ≡ cond (same_proc q p) (after_commit (cached_for all q)) (cached_for all q)
sealed_by all p q = by (finite.get all p) refl
  where
    same : (b : Bool) → same_proc q p ≡ b → (f : Cached → Cached) → cond b (f (cached_for all p)) (cached_for all q) ≡ cond b (f (cached_for all q)) (cached_for all q)
    same true e f = ap (λ (r : Proc). f (cached_for all r)) (sym (exact_procs q p ((Equal-is _).0 e)))
    same false e f = refl

    none : (b : Bool) → same_proc q p ≡ b → cached_for all p ≡ no_puts → cached_for all q ≡ cond b (after_commit (cached_for all q)) (cached_for all q)
    none true e nothing =
        let is : cached_for all q ≡ no_puts = ap (cached_for all) (exact_procs q p ((Equal-is _).0 e)) ∙ nothing in
        is ∙ sym (ap after_commit is)
    none false e nothing = refl

    read : (b : Bool) (x : Cached) (o : Option Cached) → unwrap_or (cond b (Some x) o) no_puts ≡ cond b x (unwrap_or o no_puts)
    read true x o = refl
    read false x o = refl

    by : (o : Option Cached) → finite.get all p ≡ o
        → cached_for (cond (is_some o) (finite.insert all p (after_commit (cached_for all p))) all) q ≡ cond (same_proc q p) (after_commit (cached_for all q)) (cached_for all q)
    by (Some c) e =
        ap (λ (o : Option Cached). unwrap_or o no_puts) (finite.get-insert procs_total all p (after_commit (cached_for all p)) q)
        ∙ read (same_proc q p) (after_commit (cached_for all p)) (finite.get all q) ∙ same (same_proc q p) refl after_commit
    by None e = none (same_proc q p) refl (ap (λ (o : Option Cached). unwrap_or o no_puts) e)

-- ---- an act

-- The event is that act of the node; and the scripts, caches and what is told of the node are as the act's.
pub record IsDone (jobs : Jobs) (w : World) (all : AllCached) (final : List Sent) (n : ℕ) (a : Act) (e : Event) (r : Reply) : Type 0 where
  pub doing_is : doing jobs w e ≡ Doing.at_node n a
  pub caches : AllCached
  pub kept : AreCaches caches (unless_refused (is_refusal r) w.scripts (says jobs a))
  pub own : (q : Proc) → cached_for caches q ≡ cond (is_by q a) (cache_then (cached_for all q) a r) (cached_for all q)
  pub place : place_of w.scripts final e r ≡ Some (n, happening a r)
  pub said : said_in jobs e ≡ says jobs a

no_own : (p : Proc) (key : List ℕ) (b : Bool) → b ≡ false → cond {A = Option (Proc × List ℕ)} b (Some (p, key)) None ≡ None
no_own p key b e = ap (λ c. cond {A = Option (Proc × List ℕ)} c (Some (p, key)) None) e

not_own : (r : Request) → is_own_ask (Act.request r) ≡ false → own_key r ≡ None
not_own (Request.enter p list collect) e = refl
not_own (Request.leave p) e = refl
not_own (Request.ask p get mode) e = no_own p get.key _ e
not_own (Request.take p) e = refl
not_own (Request.terminate p) e = refl
not_own (Request.define name list) e = refl
not_own (Request.delete name) e = refl
not_own Request.nudge e = refl

module _ (jobs : Jobs) (w : World) (all : AllCached) (kept : AreCaches all w.scripts) (final : List Sent) (n : ℕ) (node : is_node jobs n ≡ true) where
  commit_done : (p : Proc) (b : Unsealed) (r : Reply) → IsCommitted r → b ≡ unsealed_of (cached_for all p) → IsDone jobs w all final n (Act.commit p b) (Event.commit n p) r
  unfolding says
  commit_done p b r (inl refused) seals =
      let batch : unsealed_of (cache_of (w.scripts p)) ≡ b = sym (seals ∙ unsealed_is all w.scripts kept p) in
      record {
        doing_is = commit_there jobs w n p node ∙ ap (λ (x : Unsealed). Doing.at_node n (Act.commit p x)) batch;
        caches = all;
        kept = subst (λ t. AreCaches all (unless_refused t w.scripts (says jobs (Act.commit p b)))) (sym refused.0) kept;
        own = λ q. sym (ap (λ (c : Cached). cond (same_proc q p) c (cached_for all q)) (refused.1 (cached_for all q)) ∙ cond_same (same_proc q p) (cached_for all q));
        place = ap (λ (x : Unsealed). Some (n, happening (Act.commit p x) r)) batch;
        said = refl;
      }
  commit_done p b r (inr done) seals =
      let batch : unsealed_of (cache_of (w.scripts p)) ≡ b = sym (seals ∙ unsealed_is all w.scripts kept p) in
      record {
        doing_is = commit_there jobs w n p node ∙ ap (λ (x : Unsealed). Doing.at_node n (Act.commit p x)) batch;
        caches = changed_at all p (after_commit (cached_for all p));
        kept = commit_seals all w.scripts kept jobs (is_refusal r) p b (changed_at all p (after_commit (cached_for all p))) done.0 refl;
        own = λ q. sealed_by all p q ∙ ap (λ (c : Cached). cond (same_proc q p) c (cached_for all q)) (sym (done.1 (cached_for all q)));
        place = ap (λ (x : Unsealed). Some (n, happening (Act.commit p x) r)) batch;
        said = refl;
      }

  request_done : (q : Request) (r : Reply) → is_own_ask (Act.request q) ≡ false → IsDone jobs w all final n (Act.request q) (Event.request n q) r
  request_done q r own = record {
    doing_is = request_there jobs w n q node ∙ at_node_is jobs w n q (not_own q own);
    caches = all;
    kept = request_keeps all w.scripts kept jobs (is_refusal r) q;
    own = λ p. sym (cond_same (is_by p (Act.request q)) (cached_for all p));
    place = refl;
    said = refl;
  }

  deliver_done : (frame : Frame) (i : ℕ) (r : Reply) → numbered w.sent i ≡ Some (sent n frame) → numbered final i ≡ Some (sent n frame)
      → IsDone jobs w all final n (Act.deliver frame) (Event.deliver i) r
  unfolding says
  deliver_done frame i r there later = record {
    doing_is = frame_there jobs w i (sent n frame) there;
    caches = all;
    kept = frame_keeps all w.scripts kept jobs (is_refusal r) frame;
    own = λ p. refl;
    place = ap (option_map (λ (s : Sent). (s.to, happening (Act.deliver s.frame) r))) later;
    said = refl;
  }

  -- an act that the server replies to so
  pub act_done : (s : Server) (a : Act) (e : Event) → IsEventOf w.sent n a e → ((i : ℕ) (x : Sent) → numbered w.sent i ≡ Some x → numbered final i ≡ Some x)
      → ((p : Proc) → is_by p a ≡ true → Seals (cached_for all p) a × (is_own_ask a ≡ false)) → is_own_ask a ≡ false → IsDone jobs w all final n a e (reply_to s a)
  act_done s (Act.commit p b) e is grows seals own =
      subst (λ (x : Event). IsDone jobs w all final n (Act.commit p b) x (reply_to s (Act.commit p b))) (sym is)
      (commit_done p b (reply_to s (Act.commit p b)) (commit_replied s p b) (seals p (proc_itself p)).0)
  act_done s (Act.request q) e is grows seals own =
      subst (λ (x : Event). IsDone jobs w all final n (Act.request q) x (reply_to s (Act.request q))) (sym is) (request_done q (reply_to s (Act.request q)) own)
  act_done s (Act.deliver frame) e is grows seals own =
      subst (λ (x : Event). IsDone jobs w all final n (Act.deliver frame) x (reply_to s (Act.deliver frame))) (sym is.1)
      (deliver_done frame is.0 (reply_to s (Act.deliver frame)) is.2 (grows is.0 (sent n frame) is.2))
