-- Caches of clients, as scripts grow.
use Rattle.std.proofs.Common.{◌≡◌, Bool, true, false, cond, List, [], ◌∷◌, ◌++◌, Option, Some, None, is_some, refl, sym, ap, subst, ◌∙◌}
use Rattle.std.proofs.lemmas.Bool.{false≢true}
use Rattle.std.specs.Cmp.{Equal-is}
use Rattle.std.specs.FinMap as finite
use Rattle.std.specs.Option.{unwrap_or}
use Rattle.pmg_value.specs.Names.{is_reserved}
use Rattle.pmg_value.specs.Rows.{changed_at}
use Rattle.pmg_value.specs.declared.process.Proc.{Proc}
use Rattle.pmg_value.proofs.ProcessOrder.{procs_total, exact_procs}
use Rattle.pmg_scope.specs.Cached.{Cached, no_puts, with_put, after_commit, unsealed_of}
use Rattle.pmg_scope.specs.Scripts.{Call, Script}
use Rattle.pmg_scope.specs.declared.scope.Scope.{Scope}
use Rattle.pmg_scope.specs.declared.scope.Reach.TheVariants as reach
use Rattle.pmg_pset.specs.Changes.{Change, script_of, definition, deletion}
use Rattle.pmg_pset.specs.Sets.{host}
use Rattle.pmg_jobinfo.specs.Jobs.{Jobs}
use Rattle.pmg_fence.specs.Entering.{same_proc}
use Rattle.pmg_fence.specs.Rules.{Scripts}
use Rattle.pmg_scope.specs.Scripts.{last_put}
use Rattle.pmg_node_model.specs.Acts.{Request, Act, said_by, says, members_of, signature_of}
use Rattle.pmg_node_model.specs.Fitting.{unless_refused, with_said}
use Rattle.pmg_caches.specs.Caching.{AllCached, cached_for}
use Rattle.pmg_world.specs.Keeping.{KeepsFor, AreCaches}
use Rattle.pmg_group_model.specs.Worlds.{cache_from, cache_of}
use Rattle.pmg_group_model.proofs.Speaking.{cache_fits}

cache_both : (c : Cached) (s t : Script) → cache_from c (s ++ t) ≡ cache_from (cache_from c s) t
cache_both c [] t = refl
cache_both c (Call.put scope key value ∷ cs) t = cache_both (with_put c scope key value) cs t
cache_both c (Call.commit ∷ cs) t = cache_both (after_commit c) cs t
cache_both c (Call.enter g ∷ cs) t = cache_both c cs t
cache_both c (Call.terminate ∷ cs) t = cache_both c cs t

-- what a client's cache holds after more calls
pub cache_more : (s t : Script) → cache_of (s ++ t) ≡ cache_from (cache_of s) t
unfolding cache_of
cache_more s t = cache_both no_puts s t

-- what a process itself reads is what its client's cache has
pub own_is : (s : Script) (key : List _) → finite.get (cache_of s).own key ≡ last_put reach.Own key s
own_is s key = cache_fits s reach.Own key

-- ---- one process

-- calls that change no cache
pub quiet_keeps : (p : Proc) (c : Cached) (s t : Script) → cache_of (s ++ t) ≡ cache_of s → KeepsFor p c s → KeepsFor p c (s ++ t)
quiet_keeps p c s t same keeps = record {
  client = λ e. keeps.client e ∙ sym same;
  none = keeps.none;
  sealed = λ e. ap unsealed_of same ∙ keeps.sealed e;
}

commit_keeps : (p : Proc) (c : Cached) (s : Script) → KeepsFor p c s → KeepsFor p (after_commit c) (s ++ Call.commit ∷ [])
commit_keeps p c s keeps = record {
  client = λ e. ap after_commit (keeps.client e) ∙ sym (cache_more s (Call.commit ∷ []));
  none = λ e. ap after_commit (keeps.none e);
  sealed = λ e. ap unsealed_of (cache_more s (Call.commit ∷ []));
}

put_keeps : (p : Proc) (c : Cached) (s : Script) (scope : Scope) (key value : List _) → is_reserved p.nspace ≡ false → KeepsFor p c s
    → KeepsFor p (with_put c scope key value) (s ++ Call.put scope key value ∷ [])
put_keeps p c s scope key value free keeps = record {
  client = λ e. ap (λ (x : Cached). with_put x scope key value) (keeps.client e) ∙ sym (cache_more s (Call.put scope key value ∷ []));
  none = λ e. absurd (false≢true (sym free ∙ e));
  sealed = λ e. absurd (false≢true (sym free ∙ e));
}

host_keeps : (c : Cached) (s : Script) (change : Change) → KeepsFor host c s → KeepsFor host c (s ++ script_of (change ∷ []))
host_keeps c s change keeps = record {
  client = λ e. absurd (false≢true (sym e));
  none = keeps.none;
  sealed = λ e. ap unsealed_of (cache_more s (script_of (change ∷ [])));
}

-- ---- all processes

module _ (all : AllCached) (scripts : Scripts) (are : AreCaches all scripts) where
  -- the script of one process grows
  script_grows : (p : Proc) (calls : Script) → KeepsFor p (cached_for all p) (scripts p ++ calls) → AreCaches all (with_said scripts (said_by p calls))
  script_grows p calls keeps q = by (same_proc q p) refl
    where
      by : (b : Bool) → same_proc q p ≡ b → KeepsFor q (cached_for all q) (cond b (scripts q ++ calls) (scripts q))
      by true e = subst (λ (r : Proc). KeepsFor r (cached_for all r) (scripts r ++ calls)) (sym (exact_procs q p ((Equal-is _).0 e))) keeps
      by false e = are q

  -- and its client's cache changes
  both_change : (p : Proc) (x : Cached) (calls : Script) → KeepsFor p x (scripts p ++ calls) → AreCaches (finite.insert all p x) (with_said scripts (said_by p calls))
  both_change p x calls keeps q =
      subst (λ (o : Option Cached). KeepsFor q (unwrap_or o no_puts) (with_said scripts (said_by p calls) q)) (sym (finite.get-insert procs_total all p x q)) (by (same_proc q p) refl)
    where
      by : (b : Bool) → same_proc q p ≡ b → KeepsFor q (unwrap_or (cond b (Some x) (finite.get all q)) no_puts) (cond b (scripts q ++ calls) (scripts q))
      by true e = subst (λ (r : Proc). KeepsFor r x (scripts r ++ calls)) (sym (exact_procs q p ((Equal-is _).0 e))) keeps
      by false e = are q

  -- a put of a client
  pub put_kept : (p : Proc) (scope : Scope) (key value : List _) → is_reserved p.nspace ≡ false
      → AreCaches (finite.insert all p (with_put (cached_for all p) scope key value)) (with_said scripts (said_by p (Call.put scope key value ∷ [])))
  put_kept p scope key value free = both_change p _ _ (put_keeps p (cached_for all p) (scripts p) scope key value free (are p))

  -- its commit
  pub commit_kept : (p : Proc) → AreCaches (changed_at all p (after_commit (cached_for all p))) (with_said scripts (said_by p (Call.commit ∷ [])))
  commit_kept p = by (finite.get all p) refl
    where
      by : (o : Option Cached) → finite.get all p ≡ o
          → AreCaches (cond (is_some o) (finite.insert all p (after_commit (cached_for all p))) all) (with_said scripts (said_by p (Call.commit ∷ [])))
      by (Some c) e = both_change p _ _ (commit_keeps p (cached_for all p) (scripts p) (are p))
      by None e =
          let nothing = ap (λ (o : Option Cached). unwrap_or o no_puts) e in
          script_grows p _ (subst (λ (x : Cached). KeepsFor p x (scripts p ++ Call.commit ∷ [])) (ap after_commit nothing ∙ sym nothing) (commit_keeps p (cached_for all p) (scripts p) (are p)))

  -- a request changes no client's cache
  request_kept : (jobs : Jobs) (r : Request) → AreCaches all (with_said scripts (says jobs (Act.request r)))
  unfolding says
  request_kept jobs (Request.enter p list collect) =
      script_grows p _ (quiet_keeps p (cached_for all p) (scripts p) _ (cache_more (scripts p) (Call.enter (signature_of jobs p list collect) ∷ [])) (are p))
  request_kept jobs (Request.leave p) = are
  request_kept jobs (Request.ask p get mode) = are
  request_kept jobs (Request.take p) = are
  request_kept jobs (Request.terminate p) = script_grows p _ (quiet_keeps p (cached_for all p) (scripts p) _ (cache_more (scripts p) (Call.terminate ∷ [])) (are p))
  request_kept jobs (Request.define name list) = script_grows host _ (host_keeps (cached_for all host) (scripts host) (definition name (members_of jobs list)) (are host))
  request_kept jobs (Request.delete name) = script_grows host _ (host_keeps (cached_for all host) (scripts host) (deletion name) (are host))
  request_kept jobs Request.nudge = are

  -- nor does one that is refused
  pub request_keeps : (jobs : Jobs) (refused : Bool) (r : Request) → AreCaches all (unless_refused refused scripts (says jobs (Act.request r)))
  request_keeps jobs true r = are
  request_keeps jobs false r = request_kept jobs r

  -- nor does a frame
  pub frame_keeps : (jobs : Jobs) (refused : Bool) (frame : _) → AreCaches all (unless_refused refused scripts (says jobs (Act.deliver frame)))
  unfolding says
  frame_keeps jobs true frame = are
  frame_keeps jobs false frame = are

  -- a commit seals what its client's cache has that no commit sealed
  pub unsealed_is : (p : Proc) → unsealed_of (cached_for all p) ≡ unsealed_of (cache_of (scripts p))
  unsealed_is p = by (is_reserved p.nspace) refl
    where
      by : (b : Bool) → is_reserved p.nspace ≡ b → unsealed_of (cached_for all p) ≡ unsealed_of (cache_of (scripts p))
      by true e = ap unsealed_of ((are p).none e) ∙ sym ((are p).sealed e)
      by false e = ap unsealed_of ((are p).client e)

  -- a commit that is not refused
  pub commit_seals : (jobs : Jobs) (refused : Bool) (p : Proc) (batch : _) (caches : AllCached) → refused ≡ false → caches ≡ changed_at all p (after_commit (cached_for all p))
      → AreCaches caches (unless_refused refused scripts (says jobs (Act.commit p batch)))
  unfolding says
  commit_seals jobs refused p batch caches taken is =
      subst (λ (b : Bool). AreCaches caches (unless_refused b scripts (said_by p (Call.commit ∷ [])))) (sym taken)
      (subst (λ (c : AllCached). AreCaches c (with_said scripts (said_by p (Call.commit ∷ [])))) (sym is) (commit_kept p))
