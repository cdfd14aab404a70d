-- A put of a client, and a get of a key of its own.
use Rattle.std.proofs.Common.{◌≡◌, ℕ, Bool, true, false, ◌||◌, cond, List, [], ◌∷◌, Result, Ok, Err, refl, sym, ap, subst, ◌∙◌}
use Rattle.std.specs.FinMap as finite
use Rattle.pmg_value.specs.CheckOrder.{first_of}
use Rattle.pmg_value.specs.Names.{is_reserved}
use Rattle.pmg_value.specs.declared.process.Proc.{Proc}
use Rattle.pmg_value.specs.declared.refusal.Refusal.{Refusal}
use Rattle.pmg_value.specs.declared.refusal.Refusal.TheVariants as refusals
use Rattle.pmg_scope.specs.Cached.{put_cause, with_put}
use Rattle.pmg_scope.specs.Scripts.{Call}
use Rattle.pmg_scope.specs.declared.scope.Scope.{Scope}
use Rattle.pmg_jobinfo.specs.Jobs.{Jobs, home_of}
use Rattle.pmg_node_model.specs.Acts.{Reply, also, free_cause, is_misnamed, said_by}
use Rattle.pmg_node_model.specs.Holdings.{NodeState}
use Rattle.pmg_node.specs.Servers.{Server}
use Rattle.pmg_caches.specs.Caching.{AllCached, cached_for}
use Rattle.pmg_world.specs.Keeping.{AreCaches, IsNodeOf, Represents}
use Rattle.pmg_group_model.specs.Worlds.{World, Event, Doing, Does, cache_of, reply_or_refusal}
use Rattle.pmg_world.specs.declared.group.Group.{Group}
use Rattle.pmg_caches.proofs.CauseLemmas.{cache_err, cache_ok, due_bad, due_refused, due_free, first_bad}
use Rattle.pmg_world.proofs.ClientLemmas.{put_kept}
use Rattle.pmg_world.proofs.GroupLemmas.{LeadsOn, refused_stays, stands_with}
use Rattle.pmg_world.proofs.HappenLemmas.{put_is}
use Rattle.pmg_node_model.specs.Fitting.{with_said}

-- who calls is judged at the node
pub free_at : (jobs : Jobs) (node : ℕ) (h : NodeState) (s : Server) (p : Proc) (x : Result (Unit {0}) Refusal) → IsNodeOf jobs node h s → x ≡ first_of (free_cause s.jobs s.id s.holding p) tt
    → first_of (free_cause jobs node h p) tt ≡ x
free_at jobs node h s p x of is = (λ i. first_of (free_cause (sym of.jobs_same i) (sym of.id_same i) (sym of.holds i) p) tt) ∙ sym is

-- a process of which nothing is amiss is none of the standard's
pub free_client : (jobs : Jobs) (node : ℕ) (h : NodeState) (p : Proc) → first_of (free_cause jobs node h p) (tt {0}) ≡ Ok tt → is_reserved p.nspace ≡ false
free_client jobs node h p free = by (is_reserved p.nspace) refl
  where
    never : ◌≡◌ {A = Result (Unit {0}) Refusal} (Err refusals.BadParam) (Ok tt) → true ≡ false
    never e = cc

    by : (b : Bool) → is_reserved p.nspace ≡ b → b ≡ false
    by true e = never (sym (first_bad (free_cause jobs node h p) (tt {0}) refl (bad e)) ∙ free)
      where
        bad : is_reserved p.nspace ≡ true → free_cause jobs node h p refusals.BadParam ≡ true
        bad e = (λ i. (e i || is_misnamed jobs p) || false)
    by false e = refl

module _ (g : Group) (w : World) (stands : Represents g w) (p : Proc) (scope : Scope) (key value : List ℕ) where
  abbrev jobs : Jobs
  jobs = g.registry

  abbrev event : Event
  event = Event.put p scope key value

  abbrev free : Refusal → Bool
  free = free_cause jobs (home_of jobs p) (w.nodes (home_of jobs p)) p

  abbrev there : Refusal → Bool
  there = put_cause (cache_of (w.scripts p)) scope key value

  refused_by : (e : Refusal) → first_of (also free there) Reply.done ≡ Err e → LeadsOn jobs w event (Reply.refused e) g
  refused_by e due = refused_stays g w stands event (first_of (also free there) Reply.done) (said_by p (Call.put scope key value ∷ [])) e (put_is jobs w p scope key value) due

  -- the put is bad
  pub put_bad : there refusals.BadParam ≡ true → LeadsOn jobs w event (Reply.refused refusals.BadParam) g
  put_bad bad = refused_by refusals.BadParam
      (due_bad (free refusals.BadParam) (free refusals.UnknownNamespace) (free refusals.NotMine) (free refusals.Terminated) (free refusals.Busy) (there refusals.TooMany) Reply.done (there refusals.BadParam) bad)

  -- something is amiss of who calls
  pub put_refused : (e : Refusal) → there refusals.BadParam ≡ false → first_of free (tt {0}) ≡ Err e → LeadsOn jobs w event (Reply.refused e) g
  put_refused e good amiss = refused_by e
      (due_refused (free refusals.BadParam) (free refusals.UnknownNamespace) (free refusals.NotMine) (free refusals.Terminated) (free refusals.Busy) (there refusals.TooMany) Reply.done (there refusals.BadParam) good e amiss)

  module _ (good : there refusals.BadParam ≡ false) (ok : first_of free (tt {0}) ≡ Ok tt) where
    is_cache : cached_for g.caches p ≡ cache_of (w.scripts p)
    is_cache = (stands.caches p).client (free_client jobs (home_of jobs p) (w.nodes (home_of jobs p)) p ok)

    due_is : first_of (also free there) Reply.done ≡ cond (there refusals.TooMany) (Err refusals.TooMany) (Ok Reply.done)
    due_is = due_free (free refusals.BadParam) (free refusals.UnknownNamespace) (free refusals.NotMine) (free refusals.Terminated) (free refusals.Busy) (there refusals.TooMany) Reply.done (there refusals.BadParam) good ok

    -- the cache refuses it
    pub put_full : (e : Refusal) → first_of (put_cause (cached_for g.caches p) scope key value) (tt {0}) ≡ Err e → LeadsOn jobs w event (Reply.refused e) g
    put_full e full = refused_by e
        (due_is ∙ cache_err (there refusals.BadParam) (there refusals.TooMany) (tt {0}) Reply.done e good ((λ i. first_of (put_cause (sym is_cache i) scope key value) (tt {0})) ∙ full))

    -- it is put
    pub put_done : (new : Group) → first_of (put_cause (cached_for g.caches p) scope key value) (tt {0}) ≡ Ok tt → new.registry ≡ g.registry → new.nodes.items ≡ g.nodes.items → new.sent.items ≡ g.sent.items
        → new.caches ≡ finite.insert g.caches p (with_put (cached_for g.caches p) scope key value) → LeadsOn jobs w event Reply.done new
    put_done new there_is same_jobs same_nodes same_sent put =
        let due = due_is ∙ cache_ok (there refusals.BadParam) (there refusals.TooMany) (tt {0}) tt Reply.done good ((λ i. first_of (put_cause (sym is_cache i) scope key value) (tt {0})) ∙ there_is) in
        let left : World = record { scripts = with_said w.scripts (said_by p (Call.put scope key value ∷ [])); nodes = w.nodes; sent = w.sent } in
        record {
          after = left;
          step = subst (λ (d : Doing). Does jobs w d Reply.done left) (sym (put_is jobs w p scope key value)) (record { replied = ap reply_or_refusal (sym due); left = refl });
          stands = stands_with g new w left stands same_jobs same_nodes same_sent refl refl
              (subst (λ (all : AllCached). AreCaches all left.scripts) (sym put) (put_kept g.caches w.scripts stands.caches p scope key value (free_client jobs (home_of jobs p) (w.nodes (home_of jobs p)) p ok)));
        }
