-- Puts of a client, each a step of the world.
use Rattle.std.proofs.Common.{◌≡◌, ℕ, Bool, true, false, cond, List, [], ◌∷◌, ◌++◌, map, Option, Some, Result, Ok, Err, refl, sym, ap, subst, ◌∙◌}
use Rattle.std.specs.FinMap as finite
use Rattle.std.specs.Option.{unwrap_or}
use Rattle.pmg_value.specs.CheckOrder.{first_of}
use Rattle.pmg_value.specs.declared.process.Proc.{Proc}
use Rattle.pmg_value.specs.declared.refusal.Refusal.{Refusal}
use Rattle.pmg_value.specs.declared.refusal.Refusal.TheVariants as refusals
use Rattle.pmg_value.proofs.ProcessOrder.{procs_total}
use Rattle.pmg_scope.specs.Cached.{Cached, no_puts, put_cause, with_put}
use Rattle.pmg_scope.specs.Scripts.{Call}
use Rattle.pmg_scope.specs.declared.scope.Scope.{Scope}
use Rattle.pmg_jobinfo.specs.Jobs.{Jobs, home_of}
use Rattle.pmg_fence.specs.Entering.{same_proc}
use Rattle.pmg_fence.specs.Rules.{Scripts}
use Rattle.pmg_fence.proofs.EntryLemmas.{proc_itself}
use Rattle.pmg_node_model.specs.Acts.{Reply, also, free_cause, said_by}
use Rattle.pmg_node_model.specs.Fitting.{with_said}
use Rattle.pmg_node_model.specs.declared.sent.Sent.{Sent}
use Rattle.pmg_node_model.proofs.KeptBasics.{put_other}
use Rattle.pmg_group_model.specs.Worlds.{Doing, Does, Event, Happened, Run, Step, World, cache_of, reply_or_refusal}
use Rattle.pmg_caches.specs.Caching.{AllCached, cached_for}
use Rattle.pmg_world.specs.Keeping.{AreCaches}
use Rattle.pmg_caches.proofs.CauseLemmas.{due_free}
use Rattle.pmg_world.proofs.ClientLemmas.{put_kept}
use Rattle.pmg_world.proofs.HappenLemmas.{put_is}
use Rattle.pmg_world.proofs.PutLemmas.{free_client}
use Rattle.pmg_group_model.proofs.RunLemmas.{next_run, run_none}
use Rattle.pmg_audit.specs.Moves.{AllPut, Put, put_all}
use Rattle.pmg_audit.specs.Orders.{put_told}
use Rattle.pmg_audit.specs.Runs.{events_at}

-- what a cache answers a put
abbrev cache_due : {Y : Type 0} → Bool → Bool → Y → Result Y Refusal
cache_due bad many answer = cond bad (Err refusals.BadParam) (cond many (Err refusals.TooMany) (Ok answer))

cache_takes : (bad many : Bool) → cache_due bad many (tt {0}) ≡ Ok tt → (bad ≡ false) × (many ≡ false)
cache_takes true many is = absurd cc
cache_takes false true is = absurd cc
cache_takes false false is = (refl, refl)

-- the world with these scripts
abbrev pub with_scripts : World → Scripts → World
with_scripts w scripts = record { scripts = scripts; nodes = w.nodes; sent = w.sent }

module _ (jobs : Jobs) (w : World) (p : Proc) (scope : Scope) (key value : List ℕ) where
  abbrev free : Refusal → Bool
  free = free_cause jobs (home_of jobs p) (w.nodes (home_of jobs p)) p

  abbrev there : Refusal → Bool
  there = put_cause (cache_of (w.scripts p)) scope key value

  abbrev put_left : World
  put_left = with_scripts w (with_said w.scripts (said_by p (Call.put scope key value ∷ [])))

  -- a put that its cache takes, of a client in no call, is done
  put_step : first_of free (tt {0}) ≡ Ok tt → first_of there (tt {0}) ≡ Ok tt → Step jobs w (Event.put p scope key value) Reply.done put_left
  put_step ok taken =
      let both = cache_takes (there refusals.BadParam) (there refusals.TooMany) taken in
      let due : first_of (also free there) Reply.done ≡ Ok Reply.done =
      due_free (free refusals.BadParam) (free refusals.UnknownNamespace) (free refusals.NotMine) (free refusals.Terminated) (free refusals.Busy) (there refusals.TooMany) Reply.done (there refusals.BadParam) both.0 ok
      ∙ ap (λ b. cond b (Err refusals.TooMany) (Ok Reply.done)) both.1 in
      subst (λ (d : Doing). Does jobs w d Reply.done put_left) (sym (put_is jobs w p scope key value)) (record { replied = ap reply_or_refusal (sym due); left = refl })

-- puts of a process that are done: the scripts and the caches then
pub record PutsDone (jobs : Jobs) (w : World) (all : AllCached) (p : Proc) (puts : List Put) : Type 0 where
  pub scripts : Scripts
  pub caches : AllCached
  pub run : Run jobs w (map (put_told p) puts) (with_scripts w scripts)
  pub kept : AreCaches caches scripts
  pub own : cached_for caches p ≡ put_all (cached_for all p) puts
  pub others : (q : Proc) → same_proc q p ≡ false → cached_for caches q ≡ cached_for all q
  pub told : (frames : List Sent) (n : ℕ) (xs : List Happened) → events_at jobs w.scripts frames n (map (put_told p) puts ++ xs) ≡ events_at jobs scripts frames n xs

inserted_own : (all : AllCached) (p : Proc) (x : Cached) → cached_for (finite.insert all p x) p ≡ x
inserted_own all p x = ap (λ (o : Option Cached). unwrap_or o no_puts) (finite.get-insert procs_total all p x p ∙ ap (λ b. cond b (Some x) (finite.get all p)) (proc_itself p))

inserted_other : (all : AllCached) (p : Proc) (x : Cached) (q : Proc) → same_proc q p ≡ false → cached_for (finite.insert all p x) q ≡ cached_for all q
inserted_other all p x q apart = ap (λ (o : Option Cached). unwrap_or o no_puts) (put_other all p q x apart)

-- puts that the cache takes, of a client in no call, are done
pub puts_done : (jobs : Jobs) (puts : List Put) (w : World) (all : AllCached) (p : Proc) → AreCaches all w.scripts
    → first_of (free_cause jobs (home_of jobs p) (w.nodes (home_of jobs p)) p) (tt {0}) ≡ Ok tt → AllPut (cached_for all p) puts → PutsDone jobs w all p puts
unfolding events_at
puts_done jobs [] w all p kept free takes = record {
  scripts = w.scripts;
  caches = all;
  run = run_none jobs w;
  kept = kept;
  own = refl;
  others = λ q apart. refl;
  told = λ frames n xs. refl;
}
puts_done jobs (x ∷ xs) w all p kept free takes =
    let client = free_client jobs (home_of jobs p) (w.nodes (home_of jobs p)) p free in
    let is_cache = (kept p).client client in
    let step = put_step jobs w p x.scope x.key x.value free ((λ i. first_of (put_cause (sym is_cache i) x.scope x.key x.value) (tt {0})) ∙ takes.0) in
    let put = with_put (cached_for all p) x.scope x.key x.value in
    let with = finite.insert all p put in
    let own = inserted_own all p put in
    let left = put_left jobs w p x.scope x.key x.value in
    let rest = puts_done jobs xs left with p (put_kept all w.scripts kept p x.scope x.key x.value client) free (subst (λ (c : Cached). AllPut c xs) (sym own) takes.1) in
    record {
      scripts = rest.scripts;
      caches = rest.caches;
      run = next_run jobs w (put_told p x) (map (put_told p) xs) (with_scripts w rest.scripts) (record { mid = left; step = step; rest = rest.run });
      kept = rest.kept;
      own = rest.own ∙ ap (λ (c : Cached). put_all c xs) own;
      others = λ q apart. rest.others q apart ∙ inserted_other all p put q apart;
      told = λ frames n ys. rest.told frames n ys;
    }
