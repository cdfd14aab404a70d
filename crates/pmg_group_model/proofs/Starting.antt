-- A world in which nobody has called is one in which all holds.
use Rattle.std.proofs.Common.{◌≡◌, ◌≤◌, ℕ, Bool, true, false, cond, List, [], ◌∷◌, map, Option, Some, None, refl, sym, ap, subst, ◌∙◌, arith}
use Rattle.std.proofs.lemmas.Bool.{false≢true}
use Rattle.std.specs.FinMap as finite
use Rattle.std.specs.FinMap.Entries.{find}
use Rattle.std.specs.Cmp.{Equal-is}
use Rattle.std.specs.Option.{unwrap_or}
use Rattle.pmg_value.specs.Process.{proc_cmp, is_host}
use Rattle.pmg_value.specs.Rows.{map_of}
use Rattle.pmg_value.specs.Signatures.{FenceName}
use Rattle.pmg_value.specs.declared.process.Proc.{Proc}
use Rattle.pmg_value.proofs.ProcessOrder.{procs_total, exact_procs}
use Rattle.pmg_scope.specs.declared.scope.Reach.{Reach}
use Rattle.pmg_scope.specs.declared.scope.Reach.TheVariants as reach
use Rattle.pmg_commit.specs.Data.{level_at}
use Rattle.pmg_commit.specs.Sealed.{Sealed, fresh}
use Rattle.pmg_commit.proofs.SealerLaws as sealers
use Rattle.pmg_pset.specs.Sets.{host}
use Rattle.pmg_jobinfo.specs.Jobs.{Jobs}
use Rattle.pmg_jobinfo.specs.Procs.{procs_at}
use Rattle.pmg_fence.specs.Entering.{same_proc}
use Rattle.pmg_fence.proofs.StepLemmas as tables
use Rattle.pmg_store.proofs.HonestDataLaws.{empty_is_honest, honest_level_is_made}
use Rattle.pmg_node_model.specs.Fitting.{FitsOwn, FitsCall, Fits}
use Rattle.pmg_node_model.specs.Holdings.{CallState, new_holding, sealer_in, sealer_of}
use Rattle.pmg_node_model.proofs.Sealing.{host_is}
use Rattle.pmg_group_model.specs.Worlds.{start}
use Rattle.pmg_group_model.specs.Laws.{Good}

-- ---- sealers of processes that made no commit

fresh_by : (p q : Proc) (b : Bool) (o : Option Sealed) → same_proc p q ≡ b → unwrap_or o (fresh p) ≡ fresh p → unwrap_or (cond b (Some (fresh q)) o) (fresh p) ≡ fresh p
fresh_by p q true o is rest = ap fresh (sym (exact_procs p q ((Equal-is _).0 is)))
fresh_by p q false o is rest = rest

find_fresh : (p : Proc) (ps : List Proc) → unwrap_or (find proc_cmp p (map (λ (e : Proc × Sealed). (e.0, e.1)) (map (λ (q : Proc). (q, fresh q)) ps))) (fresh p) ≡ fresh p
find_fresh p [] = refl
find_fresh p (q ∷ qs) = fresh_by p q (same_proc p q) (find proc_cmp p (map (λ (e : Proc × Sealed). (e.0, e.1)) (map (λ (x : Proc). (x, fresh x)) qs))) refl (find_fresh p qs)

host_fresh : (p : Proc) (b : Bool) (z : Sealed) → is_host p ≡ b → z ≡ fresh p → cond b (fresh host) z ≡ fresh p
host_fresh p true z is rest = ap fresh (sym (host_is p is))
host_fresh p false z is rest = rest

pub sealer-new : (jobs : Jobs) (node : ℕ) (p : Proc) → sealer_of (new_holding jobs node) p ≡ fresh p
unfolding sealer_in
sealer-new jobs node p =
    host_fresh p (is_host p) (unwrap_or (finite.get (map_of {R = proc_cmp} (map (λ (q : Proc). (q, fresh q)) (procs_at jobs node))) p) (fresh p)) refl
    (ap (λ (o : Option Sealed). unwrap_or o (fresh p)) (finite.get-from_entries procs_total (map (λ (e : Proc × Sealed). (e.0, e.1)) (map (λ (q : Proc). (q, fresh q)) (procs_at jobs node))) p) ∙ find_fresh p (procs_at jobs node))

-- ---- a new node

pub no_level : (r : Reach) (p : Proc) → level_at finite.empty p ≡ 0
no_level r p = let made : level_at finite.empty p ≤ 0 = honest_level_is_made [] r p finite.empty (empty_is_honest [] r p) in omega (arith, made)

new_own : (p : Proc) → FitsOwn [] p (fresh p) finite.empty finite.empty
new_own p = record {
  sealer = sealers.new_fits p;
  proc = refl;
  near_honest = empty_is_honest [] reach.Near p;
  near_level = no_level reach.Near p;
  far_level = no_level reach.Far p;
}

pub new_call : (p : Proc) → ◌≡◌ {A = Option CallState} (finite.get (finite.empty {R = proc_cmp}) p) None
new_call p = finite.get-empty proc_cmp p

pub new_node_fits : (jobs : Jobs) (node : ℕ) → Fits jobs (λ _. []) node (new_holding jobs node)
new_node_fits jobs node = record {
  own = λ p home. subst (λ z. FitsOwn [] p z finite.empty finite.empty) (sym (sealer-new jobs node p)) (new_own p);
  calls = λ p home. subst (FitsCall []) (sym (new_call p)) tt;
  table = tables.new_fits jobs node;
  far = λ q. empty_is_honest [] reach.Far q;
}

pub start_good : (jobs : Jobs) → Good jobs (start jobs)
start_good jobs = record {
  fits = new_node_fits jobs;
  honest = tt;
  hosts = ([], refl);
  freed = λ node p f gone e. absurd (nowhere (sym (new_call p) ∙ e));
  kept = λ node f has. absurd (false≢true (sym (tables.no_names f) ∙ has));
}
  where
    nowhere : {f : FenceName} {gone : List Proc} → None ≡ Some (CallState.released f gone) → ⊥
    nowhere e = cc
