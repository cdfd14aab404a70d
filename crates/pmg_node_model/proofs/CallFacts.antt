-- The calls that own processes are in, after each change.
use Rattle.std.proofs.Common.{◌≡◌, Bool, true, false, cond, List, [], ◌∷◌, map, Option, Some, None, refl, sym, ap, ◌∙◌}
use Rattle.std.specs.FinMap as finite
use Rattle.std.specs.FinMap.Entries.{find}
use Rattle.std.specs.Option.{option_map}
use Rattle.pmg_value.specs.Process.{proc_cmp}
use Rattle.pmg_value.specs.declared.process.Proc.{Proc}
use Rattle.pmg_value.proofs.ProcessOrder.{procs_total}
use Rattle.pmg_fence.specs.Entering.{same_proc}
use Rattle.pmg_jobinfo.specs.Jobs.{Jobs}
use Rattle.pmg_node_model.specs.Holdings.{CallState, NodeState, call_of, called, uncalled, settle, mapped, settled}

find_mapped : (f : CallState → CallState) (q : Proc) (es : List (Proc × CallState)) → find proc_cmp q (map (λ e. (e.0, f e.1)) es) ≡ option_map f (find proc_cmp q es)
find_mapped f q [] = refl
find_mapped f q (e ∷ es) = by_test (same_proc q e.0) (find proc_cmp q (map (λ x. (x.0, f x.1)) es)) (find proc_cmp q es) (find_mapped f q es)
  where
    by_test : (b : Bool) (x y : Option CallState) → x ≡ option_map f y → cond b (Some (f e.1)) x ≡ option_map f (cond b (Some e.1) y)
    by_test true x y is = refl
    by_test false x y is = is

pub get-mapped : (f : CallState → CallState) (m : finite.FinMap proc_cmp CallState) (q : Proc) → finite.get (mapped f m) q ≡ option_map f (finite.get m q)
unfolding mapped
get-mapped f m q =
    finite.get-from_entries procs_total (map (λ e. (e.0, f e.1)) (finite.entries m)) q
    ∙ find_mapped f q (finite.entries m) ∙ ap (option_map f) (sym (finite.get-entries m q))

pub call-settled : (jobs : Jobs) (id : _) (h : NodeState) (q : Proc) → call_of (settled jobs id h) q ≡ option_map (settle jobs id h) (call_of h q)
call-settled jobs id h q = get-mapped (settle jobs id h) h.calls q

pub call-called : (h : NodeState) (p : Proc) (standing : CallState) (q : Proc) → call_of (called h p standing) q ≡ cond (same_proc q p) (Some standing) (call_of h q)
call-called h p standing q = finite.get-insert procs_total h.calls p standing q

pub call-uncalled : (h : NodeState) (p : Proc) (q : Proc) → call_of (uncalled h p) q ≡ cond (same_proc q p) None (call_of h q)
call-uncalled h p q = finite.get-remove procs_total h.calls p q
