-- A new node keeps what a node keeps.
use Rattle.std.proofs.Common.{◌≡◌, ℕ, Bool, true, false, cond, List, [], ◌∷◌, map, Option, Some, None, is_some, inl, inr, refl, sym, ap, ◌∙◌}
use Rattle.std.specs.BTreeMap.{is_at}
use Rattle.std.specs.FinMap as finite
use Rattle.std.specs.Cmp.{eq_by_cmp_equiv}
use Rattle.pmg_value.specs.Lists.{In}
use Rattle.pmg_value.specs.Process.{proc_cmp}
use Rattle.pmg_value.specs.declared.process.Proc.{Proc}
use Rattle.pmg_value.proofs.ProcessOrder.{procs_total}
use Rattle.pmg_value.proofs.RowLemmas.{at_key, get-map_of}
use Rattle.pmg_commit.specs.Sealed.{Sealed, fresh}
use Rattle.pmg_pset.specs.Sets.{host}
use Rattle.pmg_jobinfo.specs.Jobs.{Jobs, AreJobs, is_node}
use Rattle.pmg_jobinfo.specs.Procs.{procs_at}
use Rattle.pmg_jobinfo.proofs.ListedLemmas.{own_are_listed}
use Rattle.pmg_dmodex.specs.Levels.{Levels}
use Rattle.pmg_dmodex.specs.Refreshes.{Refreshes}
use Rattle.pmg_dmodex.specs.Requests.{Requests, no_requests}
use Rattle.pmg_fence.specs.Codes.{Known}
use Rattle.pmg_fence.specs.Tables.{no_fences}
use Rattle.pmg_store.specs.declared.board.Board.{Board}
use Rattle.pmg_node_parts.specs.Codes.{Calls}
use Rattle.pmg_node_parts.specs.Marking.{new_marks}
use Rattle.pmg_node_parts.specs.Sealers.{AllSealed, with_fresh}
use Rattle.pmg_node_parts.proofs.SealerLemmas.{fresh_is}
use Rattle.pmg_node_model.specs.Holdings.{CallState, new_holding}
use Rattle.pmg_node.specs.Content.{AreOpen, server_of}
use Rattle.pmg_node.specs.Opening.{new_server}
use Rattle.pmg_node.specs.Servers.{HasSealers, IsNode}
use Rattle.pmg_node_model.proofs.KeptActs.{new_is_server}
use Rattle.pmg_node.proofs.MarksKept.{new_has_marks}

-- each of them has its place
fresh_at : (ps : List Proc) (p : Proc) → In p ps → is_some (at_key proc_cmp p (map (λ p. (p, fresh p)) ps)) ≡ true
fresh_at [] p i = absurd i
fresh_at (q ∷ ps) p (inl e) =
    ap (λ (b : Bool). is_some (cond b (Some (fresh q)) (at_key proc_cmp p (map (λ p. (p, fresh p)) ps)))) (ap (is_at (proc_cmp p)) (sym e) ∙ (eq_by_cmp_equiv procs_total).refl p)
fresh_at (q ∷ ps) p (inr i) = by_test (is_at (proc_cmp p) q) (fresh_at ps p i)
  where
    by_test : (b : Bool) → is_some (at_key proc_cmp p (map (λ p. (p, fresh p)) ps)) ≡ true → is_some (cond b (Some (fresh q)) (at_key proc_cmp p (map (λ p. (p, fresh p)) ps))) ≡ true
    by_test true h = refl
    by_test false h = h

new_has : (jobs : Jobs) (id : ℕ) → HasSealers jobs id (new_holding jobs id)
new_has jobs id p own =
    ap is_some (get-map_of procs_total (map (λ p. (p, fresh p)) (procs_at jobs id)) p)
    ∙ fresh_at (procs_at jobs id) p (own_are_listed jobs id p own.0 own.1)

pub new_is_node : (jobs : Jobs) (id : ℕ) → AreJobs jobs → is_node jobs id ≡ true → IsNode (new_server jobs id)
new_is_node jobs id are is = record { jobs = are; node = is; server = new_is_server jobs id; sealers = new_has jobs id; marks = new_has_marks jobs id }

-- and these parts make it
pub new_parts : (jobs : Jobs) (id : ℕ) (table : Known) (board : Board) (sealers : AllSealed) (sets : Sealed) (calls : Calls) (held : Requests) (marks : Levels)
    → table.jobs ≡ jobs → table.fences ≡ no_fences → board.near ≡ finite.empty → board.far ≡ finite.empty → sealers ≡ with_fresh (procs_at jobs id) finite.empty → sets ≡ fresh host
    → calls ≡ finite.empty → held ≡ no_requests → marks ≡ new_marks jobs id → server_of table id board (record { sealers = sealers; sets = sets }) calls held marks ≡ new_server jobs id
new_parts jobs id table board sealers sets calls held marks registry fences near far places fresh_sets none waits zero =
    let all = places ∙ fresh_is (procs_at jobs id) in
    λ i. record {
      jobs = registry i;
      id = id;
      holding = record {
        near = near i;
        far = far i;
        sealers = all i;
        sets = fresh_sets i;
        table = fences i;
        calls = none i;
        held = (waits i).held;
        requests = (waits i).anew.last;
      };
      marks = zero i;
    }

-- nobody waits for a reply
pub none_open : (calls : Calls) (anew : Refreshes) → calls ≡ finite.empty → AreOpen calls anew
none_open calls anew is p get number e = absurd (not_some (CallState.refreshing get number) (sym (finite.get-empty proc_cmp p) ∙ ap (λ (m : Calls). finite.get m p) (sym is) ∙ e))
  where
    not_some : (s : CallState) → ◌≡◌ {A = Option CallState} None (Some s) → ⊥
    not_some s it = cc
