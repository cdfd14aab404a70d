-- A new group stands for the start of the model.
use Rattle.std.proofs.Common.{◌≡◌, ℕ, ◌+◌, ◌<◌, Bool, true, false, ◌==◌, List, [], ◌∷◌, ◌++◌, length, get_or, Option, refl, sym, ap, subst, ◌∙◌, arith}
use Rattle.std.proofs.lemmas.Bool.Decides.{nat_tests}
use Rattle.std.proofs.lemmas.List.{get_or_append_left, length-append}
use Rattle.std.proofs.Math.Seq.{get_or-append_seam}
use Rattle.std.specs.FinMap as finite
use Rattle.std.specs.Option.{unwrap_or}
use Rattle.pmg_value.specs.Process.{proc_cmp}
use Rattle.pmg_value.specs.Lists.{Each}
use Rattle.pmg_scope.specs.Cached.{Cached, no_puts}
use Rattle.pmg_jobinfo.specs.Jobs.{Jobs, AreJobs, is_node}
use Rattle.pmg_node.specs.Opening.{new_server}
use Rattle.pmg_node.specs.Servers.{Server}
use Rattle.pmg_node_model.specs.declared.sent.Sent.{Sent}
use Rattle.pmg_node_model.proofs.KeptActs.{new_is_server}
use Rattle.pmg_world.specs.Keeping.{AreNew, Represents}
use Rattle.pmg_group_model.specs.Worlds.{start, cache_of}
use Rattle.pmg_world.specs.declared.group.Group.{Group}

-- some server
abbrev pub some_server : Jobs → Server
some_server jobs = new_server jobs 0

pub none_new : (jobs : Jobs) → AreNew jobs 0 []
none_new jobs = record { count_is = refl; each = λ node d inside. absurd (omega (arith, inside)) }

-- one node more
pub more_new : (jobs : Jobs) (n m : ℕ) (xs : List Server) (x : Server) → AreNew jobs n xs → x ≡ new_server jobs n → m ≡ n + 1 → AreNew jobs m (xs ++ x ∷ [])
more_new jobs n m xs x are is next = record {
  count_is = length-append xs (x ∷ []) ∙ ap (λ k. k + 1) are.count_is ∙ sym next;
  each = λ node d inside. at node d (omega (arith, inside, next)) (node == n) refl;
}
  where
    at : (node : ℕ) (d : Server) → node < n + 1 → (b : Bool) → (node == n) ≡ b → get_or (xs ++ x ∷ []) node d ≡ new_server jobs node
    at node d inside true e =
        let same : node ≡ n = grind (arith, nat_tests) in
        ap (λ k. get_or (xs ++ x ∷ []) k d) (same ∙ sym are.count_is) ∙ get_or-append_seam xs x [] d ∙ is ∙ ap (new_server jobs) (sym same)
    at node d inside false e =
        let apart : node ≡ n → ⊥ = grind (arith, nat_tests) in
        let less : node < n = grind (arith, nat_tests) in
        get_or_append_left xs (x ∷ []) d node (subst (λ k. node < k) (sym are.count_is) less) ∙ are.each node d less

nobody : (p : _) → unwrap_or (finite.get (finite.empty {X = Cached} {R = proc_cmp}) p) no_puts ≡ no_puts
nobody p = ap (λ (o : Option Cached). unwrap_or o no_puts) (finite.get-empty proc_cmp p)

pub starts : (g : Group) → AreJobs g.registry → AreNew g.registry (length g.registry.nodes) g.nodes.items → g.caches ≡ finite.empty → g.sent.items ≡ [] → Represents g (start g.registry)
unfolding cache_of
starts g jobs are caches sent = record {
  jobs = jobs;
  nodes = record {
    count = are.count_is;
    each = λ node d inside. let is = are.each node d (subst (λ k. node < k) are.count_is inside) in
        record { jobs_same = ap (λ (s : Server). s.jobs) is; id_same = ap (λ (s : Server). s.id) is; holds = ap (λ (s : Server). s.holding) is };
    servers = λ node inside. new_is_server g.registry node;
  };
  caches = λ p.
      let none = ap (λ m. unwrap_or (finite.get m p) no_puts) caches ∙ nobody p in
      record { client = λ e. none; none = λ e. none; sealed = λ e. refl };
  sent = sent;
  peers = subst (Each (λ (s : Sent). is_node g.registry s.to ≡ true)) (sym sent) tt;
}
