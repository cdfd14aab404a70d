-- An act of one node of a group.
use Rattle.std.proofs.Common.{◌≡◌, ℕ, ◌<◌, Bool, true, false, ◌==◌, cond, List, [], ◌∷◌, length, get_or, set, Result, Ok, Err, refl, sym, subst, ◌∙◌, arith}
use Rattle.std.proofs.lemmas.Bool.{and_parts}
use Rattle.std.proofs.lemmas.Bool.Decides.{nat_tests}
use Rattle.std.proofs.lemmas.List.{length-set, get_or-set_same, get_or-set_other}
use Rattle.pmg_value.specs.Lists.{Each}
use Rattle.pmg_value.specs.declared.refusal.Refusal.{Refusal}
use Rattle.pmg_value.specs.declared.refusal.Refusal.TheVariants as refusals
use Rattle.pmg_jobinfo.specs.Jobs.{Jobs, AreJobs, is_node}
use Rattle.pmg_node_model.specs.Acts.{Act, Reply, is_peer}
use Rattle.pmg_node_model.specs.Holdings.{NodeState}
use Rattle.pmg_node_model.specs.Kept.{IsServer}
use Rattle.pmg_node_model.specs.Sending.{NodeStep}
use Rattle.pmg_node.specs.Servers.{Server, IsAnswered, RepliesAct, after, reply_in, reply_to, sent_by}
use Rattle.pmg_node_model.specs.declared.sent.Sent.{Sent}
use Rattle.pmg_node_model.proofs.ChoosingSteps.{chosen_is_step}
use Rattle.pmg_node_model.proofs.KeptActs.{server_stays}
use Rattle.pmg_world.specs.Keeping.{IsNodeOf, AreNodes}
use Rattle.pmg_group_model.specs.Worlds.{with_holding_at}

-- an answer that is no failed allocation is the one that is due
pub answered_due : {X : Type 0} (view : X → Reply) (answer : Result X Refusal) (s : Server) (a : Act) → RepliesAct view answer s a → IsAnswered answer → reply_in view answer ≡ reply_to s a
answered_due view (Ok x) s a replies is = sym replies
answered_due view (Err refusals.NoMemory) s a replies is = absurd is
answered_due view (Err refusals.BadParam) s a replies is = sym replies
answered_due view (Err refusals.NotFound) s a replies is = sym replies
answered_due view (Err refusals.OutsideScope) s a replies is = sym replies
answered_due view (Err refusals.UnknownNamespace) s a replies is = sym replies
answered_due view (Err refusals.NotMine) s a replies is = sym replies
answered_due view (Err refusals.Busy) s a replies is = sym replies
answered_due view (Err refusals.Terminated) s a replies is = sym replies
answered_due view (Err refusals.NotAParticipant) s a replies is = sym replies
answered_due view (Err refusals.TooMany) s a replies is = sym replies
answered_due view (Err (refusals.BadFrame f)) s a replies is = sym replies
answered_due view (Err refusals.Exists) s a replies is = sym replies
answered_due view (Err refusals.Collision) s a replies is = sym replies
answered_due view (Err refusals.Stale) s a replies is = sym replies
answered_due view (Err refusals.Unordered) s a replies is = sym replies
answered_due view (Err refusals.Closed) s a replies is = sym replies

-- what a node chooses to do is one step
server_step : (jobs : Jobs) → AreJobs jobs → (node : ℕ) (h : NodeState) → IsServer jobs node h → (s : Server) → IsNodeOf jobs node h s → (a : Act)
    → NodeStep jobs node h a (reply_to s a) (after s a).holding (sent_by s a)
server_step jobs are node h server s of a =
    let same_jobs : s.jobs ≡ jobs = of.jobs_same in
    let same_id : s.id ≡ node = of.id_same in
    let same_holding : s.holding ≡ h = of.holds in
    let are_jobs = subst AreJobs (sym same_jobs) are in
    let is = subst (λ (j : Jobs). IsServer j s.id s.holding) (sym same_jobs) (subst (λ n. IsServer jobs n s.holding) (sym same_id) (subst (IsServer jobs node) (sym same_holding) server)) in
    let step = chosen_is_step s.jobs are_jobs s.id s.holding is s.marks a in
    subst (λ x. NodeStep jobs node x a (reply_to s a) (after s a).holding (sent_by s a)) same_holding
    (subst (λ n. NodeStep jobs n s.holding a (reply_to s a) (after s a).holding (sent_by s a)) same_id
    (subst (λ (j : Jobs). NodeStep j s.id s.holding a (reply_to s a) (after s a).holding (sent_by s a)) same_jobs step))

-- it stays the node's
server_of_still : (jobs : Jobs) (node : ℕ) (h : NodeState) (s : Server) (a : Act) → IsNodeOf jobs node h s → IsNodeOf jobs node (after s a).holding (after s a)
server_of_still jobs node h s a of = record { jobs_same = of.jobs_same; id_same = of.id_same; holds = refl }

other_node : (m n : ℕ) → (m == n) ≡ false → m ≡ n → ⊥
other_node m n e same = grind (arith, nat_tests)

same_index : (m n : ℕ) → (m == n) ≡ true → m ≡ n
same_index m n e = grind (arith, nat_tests)

peer_is_node : (jobs : Jobs) (id : ℕ) (xs : List Sent) → Each (λ s. is_peer jobs id s.to ≡ true) xs → Each (λ s. is_node jobs s.to ≡ true) xs
peer_is_node jobs id [] each = tt
peer_is_node jobs id (x ∷ xs) each = ((and_parts (is_node jobs x.to) _ each.0).0, peer_is_node jobs id xs each.1)

module _ (jobs : Jobs) (are : AreJobs jobs) (servers : List Server) (nodes : ℕ → NodeState) (kept : AreNodes jobs servers nodes) (node : ℕ) (d : Server) (inside : node < length servers) (a : Act) where
  abbrev s : Server
  s = get_or servers node d

  -- one step of the node
  pub act_steps : NodeStep jobs node (nodes node) a (reply_to s a) (after s a).holding (sent_by s a)
  act_steps = server_step jobs are node (nodes node) (kept.servers node inside) s (kept.each node d inside) a

  -- the nodes after it
  pub act_keeps : AreNodes jobs (set servers node (after s a)) (with_holding_at nodes node (after s a).holding)
  act_keeps = record {
    count = length-set servers node (after s a) ∙ kept.count;
    each = λ m e within. at m e (subst (λ n. m < n) (length-set servers node (after s a)) within) (m == node) refl;
    servers = λ m within. still m (subst (λ n. m < n) (length-set servers node (after s a)) within) (m == node) refl;
  }
    where
      at : (m : ℕ) (e : Server) → m < length servers → (b : Bool) → (m == node) ≡ b
          → IsNodeOf jobs m (cond b (after s a).holding (nodes m)) (get_or (set servers node (after s a)) m e)
      at m e within true is =
          subst (λ n. IsNodeOf jobs n (after s a).holding (get_or (set servers node (after s a)) n e)) (sym (same_index m node is))
          (subst (IsNodeOf jobs node (after s a).holding) (sym (get_or-set_same servers node (after s a) e inside)) (server_of_still jobs node (nodes node) s a (kept.each node d inside)))
      at m e within false is = subst (IsNodeOf jobs m (nodes m)) (sym (get_or-set_other servers node m (after s a) e (other_node m node is))) (kept.each m e within)

      still : (m : ℕ) → m < length servers → (b : Bool) → (m == node) ≡ b → IsServer jobs m (cond b (after s a).holding (nodes m))
      still m within true is =
          subst (λ n. IsServer jobs n (after s a).holding) (sym (same_index m node is))
          (subst (IsServer jobs node) (sym act_steps.left) (server_stays jobs node (nodes node) a (kept.servers node inside)))
      still m within false is = kept.servers m within

  -- its frames go to nodes of the group
  pub act_peers : Each (λ x. is_node jobs x.to ≡ true) (sent_by s a)
  act_peers = peer_is_node jobs node (sent_by s a) act_steps.peers
