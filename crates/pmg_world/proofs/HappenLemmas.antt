-- What each event of a world is.
use Rattle.std.proofs.Common.{◌≡◌, ℕ, zero, suc, ◌<◌, ◌≤◌, Bool, true, false, ◌||◌, cond, List, [], ◌∷◌, length, get_or, Some, None, Result, refl, sym, ap, ◌∙◌, arith}
use Rattle.std.specs.FinMap as map
use Rattle.pmg_value.specs.CheckOrder.{first_of}
use Rattle.pmg_value.specs.Names.{is_reserved}
use Rattle.pmg_value.specs.declared.process.Proc.{Proc}
use Rattle.pmg_value.specs.declared.refusal.Refusal.{Refusal}
use Rattle.pmg_value.specs.declared.refusal.Refusal.TheVariants as refusals
use Rattle.pmg_scope.specs.Cached.{Cached, unsealed_of}
use Rattle.pmg_scope.specs.Scripts.{last_put}
use Rattle.pmg_scope.specs.declared.scope.Reach.TheVariants as reach
use Rattle.pmg_jobinfo.specs.Jobs.{Jobs, is_node}
use Rattle.pmg_jobinfo.specs.Reserved.{is_general}
use Rattle.pmg_get.specs.Gets.{Outcome, found_or, resolve}
use Rattle.pmg_get.specs.declared.view.Mode.{Mode}
use Rattle.pmg_node_model.specs.Acts.{Request, Act, Reply, is_misnamed, reply_of}
use Rattle.pmg_node_model.specs.Holdings.{Get, NodeState}
use Rattle.pmg_node.specs.Servers.{Server}
use Rattle.pmg_node_model.specs.declared.sent.Sent.{Sent}
use Rattle.pmg_caches.specs.OwnKeys.{own_key, own_answer}
use Rattle.pmg_world.specs.Keeping.{KeepsFor, IsNodeOf}
use Rattle.pmg_group_model.specs.Worlds.{World, Event, Doing, doing, requests, own_get, own_cause, is_own, puts, not_there, nth, numbered, delivers, cache_of}
use Rattle.pmg_caches.proofs.CauseLemmas.{first_bad}
use Rattle.pmg_world.proofs.ClientLemmas.{own_is}

-- ---- frames by their numbers

nth_there : {A : Type 0} (xs : List A) (i : ℕ) (d : A) → i < length xs → nth xs i ≡ Some (get_or xs i d)
nth_there [] i d inside = absurd (omega (arith, inside))
nth_there (x ∷ xs) zero d inside = refl
nth_there (x ∷ xs) (suc i) d inside = nth_there xs i d (omega (arith, inside))

nth_past : {A : Type 0} (xs : List A) (i : ℕ) → length xs ≤ i → nth xs i ≡ None
nth_past [] i past = refl
nth_past (x ∷ xs) zero past = absurd (omega (arith, past))
nth_past (x ∷ xs) (suc i) past = nth_past xs i (omega (arith, past))

pub numbered_there : {A : Type 0} (xs : List A) (i n : ℕ) (d : A) → n ≡ suc i → i < length xs → numbered xs n ≡ Some (get_or xs i d)
numbered_there xs i n d is inside = ap (numbered xs) is ∙ nth_there xs i d inside

pub numbered_zero : {A : Type 0} (xs : List A) (n : ℕ) → n ≡ 0 → numbered xs n ≡ None
numbered_zero xs n e = ap (numbered xs) e

pub numbered_past : {A : Type 0} (xs : List A) (n : ℕ) → length xs < n → numbered xs n ≡ None
numbered_past xs zero past = refl
numbered_past xs (suc i) past = nth_past xs i (omega (arith, past))

module _ (jobs : Jobs) (w : World) where
  pub put_is : (p : Proc) (scope : _) (key value : List ℕ) → doing jobs w (Event.put p scope key value) ≡ puts jobs w p scope key value
  unfolding doing
  put_is p scope key value = refl

  pub commit_there : (node : ℕ) (p : Proc) → is_node jobs node ≡ true → doing jobs w (Event.commit node p) ≡ Doing.at_node node (Act.commit p (unsealed_of (cache_of (w.scripts p))))
  unfolding doing
  commit_there node p e = ap (λ b. cond b (Doing.at_node node (Act.commit p (unsealed_of (cache_of (w.scripts p))))) not_there) e

  pub commit_nowhere : (node : ℕ) (p : Proc) → is_node jobs node ≡ false → doing jobs w (Event.commit node p) ≡ not_there
  unfolding doing
  commit_nowhere node p e = ap (λ b. cond b (Doing.at_node node (Act.commit p (unsealed_of (cache_of (w.scripts p))))) not_there) e

  pub request_there : (node : ℕ) (r : Request) → is_node jobs node ≡ true → doing jobs w (Event.request node r) ≡ requests jobs w node r
  unfolding doing
  request_there node r e = ap (λ b. cond b (requests jobs w node r) not_there) e

  pub request_nowhere : (node : ℕ) (r : Request) → is_node jobs node ≡ false → doing jobs w (Event.request node r) ≡ not_there
  unfolding doing
  request_nowhere node r e = ap (λ b. cond b (requests jobs w node r) not_there) e

  pub frame_there : (n : ℕ) (s : Sent) → numbered w.sent n ≡ Some s → doing jobs w (Event.deliver n) ≡ Doing.at_node s.to (Act.deliver s.frame)
  unfolding doing
  frame_there n s e = ap delivers e

  pub frame_nowhere : (n : ℕ) → numbered w.sent n ≡ None → doing jobs w (Event.deliver n) ≡ not_there
  unfolding doing
  frame_nowhere n e = ap delivers e

  -- ---- requests

  -- a get of a key of one's own
  abbrev pub own_due : ℕ → Proc → List ℕ → Result Reply Refusal
  own_due node p key = first_of (own_cause jobs node (w.nodes node) p) (reply_of (found_or (last_put reach.Own key (w.scripts p)) Outcome.absent))

  -- the answer of the one or the node's
  abbrev asks_by : Bool → ℕ → Proc → Get → Mode → Doing
  asks_by own node p get mode = cond own (own_get jobs w node p get.key mode) (Doing.at_node node (Act.request (Request.ask p get mode)))

  pub asks_node : (node : ℕ) (p : Proc) (get : Get) (mode : Mode) → is_own p get ≡ false → requests jobs w node (Request.ask p get mode) ≡ Doing.at_node node (Act.request (Request.ask p get mode))
  asks_node node p get mode e = ap (λ b. asks_by b node p get mode) e

  pub asks_own : (node : ℕ) (p : Proc) (get : Get) (mode : Mode) → is_own p get ≡ true → requests jobs w node (Request.ask p get mode) ≡ Doing.by_cache (own_due node p get.key) None
  unfolding resolve
  asks_own node p get mode e = ap (λ b. asks_by b node p get mode) e

  no_own : {A : Type 0} (x : A) (b : Bool) → cond b (Some x) None ≡ None → b ≡ false
  no_own x true e = absurd cc
  no_own x false e = refl

  pub at_node_is : (node : ℕ) (r : Request) → own_key r ≡ None → requests jobs w node r ≡ Doing.at_node node (Act.request r)
  at_node_is node (Request.enter p list collect) e = refl
  at_node_is node (Request.leave p) e = refl
  at_node_is node (Request.ask p get mode) e = asks_node node p get mode (no_own (p, get.key) (is_own p get) e)
  at_node_is node (Request.take p) e = refl
  at_node_is node (Request.terminate p) e = refl
  at_node_is node (Request.define name list) e = refl
  at_node_is node (Request.delete name) e = refl
  at_node_is node Request.nudge e = refl

  -- the answer that the client's cache gives is the one that is due
  own_by : (node : ℕ) (s : Server) (c : Cached) (p : Proc) (key : List ℕ) → IsNodeOf jobs node (w.nodes node) s → KeepsFor p c (w.scripts p) → (b : Bool) → is_reserved p.nspace ≡ b
      → own_answer s c p key ≡ own_due node p key
  unfolding own_answer
  own_by node s c p key of keeps true e =
      first_bad (own_cause s.jobs s.id s.holding p) (reply_of (found_or (map.get c.own key) Outcome.absent)) refl (bad s.jobs s.id s.holding)
      ∙ sym (first_bad (own_cause jobs node (w.nodes node) p) (reply_of (found_or (last_put reach.Own key (w.scripts p)) Outcome.absent)) refl (bad jobs node (w.nodes node)))
    where
      bad : (jobs : Jobs) (node : ℕ) (h : NodeState) → own_cause jobs node h p refusals.BadParam ≡ true
      bad jobs node h = (λ i. ((e i || is_misnamed jobs p) || false) || is_general p)
  own_by node s c p key of keeps false e = (λ i. first_of (own_cause (of.jobs_same i) (of.id_same i) (of.holds i) p) (reply_of (found_or (has i) Outcome.absent)))
    where
      has : map.get c.own key ≡ last_put reach.Own key (w.scripts p)
      has = ap (λ (x : Cached). map.get x.own key) (keeps.client e) ∙ own_is (w.scripts p) key

  pub own_answer_is : (node : ℕ) (s : Server) (c : Cached) (p : Proc) (key : List ℕ) → IsNodeOf jobs node (w.nodes node) s → KeepsFor p c (w.scripts p)
      → own_answer s c p key ≡ own_due node p key
  own_answer_is node s c p key of keeps = own_by node s c p key of keeps (is_reserved p.nspace) refl
