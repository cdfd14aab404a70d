-- What a step is: an act of one node with its event, or a call that touches no node and sends nothing.
use Rattle.std.proofs.Common.{◌≡◌, ℕ, zero, suc, Bool, true, false, cond, List, [], ◌∷◌, Option, Some, None, Result, inl, inr, refl, sym, ap}
use Rattle.pmg_value.specs.Lists.{In}
use Rattle.pmg_value.specs.declared.process.Proc.{Proc}
use Rattle.pmg_value.specs.declared.refusal.Refusal.{Refusal}
use Rattle.pmg_scope.specs.Cached.{unsealed_of}
use Rattle.pmg_frame.specs.declared.frame.Frame.{Frame}
use Rattle.pmg_jobinfo.specs.Jobs.{Jobs, is_node}
use Rattle.pmg_get.specs.declared.view.Mode.{Mode}
use Rattle.pmg_node_model.specs.Acts.{Request, Act, Reply, Said}
use Rattle.pmg_node_model.specs.Holdings.{Get}
use Rattle.pmg_node_model.specs.declared.sent.Sent.{Sent}
use Rattle.pmg_group_model.specs.Laws.{Wanted, wanted_after}
use Rattle.pmg_group_model.specs.Worlds.{World, Event, Doing, ActStep, CacheStep, Does, Step, requests, own_get, is_own, nth, numbered, delivers, not_there, cache_of, doing}
use Rattle.pmg_group_model.proofs.Rising.{wanted_of}

-- the act is the event's: by it as many gets wait as by the event, and what it delivers was sent
pub record IsActOf (w : World) (e : Event) (a : Act) : Type 0 where
  pub wants : (p : Proc) (r : Reply) (before : Option Wanted) → wanted_after p e r before ≡ wanted_of p a r before
  pub frame : (frame : Frame) → a ≡ Act.deliver frame → (s : Sent) × In s w.sent × (s.frame ≡ frame)

pub data StepView (jobs : Jobs) (w : World) (e : Event) (r : Reply) (v : World) : Type 0 where
  acting : (node : ℕ) (a : Act) → IsActOf w e a → ActStep jobs w node a r v → StepView jobs w e r v
  resting : v.nodes ≡ w.nodes → v.sent ≡ w.sent → StepView jobs w e r v

module _ (jobs : Jobs) (w : World) where
  rests : (e : Event) (answer : Result Reply Refusal) (said : Option Said) (r : Reply) (v : World) → CacheStep w answer said r v → StepView jobs w e r v
  rests e answer said r v step = StepView.resting (ap (λ (x : World). x.nodes) step.left) (ap (λ (x : World). x.sent) step.left)

  -- ---- requests

  request_is : (node : ℕ) (r : Request) → IsActOf w (Event.request node r) (Act.request r)
  request_is node r = record { wants = λ p reply before. refl; frame = λ frame e. absurd (no_delivery frame e) }
    where
      no_delivery : (frame : Frame) → Act.request r ≡ Act.deliver frame → ⊥
      no_delivery frame e = cc

  ask_view : (node : ℕ) (p : Proc) (get : Get) (mode : Mode) (r : Reply) (v : World) (b : Bool)
      → Does jobs w (cond b (own_get jobs w node p get.key mode) (Doing.at_node node (Act.request (Request.ask p get mode)))) r v
      → StepView jobs w (Event.request node (Request.ask p get mode)) r v
  ask_view node p get mode r v true step = rests (Event.request node (Request.ask p get mode)) _ _ r v step
  ask_view node p get mode r v false step = StepView.acting node (Act.request (Request.ask p get mode)) (request_is node (Request.ask p get mode)) step

  requests_view : (node : ℕ) (request : Request) (r : Reply) (v : World) → Does jobs w (requests jobs w node request) r v → StepView jobs w (Event.request node request) r v
  requests_view node (Request.enter p list collect) r v step = StepView.acting node (Act.request (Request.enter p list collect)) (request_is node (Request.enter p list collect)) step
  requests_view node (Request.leave p) r v step = StepView.acting node (Act.request (Request.leave p)) (request_is node (Request.leave p)) step
  requests_view node (Request.ask p get mode) r v step = ask_view node p get mode r v (is_own p get) step
  requests_view node (Request.take p) r v step = StepView.acting node (Act.request (Request.take p)) (request_is node (Request.take p)) step
  requests_view node (Request.terminate p) r v step = StepView.acting node (Act.request (Request.terminate p)) (request_is node (Request.terminate p)) step
  requests_view node (Request.define name list) r v step = StepView.acting node (Act.request (Request.define name list)) (request_is node (Request.define name list)) step
  requests_view node (Request.delete name) r v step = StepView.acting node (Act.request (Request.delete name)) (request_is node (Request.delete name)) step
  requests_view node Request.nudge r v step = StepView.acting node (Act.request Request.nudge) (request_is node Request.nudge) step

  node_view : (node : ℕ) (request : Request) (r : Reply) (v : World) (b : Bool) → Does jobs w (cond b (requests jobs w node request) not_there) r v
      → StepView jobs w (Event.request node request) r v
  node_view node request r v true step = requests_view node request r v step
  node_view node request r v false step = rests (Event.request node request) _ _ r v step

  -- ---- commits and deliveries

  commit_view : (node : ℕ) (p : Proc) (a : Act) → IsActOf w (Event.commit node p) a → (r : Reply) (v : World) (b : Bool)
      → Does jobs w (cond b (Doing.at_node node a) not_there) r v → StepView jobs w (Event.commit node p) r v
  commit_view node p a is r v true step = StepView.acting node a is step
  commit_view node p a is r v false step = rests (Event.commit node p) _ _ r v step

  commit_is : (node : ℕ) (p : Proc) → IsActOf w (Event.commit node p) (Act.commit p (unsealed_of (cache_of (w.scripts p))))
  commit_is node p = record { wants = λ q reply before. refl; frame = λ frame e. absurd (no_delivery frame e) }
    where
      no_delivery : (frame : Frame) → Act.commit p (unsealed_of (cache_of (w.scripts p))) ≡ Act.deliver frame → ⊥
      no_delivery frame e = cc

  nth_in : (xs : List Sent) (i : ℕ) (s : Sent) → nth xs i ≡ Some s → In s xs
  nth_in [] i s e = absurd cc
  nth_in (x ∷ xs) zero s e = inl (let same : x ≡ s = cc in sym same)
  nth_in (x ∷ xs) (suc i) s e = inr (nth_in xs i s e)

  numbered_in : (i : ℕ) (s : Sent) → numbered w.sent i ≡ Some s → In s w.sent
  numbered_in zero s e = absurd cc
  numbered_in (suc i) s e = nth_in w.sent i s e

  delivers_view : (i : ℕ) (o : Option Sent) → numbered w.sent i ≡ o → (r : Reply) (v : World) → Does jobs w (delivers o) r v → StepView jobs w (Event.deliver i) r v
  delivers_view i None is r v step = rests (Event.deliver i) _ _ r v step
  delivers_view i (Some s) is r v step = StepView.acting s.to (Act.deliver s.frame) (record { wants = λ p reply before. refl; frame = λ frame e. (s, numbered_in i s is, same frame e) }) step
    where
      same : (frame : Frame) → Act.deliver s.frame ≡ Act.deliver frame → s.frame ≡ frame
      same frame e = cc

  pub step_view : (e : Event) (r : Reply) (v : World) → Step jobs w e r v → StepView jobs w e r v
  unfolding doing
  step_view (Event.put p scope key value) r v step = rests (Event.put p scope key value) _ _ r v step
  step_view (Event.commit node p) r v step = commit_view node p (Act.commit p (unsealed_of (cache_of (w.scripts p)))) (commit_is node p) r v (is_node jobs node) step
  step_view (Event.request node request) r v step = node_view node request r v (is_node jobs node) step
  step_view (Event.deliver i) r v step = delivers_view i (numbered w.sent i) refl r v step
