-- Who leaves a fence was rightly released from it.
use Rattle.std.proofs.Common.{◌≡◌, ℕ, Bool, true, false, cond, List, [], ◌∷◌, ◌++◌, Option, Some, None, Result, inl, inr, refl, sym, ap, subst, ◌∙◌, append_assoc}
use Rattle.pmg_value.specs.Signatures.{FenceName}
use Rattle.pmg_value.specs.declared.process.Proc.{Proc}
use Rattle.pmg_value.specs.declared.refusal.Refusal.{Refusal}
use Rattle.pmg_jobinfo.specs.Jobs.{Jobs, is_node, home_of}
use Rattle.pmg_fence.specs.Rules.{Scripts, Grows, gone_of}
use Rattle.pmg_node_model.specs.Acts.{Request, Act, Reply, Done, cause, request_cause, leaves, serves, does, over, acts}
use Rattle.pmg_node_model.specs.Fitting.{FitsCall, last_fence, is_refusal}
use Rattle.pmg_node_model.specs.Holdings.{CallState, NodeState, call_of}
use Rattle.pmg_node_model.proofs.CauseFacts.{by_causes, caller_is}
use Rattle.pmg_node_model.proofs.Reading.{grows_unless}
use Rattle.pmg_node_model.proofs.Releasing.{gone_grown}
use Rattle.pmg_group_model.specs.Worlds.{World, Event, Doing, ActStep, Does, Step, Happened, Run, doing, not_there, said_in}
use Rattle.pmg_group_model.specs.Laws.{Good, WasReady, Leaves}
use Rattle.pmg_group_model.proofs.Runs.{run_good, always_good}
use Rattle.pmg_group_model.proofs.Steps.{step_good}
use Rattle.pmg_group_model.proofs.ToldScripts.{step_tells}
use Rattle.pmg_group_model.proofs.RunForms.{WholeOnRuns, AlikeOnRuns}

-- ---- scripts grow along a run

pub grows_more : (s t u : Scripts) → Grows s t → Grows t u → Grows s u
grows_more s t u one other q = ((one q).0 ++ (other q).0, (other q).1 ∙ ap (λ x. x ++ (other q).0) (one q).1 ∙ append_assoc (s q) (one q).0 (other q).0)

pub step_grows : (jobs : Jobs) (w : World) (e : Event) (r : Reply) (v : World) → Step jobs w e r v → Grows w.scripts v.scripts
step_grows jobs w e r v step = subst (Grows w.scripts) (sym (step_tells jobs w e r v step)) (grows_unless (is_refusal r) w.scripts (said_in jobs e))

pub run_grows : (jobs : Jobs) (xs : List Happened) (w v : World) → Run jobs w xs v → Grows w.scripts v.scripts
unfolding Run
run_grows jobs [] w v run = subst (λ (x : World). Grows w.scripts x.scripts) (sym run) (grows_unless true w.scripts None)
run_grows jobs (x ∷ xs) w v run =
    grows_more w.scripts run.0.scripts v.scripts (step_grows jobs w x.event x.reply run.0 run.1) (run_grows jobs xs run.0 v run.2)

-- ---- a leave that is told of a release

-- the process was released from the fence, which is over
pub record WasReleased (jobs : Jobs) (node : ℕ) (h : NodeState) (p : Proc) (k : ℕ) (gone : List Proc) : Type 0 where
  pub name : FenceName
  pub home : home_of jobs p ≡ node
  pub call : call_of h p ≡ Some (CallState.released name gone)
  pub number : k ≡ name.instance

released_from : (jobs : Jobs) (node : ℕ) (h : NodeState) (p : Proc) (k : ℕ) (gone : List Proc) → home_of jobs p ≡ node → (c : Option CallState) → call_of h p ≡ c
    → Reply.released k gone ≡ (leaves h p c).reply → WasReleased jobs node h p k gone
released_from jobs node h p k gone home None is e = absurd cc
released_from jobs node h p k gone home (Some (CallState.in_fence f)) is e = absurd cc
released_from jobs node h p k gone home (Some (CallState.released f others)) is e =
    let number : k ≡ f.instance = cc in
    let same : others ≡ gone = cc in
    record { name = f; home = home; call = is ∙ ap (λ x. Some (CallState.released f x)) same; number = number }
released_from jobs node h p k gone home (Some (CallState.parked get)) is e = absurd cc
released_from jobs node h p k gone home (Some (CallState.answered get outcome)) is e = absurd cc
released_from jobs node h p k gone home (Some (CallState.refreshing get number)) is e = absurd cc
released_from jobs node h p k gone home (Some (CallState.refreshed get outcome)) is e = absurd cc

abbrev leave_act : Proc → Act
leave_act p = Act.request (Request.leave p)

leave_replied : (jobs : Jobs) (node : ℕ) (h : NodeState) (p : Proc) (k : ℕ) (gone : List Proc) → Reply.released k gone ≡ (acts jobs node h (leave_act p)).reply → WasReleased jobs node h p k gone
unfolding cause does serves request_cause
leave_replied jobs node h p k gone e = elim (by_causes (cause jobs node h (leave_act p)) (does jobs node h (leave_act p))) [
  | inl found ↦ absurd (never found.0 (e ∙ ap (λ (x : Result Done Refusal). (over jobs node h x).reply) found.2))
  | inr free ↦
      released_from jobs node h p k gone (caller_is jobs node h p free.1).home (call_of h p) refl (e ∙ ap (λ (x : Result Done Refusal). (over jobs node h x).reply) free.0)
]
  where
    never : (c : Refusal) → Reply.released k gone ≡ Reply.refused c → ⊥
    never c z = cc

leave_by : (jobs : Jobs) (w : World) (node : ℕ) (p : Proc) (k : ℕ) (gone : List Proc) (v : World) (b : Bool)
    → Does jobs w (cond b (Doing.at_node node (leave_act p)) not_there) (Reply.released k gone) v → ActStep jobs w node (leave_act p) (Reply.released k gone) v
leave_by jobs w node p k gone v true step = step
leave_by jobs w node p k gone v false step = absurd (never step.replied)
  where
    never : {e : Refusal} → Reply.released k gone ≡ Reply.refused e → ⊥
    never z = cc

pub leave_step : (jobs : Jobs) (w : World) (node : ℕ) (p : Proc) (k : ℕ) (gone : List Proc) (v : World) → Step jobs w (Event.request node (Request.leave p)) (Reply.released k gone) v
    → ActStep jobs w node (leave_act p) (Reply.released k gone) v
unfolding doing
leave_step jobs w node p k gone v step = leave_by jobs w node p k gone v (is_node jobs node) step

pub leaves_released : (jobs : Jobs) (w : World) (p : Proc) (k : ℕ) (gone : List Proc) (v : World) → (out : Leaves jobs w p k gone v) → WasReleased jobs out.0 (w.nodes out.0) p k gone
leaves_released jobs w p k gone v out = leave_replied jobs out.0 (w.nodes out.0) p k gone (leave_step jobs w out.0 p k gone v out.1).step.replied

-- what is known of the fence then
pub record LeftFence (jobs : Jobs) (w : World) (p : Proc) (k : ℕ) (gone : List Proc) : Type 0 where
  pub name : FenceName
  pub last : last_fence (w.scripts p) ≡ Some name
  pub number : k ≡ name.instance
  pub ready : WasReady w.scripts (w.nodes (home_of jobs p)).far name gone

pub left_fence : (jobs : Jobs) (w : World) → Good jobs w → (p : Proc) (k : ℕ) (gone : List Proc) (v : World) → Leaves jobs w p k gone v → LeftFence jobs w p k gone
left_fence jobs w good p k gone v out =
    let was = leaves_released jobs w p k gone v out in
    let call : FitsCall (w.scripts p) (Some (CallState.released was.name gone)) = subst (FitsCall (w.scripts p)) was.call ((good.fits out.0).calls p was.home) in
    record {
      name = was.name;
      last = call.0;
      number = was.number;
      ready = subst (λ n. WasReady w.scripts (w.nodes n).far was.name gone) (sym was.home) (good.freed out.0 p was.name gone was.call);
    }

pub released_whole : WholeOnRuns
released_whole jobs are xs w run p k gone v out =
    let from = left_fence jobs w (always_good jobs are xs w run) p k gone v out in
    (from.name, from.last, from.number, from.ready.gone_are, λ q i. let its = from.ready.covered q i in (its.0, its.1))

pub one_name : (f g : FenceName) (x y : Option FenceName) → x ≡ Some f → y ≡ Some g → x ≡ y → f ≡ g
one_name f g x y one other same = let both : Some f ≡ Some g = sym one ∙ same ∙ other in cc

pub released_alike : AlikeOnRuns
released_alike jobs are xs w run p k gone v out ys x run_on q j others y out_too same =
    let good = always_good jobs are xs w run in
    let good_v = step_good jobs are w good (Event.request out.0 (Request.leave p)) (Reply.released k gone) v out.1 in
    let good_x = run_good jobs are ys v x good_v run_on in
    let one = left_fence jobs w good p k gone v out in
    let two = left_fence jobs x good_x q j others y out_too in
    let name = one_name one.name two.name (last_fence (w.scripts p)) (last_fence (x.scripts q)) one.last two.last same in
    let grows = grows_more w.scripts v.scripts x.scripts (step_grows jobs w (Event.request out.0 (Request.leave p)) (Reply.released k gone) v out.1) (run_grows jobs ys v x run_on) in (
      one.number ∙ ap (λ (f : FenceName). f.instance) name ∙ sym two.number,
      one.ready.gone_are ∙ gone_grown w.scripts x.scripts one.name grows (λ r i. let its = one.ready.covered r i in (its.0, its.1)) ∙ ap (gone_of x.scripts) name ∙ sym two.ready.gone_are,
    )
