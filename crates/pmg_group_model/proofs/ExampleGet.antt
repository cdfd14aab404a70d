-- The get of the examples, after the release; and the run in which the one process ends, as a whole.
use Rattle.std.proofs.Common.{◌≡◌, ◌≤◌, ℕ, false, ◌&&◌, ◌==◌, not, is_some, cond, [], ◌∷◌, Ok, refl, sym, ap, subst, ◌∙◌, arith}
use Rattle.pmg_value.specs.declared.refusal.Refusal.TheVariants as refusals
use Rattle.pmg_scope.specs.Scripts.{Call, Script, commits, value_at, before, term_key}
use Rattle.pmg_scope.specs.declared.scope.Reach.TheVariants as reach
use Rattle.pmg_commit.specs.Data.{level_at}
use Rattle.pmg_commit.specs.Sealed.{Sealed}
use Rattle.pmg_frame.specs.declared.local.State.{State}
use Rattle.pmg_frame.specs.declared.local.State.TheVariants as states
use Rattle.pmg_fence.specs.Rules.{Scripts}
use Rattle.pmg_get.specs.Gets.{Seen, Outcome, resolve}
use Rattle.pmg_get.specs.declared.view.Mode.TheVariants as modes
use Rattle.pmg_store.proofs.HonestDataLaws.{honest_level_is_made}
use Rattle.pmg_node_model.specs.Acts.{Request, Act, Reply, Done, also, free_cause, target_cause, number_cause, request_cause, cause, done_as, asks, serves, does, over, acts, says}
use Rattle.pmg_node_model.specs.Fitting.{Fits}
use Rattle.pmg_node_model.specs.Holdings.{NodeState, sealer_of, answer_in, seen_of, settled}
use Rattle.pmg_node_model.specs.Sending.{NodeStep}
use Rattle.pmg_node_model.proofs.CauseFacts.{NoCause}
use Rattle.pmg_group_model.specs.Worlds.{World, Event, Run, doing}
use Rattle.pmg_group_model.specs.Laws.{Good, seen_at}
use Rattle.pmg_group_model.specs.Examples.{two, j0, j1, happened_with, ends_and_meets, its_key, RunOfTwo, second_node}
use Rattle.pmg_group_model.proofs.ExampleGroup.{is_there, home_of_j0, home_of_j1, j0_is_member, j1_is_member, are_jobs, j0_meets}
use Rattle.pmg_group_model.proofs.ExampleNodes.{AreIdle, accepted, both_causes, idle_settled, entered_1, waits_1, told_1, lacks_1, freed_1, left_1, idle_left, level_then, sealer_then, level_is_one, its_proc}
use Rattle.pmg_group_model.proofs.ExampleActs.{live_at_1, free}
use Rattle.pmg_group_model.proofs.ExampleOwed.{NoneWaits, request_asks, same_news, idle_parks, owed_by}
use Rattle.pmg_group_model.proofs.ExampleSteps.{left_waits}
use Rattle.pmg_group_model.proofs.ExampleRun.{world_after, act_step, world_7, world_8, its_run, its_fence, its_release}
use Rattle.pmg_group_model.proofs.Runs.{always_good}
use Rattle.pmg_group_model.proofs.Seeing.{answer_sees}
use Rattle.pmg_group_model.proofs.Steps.{step_good}

abbrev pub asking : Act
asking = Act.request (Request.ask j1 its_key modes.Wait)

pub good_target : NoCause (target_cause two j1 its_key)
good_target = (
  refl,
  ((λ i. is_there i && not (j0_is_member i)), ((λ i. not (is_there i)), (refl, (refl, (refl, (refl, (refl, (refl, (refl, (refl, tt)))))))))),
)

-- a get that may wait asks nothing anew
pub no_number : (h : NodeState) → NoCause (number_cause two 1 h its_key modes.Wait)
no_number h = (refl, (refl, (refl, (refl, (refl, (refl, (refl, (refl, (refl, (refl, (refl, tt)))))))))))

-- so it has no cause to be refused
pub good_ask : (h : NodeState) → NoCause (also (target_cause two j1 its_key) (number_cause two 1 h its_key modes.Wait))
good_ask h = both_causes (target_cause two j1 its_key) (number_cause two 1 h its_key modes.Wait) good_target (no_number h)

pub both_ways : (n : ℕ) → 1 ≤ n → n ≤ 1 → n ≡ 1
both_ways n low high = omega (arith, low, high)

-- what is to be seen of it is what so many commits left for other nodes
pub from_elsewhere : (s : Script) (n : ℕ) → seen_at two 1 s n its_key ≡ Seen.remote (value_at s n reach.Far its_key.key) (is_some (value_at s n reach.Far term_key))
unfolding seen_of
from_elsewhere s n =
    ap (λ home. cond (home == 1) (Seen.local (value_at s n reach.Near its_key.key) (value_at s n reach.Far its_key.key) (is_some (value_at s n reach.Near term_key)))
    (Seen.remote (value_at s n reach.Far its_key.key) (is_some (value_at s n reach.Far term_key)))) home_of_j0

module _ (state : State) (z : Sealed) (its : z.proc ≡ j0) (one : z.level ≡ 1) where
  still_live : (sealer_of (left_1 state z) j1).ended ≡ false
  unfolding entered_1 waits_1 told_1 lacks_1 freed_1 left_1
  still_live = live_at_1

  may_ask : NoCause (cause two 1 (left_1 state z) asking)
  unfolding cause request_cause
  may_ask =
      both_causes (free_cause two 1 (left_1 state z) j1) (also (target_cause two j1 its_key) (number_cause two 1 (left_1 state z) its_key modes.Wait))
      (free 1 1 (left_1 state z) j1_is_member home_of_j1 still_live (idle_left state z its one j1)) (good_ask (left_1 state z))

  abbrev pub asked_1 : NodeState
  asked_1 = settled two 1 (left_1 state z)

  no_waits : NoneWaits (left_1 state z)
  unfolding left_1
  no_waits = left_waits state z its one

  idle_asked : AreIdle asked_1
  idle_asked = idle_settled 1 (left_1 state z) (idle_left state z its one)

  -- where the other process made one commit, and that commit's value resolves so
  module _ (scripts : Scripts) (fits : Fits two scripts 1 (left_1 state z)) (made : commits (scripts j0) ≡ 1) (o : Outcome)
      (resolves : resolve (Seen.remote (value_at (scripts j0) 1 reach.Far its_key.key) (is_some (value_at (scripts j0) 1 reach.Far term_key))) modes.Wait ≡ o) where
    level_is : level_at (left_1 state z).far j0 ≡ 1
    level_is =
        both_ways (level_at (left_1 state z).far j0) (level_then state z its one)
        (subst (λ n. level_at (left_1 state z).far j0 ≤ n) made (honest_level_is_made (scripts j0) reach.Far j0 (left_1 state z).far (fits.far j0)))

    sees : answer_in two 1 (left_1 state z) its_key modes.Wait ≡ o
    sees =
        answer_sees two scripts 1 (left_1 state z) fits its_key modes.Wait
        ∙ ap (λ n. resolve (seen_at two 1 (scripts j0) n its_key) modes.Wait) level_is
        ∙ ap (λ x. resolve x modes.Wait) (from_elsewhere (scripts j0) 1) ∙ resolves

    pub step_asks : (r : Reply) → asks (left_1 state z) j1 its_key modes.Wait o ≡ done_as r (left_1 state z) → NodeStep two 1 (left_1 state z) asking r asked_1 []
    unfolding does serves
    step_asks r is =
        let answered : acts two 1 (left_1 state z) asking ≡ done_as r asked_1 =
        accepted 1 (left_1 state z) asking may_ask
        ∙ ap (λ x. over two 1 (left_1 state z) (Ok (asks (left_1 state z) j1 its_key modes.Wait x))) sees ∙ ap (λ d. over two 1 (left_1 state z) (Ok d)) is in
        record {
          replied = sym (ap (λ (d : Done). d.reply) answered);
          left = sym (ap (λ (d : Done). d.left) answered);
          quiet = λ e. refl;
          peers = tt;
          allowed = tt;
          owed = owed_by 1 (left_1 state z) asked_1 asking [] (request_asks (Request.ask j1 its_key modes.Wait) (λ e. cc)) (same_news 1 (left_1 state z) asked_1 (λ f. refl) []) no_waits
              (idle_parks asked_1 idle_asked);
        }

-- ---- the run in which the one process ends

all_good : Good two world_8
all_good =
    step_good two are_jobs world_7 (always_good two are_jobs ends_and_meets world_7 its_run) (Event.request its_release.0 (Request.leave j1)) (Reply.released 1 (j0 ∷ [])) world_8 its_release.1

nothing_put : resolve (Seen.remote (value_at (Call.terminate ∷ []) 1 reach.Far its_key.key) (is_some (value_at (Call.terminate ∷ []) 1 reach.Far term_key))) modes.Wait ≡ Outcome.absent
unfolding resolve value_at before
nothing_put = refl

abbrev asked_then : NodeState
asked_then = asked_1 states.Gone sealer_then its_proc level_is_one

step_then : NodeStep two 1 (left_1 states.Gone sealer_then) asking (Reply.refused refusals.NotFound) asked_then []
unfolding says
step_then = step_asks states.Gone sealer_then its_proc level_is_one world_8.scripts (all_good.fits 1) refl Outcome.absent nothing_put (Reply.refused refusals.NotFound) refl

abbrev world_9 : World
world_9 = world_after world_8 1 asking (Reply.refused refusals.NotFound) asked_then []

its_get : Run two world_8 (happened_with (Event.request second_node (Request.ask j1 its_key modes.Wait)) (Reply.refused refusals.NotFound) ∷ []) world_9
unfolding Run doing
its_get = (world_9, act_step world_8 1 asking (Reply.refused refusals.NotFound) asked_then [] step_then, refl)

pub run_of_two : RunOfTwo
unfolding RunOfTwo
run_of_two = (are_jobs, world_7, its_run, world_8, its_release, its_fence, refl, j0_meets, refl, world_9, its_get)
