-- The run in which both meet, and the value is found.
use Rattle.std.proofs.Common.{◌≡◌, is_some, List, [], ◌∷◌, drop, Some, refl}
use Rattle.pmg_scope.specs.Scripts.{Call, value_at, before, term_key}
use Rattle.pmg_scope.specs.declared.scope.Reach.TheVariants as reach
use Rattle.pmg_frame.specs.declared.frame.Frame.TheVariants as frames
use Rattle.pmg_frame.specs.declared.local.State.TheVariants as states
use Rattle.pmg_jobinfo.specs.Expansion.{expansion}
use Rattle.pmg_get.specs.Gets.{Seen, Outcome, resolve}
use Rattle.pmg_get.specs.declared.view.Mode.TheVariants as modes
use Rattle.pmg_node_model.specs.Acts.{Request, Act, Reply, says}
use Rattle.pmg_node_model.specs.Fitting.{last_fence}
use Rattle.pmg_node_model.specs.Holdings.{NodeState}
use Rattle.pmg_node_model.specs.Sending.{NodeStep}
use Rattle.pmg_group_model.specs.Worlds.{World, Event, Run, doing, start}
use Rattle.pmg_group_model.specs.Laws.{Leaves, Good}
use Rattle.pmg_group_model.specs.Examples.{two, j0, j1, meeting, its_key, its_value, happened_with, come_around, puts_and_meets, second_node, RunOfMeeting}
use Rattle.pmg_group_model.proofs.ExampleGroup.{are_jobs, j0_meets}
use Rattle.pmg_group_model.proofs.ExampleTables.{header_of_0, header_of_1}
use Rattle.pmg_group_model.proofs.ExampleNodes.{entered_1, waits_1, told_1, lacks_1, its_piece, freed_1, left_1}
use Rattle.pmg_group_model.proofs.ExampleActs.{entering, leaving}
use Rattle.pmg_group_model.proofs.ExampleSteps.{first_sent, step_enters, step_waits, step_told, step_lacks, step_freed, step_leaves}
use Rattle.pmg_group_model.proofs.ExampleRun.{world_after, act_step, last_is}
use Rattle.pmg_group_model.proofs.ExampleGet.{asking, asked_1, step_asks}
use Rattle.pmg_group_model.proofs.ExampleCommit.{its_put, world_committed, run_committed, joined_0, both_sent, sealer_now, now_is_one, proc_now, step_joins, met_0, step_meets}
use Rattle.pmg_group_model.proofs.Runs.{always_good}
use Rattle.pmg_group_model.proofs.Steps.{step_good}

-- ---- the worlds

-- both enter
abbrev world_joined : World
world_joined = world_after world_committed 0 (entering j0) (Reply.entered 1) joined_0 both_sent

abbrev world_entered : World
world_entered = world_after world_joined 1 (entering j1) (Reply.entered 1) entered_1 first_sent

abbrev world_waits : World
world_waits = world_after world_entered 1 leaving Reply.waiting waits_1 []

-- the headers come, then the commit
abbrev world_met : World
world_met = world_after world_waits 0 (Act.deliver (frames.Header header_of_1)) Reply.taken met_0 []

abbrev world_told : World
world_told = world_after world_met 1 (Act.deliver (frames.Header (header_of_0 states.Entered))) Reply.taken (told_1 states.Entered) []

abbrev world_lacks : World
world_lacks = world_after world_told 1 leaving Reply.waiting (lacks_1 states.Entered) []

abbrev world_freed : World
world_freed = world_after world_lacks 1 (Act.deliver (frames.Piece (its_piece sealer_now))) Reply.taken (freed_1 states.Entered sealer_now) []

-- the second process leaves, and gets the value
abbrev world_left : World
world_left = world_after world_freed 1 leaving (Reply.released 1 []) (left_1 states.Entered sealer_now) []

abbrev asked_then : NodeState
asked_then = asked_1 states.Entered sealer_now proc_now now_is_one

abbrev world_asked : World
world_asked = world_after world_left 1 asking (Reply.found its_value) asked_then []

-- ---- the run

they_come : Run two world_waits (come_around 3 1 2) world_freed
unfolding Run doing
they_come = (
  world_met,
  act_step world_waits 0 (Act.deliver (frames.Header header_of_1)) Reply.taken met_0 [] step_meets,
  (
    world_told,
    act_step world_met 1 (Act.deliver (frames.Header (header_of_0 states.Entered))) Reply.taken (told_1 states.Entered) [] (step_told states.Entered),
    (
      world_lacks,
      act_step world_told 1 leaving Reply.waiting (lacks_1 states.Entered) [] (step_lacks states.Entered),
      (
        world_freed,
        act_step world_lacks 1 (Act.deliver (frames.Piece (its_piece sealer_now))) Reply.taken (freed_1 states.Entered sealer_now) [] (step_freed states.Entered sealer_now proc_now now_is_one),
        refl,
      ),
    ),
  ),
)

they_meet : Run two (start two) puts_and_meets world_freed
unfolding Run doing
they_meet = run_committed (drop 2 puts_and_meets) world_freed (
  world_joined,
  act_step world_committed 0 (entering j0) (Reply.entered 1) joined_0 both_sent step_joins,
  (
    world_entered,
    act_step world_joined 1 (entering j1) (Reply.entered 1) entered_1 first_sent step_enters,
    (world_waits, act_step world_entered 1 leaving Reply.waiting waits_1 [] step_waits, they_come),
  ),
)

its_fence : last_fence (world_freed.scripts j1) ≡ Some meeting
unfolding says expansion
its_fence = last_is

release : Leaves two world_freed j1 1 [] world_left
unfolding doing
release = (1, act_step world_freed 1 leaving (Reply.released 1 []) (left_1 states.Entered sealer_now) [] (step_leaves states.Entered sealer_now proc_now now_is_one))

-- ---- the get

all_good : Good two world_left
all_good =
    step_good two are_jobs world_freed (always_good two are_jobs puts_and_meets world_freed they_meet) (Event.request release.0 (Request.leave j1)) (Reply.released 1 []) world_left release.1

abbrev its_calls : List Call
its_calls = its_put ∷ Call.commit ∷ Call.enter meeting.signature ∷ []

value_there : resolve (Seen.remote (value_at its_calls 1 reach.Far its_key.key) (is_some (value_at its_calls 1 reach.Far term_key))) modes.Wait ≡ Outcome.found its_value
unfolding resolve value_at before
value_there = refl

step_finds : NodeStep two 1 (left_1 states.Entered sealer_now) asking (Reply.found its_value) asked_then []
unfolding says expansion
step_finds = step_asks states.Entered sealer_now proc_now now_is_one world_left.scripts (all_good.fits 1) refl (Outcome.found its_value) value_there (Reply.found its_value) refl

its_get : Run two world_left (happened_with (Event.request second_node (Request.ask j1 its_key modes.Wait)) (Reply.found its_value) ∷ []) world_asked
unfolding Run doing
its_get = (world_asked, act_step world_left 1 asking (Reply.found its_value) asked_then [] step_finds, refl)

pub run_of_meeting : RunOfMeeting
unfolding RunOfMeeting
run_of_meeting = (are_jobs, world_freed, they_meet, world_left, release, its_fence, refl, j0_meets, refl, world_asked, its_get)
