-- The run in which the one process ends, up to the release.
use Rattle.std.proofs.Common.{◌≡◌, ℕ, cond, List, [], ◌∷◌, ◌++◌, Some, refl, ap}
use Rattle.pmg_scope.specs.Scripts.{Call}
use Rattle.pmg_frame.specs.declared.local.State.TheVariants as states
use Rattle.pmg_frame.specs.declared.frame.Frame.TheVariants as frames
use Rattle.pmg_jobinfo.specs.Expansion.{expansion}
use Rattle.pmg_fence.proofs.EntryLemmas.{signature_itself}
use Rattle.pmg_fence.specs.Tables.{fence_of}
use Rattle.pmg_node_model.specs.Acts.{Act, Reply, says}
use Rattle.pmg_node_model.specs.Fitting.{is_refusal, unless_refused, last_fence}
use Rattle.pmg_node_model.specs.Holdings.{NodeState}
use Rattle.pmg_node_model.specs.Sending.{NodeStep}
use Rattle.pmg_node_model.specs.declared.sent.Sent.{Sent}
use Rattle.pmg_group_model.specs.Worlds.{World, ActStep, Run, with_holding_at, doing, start}
use Rattle.pmg_group_model.specs.Laws.{Leaves}
use Rattle.pmg_group_model.specs.Examples.{two, j0, j1, meeting, come_around, ends_and_meets}
use Rattle.pmg_group_model.proofs.ExampleTables.{header_of_0, header_of_1}
use Rattle.pmg_group_model.proofs.ExampleNodes.{ended_0, heard_0, entered_1, waits_1, told_1, lacks_1, its_piece, freed_1, left_1, sealer_then, level_is_one, its_proc}
use Rattle.pmg_group_model.proofs.ExampleActs.{ending, entering, leaving}
use Rattle.pmg_group_model.proofs.ExampleSteps.{first_sent, then_sent, step_ends, step_enters, step_waits, step_hears, step_told, step_lacks, step_freed, step_leaves}

-- the world after an act of a node
abbrev pub world_after : World → ℕ → Act → Reply → NodeState → List Sent → World
world_after w node a r new out = record { scripts = unless_refused (is_refusal r) w.scripts (says two a); nodes = with_holding_at w.nodes node new; sent = w.sent ++ out }

pub act_step : (w : World) (node : ℕ) (a : Act) (r : Reply) (new : NodeState) (out : List Sent) → NodeStep two node (w.nodes node) a r new out → ActStep two w node a r (world_after w node a r new out)
act_step w node a r new out step = record { new = new; out = out; step = step; left = refl }

-- the fence that a process entered last whose one call that is
pub last_is : last_fence (Call.enter meeting.signature ∷ []) ≡ Some meeting
last_is = ap (λ b. Some (fence_of meeting.signature (cond b 1 0))) (signature_itself meeting.signature)

-- ---- the run

abbrev pub world_1 : World
world_1 = world_after (start two) 0 ending (Reply.ended 1) ended_0 []

abbrev pub world_2 : World
world_2 = world_after world_1 1 (entering j1) (Reply.entered 1) entered_1 first_sent

abbrev pub world_3 : World
world_3 = world_after world_2 1 leaving Reply.waiting waits_1 []

abbrev pub world_4 : World
world_4 = world_after world_3 0 (Act.deliver (frames.Header header_of_1)) Reply.taken heard_0 then_sent

abbrev pub world_5 : World
world_5 = world_after world_4 1 (Act.deliver (frames.Header (header_of_0 states.Gone))) Reply.taken (told_1 states.Gone) []

abbrev pub world_6 : World
world_6 = world_after world_5 1 leaving Reply.waiting (lacks_1 states.Gone) []

abbrev pub world_7 : World
world_7 = world_after world_6 1 (Act.deliver (frames.Piece (its_piece sealer_then))) Reply.taken (freed_1 states.Gone sealer_then) []

abbrev pub world_8 : World
world_8 = world_after world_7 1 leaving (Reply.released 1 (j0 ∷ [])) (left_1 states.Gone sealer_then) []

-- from the header of the one node on
its_end : Run two world_3 (come_around 1 2 3) world_7
unfolding Run doing
its_end = (
  world_4,
  act_step world_3 0 (Act.deliver (frames.Header header_of_1)) Reply.taken heard_0 then_sent step_hears,
  (
    world_5,
    act_step world_4 1 (Act.deliver (frames.Header (header_of_0 states.Gone))) Reply.taken (told_1 states.Gone) [] (step_told states.Gone),
    (
      world_6,
      act_step world_5 1 leaving Reply.waiting (lacks_1 states.Gone) [] (step_lacks states.Gone),
      (world_7, act_step world_6 1 (Act.deliver (frames.Piece (its_piece sealer_then))) Reply.taken (freed_1 states.Gone sealer_then) [] (step_freed states.Gone sealer_then its_proc level_is_one), refl),
    ),
  ),
)

pub its_run : Run two (start two) ends_and_meets world_7
unfolding Run doing
its_run = (
  world_1,
  act_step (start two) 0 ending (Reply.ended 1) ended_0 [] step_ends,
  (
    world_2,
    act_step world_1 1 (entering j1) (Reply.entered 1) entered_1 first_sent step_enters,
    (world_3, act_step world_2 1 leaving Reply.waiting waits_1 [] step_waits, its_end),
  ),
)

pub its_fence : last_fence (world_7.scripts j1) ≡ Some meeting
unfolding says expansion
its_fence = last_is

pub its_release : Leaves two world_7 j1 1 (j0 ∷ []) world_8
unfolding doing
its_release = (1, act_step world_7 1 leaving (Reply.released 1 (j0 ∷ [])) (left_1 states.Gone sealer_then) [] (step_leaves states.Gone sealer_then its_proc level_is_one))
