-- The run in which both processes meet twice, and one of them waits in the third fence.
use Rattle.std.proofs.Common.{◌≡◌, ◌≤◌, ◌<◌, ℕ, suc, Bool, true, false, nat_lt, cond, [], ◌∷◌, ◌++◌, Option, Some, None, inl, inr, refl, sym, ap, subst, ◌∙◌, arith}
use Rattle.std.proofs.lemmas.Bool.{false≢true}
use Rattle.std.proofs.lemmas.Bool.Decides.{nat_tests}
use Rattle.std.specs.Option.{option_map}
use Rattle.pmg_value.specs.Lists.{In}
use Rattle.pmg_value.specs.declared.process.Proc.{Proc}
use Rattle.pmg_scope.specs.Scripts.{Call, Script, has_end, count_commits}
use Rattle.pmg_frame.specs.Fences.{participants_of}
use Rattle.pmg_fence.specs.Entering.{enters, level_before}
use Rattle.pmg_fence.specs.Tables.{has_name, is_old, gone_by}
use Rattle.pmg_fence.proofs.EntryLemmas.{signature_itself, has_end_next, enters_enter, level_entered}
use Rattle.pmg_commit.specs.Data.{level_at}
use Rattle.pmg_node_model.specs.Holdings.{CallState, NodeState, call_of, uncalled, released_by, settle, is_ready_at}
use Rattle.pmg_node_model.specs.Kept.{HasTwo, top_in}
use Rattle.pmg_node_model.specs.Sending.{WaitsIn}
use Rattle.pmg_node_model.proofs.KeptActs.{new_is_server}
use Rattle.pmg_group_model.specs.Worlds.{World, Run, start}
use Rattle.pmg_group_model.specs.Examples.{lone, j0, j1, round, enters_round, both_meet, meet_twice_and_wait, RunOfThree}
use Rattle.pmg_group_model.proofs.ExampleGroup.{who_meets}
use Rattle.pmg_group_model.proofs.ExampleNodes.{idle_new}
use Rattle.pmg_group_model.proofs.ExampleLone.{home_0, home_1, member_0, member_1, are_lone, sig}
use Rattle.pmg_group_model.proofs.ExampleEntering as steps
use Rattle.pmg_group_model.proofs.ExampleEntering.{Stage, Stands, not_yet, whole, nobody}
use Rattle.pmg_group_model.proofs.Keeping.{keeps_waiting}
use Rattle.pmg_group_model.proofs.RunLemmas.{run_both, run_more}
use Rattle.pmg_group_model.proofs.Runs.{always_good}
use Rattle.pmg_group_model.proofs.Starting.{start_good}
use Rattle.pmg_group_model.proofs.Turned.{no_top}

-- ---- a script with one more entry

module _ (s : Script) (k : ℕ) (live : has_end s ≡ false) (times : enters s sig ≡ k) where
  still_live : has_end (s ++ Call.enter sig ∷ []) ≡ false
  still_live = has_end_next s (Call.enter sig ∷ []) live

  one_more : enters (s ++ Call.enter sig ∷ []) sig ≡ suc k
  one_more = enters_enter s sig sig live ∙ ap (λ b. cond b (suc (enters s sig)) (enters s sig)) (signature_itself sig) ∙ ap suc times

  its_level : level_before (s ++ Call.enter sig ∷ []) sig (suc k) ≡ Some (count_commits s)
  its_level = ap (λ n. level_before (s ++ Call.enter sig ∷ []) sig (suc n)) (sym times) ∙ level_entered s sig live

-- who entered so often, as its script says now, and is in that call
stands_so : (w : World) (p : Proc) (s : Script) (k : ℕ) (c : Option CallState) → w.scripts p ≡ s ++ Call.enter sig ∷ [] → has_end s ≡ false → enters s sig ≡ k
    → call_of (w.nodes 0) p ≡ c → Stands w p (suc k) c
stands_so w p s k c is live times call = record {
  live = ap has_end is ∙ still_live s k live times;
  times = ap (λ x. enters x sig) is ∙ one_more s k live times;
  came = λ some. (count_commits s, ap (λ x. level_before x sig (suc k)) is ∙ its_level s k live times);
  call = call;
}

-- who made no call since
stands_still : (w v : World) (p : Proc) (k : ℕ) (c d : Option CallState) → v.scripts p ≡ w.scripts p → call_of (v.nodes 0) p ≡ d → Stands w p k c → Stands v p k d
stands_still w v p k c d is call stands = record {
  live = ap has_end is ∙ stands.live;
  times = ap (λ x. enters x sig) is ∙ stands.times;
  came = λ some. let its = stands.came some in (its.0, ap (λ x. level_before x sig k) is ∙ its.1);
  call = call;
}

-- ---- one round

-- both entered so often, and are in no call
record AreFree (w : World) (k : ℕ) : Type 0 where
  stage : Stage w k
  one : Stands w j0 k None
  other : Stands w j1 k None

j1_meets : (k : ℕ) → In j1 (participants_of (round k))
j1_meets k = subst (In j1) (sym who_meets) (inr (inl refl))

module _ (w : World) (k : ℕ) (free : AreFree w k) (few : k < 3) where
  up : k ≤ suc k
  up = omega arith

  same : suc k ≤ suc k
  same = omega arith

  -- the one enters, and waits
  abbrev world_1 : World
  world_1 = steps.world_joined w k 0 k free.stage member_0 home_0 refl free.one few

  stage_1 : Stage world_1 (suc k)
  stage_1 = steps.stage_joined w k 0 k free.stage member_0 home_0 refl free.one few (suc k) up same

  other_1 : Stands world_1 j1 k None
  other_1 =
      stands_still w world_1 j1 k None None (steps.script_joined w k 0 k free.stage member_0 home_0 refl free.one few j1)
      (steps.others_call w k 0 k free.stage member_0 home_0 refl free.one few j1 refl
      ∙ ap (option_map (settle lone 0 (steps.entering w k 0 k free.stage member_0 home_0 refl free.one few))) free.other.call) free.other

  abbrev entering_1 : NodeState
  entering_1 = steps.entering w k 0 k free.stage member_0 home_0 refl free.one few

  bare : is_ready_at lone 0 entering_1 (round (suc k)) ≡ false
  bare =
      not_yet world_1.scripts entering_1.table k (level_at entering_1.far) (steps.table_joined w k 0 k free.stage member_0 home_0 refl free.one few) j1 (j1_meets (suc k)) other_1.live
      other_1.times

  one_1 : Stands world_1 j0 (suc k) (Some (CallState.in_fence (round (suc k))))
  one_1 =
      stands_so world_1 j0 (w.scripts j0) k (Some (CallState.in_fence (round (suc k)))) (steps.own_script w k 0 k free.stage member_0 home_0 refl free.one few) free.one.live free.one.times
      (steps.call_joined w k 0 k free.stage member_0 home_0 refl free.one few
      ∙ ap (λ b. Some (released_by b (round (suc k)) (gone_by lone 0 entering_1.table (round (suc k))))) bare)

  -- the other enters, and both are released
  abbrev world_2 : World
  world_2 = steps.world_joined world_1 (suc k) 1 k stage_1 member_1 home_1 refl other_1 few

  abbrev entering_2 : NodeState
  entering_2 = steps.entering world_1 (suc k) 1 k stage_1 member_1 home_1 refl other_1 few

  stage_2 : Stage world_2 (suc k)
  stage_2 = steps.stage_joined world_1 (suc k) 1 k stage_1 member_1 home_1 refl other_1 few (suc k) same same

  came_1 : (l : ℕ) × (level_before (world_1.scripts j0) sig (suc k) ≡ Some l)
  came_1 = one_1.came (omega arith)

  level_0 : level_before (world_2.scripts j0) sig (suc k) ≡ Some came_1.0
  level_0 = ap (λ x. level_before x sig (suc k)) (steps.script_joined world_1 (suc k) 1 k stage_1 member_1 home_1 refl other_1 few j0) ∙ came_1.1

  level_1 : level_before (world_2.scripts j1) sig (suc k) ≡ Some (count_commits (world_1.scripts j1))
  level_1 =
      ap (λ x. level_before x sig (suc k)) (steps.own_script world_1 (suc k) 1 k stage_1 member_1 home_1 refl other_1 few)
      ∙ its_level (world_1.scripts j1) k other_1.live other_1.times

  table_2 : top_in entering_2.table sig ≤ suc k
  table_2 = steps.top_entering world_1 (suc k) 1 k stage_1 member_1 home_1 refl other_1 few (suc k) same same

  ready : is_ready_at lone 0 entering_2 (round (suc k)) ≡ true
  ready =
      whole world_2.scripts entering_2.table k came_1.0 (count_commits (world_1.scripts j1)) (steps.table_joined world_1 (suc k) 1 k stage_1 member_1 home_1 refl other_1 few) level_0 level_1 table_2
      (level_at entering_2.far)

  none_gone : gone_by lone 0 entering_2.table (round (suc k)) ≡ []
  none_gone =
      nobody world_2.scripts entering_2.table k came_1.0 (count_commits (world_1.scripts j1)) (steps.table_joined world_1 (suc k) 1 k stage_1 member_1 home_1 refl other_1 few) level_0 level_1 table_2

  abbrev freed : Option CallState
  freed = Some (CallState.released (round (suc k)) [])

  all_freed : Some (released_by (is_ready_at lone 0 entering_2 (round (suc k))) (round (suc k)) (gone_by lone 0 entering_2.table (round (suc k)))) ≡ freed
  all_freed = (λ i. Some (released_by (ready i) (round (suc k)) (none_gone i)))

  one_2 : Stands world_2 j0 (suc k) freed
  one_2 =
      stands_still world_1 world_2 j0 (suc k) (Some (CallState.in_fence (round (suc k)))) freed (steps.script_joined world_1 (suc k) 1 k stage_1 member_1 home_1 refl other_1 few j0)
      (steps.others_call world_1 (suc k) 1 k stage_1 member_1 home_1 refl other_1 few j0 refl ∙ ap (option_map (settle lone 0 entering_2)) one_1.call ∙ all_freed) one_1

  other_2 : Stands world_2 j1 (suc k) freed
  other_2 =
      stands_so world_2 j1 (world_1.scripts j1) k freed (steps.own_script world_1 (suc k) 1 k stage_1 member_1 home_1 refl other_1 few) other_1.live other_1.times
      (steps.call_joined world_1 (suc k) 1 k stage_1 member_1 home_1 refl other_1 few ∙ all_freed)

  -- both leave
  abbrev world_3 : World
  world_3 = steps.world_left world_2 (suc k) 0 (suc k) stage_2 member_0 home_0 (round (suc k)) [] one_2

  stage_3 : Stage world_3 (suc k)
  stage_3 = steps.stage_left world_2 (suc k) 0 (suc k) stage_2 member_0 home_0 (round (suc k)) [] one_2

  one_3 : Stands world_3 j0 (suc k) None
  one_3 =
      stands_still world_2 world_3 j0 (suc k) freed None (steps.scripts_left world_2 (suc k) 0 (suc k) stage_2 member_0 home_0 (round (suc k)) [] one_2 j0)
      (steps.call_left world_2 (suc k) 0 (suc k) stage_2 member_0 home_0 (round (suc k)) [] one_2) one_2

  other_3 : Stands world_3 j1 (suc k) freed
  other_3 =
      stands_still world_2 world_3 j1 (suc k) freed freed (steps.scripts_left world_2 (suc k) 0 (suc k) stage_2 member_0 home_0 (round (suc k)) [] one_2 j1)
      (steps.others_left world_2 (suc k) 0 (suc k) stage_2 member_0 home_0 (round (suc k)) [] one_2 j1 refl
      ∙ ap (option_map (settle lone 0 (uncalled (world_2.nodes 0) j0))) other_2.call) other_2

  abbrev world_4 : World
  world_4 = steps.world_left world_3 (suc k) 1 (suc k) stage_3 member_1 home_1 (round (suc k)) [] other_3

  free_4 : AreFree world_4 (suc k)
  free_4 = record {
    stage = steps.stage_left world_3 (suc k) 1 (suc k) stage_3 member_1 home_1 (round (suc k)) [] other_3;
    one = stands_still world_3 world_4 j0 (suc k) None None (steps.scripts_left world_3 (suc k) 1 (suc k) stage_3 member_1 home_1 (round (suc k)) [] other_3 j0)
        (steps.others_left world_3 (suc k) 1 (suc k) stage_3 member_1 home_1 (round (suc k)) [] other_3 j0 refl ∙ ap (option_map (settle lone 0 (uncalled (world_3.nodes 0) j1))) one_3.call) one_3;
    other = stands_still world_3 world_4 j1 (suc k) freed None (steps.scripts_left world_3 (suc k) 1 (suc k) stage_3 member_1 home_1 (round (suc k)) [] other_3 j1)
        (steps.call_left world_3 (suc k) 1 (suc k) stage_3 member_1 home_1 (round (suc k)) [] other_3) other_3;
  }

  they_meet : Run lone w (both_meet (suc k)) world_4
  unfolding Run
  they_meet = (
    world_1,
    steps.step_joins w k 0 k free.stage member_0 home_0 refl free.one few,
    (
      world_2,
      steps.step_joins world_1 (suc k) 1 k stage_1 member_1 home_1 refl other_1 few,
      (
        world_3,
        steps.step_leaves world_2 (suc k) 0 (suc k) stage_2 member_0 home_0 (round (suc k)) [] one_2,
        (world_4, steps.step_leaves world_3 (suc k) 1 (suc k) stage_3 member_1 home_1 (round (suc k)) [] other_3, refl),
      ),
    ),
  )

-- ---- the run

nobody_called : (p : Proc) → Stands (start lone) p 0 None
nobody_called p = record { live = refl; times = refl; came = λ some. absurd (omega (arith, some)); call = idle_new 0 p }

free_start : AreFree (start lone) 0
free_start = record {
  stage = record { good = start_good lone; server = new_is_server lone 0; top = subst (λ n. n ≤ 0) (sym (no_top sig)) (omega arith) };
  one = nobody_called j0;
  other = nobody_called j1;
}

less_0 : 0 < 3
less_0 = omega arith

less_1 : 1 < 3
less_1 = omega arith

less_2 : 2 < 3
less_2 = omega arith

abbrev met_once : World
met_once = world_4 (start lone) 0 free_start less_0

free_once : AreFree met_once 1
free_once = free_4 (start lone) 0 free_start less_0

abbrev met_twice : World
met_twice = world_4 met_once 1 free_once less_1

free_twice : AreFree met_twice 2
free_twice = free_4 met_once 1 free_once less_1

abbrev waiting : World
waiting = world_1 met_twice 2 free_twice less_2

its_run : Run lone (start lone) meet_twice_and_wait waiting
its_run =
    run_both lone (both_meet 1) (both_meet 2 ++ enters_round 3 j0 ∷ []) (start lone) met_once waiting (they_meet (start lone) 0 free_start less_0)
    (run_more lone (both_meet 2) met_once met_twice (enters_round 3 j0) waiting (they_meet met_once 1 free_once less_1)
    (steps.step_joins met_twice 2 0 2 free_twice.stage member_0 home_0 refl free_twice.one less_2))

it_waits : WaitsIn lone 0 (waiting.nodes 0) (round 3) j0
it_waits = (home_0, (one_1 met_twice 2 free_twice less_2).call)

has_third : has_name (waiting.nodes 0).table (round 3) ≡ true
has_third = keeps_waiting lone are_lone meet_twice_and_wait waiting its_run 0 (round 3) j0 it_waits

has_two : HasTwo (waiting.nodes 0).table
has_two = (always_good lone are_lone meet_twice_and_wait waiting its_run).kept 0

first_old : (top : ℕ) → 3 ≤ top → nat_lt 2 top ≡ true
first_old top low = grind (arith, nat_tests)

first_is_old : is_old (waiting.nodes 0).table (round 1) ≡ true
unfolding is_old
first_is_old = first_old (top_in (waiting.nodes 0).table sig) (has_two (round 3) has_third).1

first_is_gone : has_name (waiting.nodes 0).table (round 1) ≡ false
first_is_gone = by_test (has_name (waiting.nodes 0).table (round 1)) refl
  where
    by_test : (b : Bool) → has_name (waiting.nodes 0).table (round 1) ≡ b → has_name (waiting.nodes 0).table (round 1) ≡ false
    by_test false none = none
    by_test true there = absurd (false≢true (sym (has_two (round 1) there).0 ∙ first_is_old))

pub run_of_three : RunOfThree
unfolding RunOfThree
run_of_three = (are_lone, waiting, its_run, it_waits, has_third, first_is_old, first_is_gone)
