-- What the two nodes of the examples hold, one act after the other: node 0 where its process ends, and node 1.
use Rattle.std.proofs.Common.{◌≡◌, ◌≤◌, ℕ, suc, Bool, true, false, ◌&&◌, ◌||◌, ◌==◌, not, cond, List, [], ◌∷◌, Option, Some, None, Ok, Err, refl, ap, subst, ◌∙◌, arith}
use Rattle.std.proofs.lemmas.Bool.Decides.{nat_tests}
use Rattle.std.specs.FinMap as finite
use Rattle.std.specs.Option.{option_map}
use Rattle.pmg_value.specs.Process.{proc_cmp}
use Rattle.pmg_value.specs.CheckOrder.{check_order, first_in}
use Rattle.pmg_value.specs.Lists.{Each}
use Rattle.pmg_value.specs.declared.process.Proc.{Proc}
use Rattle.pmg_value.specs.declared.refusal.Refusal.{Refusal}
use Rattle.pmg_frame.specs.declared.local.State.{State}
use Rattle.pmg_scope.specs.declared.scope.Reach.TheVariants as reach
use Rattle.pmg_commit.specs.Data.{absorbed, level_at}
use Rattle.pmg_commit.specs.Knowledge.{Contribution}
use Rattle.pmg_commit.specs.Sealed.{Sealed, ended_with, piece_at}
use Rattle.pmg_jobinfo.specs.Jobs.{home_of, is_member}
use Rattle.pmg_fence.specs.Changes.{with_header}
use Rattle.pmg_fence.specs.Entering.{same_proc}
use Rattle.pmg_fence.specs.Tables.{gone_by}
use Rattle.pmg_node_model.specs.Acts.{Act, also, cause, does, over, acts, caller_cause}
use Rattle.pmg_node_model.specs.Holdings.{CallState, NodeState, new_holding, sealer_of, call_of, called, uncalled, with_far, with_table, sealing, released_by, settle, settled, is_ready_at}
use Rattle.pmg_node_model.proofs.CallFacts.{call-settled, call-called, call-uncalled}
use Rattle.pmg_node_model.proofs.CauseFacts.{NoCause}
use Rattle.pmg_node_model.proofs.Sealing.{sealer_here, level_raised}
use Rattle.pmg_group_model.specs.Examples.{two, j0, j1, meeting}
use Rattle.pmg_group_model.proofs.ExampleGroup.{ranked, is_there}
use Rattle.pmg_group_model.proofs.ExampleTables.{ended_table, entered_table, header_of_0, header_of_1, gone_then, not_ready_before, not_ready_below, ready_then, gone_are}
use Rattle.pmg_group_model.proofs.Starting.{sealer-new, no_level}

-- ---- an act without a cause

pub goes_on : {Y : Type 0} (why : Refusal → Bool) (y : Y) (es : List Refusal) → Each (λ e. why e ≡ false) es → first_in es why y ≡ Ok y
goes_on why y [] none = refl
goes_on why y (e ∷ es) none = ap (λ b. cond b (Err e) (first_in es why y)) none.0 ∙ goes_on why y es none.1

pub accepted : (id : ℕ) (h : NodeState) (a : Act) → NoCause (cause two id h a) → acts two id h a ≡ over two id h (Ok (does two id h a))
accepted id h a none = ap (over two id h) (goes_on (cause two id h a) (does two id h a) check_order none)

each_both : (one other : Refusal → Bool) (es : List Refusal) → Each (λ e. one e ≡ false) es → Each (λ e. other e ≡ false) es → Each (λ e. also one other e ≡ false) es
each_both one other [] none neither = tt
each_both one other (e ∷ es) none neither = ((λ i. none.0 i || neither.0 i), each_both one other es none.1 neither.1)

pub both_causes : (one other : Refusal → Bool) → NoCause one → NoCause other → NoCause (also one other)
both_causes one other none neither = each_both one other check_order none neither

-- a process of the group, at home at the node, that has not ended
pub calls_well : (id rank : ℕ) (h : NodeState) → is_member two (ranked rank) ≡ true → home_of two (ranked rank) ≡ id → (sealer_of h (ranked rank)).ended ≡ false
    → NoCause (caller_cause two id h (ranked rank))
calls_well id rank h member home live =
    (refl, ((λ i. is_there i && not (member i)), ((λ i. not (is_there i)), (at_home, (live, (refl, (refl, (refl, (refl, (refl, (refl, tt)))))))))))
  where
    itself : (n : ℕ) → not (n == n) ≡ false
    itself n = grind (arith, nat_tests)

    at_home : not (home_of two (ranked rank) == id) ≡ false
    at_home = ap (λ n. not (n == id)) home ∙ itself id

-- ---- a process enters the fence

-- it is in it
abbrev pub in_meeting : NodeState → Proc → ℕ → NodeState
in_meeting h p level = called (with_table h (entered_table p level)) p (CallState.in_fence meeting)

-- ---- node 0

abbrev pub new_0 : NodeState
new_0 = new_holding two 0

abbrev pub ended_sealer : Sealed
ended_sealer = ended_with (sealer_of new_0 j0)

-- its process has ended
unfoldable pub ended_0 : NodeState
ended_0 = settled two 0 (uncalled (with_table (sealing new_0 j0 ended_sealer) ended_table) j0)

-- it has the other one's header
unfoldable pub heard_0 : NodeState
heard_0 = settled two 0 (with_table ended_0 (with_header ended_0.table header_of_1))

-- ---- node 1: what it is told by node 0, where that one's process stands so; and by the commit of what the process sealed

abbrev pub new_1 : NodeState
new_1 = new_holding two 1

-- its process has entered
unfoldable pub entered_1 : NodeState
entered_1 = settled two 1 (in_meeting new_1 j1 0)

-- and waits for the header
unfoldable pub waits_1 : NodeState
waits_1 = settled two 1 entered_1

abbrev telling_1 : State → NodeState
telling_1 state = with_table waits_1 (with_header waits_1.table (header_of_0 state))

-- the header came
unfoldable pub told_1 : State → NodeState
told_1 state = settled two 1 (telling_1 state)

-- and it waits for the commit
unfoldable pub lacks_1 : State → NodeState
lacks_1 state = settled two 1 (told_1 state)

-- the commits that node 0 sends
abbrev pub its_piece : Sealed → Contribution
its_piece z = piece_at z 0 reach.Far

abbrev hearing_1 : State → Sealed → NodeState
hearing_1 state z = with_far (lacks_1 state) (absorbed (lacks_1 state).far (its_piece z))

-- the commit came
unfoldable pub freed_1 : State → Sealed → NodeState
freed_1 state z = settled two 1 (hearing_1 state z)

-- and its process has left
unfoldable pub left_1 : State → Sealed → NodeState
left_1 state z = settled two 1 (uncalled (freed_1 state z) j1)

-- ---- what node 0's process sealed by its end

abbrev pub sealer_then : Sealed
sealer_then = sealer_of heard_0 j0

sealer_is : sealer_then ≡ ended_sealer
unfolding ended_0 heard_0
sealer_is = sealer_here new_0 j0 ended_sealer

pub sealer_level : ended_sealer.level ≡ 1
sealer_level = ap (λ (z : Sealed). suc z.level) (sealer-new two 0 j0)

pub level_is_one : sealer_then.level ≡ 1
level_is_one = ap (λ (z : Sealed). z.level) sealer_is ∙ sealer_level

pub its_proc : sealer_then.proc ≡ j0
its_proc = ap (λ (z : Sealed). z.proc) sealer_is ∙ ap (λ (z : Sealed). z.proc) (sealer-new two 0 j0)

-- ---- in which calls they are

-- no process at the node is in a call
abbrev pub AreIdle : NodeState → Type 0
AreIdle h = (q : Proc) → call_of h q ≡ None

pub idle_settled : (id : ℕ) (h : NodeState) → AreIdle h → AreIdle (settled two id h)
idle_settled id h idle q = call-settled two id h q ∙ ap (option_map (settle two id h)) (idle q)

pub idle_new : (id : ℕ) → AreIdle (new_holding two id)
idle_new id q = finite.get-empty proc_cmp q

idle_uncalled : (h : NodeState) (p : Proc) → AreIdle h → AreIdle (uncalled h p)
idle_uncalled h p idle q = call-uncalled h p q ∙ ap (cond (same_proc q p) None) (idle q) ∙ none_by (same_proc q p)
  where
    none_by : (b : Bool) → ◌≡◌ {A = Option CallState} (cond b None None) None
    none_by true = refl
    none_by false = refl

pub idle_ended : AreIdle ended_0
unfolding ended_0
idle_ended = idle_settled 0 (uncalled (with_table (sealing new_0 j0 ended_sealer) ended_table) j0) (idle_uncalled (with_table (sealing new_0 j0 ended_sealer) ended_table) j0 (idle_new 0))

pub idle_heard : AreIdle heard_0
unfolding heard_0
idle_heard = idle_settled 0 (with_table ended_0 (with_header ended_0.table header_of_1)) idle_ended

-- of the processes at node 1 the one is in that call, if any, and no other is in one
abbrev pub IsInCall : NodeState → Option CallState → Type 0
IsInCall h c = (q : Proc) → call_of h q ≡ cond (same_proc q j1) c None

in_call_settled : (h : NodeState) (c : Option CallState) → IsInCall h c → IsInCall (settled two 1 h) (option_map (settle two 1 h) c)
in_call_settled h c calls q = call-settled two 1 h q ∙ ap (option_map (settle two 1 h)) (calls q) ∙ by_test (same_proc q j1)
  where
    by_test : (b : Bool) → option_map (settle two 1 h) (cond b c None) ≡ cond b (option_map (settle two 1 h) c) None
    by_test true = refl
    by_test false = refl

still_in : (h : NodeState) → is_ready_at two 1 h meeting ≡ false → IsInCall h (Some (CallState.in_fence meeting)) → IsInCall (settled two 1 h) (Some (CallState.in_fence meeting))
still_in h bare calls q =
    in_call_settled h (Some (CallState.in_fence meeting)) calls q
    ∙ ap (λ b. cond (same_proc q j1) (Some (released_by b meeting (gone_by two 1 h.table meeting))) None) bare

in_entering : IsInCall (in_meeting new_1 j1 0) (Some (CallState.in_fence meeting))
in_entering q = call-called (with_table new_1 (entered_table j1 0)) j1 (CallState.in_fence meeting) q ∙ ap (cond (same_proc q j1) (Some (CallState.in_fence meeting))) (idle_new 1 q)

pub in_entered : IsInCall entered_1 (Some (CallState.in_fence meeting))
unfolding entered_1
in_entered = still_in (in_meeting new_1 j1 0) (not_ready_before (level_at new_1.far)) in_entering

pub in_waits : IsInCall waits_1 (Some (CallState.in_fence meeting))
unfolding entered_1 waits_1
in_waits = still_in entered_1 (not_ready_before (level_at entered_1.far)) in_entered

module _ (state : State) where
  pub in_told : IsInCall (told_1 state) (Some (CallState.in_fence meeting))
  unfolding entered_1 waits_1 told_1
  in_told = still_in (telling_1 state) (not_ready_below state (level_at (telling_1 state).far) (no_level reach.Far j0)) in_waits

  pub in_lacks : IsInCall (lacks_1 state) (Some (CallState.in_fence meeting))
  unfolding entered_1 waits_1 told_1 lacks_1
  in_lacks = still_in (told_1 state) (not_ready_below state (level_at (told_1 state).far) (no_level reach.Far j0)) in_told

-- the commit takes the level to what the header tells, where it is the one
module _ (state : State) (z : Sealed) (its : z.proc ≡ j0) (one : z.level ≡ 1) where
  raised : 1 ≤ level_at (hearing_1 state z).far j0
  raised =
      subst (λ n. n ≤ level_at (hearing_1 state z).far j0) one
      (level_raised (lacks_1 state).far (its_piece z) j0 (ap (same_proc j0) its) (omega arith))

  pub level_then : 1 ≤ level_at (left_1 state z).far j0
  unfolding freed_1 left_1
  level_then = raised

  pub in_freed : IsInCall (freed_1 state z) (Some (CallState.released meeting (gone_then state)))
  unfolding entered_1 waits_1 told_1 lacks_1 freed_1
  in_freed q =
      in_call_settled (hearing_1 state z) (Some (CallState.in_fence meeting)) (in_lacks state) q
      ∙ (λ i. cond (same_proc q j1) (Some (released_by (ready_then state (level_at (hearing_1 state z).far) raised i) meeting (gone_are state i))) None)

  pub idle_left : AreIdle (left_1 state z)
  unfolding left_1
  idle_left = idle_settled 1 (uncalled (freed_1 state z) j1) (λ q. call-uncalled (freed_1 state z) j1 q ∙ ap (cond (same_proc q j1) None) (in_freed q) ∙ none_by (same_proc q j1))
    where
      none_by : (b : Bool) → ◌≡◌ {A = Option CallState} (cond b None (cond b (Some (CallState.released meeting (gone_then state))) None)) None
      none_by true = refl
      none_by false = refl
