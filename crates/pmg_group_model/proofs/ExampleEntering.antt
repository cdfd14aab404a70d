-- Steps of the group of one node: a process enters the next fence, and a process leaves.
use Rattle.std.proofs.Common.{◌≡◌, ◌≤◌, ◌<◌, ℕ, suc, Bool, true, false, ◌&&◌, not, nat_lt, cond, List, [], ◌∷◌, ◌++◌, Option, Some, None, Ok, inl, inr, refl, sym, ap, subst, ◌∙◌, arith}
use Rattle.std.proofs.lemmas.Bool.Decides.{nat_tests}
use Rattle.std.specs.FinMap as finite
use Rattle.std.specs.List.{filter, list_all, list_any}
use Rattle.std.specs.Option.{option_map}
use Rattle.pmg_value.specs.Lists.{In}
use Rattle.pmg_value.specs.Signatures.{FenceName}
use Rattle.pmg_value.specs.declared.process.Proc.{Proc}
use Rattle.pmg_scope.specs.Scripts.{Call, Script, has_end}
use Rattle.pmg_frame.specs.Fences.{participants_of}
use Rattle.pmg_jobinfo.specs.Expansion.{expansion}
use Rattle.pmg_jobinfo.specs.Jobs.{home_of, is_member}
use Rattle.pmg_fence.specs.Changes.{next_name, entered_by}
use Rattle.pmg_fence.specs.Entering.{same_proc, enters, level_before, level_at_end, entry_by, entry, entered, with_line, told_locals, local_of, header_of}
use Rattle.pmg_fence.specs.Rules.{FitsTable, Scripts}
use Rattle.pmg_fence.specs.Tables.{Fences, fence_of, is_old, count_of, own_header, header_at, entry_in, told_of, is_covered, is_ready, says_gone, gone_by}
use Rattle.pmg_fence.specs.declared.entry.Entry.{Entry}
use Rattle.pmg_fence.proofs.EntryLemmas.{proc_itself, no_end}
use Rattle.pmg_fence.proofs.FitLemmas.{own_header_is_true, ready_is_whole}
use Rattle.pmg_node_model.specs.Acts.{Request, Act, Reply, Done, request_cause, cause, done_as, leaves, enters_fence, serves, does, over, acts, says}
use Rattle.pmg_node_model.specs.Choosing.{chosen}
use Rattle.pmg_node_model.specs.Fitting.{Fits, is_refusal, unless_refused}
use Rattle.pmg_node_model.specs.Holdings.{CallState, NodeState, sealer_of, call_of, uncalled, with_table, released_by, settle, settled, is_ready_at}
use Rattle.pmg_node_model.specs.Kept.{IsServer, top_in}
use Rattle.pmg_node_model.specs.Sending.{NodeStep}
use Rattle.pmg_node_model.proofs.CallFacts.{call-settled, call-called, call-uncalled}
use Rattle.pmg_node_model.proofs.CauseFacts.{NoCause}
use Rattle.pmg_node_model.proofs.ChoosingSteps.{chosen_is_step}
use Rattle.pmg_node_model.proofs.KeptActs.{server_stays}
use Rattle.pmg_node_model.proofs.Names.{tops_come}
use Rattle.pmg_group_model.specs.Worlds.{World, Event, ActStep, Step, with_holding_at, doing}
use Rattle.pmg_group_model.specs.Laws.{Good}
use Rattle.pmg_group_model.specs.Examples.{lone, j0, j1, round}
use Rattle.pmg_group_model.proofs.ExampleGroup.{ranked, who_meets}
use Rattle.pmg_group_model.proofs.ExampleActs.{both}
use Rattle.pmg_group_model.proofs.ExampleLone.{home_0, home_1, are_lone, locals_are, done_then, calls_well, sig, joining, may_join}
use Rattle.pmg_group_model.proofs.Keeping.{level_some}
use Rattle.pmg_group_model.proofs.Steps.{step_good}

-- ---- steps

-- the world once the node did the act, which is replied so
unfoldable pub then_world : World → Act → Reply → World
then_world w a r = record {
  scripts = unless_refused (is_refusal r) w.scripts (says lone a);
  nodes = with_holding_at w.nodes 0 (acts lone 0 (w.nodes 0) a).left;
  sent = w.sent ++ (chosen lone 0 (w.nodes 0) finite.empty a).frames;
}

acts_so : (w : World) (a : Act) (r : Reply) → IsServer lone 0 (w.nodes 0) → (acts lone 0 (w.nodes 0) a).reply ≡ r → ActStep lone w 0 a r (then_world w a r)
unfolding then_world
acts_so w a r server is = record {
  new = (acts lone 0 (w.nodes 0) a).left;
  out = (chosen lone 0 (w.nodes 0) finite.empty a).frames;
  step = subst (λ (x : Reply). NodeStep lone 0 (w.nodes 0) a x (acts lone 0 (w.nodes 0) a).left (chosen lone 0 (w.nodes 0) finite.empty a).frames) is
      (chosen_is_step lone are_lone 0 (w.nodes 0) server finite.empty a);
  left = refl;
}

abbrev pub leaving : Proc → Act
leaving p = Act.request (Request.leave p)

enter_step : (w : World) (p : Proc) (r : Reply) (v : World) → ActStep lone w 0 (joining p) r v → Step lone w (Event.request 0 (Request.enter p both false)) r v
unfolding doing
enter_step w p r v step = step

leave_step : (w : World) (p : Proc) (r : Reply) (v : World) → ActStep lone w 0 (leaving p) r v → Step lone w (Event.request 0 (Request.leave p)) r v
unfolding doing
leave_step w p r v step = step

-- ---- what holds between the steps

-- what holds of every run; and the greatest instance of the signature is at most this one
pub record Stage (w : World) (most : ℕ) : Type 0 where
  pub good : Good lone w
  pub server : IsServer lone 0 (w.nodes 0)
  pub top : top_in (w.nodes 0).table sig ≤ most

-- a process has not ended, entered fences of the signature so often, and is in that call
pub record Stands (w : World) (p : Proc) (k : ℕ) (c : Option CallState) : Type 0 where
  pub live : has_end (w.scripts p) ≡ false
  pub times : enters (w.scripts p) sig ≡ k
  pub came : 0 < k → (l : ℕ) × (level_before (w.scripts p) sig k ≡ Some l)
  pub call : call_of (w.nodes 0) p ≡ c

-- ---- whether the fence is ready

no_entry : (s : Script) (k : ℕ) → has_end s ≡ false → enters s sig ≡ k → (e : Entry) → entry s (round (suc k)) ≡ Some e → ⊥
unfolding entry
no_entry s k live times e is = by_level (level_before s sig (suc k)) refl (sym (ap (entry_by (level_before s sig (suc k))) (no_end s live)) ∙ is)
  where
    by_level : (o : Option ℕ) → level_before s sig (suc k) ≡ o → entry_by o None ≡ Some e → ⊥
    by_level None none z = cc
    by_level (Some l) some z = let made = level_some s sig (suc k) l some in omega (arith, made, times)

-- it is not, before each has entered
pub not_yet : (scripts : Scripts) (t : Fences) (k : ℕ) (level : Proc → ℕ) → FitsTable lone 0 scripts t → (q : Proc) → In q (participants_of (round (suc k)))
    → has_end (scripts q) ≡ false → enters (scripts q) sig ≡ k → is_ready lone 0 t (round (suc k)) level ≡ false
not_yet scripts t k level fits q i live times = by_test (is_ready lone 0 t (round (suc k)) level) refl
  where
    by_test : (b : Bool) → is_ready lone 0 t (round (suc k)) level ≡ b → is_ready lone 0 t (round (suc k)) level ≡ false
    by_test false bare = bare
    by_test true ready = let its = ready_is_whole lone 0 scripts t (round (suc k)) level fits ready q i in absurd (no_entry (scripts q) k live times its.0 its.1)

not_past : (k top : ℕ) → top ≤ suc k → nat_lt (suc (suc k)) top ≡ false
not_past k top le = grind (arith, nat_tests)

-- it is, once both have
module _ (scripts : Scripts) (t : Fences) (k l m : ℕ) (fits : FitsTable lone 0 scripts t) (one : level_before (scripts j0) sig (suc k) ≡ Some l) (other : level_before (scripts j1) sig (suc k) ≡ Some m)
    (most : top_in t sig ≤ suc k) where
  young : is_old t (round (suc k)) ≡ false
  unfolding is_old
  young = not_past k (top_in t sig) most

  entry_0 : entry (scripts j0) (round (suc k)) ≡ Some (entered l)
  unfolding entry
  entry_0 = ap (λ o. entry_by o (level_at_end (scripts j0))) one

  entry_1 : entry (scripts j1) (round (suc k)) ≡ Some (entered m)
  unfolding entry
  entry_1 = ap (λ o. entry_by o (level_at_end (scripts j1))) other

  header_is : own_header lone 0 t (round (suc k)) ≡ Some (local_of j0 (entered l) ∷ local_of j1 (entered m) ∷ [])
  unfolding header_of
  header_is =
      own_header_is_true lone 0 scripts t (round (suc k)) fits young ∙ ap (told_locals (λ p. entry (scripts p) (round (suc k)))) (locals_are (suc k))
      ∙ (λ i. with_line j0 (entry_0 i) (with_line j1 (entry_1 i) (Some [])))

  told_0 : told_of lone 0 t (round (suc k)) j0 ≡ Some (entered l)
  unfolding told_of header_at
  told_0 = ap (λ n. entry_in j0 (header_at lone 0 t (round (suc k)) n)) home_0 ∙ ap (entry_in j0) header_is

  told_1 : told_of lone 0 t (round (suc k)) j1 ≡ Some (entered m)
  unfolding told_of header_at
  told_1 = ap (λ n. entry_in j1 (header_at lone 0 t (round (suc k)) n)) home_1 ∙ ap (entry_in j1) header_is

  pub whole : (level : Proc → ℕ) → is_ready lone 0 t (round (suc k)) level ≡ true
  unfolding is_ready
  whole level =
      ap (λ b. not b && list_all (λ q. is_covered false (level q) (told_of lone 0 t (round (suc k)) q)) (participants_of (round (suc k)))) young
      ∙ ap (list_all (λ q. is_covered false (level q) (told_of lone 0 t (round (suc k)) q))) who_meets
      ∙ (λ i. is_covered false (level j0) (told_0 i) && (is_covered false (level j1) (told_1 i) && true))

  pub nobody : gone_by lone 0 t (round (suc k)) ≡ []
  unfolding gone_by
  nobody =
      ap (filter (λ q. says_gone (told_of lone 0 t (round (suc k)) q))) who_meets
      ∙ (λ i. cond (says_gone (told_0 i)) (j0 ∷ cond (says_gone (told_1 i)) (j1 ∷ []) []) (cond (says_gone (told_1 i)) (j1 ∷ []) []))

-- ---- a process enters

module _ (w : World) (most rank k : ℕ) (stage : Stage w most) (member : is_member lone (ranked rank) ≡ true) (home : home_of lone (ranked rank) ≡ 0)
    (part : list_any (same_proc (ranked rank)) both ≡ true) (stands : Stands w (ranked rank) k None) (few : k < 3) where
  times_here : count_of (w.nodes 0).table sig (ranked rank) ≡ k
  times_here = ((stage.good.fits 0).table.own (ranked rank) home).counts sig ∙ stands.times

  live_here : (sealer_of (w.nodes 0) (ranked rank)).ended ≡ false
  live_here = ((stage.good.fits 0).own (ranked rank) home).sealer.ended ∙ stands.live

  -- what the node holds before calls are settled
  abbrev pub entering : NodeState
  entering = (enters_fence (w.nodes 0) (ranked rank) sig).left

  joins : acts lone 0 (w.nodes 0) (joining (ranked rank)) ≡ over lone 0 (w.nodes 0) (Ok (enters_fence (w.nodes 0) (ranked rank) sig))
  unfolding does serves expansion
  joins = done_then (w.nodes 0) (joining (ranked rank)) (may_join (w.nodes 0) rank k part times_here few member home live_here stands.call)

  replied : (acts lone 0 (w.nodes 0) (joining (ranked rank))).reply ≡ Reply.entered (suc k)
  replied = ap (λ (d : Done). d.reply) joins ∙ ap (λ n. Reply.entered (suc n)) times_here

  left_is : (acts lone 0 (w.nodes 0) (joining (ranked rank))).left ≡ settled lone 0 entering
  left_is = ap (λ (d : Done). d.left) joins

  abbrev pub world_joined : World
  world_joined = then_world w (joining (ranked rank)) (Reply.entered (suc k))

  pub step_joins : Step lone w (Event.request 0 (Request.enter (ranked rank) both false)) (Reply.entered (suc k)) world_joined
  step_joins = enter_step w (ranked rank) (Reply.entered (suc k)) world_joined (acts_so w (joining (ranked rank)) (Reply.entered (suc k)) stage.server replied)

  good_joined : Good lone world_joined
  good_joined = step_good lone are_lone w stage.good (Event.request 0 (Request.enter (ranked rank) both false)) (Reply.entered (suc k)) world_joined step_joins

  module _ (more : ℕ) (low : most ≤ more) (high : suc k ≤ more) where
    top_by : (n : ℕ) → (n ≡ top_in (w.nodes 0).table sig) → n ≤ more
    top_by n same = let was = stage.top in omega (arith, same, was, low)

    top_named : (n : ℕ) → Some (next_name (w.nodes 0).table sig (ranked rank)) ≡ Some (fence_of sig n) → n ≤ more
    top_named n named =
        let same : next_name (w.nodes 0).table sig (ranked rank) ≡ fence_of sig n = cc in
        let number : suc (count_of (w.nodes 0).table sig (ranked rank)) ≡ n = ap (λ (f : FenceName). f.instance) same in
        let times = times_here in
        omega (arith, number, times, high)

    top_then : top_in (acts lone 0 (w.nodes 0) (joining (ranked rank))).left.table sig ≤ more
    unfolding expansion
    top_then = elim (tops_come lone 0 (w.nodes 0) (joining (ranked rank)) sig) [
      | inl same ↦ top_by (top_in (acts lone 0 (w.nodes 0) (joining (ranked rank))).left.table sig) same
      | inr named ↦ top_named (top_in (acts lone 0 (w.nodes 0) (joining (ranked rank))).left.table sig) named
    ]

    pub stage_joined : Stage world_joined more
    unfolding then_world
    stage_joined = record { good = good_joined; server = server_stays lone 0 (w.nodes 0) (joining (ranked rank)) stage.server; top = top_then }

  -- its script has the entry, and the other's is as it was
  pub script_joined : (q : Proc) → world_joined.scripts q ≡ cond (same_proc q (ranked rank)) (w.scripts q ++ Call.enter sig ∷ []) (w.scripts q)
  unfolding says expansion then_world
  script_joined q = refl

  pub own_script : world_joined.scripts (ranked rank) ≡ w.scripts (ranked rank) ++ Call.enter sig ∷ []
  own_script = script_joined (ranked rank) ∙ ap (λ b. cond b (w.scripts (ranked rank) ++ Call.enter sig ∷ []) (w.scripts (ranked rank))) (proc_itself (ranked rank))

  -- what is known of fences then fits the scripts
  pub table_joined : FitsTable lone 0 world_joined.scripts entering.table
  unfolding then_world
  table_joined = (subst (Fits lone world_joined.scripts 0) left_is (good_joined.fits 0)).table

  pub top_entering : (more : ℕ) → most ≤ more → suc k ≤ more → top_in entering.table sig ≤ more
  top_entering more low high = subst (λ (x : NodeState). top_in x.table sig ≤ more) left_is (top_then more low high)

  -- the calls then
  call_here : call_of entering (ranked rank) ≡ Some (CallState.in_fence (round (suc k)))
  call_here =
      call-called (with_table (w.nodes 0) (entered_by (w.nodes 0).table sig (ranked rank) (sealer_of (w.nodes 0) (ranked rank)).level)) (ranked rank)
      (CallState.in_fence (next_name (w.nodes 0).table sig (ranked rank))) (ranked rank)
      ∙ ap (λ b. cond b (Some (CallState.in_fence (next_name (w.nodes 0).table sig (ranked rank)))) (call_of (w.nodes 0) (ranked rank))) (proc_itself (ranked rank))
      ∙ ap (λ n. Some (CallState.in_fence (fence_of sig (suc n)))) times_here

  pub call_joined : call_of (world_joined.nodes 0) (ranked rank) ≡ Some (released_by (is_ready_at lone 0 entering (round (suc k))) (round (suc k)) (gone_by lone 0 entering.table (round (suc k))))
  unfolding then_world
  call_joined = ap (λ (x : NodeState). call_of x (ranked rank)) left_is ∙ call-settled lone 0 entering (ranked rank) ∙ ap (option_map (settle lone 0 entering)) call_here

  pub others_call : (q : Proc) → same_proc q (ranked rank) ≡ false → call_of (world_joined.nodes 0) q ≡ option_map (settle lone 0 entering) (call_of (w.nodes 0) q)
  unfolding then_world
  others_call q apart =
      ap (λ (x : NodeState). call_of x q) left_is ∙ call-settled lone 0 entering q
      ∙ ap (option_map (settle lone 0 entering)) (call-called (with_table (w.nodes 0) (entered_by (w.nodes 0).table sig (ranked rank) (sealer_of (w.nodes 0) (ranked rank)).level)) (ranked rank)
      (CallState.in_fence (next_name (w.nodes 0).table sig (ranked rank))) q
      ∙ ap (λ b. cond b (Some (CallState.in_fence (next_name (w.nodes 0).table sig (ranked rank)))) (call_of (w.nodes 0) q)) apart)

-- ---- a process leaves

module _ (w : World) (most rank k : ℕ) (stage : Stage w most) (member : is_member lone (ranked rank) ≡ true) (home : home_of lone (ranked rank) ≡ 0)
    (f : FenceName) (gone : List Proc) (stands : Stands w (ranked rank) k (Some (CallState.released f gone))) where
  may_leave : NoCause (cause lone 0 (w.nodes 0) (leaving (ranked rank)))
  unfolding cause request_cause
  may_leave = calls_well rank (w.nodes 0) member home (((stage.good.fits 0).own (ranked rank) home).sealer.ended ∙ stands.live)

  leaves_so : acts lone 0 (w.nodes 0) (leaving (ranked rank)) ≡ over lone 0 (w.nodes 0) (Ok (done_as (Reply.released f.instance gone) (uncalled (w.nodes 0) (ranked rank))))
  unfolding does serves
  leaves_so = done_then (w.nodes 0) (leaving (ranked rank)) may_leave ∙ ap (λ o. over lone 0 (w.nodes 0) (Ok (leaves (w.nodes 0) (ranked rank) o))) stands.call

  left_then : (acts lone 0 (w.nodes 0) (leaving (ranked rank))).left ≡ settled lone 0 (uncalled (w.nodes 0) (ranked rank))
  left_then = ap (λ (d : Done). d.left) leaves_so

  abbrev pub world_left : World
  world_left = then_world w (leaving (ranked rank)) (Reply.released f.instance gone)

  pub step_leaves : Step lone w (Event.request 0 (Request.leave (ranked rank))) (Reply.released f.instance gone) world_left
  step_leaves =
      leave_step w (ranked rank) (Reply.released f.instance gone) world_left
      (acts_so w (leaving (ranked rank)) (Reply.released f.instance gone) stage.server (ap (λ (d : Done). d.reply) leaves_so))

  same_top : top_in (acts lone 0 (w.nodes 0) (leaving (ranked rank))).left.table sig ≤ most
  same_top = elim (tops_come lone 0 (w.nodes 0) (leaving (ranked rank)) sig) [
    | inl same ↦ subst (λ n. n ≤ most) (sym same) stage.top
    | inr named ↦ absurd (nothing_named _ named)
  ]
    where
      nothing_named : (x : FenceName) → None ≡ Some x → ⊥
      nothing_named x e = cc

  pub stage_left : Stage world_left most
  unfolding then_world
  stage_left = record {
    good = step_good lone are_lone w stage.good (Event.request 0 (Request.leave (ranked rank))) (Reply.released f.instance gone) world_left step_leaves;
    server = server_stays lone 0 (w.nodes 0) (leaving (ranked rank)) stage.server;
    top = same_top;
  }

  pub scripts_left : (q : Proc) → world_left.scripts q ≡ w.scripts q
  unfolding says then_world
  scripts_left q = refl

  pub call_left : call_of (world_left.nodes 0) (ranked rank) ≡ None
  unfolding then_world
  call_left =
      ap (λ (x : NodeState). call_of x (ranked rank)) left_then ∙ call-settled lone 0 (uncalled (w.nodes 0) (ranked rank)) (ranked rank)
      ∙ ap (option_map (settle lone 0 (uncalled (w.nodes 0) (ranked rank))))
      (call-uncalled (w.nodes 0) (ranked rank) (ranked rank) ∙ ap (λ b. cond b None (call_of (w.nodes 0) (ranked rank))) (proc_itself (ranked rank)))

  pub others_left : (q : Proc) → same_proc q (ranked rank) ≡ false → call_of (world_left.nodes 0) q ≡ option_map (settle lone 0 (uncalled (w.nodes 0) (ranked rank))) (call_of (w.nodes 0) q)
  unfolding then_world
  others_left q apart =
      ap (λ (x : NodeState). call_of x q) left_then ∙ call-settled lone 0 (uncalled (w.nodes 0) (ranked rank)) q
      ∙ ap (option_map (settle lone 0 (uncalled (w.nodes 0) (ranked rank)))) (call-uncalled (w.nodes 0) (ranked rank) q ∙ ap (λ b. cond b None (call_of (w.nodes 0) q)) apart)
