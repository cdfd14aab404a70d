-- The steps of the two nodes of the examples: what they send is allowed, and nothing else is owed.
use Rattle.std.proofs.Common.{◌≡◌, true, List, [], ◌∷◌, Some, refl, sym, ap, ◌∙◌}
use Rattle.pmg_commit.specs.Sealed.{Sealed}
use Rattle.pmg_frame.specs.declared.frame.Frame.TheVariants as frames
use Rattle.pmg_frame.specs.declared.local.State.{State}
use Rattle.pmg_frame.specs.declared.local.State.TheVariants as states
use Rattle.pmg_dmodex.specs.Levels.{Levels, node_level as held_at}
use Rattle.pmg_node_model.specs.Acts.{Request, Act, Reply}
use Rattle.pmg_node_model.specs.Holdings.{CallState, NodeState}
use Rattle.pmg_node_model.specs.Sending.{sent, NodeStep}
use Rattle.pmg_node_model.specs.declared.sent.Sent.{Sent}
use Rattle.pmg_group_model.specs.Examples.{two, j0, j1, meeting}
use Rattle.pmg_group_model.proofs.ExampleGroup.{locals_at_1}
use Rattle.pmg_group_model.proofs.ExampleTables.{lines_of_0, lines_of_1, header_of_0, header_of_1, gone_then, nothing_told, nothing_told_then, heard_only, heard_is, entered_only, entered_is, told_before}
use Rattle.pmg_group_model.proofs.ExampleNodes.{IsInCall, new_0, ended_sealer, ended_0, heard_0, new_1, entered_1, waits_1, told_1, lacks_1, its_piece, freed_1, left_1, sealer_then, level_is_one, its_proc, idle_ended, idle_heard, in_entered, in_waits, in_told, in_lacks, in_freed, idle_left}
use Rattle.pmg_group_model.proofs.ExampleOwed.{SendsNews, NoneWaits, NoneParks, request_asks, frame_asks, same_news, idle_parks, call_parks, none_held_new, new_waits, nothing_below, steps, other_than_0, other_than_1, one_new, header_allowed, piece_allowed}
use Rattle.pmg_group_model.proofs.ExampleActs.{both, ending, entering, leaving, ends, enters, waits, waits_again, leaves_it, hears, is_told, is_freed}

-- ---- node 0

ended_waits : NoneWaits ended_0
unfolding ended_0
ended_waits p node = ap (λ (levels : Levels). held_at levels p node) (nothing_below ended_sealer.level) ∙ none_held_new p node

-- the process at node 0 ends, and nothing is sent
pub step_ends : NodeStep two 0 new_0 ending (Reply.ended 1) ended_0 []
unfolding ended_0
step_ends =
    steps 0 new_0 ended_0 ending (Reply.ended 1) ends refl (request_asks (Request.terminate j0) (λ e. cc)) (new_waits 0) (idle_parks ended_0 idle_ended) [] tt tt
    (same_news 0 new_0 ended_0 (λ f. nothing_told_then f ∙ sym (nothing_told 0 f)) [])

-- ---- node 1

-- its process enters, and its header goes to node 0
abbrev pub first_sent : List Sent
first_sent = sent 0 (frames.Header header_of_1) ∷ []

entered_waits : NoneWaits entered_1
unfolding entered_1
entered_waits = none_held_new

in_fence_parks : (h : NodeState) → IsInCall h (Some (CallState.in_fence meeting)) → NoneParks h
in_fence_parks h calls = call_parks h (CallState.in_fence meeting) calls refl

pub step_enters : NodeStep two 1 new_1 (entering j1) (Reply.entered 1) entered_1 first_sent
unfolding entered_1
step_enters =
    let only = entered_only j1 0 1 in
    let tells = entered_is j1 0 1 locals_at_1 in
    steps 1 new_1 entered_1 (entering j1) (Reply.entered 1) enters refl (request_asks (Request.enter j1 both true) (λ e. cc)) (new_waits 1) (in_fence_parks entered_1 in_entered)
    first_sent (refl, tt) (header_allowed 1 0 entered_1 lines_of_1 other_than_1 only tells (entering j1), tt) (one_new 1 0 entered_1 lines_of_1 other_than_1 only tells new_1 [])

-- it waits
pub step_waits : NodeStep two 1 entered_1 leaving Reply.waiting waits_1 []
unfolding waits_1
step_waits =
    steps 1 entered_1 waits_1 leaving Reply.waiting waits refl (request_asks (Request.leave j1) (λ e. cc)) entered_waits (in_fence_parks waits_1 in_waits) [] tt tt
    (same_news 1 entered_1 waits_1 (λ f. refl) [])

-- the other node's header comes
told_waits : NoneWaits waits_1
unfolding waits_1
told_waits = entered_waits

module _ (state : State) where
  telling_news : SendsNews 1 waits_1 (told_1 state) []
  unfolding entered_1 waits_1 told_1
  telling_news f locals node now before part = absurd (told_before j1 0 1 0 (lines_of_0 state) locals_at_1 f locals now before)

  pub step_told : NodeStep two 1 waits_1 (Act.deliver (frames.Header (header_of_0 state))) Reply.taken (told_1 state) []
  step_told =
      steps 1 waits_1 (told_1 state) (Act.deliver (frames.Header (header_of_0 state))) Reply.taken (is_told state) refl (frame_asks (frames.Header (header_of_0 state)) refl (λ ask e. cc) (λ ask e. cc)) told_waits
      (in_fence_parks (told_1 state) (in_told state)) [] tt tt telling_news

  -- it waits again
  lacks_waits : NoneWaits (told_1 state)
  unfolding told_1
  lacks_waits = told_waits

  pub step_lacks : NodeStep two 1 (told_1 state) leaving Reply.waiting (lacks_1 state) []
  unfolding lacks_1
  step_lacks =
      steps 1 (told_1 state) (lacks_1 state) leaving Reply.waiting (waits_again state) refl (request_asks (Request.leave j1) (λ e. cc)) lacks_waits (in_fence_parks (lacks_1 state) (in_lacks state))
      [] tt tt (same_news 1 (told_1 state) (lacks_1 state) (λ f. refl) [])

  -- the commit comes
  freed_waits : NoneWaits (lacks_1 state)
  unfolding lacks_1
  freed_waits = lacks_waits

module _ (state : State) (z : Sealed) (its : z.proc ≡ j0) (one : z.level ≡ 1) where
  pub step_freed : NodeStep two 1 (lacks_1 state) (Act.deliver (frames.Piece (its_piece z))) Reply.taken (freed_1 state z) []
  unfolding freed_1
  step_freed =
      steps 1 (lacks_1 state) (freed_1 state z) (Act.deliver (frames.Piece (its_piece z))) Reply.taken (is_freed state z its) refl (frame_asks (frames.Piece (its_piece z)) refl (λ ask e. cc) (λ ask e. cc))
      (freed_waits state) (call_parks (freed_1 state z) (CallState.released meeting (gone_then state)) (in_freed state z its one) refl) [] tt tt
      (same_news 1 (lacks_1 state) (freed_1 state z) (λ f. refl) [])

  -- and it leaves
  pub left_waits : NoneWaits (freed_1 state z)
  unfolding freed_1
  left_waits = freed_waits state

  pub step_leaves : NodeStep two 1 (freed_1 state z) leaving (Reply.released 1 (gone_then state)) (left_1 state z) []
  unfolding left_1
  step_leaves =
      steps 1 (freed_1 state z) (left_1 state z) leaving (Reply.released 1 (gone_then state)) (leaves_it state z its one) refl (request_asks (Request.leave j1) (λ e. cc)) left_waits
      (idle_parks (left_1 state z) (idle_left state z its one)) [] tt tt (same_news 1 (freed_1 state z) (left_1 state z) (λ f. refl) [])

-- ---- node 0 hears of the fence: its header goes to node 1, and the commit that it names

abbrev pub then_sent : List Sent
then_sent = sent 1 (frames.Header (header_of_0 states.Gone)) ∷ sent 1 (frames.Piece (its_piece sealer_then)) ∷ []

pub step_hears : NodeStep two 0 ended_0 (Act.deliver (frames.Header header_of_1)) Reply.taken heard_0 then_sent
unfolding ended_0 heard_0
step_hears =
    steps 0 ended_0 heard_0 (Act.deliver (frames.Header header_of_1)) Reply.taken hears refl (frame_asks (frames.Header header_of_1) refl (λ ask e. cc) (λ ask e. cc)) ended_waits
    (idle_parks heard_0 idle_heard) then_sent (refl, (refl, tt))
    (header_allowed 0 1 heard_0 (lines_of_0 states.Gone) other_than_0 heard_only heard_is (Act.deliver (frames.Header header_of_1)), (piece_allowed (Act.deliver (frames.Header header_of_1)) heard_0 its_proc level_is_one, tt))
    (one_new 0 1 heard_0 (lines_of_0 states.Gone) other_than_0 heard_only heard_is ended_0 (sent 1 (frames.Piece (its_piece sealer_then)) ∷ []))
