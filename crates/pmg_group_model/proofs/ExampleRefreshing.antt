-- A get that asks anew: its node asks the home of the key's process, which replies with the commit; then the answer is taken.
use Rattle.std.proofs.Common.{◌≡◌, ◌≤◌, true, false, ◌==◌, ◌&&◌, ◌||◌, not, nat_lt, nat_le, is_some, cond, List, [], ◌∷◌, ◌++◌, drop, Option, Some, None, Ok, refl, ap, subst, ◌∙◌, arith}
use Rattle.std.specs.FinMap as finite
use Rattle.std.specs.Option.{option_map}
use Rattle.pmg_value.specs.Process.{is_host}
use Rattle.pmg_value.specs.declared.process.Proc.{Proc}
use Rattle.pmg_scope.specs.Scripts.{value_at, before, term_key}
use Rattle.pmg_scope.specs.declared.scope.Reach.TheVariants as reach
use Rattle.pmg_commit.specs.Data.{absorbed, level_at, read_at}
use Rattle.pmg_commit.specs.Knowledge.{Contribution}
use Rattle.pmg_fence.specs.Entering.{same_proc}
use Rattle.pmg_fence.specs.Tables.{Fences}
use Rattle.pmg_frame.specs.Fences.{commit_ask}
use Rattle.pmg_frame.specs.Refreshing.{RefreshAsk, RefreshReply, refresh_ask, refresh_reply, told_by}
use Rattle.pmg_frame.specs.declared.frame.Frame.TheVariants as frames
use Rattle.pmg_get.specs.Gets.{Seen, Outcome, resolve}
use Rattle.pmg_get.specs.declared.view.Mode.TheVariants as modes
use Rattle.pmg_store.proofs.HonestDataLaws.{honest_level_is_made}
use Rattle.pmg_node_model.specs.Acts.{Request, Act, Reply, also, free_cause, target_cause, number_cause, request_cause, cause, is_taken, is_peer, done_as, asks, takes, receives, serves, does, over, acts, says}
use Rattle.pmg_node_model.specs.Choosing.{asking_for, chosen, due_by, due_by_frame, due_by_request, marked_by_act, sends}
use Rattle.pmg_node_model.specs.Holdings.{CallState, NodeState, sealer_of, call_of, called, uncalled, joined, with_far, with_requests, with_reply, is_replied, answer_reply, settled, seen_of, answer_in}
use Rattle.pmg_node_model.specs.Kept.{IsServer}
use Rattle.pmg_node_model.specs.Sending.{sent, reply_anew, NodeStep}
use Rattle.pmg_node_model.specs.declared.due.ToSend.TheVariants as sendings
use Rattle.pmg_node_model.specs.declared.sent.Sent.{Sent}
use Rattle.pmg_node_model.proofs.AnewCalls.{refreshing_settled}
use Rattle.pmg_node_model.proofs.CallFacts.{get-mapped, call-called}
use Rattle.pmg_node_model.proofs.CauseFacts.{NoCause}
use Rattle.pmg_node_model.proofs.KeptActs.{new_is_server}
use Rattle.pmg_node_model.proofs.Sealing.{level_raised}
use Rattle.pmg_group_model.specs.Worlds.{World, Happened, Run, doing, start}
use Rattle.pmg_group_model.specs.Laws.{Good, seen_at}
use Rattle.pmg_group_model.specs.Lawful.{asks_with}
use Rattle.pmg_group_model.specs.Examples.{two, j0, j1, its_key, its_value, second_node, puts_it, asked_and_replied, asks_anew_and_takes, RunOfRefreshing}
use Rattle.pmg_group_model.proofs.ExampleGroup.{are_jobs, home_of_j0, home_of_j1, j0_is_member, j1_is_member}
use Rattle.pmg_group_model.proofs.ExampleNodes.{accepted, both_causes, calls_well, new_0, new_1, its_piece, idle_new}
use Rattle.pmg_group_model.proofs.ExampleActs.{free, live_at_1, piece_taken, takes_frame}
use Rattle.pmg_group_model.proofs.ExampleCommit.{world_committed, run_committed, committing, commits, committed_0}
use Rattle.pmg_group_model.proofs.ExampleGet.{both_ways, from_elsewhere, good_target}
use Rattle.pmg_group_model.proofs.ExampleRun.{world_after, act_step}
use Rattle.pmg_group_model.proofs.ExampleWaiting.{chosen_step, server_then, chosen_then, its_calls, telling_0, told, told_level, told_proc}
use Rattle.pmg_group_model.proofs.Replied.{refreshed_settled}
use Rattle.pmg_group_model.proofs.Runs.{always_good}
use Rattle.pmg_group_model.proofs.Seeing.{answer_sees}
use Rattle.pmg_group_model.proofs.Starting.{no_level}

-- ---- node 1 asks anew

abbrev asking_anew : Act
asking_anew = Act.request (Request.ask j1 its_key modes.Refresh)

good_number : NoCause (number_cause two 1 new_1 its_key modes.Refresh)
good_number = (
  refl,
  (refl, (refl, (refl, (refl, (refl, (refl, (refl, (refl, (refl, (ap (λ home. not (home == 1) && nat_le 18446744073709551615 0) home_of_j0, tt)))))))))),
)

may_ask : NoCause (cause two 1 new_1 asking_anew)
unfolding cause request_cause
may_ask =
    both_causes (free_cause two 1 new_1 j1) (also (target_cause two j1 its_key) (number_cause two 1 new_1 its_key modes.Refresh))
    (free 1 1 new_1 j1_is_member home_of_j1 live_at_1 (idle_new 1 j1))
    (both_causes (target_cause two j1 its_key) (number_cause two 1 new_1 its_key modes.Refresh) good_target good_number)

-- a key of a process of another node is asked for anew, whatever is known of it
no_answer : answer_in two 1 new_1 its_key modes.Refresh ≡ Outcome.parks
unfolding seen_of resolve
no_answer =
    ap (λ home. resolve (cond (home == 1) (Seen.local (read_at new_1.near j0 its_key.key) (read_at new_1.far j0 its_key.key) (is_some (read_at new_1.near j0 term_key)))
    (Seen.remote (read_at new_1.far j0 its_key.key) (is_some (read_at new_1.far j0 term_key)))) modes.Refresh) home_of_j0

abbrev parking : NodeState
parking = called (with_requests new_1 1) j1 (CallState.refreshing its_key 1)

-- its process waits for the reply to the first request
unfoldable asked_1 : NodeState
asked_1 = settled two 1 parking

parks : acts two 1 new_1 asking_anew ≡ done_as Reply.parked asked_1
unfolding does serves asked_1
parks = accepted 1 new_1 asking_anew may_ask ∙ ap (λ o. over two 1 new_1 (Ok (asks new_1 j1 its_key modes.Refresh o))) no_answer

is_refreshing : call_of asked_1 j1 ≡ Some (CallState.refreshing its_key 1)
unfolding asked_1
is_refreshing = refreshing_settled two 1 parking j1 its_key 1 (call-called (with_requests new_1 1) j1 (CallState.refreshing its_key 1) j1)

abbrev its_ask : RefreshAsk
its_ask = refresh_ask 1 (commit_ask 1 j0 0)

abbrev ask_sent : List Sent
ask_sent = sent 0 (frames.RefreshAsk its_ask) ∷ []

home_is_asked : (chosen two 1 new_1 finite.empty asking_anew).frames ≡ ask_sent
unfolding due_by due_by_request sends asked_1
home_is_asked =
    chosen_then 1 new_1 asking_anew Reply.parked asked_1 parks
    ∙ ap (λ (c : Option CallState). (sends (sealer_of asked_1) (marked_by_act finite.empty asking_anew) (asking_for two 1 asked_1 c)).frames) is_refreshing
    ∙ (λ i.
    (sends (sealer_of asked_1) (marked_by_act finite.empty asking_anew)
    (cond (home_of_j0 i == 1) [] (sendings.Whole (sent (home_of_j0 i) (frames.RefreshAsk (refresh_ask 1 (commit_ask 1 j0 (no_level reach.Far j0 i))))) ∷ []))).frames)

step_parks : NodeStep two 1 new_1 asking_anew Reply.parked asked_1 ask_sent
step_parks = subst (NodeStep two 1 new_1 asking_anew Reply.parked asked_1) home_is_asked (chosen_step 1 new_1 (new_is_server two 1) asking_anew Reply.parked asked_1 parks)

-- ---- node 0 replies

abbrev being_asked : Act
being_asked = Act.deliver (frames.RefreshAsk its_ask)

ask_taken : (t : Fences) → is_taken two 0 t (frames.RefreshAsk its_ask) ≡ true
unfolding is_taken
ask_taken t = (λ i. is_peer two 0 1 && (j0_is_member i || is_host j0) && (home_of_j0 i == 0))

replies : acts two 0 committed_0 being_asked ≡ done_as Reply.taken telling_0
unfolding receives telling_0
replies = takes_frame 0 committed_0 (frames.RefreshAsk its_ask) (ask_taken committed_0.table)

abbrev its_reply : RefreshReply
its_reply = refresh_reply 1 1 (its_piece told)

abbrev reply_sent : List Sent
reply_sent = sent 1 (frames.RefreshReply its_reply) ∷ []

reply_is_sent : (chosen two 0 committed_0 finite.empty being_asked).frames ≡ reply_sent
unfolding due_by due_by_frame sends
reply_is_sent =
    chosen_then 0 committed_0 being_asked Reply.taken telling_0 replies
    ∙ (λ i.
    (sends (sealer_of telling_0) (marked_by_act finite.empty being_asked)
    (cond (nat_le 0 (told_level i)) (sendings.Whole (sent 1 (frames.RefreshReply (reply_anew telling_0 its_ask))) ∷ []) [])).frames)

step_replies : NodeStep two 0 committed_0 being_asked Reply.taken telling_0 reply_sent
step_replies =
    subst (NodeStep two 0 committed_0 being_asked Reply.taken telling_0) reply_is_sent
    (chosen_step 0 committed_0 (server_then 0 new_0 (new_is_server two 0) committing (Reply.committed 1) committed_0 commits) being_asked Reply.taken telling_0 replies)

-- ---- the reply comes

abbrev being_told : Act
being_told = Act.deliver (frames.RefreshReply its_reply)

reply_taken : (t : Fences) → is_taken two 1 t (frames.RefreshReply its_reply) ≡ true
unfolding is_taken
reply_taken t = piece_taken t told told_proc

tells_it : told_by its_reply ≡ Some (its_piece told)
tells_it = ap (λ n. cond (nat_lt 0 n) (Some (its_piece told)) None) told_level

abbrev hearing : NodeState
hearing = with_far asked_1 (absorbed asked_1.far (its_piece told))

unfoldable heard_1 : NodeState
heard_1 = settled two 1 (with_reply two 1 hearing 1 told.proc)

hears : acts two 1 asked_1 being_told ≡ done_as Reply.taken heard_1
unfolding receives heard_1
hears =
    takes_frame 1 asked_1 (frames.RefreshReply its_reply) (reply_taken asked_1.table)
    ∙ ap (λ (o : Option Contribution). done_as Reply.taken (settled two 1 (with_reply two 1 (with_far asked_1 (joined asked_1.far o)) 1 told.proc))) tells_it

asked_server : IsServer two 1 asked_1
asked_server = server_then 1 new_1 (new_is_server two 1) asking_anew Reply.parked asked_1 parks

abbrev sent_then : List Sent
sent_then = (chosen two 1 asked_1 finite.empty being_told).frames

step_hears : NodeStep two 1 asked_1 being_told Reply.taken heard_1 sent_then
step_hears = chosen_step 1 asked_1 asked_server being_told Reply.taken heard_1 hears

-- ---- the run up to the answer

abbrev world_asked : World
world_asked = world_after world_committed 1 asking_anew Reply.parked asked_1 ask_sent

abbrev world_told : World
world_told = world_after world_asked 0 being_asked Reply.taken telling_0 reply_sent

abbrev world_heard : World
world_heard = world_after world_told 1 being_told Reply.taken heard_1 sent_then

abbrev it_is_told : List Happened
it_is_told = puts_it ++ asks_with second_node j1 its_key ∷ asked_and_replied

it_waits : Run two (start two) it_is_told world_heard
unfolding Run doing
it_waits = run_committed (drop 2 it_is_told) world_heard (
  world_asked,
  act_step world_committed 1 asking_anew Reply.parked asked_1 ask_sent step_parks,
  (
    world_told,
    act_step world_asked 0 being_asked Reply.taken telling_0 reply_sent step_replies,
    (world_heard, act_step world_told 1 being_told Reply.taken heard_1 sent_then step_hears, refl),
  ),
)

-- ---- the answer

good_heard : Good two world_heard
good_heard = always_good two are_jobs it_is_told world_heard it_waits

level_raised_to : 1 ≤ level_at hearing.far j0
level_raised_to = subst (λ n. n ≤ level_at hearing.far j0) told_level (level_raised asked_1.far (its_piece told) j0 (ap (same_proc j0) told_proc) (omega arith))

level_heard : level_at heard_1.far j0 ≡ 1
unfolding says heard_1
level_heard = both_ways (level_at hearing.far j0) level_raised_to (honest_level_is_made its_calls reach.Far j0 hearing.far ((good_heard.fits 1).far j0))

value_there : resolve (Seen.remote (value_at its_calls 1 reach.Far its_key.key) (is_some (value_at its_calls 1 reach.Far term_key))) modes.Now ≡ Outcome.found its_value
unfolding resolve value_at before
value_there = refl

its_answer : answer_in two 1 hearing its_key modes.Now ≡ Outcome.found its_value
unfolding says heard_1
its_answer =
    answer_sees two world_heard.scripts 1 heard_1 (good_heard.fits 1) its_key modes.Now ∙ ap (λ n. resolve (seen_at two 1 its_calls n its_key) modes.Now) level_heard
    ∙ ap (λ x. resolve x modes.Now) (from_elsewhere its_calls 1) ∙ value_there

-- the reply answers the get with what is known then
is_answered : call_of heard_1 j1 ≡ Some (CallState.refreshed its_key (Outcome.found its_value))
unfolding heard_1
is_answered =
    refreshed_settled two 1 (with_reply two 1 hearing 1 told.proc) j1 its_key (Outcome.found its_value)
    (get-mapped (answer_reply two 1 hearing 1 told.proc) hearing.calls j1 ∙ ap (option_map (answer_reply two 1 hearing 1 told.proc)) is_refreshing
    ∙ ap (λ (q : Proc). Some (cond (is_replied 1 q its_key 1) (CallState.refreshed its_key (answer_in two 1 hearing its_key modes.Now)) (CallState.refreshing its_key 1))) told_proc
    ∙ ap (λ o. Some (CallState.refreshed its_key o)) its_answer)

abbrev taking : Act
taking = Act.request (Request.take j1)

live_then : (sealer_of heard_1 j1).ended ≡ false
unfolding asked_1 heard_1
live_then = live_at_1

may_take : NoCause (cause two 1 heard_1 taking)
unfolding cause request_cause
may_take = calls_well 1 1 heard_1 j1_is_member home_of_j1 live_then

abbrev took_1 : NodeState
took_1 = settled two 1 (uncalled heard_1 j1)

takes_it : acts two 1 heard_1 taking ≡ done_as (Reply.found its_value) took_1
unfolding does serves
takes_it = accepted 1 heard_1 taking may_take ∙ ap (λ o. over two 1 heard_1 (Ok (takes heard_1 j1 o))) is_answered

abbrev sent_last : List Sent
sent_last = (chosen two 1 heard_1 finite.empty taking).frames

step_takes : NodeStep two 1 heard_1 taking (Reply.found its_value) took_1 sent_last
step_takes = chosen_step 1 heard_1 (server_then 1 asked_1 asked_server being_told Reply.taken heard_1 hears) taking (Reply.found its_value) took_1 takes_it

-- ---- the whole run

abbrev world_took : World
world_took = world_after world_heard 1 taking (Reply.found its_value) took_1 sent_last

it_takes : Run two (start two) asks_anew_and_takes world_took
unfolding Run doing
it_takes = run_committed (drop 2 asks_anew_and_takes) world_took (
  world_asked,
  act_step world_committed 1 asking_anew Reply.parked asked_1 ask_sent step_parks,
  (
    world_told,
    act_step world_asked 0 being_asked Reply.taken telling_0 reply_sent step_replies,
    (
      world_heard,
      act_step world_told 1 being_told Reply.taken heard_1 sent_then step_hears,
      (world_took, act_step world_heard 1 taking (Reply.found its_value) took_1 sent_last step_takes, refl),
    ),
  ),
)

pub run_of_refreshing : RunOfRefreshing
unfolding RunOfRefreshing
run_of_refreshing = (world_took, it_takes, (refl, (refl, tt)), refl, refl)
