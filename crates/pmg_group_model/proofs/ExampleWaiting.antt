-- A get that waits: its node asks the home of the key's process, which sends the commit; then the answer is taken.
use Rattle.std.proofs.Common.{◌≡◌, ◌≤◌, ℕ, Bool, true, false, ◌==◌, ◌&&◌, ◌||◌, nat_lt, is_some, cond, List, [], ◌∷◌, drop, Option, Some, Ok, refl, ap, subst, ◌∙◌, arith}
use Rattle.std.specs.FinMap as finite
use Rattle.std.specs.Option.{option_map}
use Rattle.pmg_value.specs.Process.{is_host}
use Rattle.pmg_scope.specs.Scripts.{Call, value_at, before, term_key}
use Rattle.pmg_scope.specs.declared.scope.Reach.TheVariants as reach
use Rattle.pmg_commit.specs.Data.{absorbed, level_at}
use Rattle.pmg_commit.specs.Sealed.{Sealed}
use Rattle.pmg_fence.specs.Entering.{same_proc}
use Rattle.pmg_fence.specs.Tables.{Fences}
use Rattle.pmg_frame.specs.Fences.{CommitAsk, commit_ask}
use Rattle.pmg_frame.specs.declared.frame.Frame.TheVariants as frames
use Rattle.pmg_get.specs.Gets.{Seen, Outcome, resolve}
use Rattle.pmg_get.specs.declared.view.Mode.TheVariants as modes
use Rattle.pmg_store.proofs.HonestDataLaws.{honest_level_is_made}
use Rattle.pmg_node_model.specs.Acts.{Request, Act, Done, Reply, also, free_cause, target_cause, number_cause, request_cause, cause, is_taken, is_peer, done_as, asks, takes, holds_unless, receives, serves, does, over, acts, says}
use Rattle.pmg_node_model.specs.Choosing.{asking_for, chosen, due_by, due_by_frame, due_by_request, marked_by_act, piece_due, sends}
use Rattle.pmg_node_model.specs.Holdings.{CallState, NodeState, sealer_of, call_of, called, uncalled, with_far, settle, settled, settled_by, answer_in}
use Rattle.pmg_node_model.specs.Kept.{IsServer}
use Rattle.pmg_node_model.specs.Sending.{sent, is_quiet, NodeStep}
use Rattle.pmg_node_model.specs.declared.due.ToSend.TheVariants as sendings
use Rattle.pmg_node_model.specs.declared.sent.Sent.{Sent}
use Rattle.pmg_node_model.proofs.CallFacts.{call-settled, call-called}
use Rattle.pmg_node_model.proofs.CauseFacts.{NoCause}
use Rattle.pmg_node_model.proofs.ChoosingSteps.{chosen_is_step}
use Rattle.pmg_node_model.proofs.KeptActs.{new_is_server, server_stays}
use Rattle.pmg_node_model.proofs.Sealing.{level_raised}
use Rattle.pmg_group_model.specs.Worlds.{World, Run, doing, start}
use Rattle.pmg_group_model.specs.Laws.{Good, seen_at}
use Rattle.pmg_group_model.specs.Examples.{two, j0, j1, its_key, its_value, asks_and_waits, takes_the_value, RunOfWaiting}
use Rattle.pmg_group_model.proofs.ExampleGroup.{are_jobs, home_of_j0, home_of_j1, j0_is_member, j1_is_member}
use Rattle.pmg_group_model.proofs.ExampleNodes.{accepted, both_causes, calls_well, new_0, new_1, its_piece, idle_new}
use Rattle.pmg_group_model.proofs.ExampleActs.{free, live_at_1, piece_taken, takes_frame}
use Rattle.pmg_group_model.proofs.ExampleCommit.{its_put, commits_before, world_committed, run_committed, committing, commits, committed_0, committed_level, committed_proc}
use Rattle.pmg_group_model.proofs.ExampleGet.{asking, both_ways, from_elsewhere, good_ask}
use Rattle.pmg_group_model.proofs.ExampleRun.{world_after, act_step}
use Rattle.pmg_group_model.proofs.Runs.{always_good}
use Rattle.pmg_group_model.proofs.Seeing.{answer_sees}
use Rattle.pmg_group_model.proofs.Starting.{no_level}

-- one step of a node, which sends what this program sends, where the act is done so
pub chosen_step : (id : ℕ) (h : NodeState) → IsServer two id h → (a : Act) (r : Reply) (new : NodeState) → acts two id h a ≡ done_as r new
    → NodeStep two id h a r new (chosen two id h finite.empty a).frames
chosen_step id h server a r new is =
    subst (λ (d : Done). NodeStep two id h a d.reply d.left (chosen two id h finite.empty a).frames) is (chosen_is_step two are_jobs id h server finite.empty a)

-- it stays a server
pub server_then : (id : ℕ) (h : NodeState) → IsServer two id h → (a : Act) (r : Reply) (new : NodeState) → acts two id h a ≡ done_as r new → IsServer two id new
server_then id h server a r new is = subst (λ (d : Done). IsServer two id d.left) is (server_stays two id h a server)

-- what is sent where the act is done so
pub chosen_then : (id : ℕ) (h : NodeState) (a : Act) (r : Reply) (new : NodeState) → acts two id h a ≡ done_as r new
    → (chosen two id h finite.empty a).frames ≡ cond (is_quiet r) [] (sends (sealer_of new) (marked_by_act finite.empty a) (due_by two id h a new)).frames
unfolding chosen
chosen_then id h a r new is =
    ap (λ (d : Done). (cond (is_quiet d.reply) (record { frames = []; marks = finite.empty }) (sends (sealer_of d.left) (marked_by_act finite.empty a) (due_by two id h a d.left))).frames) is
    ∙ by_test (is_quiet r)
  where
    by_test : (b : Bool) → (cond b (record { frames = []; marks = finite.empty }) (sends (sealer_of new) (marked_by_act finite.empty a) (due_by two id h a new))).frames
        ≡ cond b [] (sends (sealer_of new) (marked_by_act finite.empty a) (due_by two id h a new)).frames
    by_test true = refl
    by_test false = refl

-- ---- the value is put and committed

it_commits : Run two (start two) (commits_before []) world_committed
unfolding Run
it_commits = run_committed [] world_committed refl

pub good_then : Good two world_committed
good_then = always_good two are_jobs (commits_before []) world_committed it_commits

abbrev pub its_calls : List Call
its_calls = its_put ∷ Call.commit ∷ []

-- ---- node 1 asks for it

unknown_yet : resolve (Seen.remote (value_at its_calls 0 reach.Far its_key.key) (is_some (value_at its_calls 0 reach.Far term_key))) modes.Wait ≡ Outcome.parks
unfolding resolve value_at before
unknown_yet = refl

no_answer : answer_in two 1 new_1 its_key modes.Wait ≡ Outcome.parks
unfolding says
no_answer =
    answer_sees two world_committed.scripts 1 new_1 (good_then.fits 1) its_key modes.Wait ∙ ap (λ n. resolve (seen n) modes.Wait) (no_level reach.Far j0)
    ∙ ap (λ x. resolve x modes.Wait) (from_elsewhere its_calls 0) ∙ unknown_yet
  where
    seen : ℕ → Seen
    seen n = seen_at two 1 its_calls n its_key

abbrev parking : NodeState
parking = called new_1 j1 (CallState.parked its_key)

-- its process waits for the key
unfoldable asked_1 : NodeState
asked_1 = settled two 1 parking

may_ask : NoCause (cause two 1 new_1 asking)
unfolding cause request_cause
may_ask =
    both_causes (free_cause two 1 new_1 j1) (also (target_cause two j1 its_key) (number_cause two 1 new_1 its_key modes.Wait))
    (free 1 1 new_1 j1_is_member home_of_j1 live_at_1 (idle_new 1 j1)) (good_ask new_1)

parks : acts two 1 new_1 asking ≡ done_as Reply.parked asked_1
unfolding does serves asked_1
parks = accepted 1 new_1 asking may_ask ∙ ap (λ o. over two 1 new_1 (Ok (asks new_1 j1 its_key modes.Wait o))) no_answer

is_parked : call_of asked_1 j1 ≡ Some (CallState.parked its_key)
unfolding asked_1
is_parked =
    call-settled two 1 parking j1 ∙ ap (option_map (settle two 1 parking)) (call-called new_1 j1 (CallState.parked its_key) j1)
    ∙ ap (λ o. Some (settled_by its_key o)) no_answer

abbrev its_ask : CommitAsk
its_ask = commit_ask 1 j0 0

abbrev ask_sent : List Sent
ask_sent = sent 0 (frames.DirectAsk its_ask) ∷ []

home_is_asked : (chosen two 1 new_1 finite.empty asking).frames ≡ ask_sent
unfolding due_by due_by_request sends asked_1
home_is_asked =
    chosen_then 1 new_1 asking Reply.parked asked_1 parks ∙ ap (λ (c : Option CallState). (sends (sealer_of asked_1) (marked_by_act finite.empty asking) (asking_for two 1 asked_1 c)).frames) is_parked
    ∙ (λ i.
    (sends (sealer_of asked_1) (marked_by_act finite.empty asking)
    (cond (home_of_j0 i == 1) [] (sendings.Whole (sent (home_of_j0 i) (frames.DirectAsk (commit_ask 1 j0 (no_level reach.Far j0 i)))) ∷ []))).frames)

step_parks : NodeStep two 1 new_1 asking Reply.parked asked_1 ask_sent
step_parks = subst (NodeStep two 1 new_1 asking Reply.parked asked_1) home_is_asked (chosen_step 1 new_1 (new_is_server two 1) asking Reply.parked asked_1 parks)

-- ---- node 0 tells it

abbrev being_asked : Act
being_asked = Act.deliver (frames.DirectAsk its_ask)

ask_taken : (t : Fences) → is_taken two 0 t (frames.DirectAsk its_ask) ≡ true
unfolding is_taken
ask_taken t = (λ i. is_peer two 0 1 && (j0_is_member i || is_host j0) && (home_of_j0 i == 0))

unfoldable pub telling_0 : NodeState
telling_0 = settled two 0 committed_0

tells : acts two 0 committed_0 being_asked ≡ done_as Reply.taken telling_0
unfolding receives telling_0
tells = takes_frame 0 committed_0 (frames.DirectAsk its_ask) (ask_taken committed_0.table) ∙ (λ i. done_as Reply.taken (settled two 0 (holds_unless (nat_lt 0 (committed_level i)) committed_0 1 j0 0)))

abbrev pub told : Sealed
told = sealer_of telling_0 j0

pub told_level : told.level ≡ 1
unfolding telling_0
told_level = committed_level

pub told_proc : told.proc ≡ j0
unfolding telling_0
told_proc = committed_proc

abbrev piece_sent : List Sent
piece_sent = sent 1 (frames.Piece (its_piece told)) ∷ []

piece_is_sent : (chosen two 0 committed_0 finite.empty being_asked).frames ≡ piece_sent
unfolding due_by due_by_frame sends
piece_is_sent =
    chosen_then 0 committed_0 being_asked Reply.taken telling_0 tells
    ∙ (λ i. (sends (sealer_of telling_0) (marked_by_act finite.empty being_asked) (cond (nat_lt 0 (told_level i)) (piece_due telling_0 j0 1 0 ∷ []) [])).frames)

step_tells : NodeStep two 0 committed_0 being_asked Reply.taken telling_0 piece_sent
step_tells =
    subst (NodeStep two 0 committed_0 being_asked Reply.taken telling_0) piece_is_sent
    (chosen_step 0 committed_0 (server_then 0 new_0 (new_is_server two 0) committing (Reply.committed 1) committed_0 commits) being_asked Reply.taken telling_0 tells)

-- ---- the commit comes

abbrev hearing : NodeState
hearing = with_far asked_1 (absorbed asked_1.far (its_piece told))

unfoldable heard_1 : NodeState
heard_1 = settled two 1 hearing

abbrev being_told : Act
being_told = Act.deliver (frames.Piece (its_piece told))

hears : acts two 1 asked_1 being_told ≡ done_as Reply.taken heard_1
unfolding receives heard_1
hears = takes_frame 1 asked_1 (frames.Piece (its_piece told)) (piece_taken asked_1.table told told_proc)

asked_server : IsServer two 1 asked_1
asked_server = server_then 1 new_1 (new_is_server two 1) asking Reply.parked asked_1 parks

abbrev sent_then : List Sent
sent_then = (chosen two 1 asked_1 finite.empty being_told).frames

step_hears : NodeStep two 1 asked_1 being_told Reply.taken heard_1 sent_then
step_hears = chosen_step 1 asked_1 asked_server being_told Reply.taken heard_1 hears

-- ---- the run

abbrev world_asked : World
world_asked = world_after world_committed 1 asking Reply.parked asked_1 ask_sent

abbrev world_told : World
world_told = world_after world_asked 0 being_asked Reply.taken telling_0 piece_sent

abbrev world_heard : World
world_heard = world_after world_told 1 being_told Reply.taken heard_1 sent_then

it_waits : Run two (start two) asks_and_waits world_heard
unfolding Run doing
it_waits = run_committed (drop 2 asks_and_waits) world_heard (
  world_asked,
  act_step world_committed 1 asking Reply.parked asked_1 ask_sent step_parks,
  (
    world_told,
    act_step world_asked 0 being_asked Reply.taken telling_0 piece_sent step_tells,
    (world_heard, act_step world_told 1 being_told Reply.taken heard_1 sent_then step_hears, refl),
  ),
)

-- ---- the answer

good_heard : Good two world_heard
good_heard = always_good two are_jobs asks_and_waits world_heard it_waits

level_raised_to : 1 ≤ level_at hearing.far j0
level_raised_to = subst (λ n. n ≤ level_at hearing.far j0) told_level (level_raised asked_1.far (its_piece told) j0 (ap (same_proc j0) told_proc) (omega arith))

level_heard : level_at heard_1.far j0 ≡ 1
unfolding says heard_1
level_heard = both_ways (level_at hearing.far j0) level_raised_to (honest_level_is_made its_calls reach.Far j0 hearing.far ((good_heard.fits 1).far j0))

value_there : resolve (Seen.remote (value_at its_calls 1 reach.Far its_key.key) (is_some (value_at its_calls 1 reach.Far term_key))) modes.Wait ≡ Outcome.found its_value
unfolding resolve value_at before
value_there = refl

its_answer : answer_in two 1 heard_1 its_key modes.Wait ≡ Outcome.found its_value
unfolding says
its_answer =
    answer_sees two world_heard.scripts 1 heard_1 (good_heard.fits 1) its_key modes.Wait ∙ ap (λ n. resolve (seen_at two 1 its_calls n its_key) modes.Wait) level_heard
    ∙ ap (λ x. resolve x modes.Wait) (from_elsewhere its_calls 1) ∙ value_there

is_answered : call_of heard_1 j1 ≡ Some (CallState.answered its_key (Outcome.found its_value))
unfolding heard_1
is_answered = call-settled two 1 hearing j1 ∙ ap (option_map (settle two 1 hearing)) is_parked ∙ ap (λ o. Some (settled_by its_key o)) its_answer

abbrev taking : Act
taking = Act.request (Request.take j1)

live_then : (sealer_of heard_1 j1).ended ≡ false
unfolding asked_1 heard_1
live_then = live_at_1

may_take : NoCause (cause two 1 heard_1 taking)
unfolding cause request_cause
may_take = calls_well 1 1 heard_1 j1_is_member home_of_j1 live_then

abbrev took_1 : NodeState
took_1 = settled two 1 (uncalled heard_1 j1)

takes_it : acts two 1 heard_1 taking ≡ done_as (Reply.found its_value) took_1
unfolding does serves
takes_it = accepted 1 heard_1 taking may_take ∙ ap (λ o. over two 1 heard_1 (Ok (takes heard_1 j1 o))) is_answered

abbrev sent_last : List Sent
sent_last = (chosen two 1 heard_1 finite.empty taking).frames

step_takes : NodeStep two 1 heard_1 taking (Reply.found its_value) took_1 sent_last
step_takes = chosen_step 1 heard_1 (server_then 1 asked_1 asked_server being_told Reply.taken heard_1 hears) taking (Reply.found its_value) took_1 takes_it

abbrev world_took : World
world_took = world_after world_heard 1 taking (Reply.found its_value) took_1 sent_last

it_takes : Run two world_heard (takes_the_value ∷ []) world_took
unfolding Run doing
it_takes = (world_took, act_step world_heard 1 taking (Reply.found its_value) took_1 sent_last step_takes, refl)

pub run_of_waiting : RunOfWaiting
unfolding RunOfWaiting
run_of_waiting = (world_heard, it_waits, world_took, it_takes, refl)
