-- Node 0 where both meet: its process puts a value and commits it, and enters the fence; then the other one's header comes.
use Rattle.std.proofs.Common.{◌≡◌, ℕ, suc, true, false, ◌&&◌, not, nat_le, is_err, cond, List, [], ◌∷◌, length, Some, Ok, Err, refl, sym, ap, ◌∙◌}
use Rattle.std.specs.FinMap as finite
use Rattle.std.specs.FinMap.Entries.{put}
use Rattle.std.specs.List.{sum_by}
use Rattle.std.specs.Ordering.{nat_cmp}
use Rattle.std.specs.Cmp.Lexicographic.{slice_cmp, nat_list_cmp_total}
use Rattle.pmg_value.specs.CheckOrder.{check_order}
use Rattle.pmg_value.specs.Signatures.{FenceName}
use Rattle.pmg_value.specs.declared.refusal.Refusal.TheVariants as refusals
use Rattle.pmg_value.proofs.RowLemmas.{entries_of_nothing}
use Rattle.pmg_scope.specs.Cached.{Unsealed, row_size, is_within, put_cause, global_put}
use Rattle.pmg_scope.specs.Scripts.{Call}
use Rattle.pmg_scope.specs.declared.scope.Scope.TheVariants as scopes
use Rattle.pmg_commit.specs.Sealed.{Stamp, Sealed, stamped, sealed_with, stamp_size, are_within, can_seal}
use Rattle.pmg_commit.proofs.GrowthLemmas.{stamped_one}
use Rattle.pmg_frame.specs.declared.local.Local.{Local}
use Rattle.pmg_frame.specs.declared.frame.Frame.TheVariants as frames
use Rattle.pmg_frame.specs.declared.local.State.TheVariants as states
use Rattle.pmg_jobinfo.specs.Jobs.{home_of}
use Rattle.pmg_fence.specs.Changes.{with_header}
use Rattle.pmg_fence.specs.Tables.{no_fences}
use Rattle.pmg_dmodex.specs.Levels.{Levels, node_level as held_at}
use Rattle.pmg_node_model.specs.Acts.{Request, Act, Reply, also, free_cause, seal_cause, cause, said_by, does, acts, done_as, receives}
use Rattle.pmg_node_model.specs.Fitting.{with_said}
use Rattle.pmg_node_model.specs.Holdings.{CallState, NodeState, new_holding, sealer_of, with_table, sealing, settled}
use Rattle.pmg_node_model.specs.Sending.{sent, own_header_of, NodeStep}
use Rattle.pmg_node_model.specs.declared.sent.Sent.{Sent}
use Rattle.pmg_node_model.proofs.CauseFacts.{NoCause}
use Rattle.pmg_node_model.proofs.Sealing.{sealer_here}
use Rattle.pmg_group_model.specs.Worlds.{World, Event, Doing, Does, Happened, Run, cache_of, doing, puts, reply_or_refusal, start}
use Rattle.pmg_group_model.specs.Examples.{two, j0, meeting, its_key, its_value, first_node, happened_with}
use Rattle.pmg_group_model.proofs.ExampleGroup.{home_of_j0, j0_is_member, locals_at_0}
use Rattle.pmg_group_model.proofs.ExampleTables.{lines_of_0, lines_of_1, header_of_0, header_of_1, entered_table, entered_young, entered_only, entered_is, told_before}
use Rattle.pmg_group_model.proofs.ExampleNodes.{AreIdle, goes_on, accepted, both_causes, in_meeting, new_0, its_piece, idle_new, idle_settled}
use Rattle.pmg_group_model.proofs.ExampleActs.{both, entering, free, enters_so, takes_frame, its_header_taken}
use Rattle.pmg_group_model.proofs.ExampleOwed.{AsksNothing, SendsNews, NoneWaits, NoneParks, request_asks, frame_asks, same_news, idle_parks, called_parks, settled_parks, none_held_new, nothing_below, new_waits, steps, other_than_0, header_allowed, one_new, piece_allowed}
use Rattle.pmg_group_model.proofs.ExampleRun.{world_after, act_step}
use Rattle.pmg_group_model.proofs.Starting.{sealer-new}

-- ---- tables of the one key

module _ {X : Type 0} (x : X) where
  abbrev one_row : finite.FinMap (slice_cmp nat_cmp) X
  one_row = finite.insert finite.empty its_key.key x

  rows_are : finite.entries one_row ≡ (its_key.key, x) ∷ []
  rows_are = finite.entries-insert nat_list_cmp_total finite.empty its_key.key x ∙ ap (put (slice_cmp nat_cmp) its_key.key x) (entries_of_nothing (slice_cmp nat_cmp))

  len_is : finite.len one_row ≡ 1
  len_is = finite.len-entries one_row ∙ ap length rows_are

value_within : is_within (one_row its_value) ≡ true
value_within = λ i. nat_le (len_is its_value i) 65535 && nat_le (sum_by row_size (rows_are its_value i)) 16000000

abbrev its_stamp : Stamp
its_stamp = record { number = 1; bytes = its_value }

stamp_within : are_within (stamped 1 (one_row its_value) finite.empty) ≡ true
stamp_within =
    ap are_within (stamped_one 1 its_key.key its_value finite.empty)
    ∙ (λ i. nat_le (len_is its_stamp i) 65535 && nat_le (sum_by stamp_size (rows_are its_stamp i)) 16000000)

-- ---- its process puts the value

abbrev pub its_put : Call
its_put = Call.put scopes.Global its_key.key its_value

live_new : (id : ℕ) → (sealer_of (new_holding two id) j0).ended ≡ false
live_new id = ap (λ (z : Sealed). z.ended) (sealer-new two id j0)

-- at a new node it is in no call
free_new : (id : ℕ) → home_of two j0 ≡ id → NoCause (free_cause two id (new_holding two id) j0)
free_new id home = free id 0 (new_holding two id) j0_is_member home (live_new id) (idle_new id j0)

good_put : NoCause (put_cause (cache_of []) scopes.Global its_key.key its_value)
unfolding cache_of
good_put = (
  refl,
  (refl, (refl, (refl, (refl, (refl, (refl, (refl, (refl, (refl, ((λ i. not (value_within i && value_within i && value_within i)), tt)))))))))),
)

abbrev pub putting : Doing
putting = puts two (start two) j0 scopes.Global its_key.key its_value

abbrev pub put_world : World
put_world = record { scripts = with_said (start two).scripts (said_by j0 (its_put ∷ [])); nodes = (start two).nodes; sent = [] }

pub step_puts : Does two (start two) putting Reply.done put_world
step_puts =
    let home = home_of two j0 in
    let mine = free_cause two home (new_holding two home) j0 in
    let put = put_cause (cache_of []) scopes.Global its_key.key its_value in
    record { replied = ap reply_or_refusal (sym (goes_on (also mine put) Reply.done check_order (both_causes mine put (free_new home refl) good_put))); left = refl }

-- ---- it commits

abbrev pub its_batch : Unsealed
its_batch = global_put its_key.key its_value

abbrev pub committing : Act
committing = Act.commit j0 its_batch

abbrev sealer_of_one : Sealed
sealer_of_one = sealed_with (sealer_of new_0 j0) its_batch

unfoldable pub committed_0 : NodeState
committed_0 = settled two 0 (sealing new_0 j0 sealer_of_one)

can : can_seal (sealer_of new_0 j0) its_batch ≡ true
can = ap (λ z. can_seal z its_batch) (sealer-new two 0 j0) ∙ (λ i. stamp_within i && stamp_within i)

few : NoCause (seal_cause (sealer_of new_0 j0) its_batch)
few = (
  refl,
  (refl, (refl, (refl, (refl, (refl, (refl, (refl, (refl, (refl, (ap (λ b. is_err (cond b (Ok (sealer_of new_0 j0)) (Err refusals.TooMany))) can, tt)))))))))),
)

may_commit : NoCause (cause two 0 new_0 committing)
unfolding cause
may_commit = both_causes (free_cause two 0 new_0 j0) (seal_cause (sealer_of new_0 j0) its_batch) (free_new 0 home_of_j0) few

number_is_one : sealer_of_one.level ≡ 1
number_is_one = ap (λ (z : Sealed). suc z.level) (sealer-new two 0 j0)

pub commits : acts two 0 new_0 committing ≡ done_as (Reply.committed 1) committed_0
unfolding does committed_0
commits = accepted 0 new_0 committing may_commit ∙ (λ i. done_as (Reply.committed (number_is_one i)) (settled two 0 (sealing new_0 j0 sealer_of_one)))

committed_waits : NoneWaits committed_0
unfolding committed_0
committed_waits p node = ap (λ (levels : Levels). held_at levels p node) (nothing_below sealer_of_one.level) ∙ none_held_new p node

idle_committed : AreIdle committed_0
unfolding committed_0
idle_committed = idle_settled 0 (sealing new_0 j0 sealer_of_one) (idle_new 0)

commit_asks : AsksNothing committing
commit_asks = record { headers = λ ask e. cc; anew = λ ask e. cc; commits = refl; nudges = λ e. cc }

pub step_commits : NodeStep two 0 new_0 committing (Reply.committed 1) committed_0 []
unfolding committed_0
step_commits =
    steps 0 new_0 committed_0 committing (Reply.committed 1) commits refl commit_asks (new_waits 0) (idle_parks committed_0 idle_committed) [] tt tt
    (same_news 0 new_0 committed_0 (λ f. refl) [])

-- ---- runs that begin so

-- the world when it has committed
abbrev pub world_committed : World
world_committed = world_after put_world 0 committing (Reply.committed 1) committed_0 []

-- it puts and commits, and what follows
abbrev pub commits_before : List Happened → List Happened
commits_before xs = happened_with (Event.put j0 scopes.Global its_key.key its_value) Reply.done ∷ happened_with (Event.commit first_node j0) (Reply.committed 1) ∷ xs

pub run_committed : (xs : List Happened) (w : World) → Run two world_committed xs w → Run two (start two) (commits_before xs) w
unfolding Run doing cache_of
run_committed xs w rest = (put_world, step_puts, (world_committed, act_step put_world 0 committing (Reply.committed 1) committed_0 [] step_commits, rest))

-- ---- it enters: its header goes to node 1, and the commit that it names

unfoldable pub joined_0 : NodeState
joined_0 = settled two 0 (in_meeting committed_0 j0 1)

abbrev pub sealer_now : Sealed
sealer_now = sealer_of joined_0 j0

sealer_kept : sealer_of committed_0 j0 ≡ sealer_of_one
unfolding committed_0
sealer_kept = sealer_here new_0 j0 sealer_of_one

pub committed_level : (sealer_of committed_0 j0).level ≡ 1
committed_level = ap (λ (z : Sealed). z.level) sealer_kept ∙ number_is_one

pub committed_proc : (sealer_of committed_0 j0).proc ≡ j0
committed_proc = ap (λ (z : Sealed). z.proc) sealer_kept ∙ ap (λ (z : Sealed). z.proc) (sealer-new two 0 j0)

sealer_stays : sealer_now ≡ sealer_of_one
unfolding joined_0
sealer_stays = sealer_kept

pub now_is_one : sealer_now.level ≡ 1
now_is_one = ap (λ (z : Sealed). z.level) sealer_stays ∙ number_is_one

pub proc_now : sealer_now.proc ≡ j0
proc_now = ap (λ (z : Sealed). z.proc) sealer_stays ∙ ap (λ (z : Sealed). z.proc) (sealer-new two 0 j0)

still_live : (sealer_of committed_0 j0).ended ≡ false
still_live = ap (λ (z : Sealed). z.ended) sealer_kept ∙ live_new 0

no_table : committed_0.table ≡ no_fences
unfolding committed_0
no_table = refl

joins : acts two 0 committed_0 (entering j0) ≡ done_as (Reply.entered 1) joined_0
unfolding joined_0
joins =
    enters_so committed_0 j0 refl no_table 0 1 (free 0 0 committed_0 j0_is_member home_of_j0 still_live (idle_committed j0))
    (ap (λ (z : Sealed). z.level) sealer_kept ∙ number_is_one)

in_meeting_parks : NoneParks (in_meeting committed_0 j0 1)
in_meeting_parks = called_parks (with_table committed_0 (entered_table j0 1)) j0 (CallState.in_fence meeting) refl (idle_parks committed_0 idle_committed)

joined_parks : NoneParks joined_0
unfolding joined_0
joined_parks = settled_parks 0 (in_meeting committed_0 j0 1) in_meeting_parks

abbrev pub both_sent : List Sent
both_sent = sent 1 (frames.Header (header_of_0 states.Entered)) ∷ sent 1 (frames.Piece (its_piece sealer_now)) ∷ []

joined_only : (f : FenceName) (locals : List Local) → own_header_of two 0 joined_0 f ≡ Some locals → f ≡ meeting
unfolding joined_0
joined_only = entered_only j0 1 0

joined_tells : own_header_of two 0 joined_0 meeting ≡ Some (lines_of_0 states.Entered)
unfolding joined_0
joined_tells = entered_is j0 1 0 locals_at_0

pub step_joins : NodeStep two 0 committed_0 (entering j0) (Reply.entered 1) joined_0 both_sent
step_joins =
    steps 0 committed_0 joined_0 (entering j0) (Reply.entered 1) joins refl (request_asks (Request.enter j0 both true) (λ e. cc)) committed_waits joined_parks both_sent (refl, (refl, tt))
    (header_allowed 0 1 joined_0 (lines_of_0 states.Entered) other_than_0 joined_only joined_tells (entering j0), (piece_allowed (entering j0) joined_0 proc_now now_is_one, tt))
    (one_new 0 1 joined_0 (lines_of_0 states.Entered) other_than_0 joined_only joined_tells committed_0 (sent 1 (frames.Piece (its_piece sealer_now)) ∷ []))

-- ---- the other one's header comes

unfoldable pub met_0 : NodeState
met_0 = settled two 0 (with_table joined_0 (with_header joined_0.table header_of_1))

meets : acts two 0 joined_0 (Act.deliver (frames.Header header_of_1)) ≡ done_as Reply.taken met_0
unfolding receives met_0 joined_0
meets = takes_frame 0 joined_0 (frames.Header header_of_1) (its_header_taken (entered_table j0 1) (entered_young j0 1))

joined_waits : NoneWaits joined_0
unfolding joined_0
joined_waits = committed_waits

met_parks : NoneParks met_0
unfolding met_0
met_parks = settled_parks 0 (with_table joined_0 (with_header joined_0.table header_of_1)) joined_parks

met_news : SendsNews 0 joined_0 met_0 []
unfolding joined_0 met_0
met_news f locals node now before part = absurd (told_before j0 1 0 1 lines_of_1 locals_at_0 f locals now before)

pub step_meets : NodeStep two 0 joined_0 (Act.deliver (frames.Header header_of_1)) Reply.taken met_0 []
step_meets =
    steps 0 joined_0 met_0 (Act.deliver (frames.Header header_of_1)) Reply.taken meets refl (frame_asks (frames.Header header_of_1) refl (λ ask e. cc) (λ ask e. cc)) joined_waits met_parks [] tt tt met_news
