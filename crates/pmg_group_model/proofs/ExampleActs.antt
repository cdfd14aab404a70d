-- The acts of the examples: what each is replied, and what is held then.
use Rattle.std.proofs.Common.{◌≡◌, ℕ, true, false, ◌&&◌, ◌||◌, ◌==◌, not, nat_lt, nat_le, is_some, cond, List, [], ◌∷◌, Option, Some, None, Ok, refl, ap, ◌∙◌}
use Rattle.std.specs.FinSet as set
use Rattle.std.specs.List.{list_all, list_any}
use Rattle.std.specs.Ordering.{eq_by_cmp}
use Rattle.std.specs.Cmp.Lexicographic.{slice_cmp}
use Rattle.pmg_value.specs.Process.{proc_cmp, is_host}
use Rattle.pmg_value.specs.declared.process.Proc.{Proc}
use Rattle.pmg_value.proofs.ProcessOrder.{procs_total}
use Rattle.pmg_value.proofs.SetOrder.{len-from_list}
use Rattle.pmg_commit.specs.Sealed.{Sealed}
use Rattle.pmg_frame.specs.declared.local.State.{State}
use Rattle.pmg_frame.specs.Fences.{participants_of}
use Rattle.pmg_frame.specs.declared.frame.Frame.{Frame}
use Rattle.pmg_frame.specs.declared.frame.Frame.TheVariants as frames
use Rattle.pmg_jobinfo.specs.Expansion.{expansion}
use Rattle.pmg_jobinfo.specs.Jobs.{home_of, is_member}
use Rattle.pmg_fence.specs.Changes.{next_name, entered_by, ended_by}
use Rattle.pmg_fence.specs.Entering.{same_proc}
use Rattle.pmg_fence.specs.Tables.{Fences, no_fences, is_old, count_of}
use Rattle.pmg_fence.proofs.StepLemmas.{no_counts}
use Rattle.pmg_node_model.specs.Acts.{Request, Act, Reply, Done, also, free_cause, busy_cause, caller_cause, list_cause, signature_cause, request_cause, cause, is_known, is_taken, done_as, leaves, receives, serves, does, over, acts}
use Rattle.pmg_node_model.specs.Holdings.{CallState, NodeState, sealer_of, call_of, called, uncalled, with_table, sealing, settled}
use Rattle.pmg_node_model.proofs.CauseFacts.{NoCause}
use Rattle.pmg_group_model.specs.Examples.{two, j0, j1, meeting}
use Rattle.pmg_group_model.proofs.ExampleGroup.{ranked, is_there, home_of_j0, home_of_j1, j0_is_member, j1_is_member, who_meets, rising, locals_at_0, locals_at_1}
use Rattle.pmg_group_model.proofs.ExampleTables.{ended_table, not_old_ended, its_name, entered_table, entered_young, header_of_0, header_of_1, gone_then}
use Rattle.pmg_group_model.proofs.ExampleNodes.{accepted, both_causes, calls_well, in_meeting, new_0, ended_sealer, ended_0, heard_0, new_1, entered_1, waits_1, told_1, lacks_1, its_piece, freed_1, left_1, sealer_level, idle_new, in_entered, in_told, in_freed}
use Rattle.pmg_group_model.proofs.Starting.{sealer-new}

-- ---- the process at node 0 ends

abbrev pub ending : Act
ending = Act.request (Request.terminate j0)

may_end : NoCause (cause two 0 new_0 ending)
unfolding cause request_cause
may_end = calls_well 0 0 new_0 j0_is_member home_of_j0 (ap (λ (z : Sealed). z.ended) (sealer-new two 0 j0))

pub ends : acts two 0 new_0 ending ≡ done_as (Reply.ended 1) ended_0
unfolding does serves ended_0
ends =
    accepted 0 new_0 ending may_end
    ∙ (λ i. done_as (Reply.ended (sealer_level i)) (settled two 0 (uncalled (with_table (sealing new_0 j0 ended_sealer) (ended_by no_fences j0 (sealer_level i))) j0)))

-- ---- a process enters

abbrev pub both : List Proc
both = j0 ∷ j1 ∷ []

abbrev pub entering : Proc → Act
entering p = Act.request (Request.enter p both true)

pub not_busy : (h : NodeState) (p : Proc) → call_of h p ≡ None → NoCause (busy_cause h p)
not_busy h p idle = (refl, (refl, (refl, (refl, (refl, (ap (λ (o : Option CallState). is_some o) idle, (refl, (refl, (refl, (refl, (refl, tt)))))))))))

-- one that calls well, and is in no call
pub free : (id rank : ℕ) (h : NodeState) → is_member two (ranked rank) ≡ true → home_of two (ranked rank) ≡ id → (sealer_of h (ranked rank)).ended ≡ false
    → call_of h (ranked rank) ≡ None → NoCause (free_cause two id h (ranked rank))
free id rank h member home live idle =
    both_causes (caller_cause two id h (ranked rank)) (busy_cause h (ranked rank)) (calls_well id rank h member home live) (not_busy h (ranked rank) idle)

good_list : NoCause (list_cause two both)
good_list = (
  refl,
  ((λ i. (is_there i && not (j0_is_member i)) || ((is_there i && not (j1_is_member i)) || false)), ((λ i. not (is_there i) || (not (is_there i) || false)), (refl, (refl, (refl, (refl, (refl, (refl, (refl, (refl, tt)))))))))),
)

pub few : set.len (set.from_list {R = proc_cmp} both) ≡ 2
few = len-from_list procs_total both rising

-- a process that takes part, where no fence has a name
module _ (h : NodeState) (p : Proc) (part : list_any (same_proc p) both ≡ true) (none : h.table ≡ no_fences) where
  takes_part : set.contains (set.from_list {R = proc_cmp} both) p ≡ true
  takes_part = set.contains-from_list procs_total both p ∙ part

  good_signature : NoCause (signature_cause h meeting.signature p)
  good_signature = (
    refl,
    (refl, (refl, (refl, (refl, (refl, (ap not takes_part, (refl, (refl, (refl, ((λ i. nat_lt 4096 (few i) || nat_le 4294967295 (count_of (none i) meeting.signature p)) ∙ (λ i. nat_le 4294967295 (no_counts meeting.signature p i)), tt)))))))))),
  )

  may_enter : (id : ℕ) → NoCause (free_cause two id h p) → NoCause (cause two id h (entering p))
  unfolding cause request_cause expansion
  may_enter id well =
      both_causes (free_cause two id h p) (also (list_cause two both) (signature_cause h meeting.signature p)) well
      (both_causes (list_cause two both) (signature_cause h meeting.signature p) good_list good_signature)

  pub enters_so : (id level : ℕ) → NoCause (free_cause two id h p) → (sealer_of h p).level ≡ level
      → acts two id h (entering p) ≡ done_as (Reply.entered 1) (settled two id (in_meeting h p level))
  unfolding does serves expansion
  enters_so id level well at =
      accepted id h (entering p) (may_enter id well)
      ∙ (λ i. over two id h (Ok (enters_by (none i) (at i))))
      ∙ (λ i. done_as (Reply.entered (its_name p level i).instance) (settled two id (called (with_table h (entered_table p level)) p (CallState.in_fence (its_name p level i)))))
    where
      enters_by : Fences → ℕ → Done
      enters_by t n =
          done_as (Reply.entered (next_name t meeting.signature p).instance)
          (called (with_table h (entered_by t meeting.signature p n)) p (CallState.in_fence (next_name t meeting.signature p)))

-- the process at node 1 enters
pub live_at_1 : (sealer_of new_1 j1).ended ≡ false
live_at_1 = ap (λ (z : Sealed). z.ended) (sealer-new two 1 j1)

level_at_1 : (sealer_of new_1 j1).level ≡ 0
level_at_1 = ap (λ (z : Sealed). z.level) (sealer-new two 1 j1)

pub enters : acts two 1 new_1 (entering j1) ≡ done_as (Reply.entered 1) entered_1
unfolding entered_1
enters = enters_so new_1 j1 refl refl 1 0 (free 1 1 new_1 j1_is_member home_of_j1 live_at_1 (idle_new 1 j1)) level_at_1

-- ---- the process at node 1 leaves, or waits

abbrev pub leaving : Act
leaving = Act.request (Request.leave j1)

may_leave : (h : NodeState) → (sealer_of h j1).ended ≡ false → NoCause (cause two 1 h leaving)
unfolding cause request_cause
may_leave h live = calls_well 1 1 h j1_is_member home_of_j1 live

leaves_as : (h : NodeState) (c : Option CallState) → (sealer_of h j1).ended ≡ false → call_of h j1 ≡ c → acts two 1 h leaving ≡ over two 1 h (Ok (leaves h j1 c))
unfolding does serves
leaves_as h c live is = accepted 1 h leaving (may_leave h live) ∙ ap (λ o. over two 1 h (Ok (leaves h j1 o))) is

pub waits : acts two 1 entered_1 leaving ≡ done_as Reply.waiting waits_1
unfolding entered_1 waits_1
waits = leaves_as entered_1 (Some (CallState.in_fence meeting)) live_at_1 (in_entered j1)

pub waits_again : (state : State) → acts two 1 (told_1 state) leaving ≡ done_as Reply.waiting (lacks_1 state)
unfolding entered_1 waits_1 told_1 lacks_1
waits_again state = leaves_as (told_1 state) (Some (CallState.in_fence meeting)) live_at_1 (in_told state j1)

pub leaves_it : (state : State) (z : Sealed) → z.proc ≡ j0 → z.level ≡ 1 → acts two 1 (freed_1 state z) leaving ≡ done_as (Reply.released 1 (gone_then state)) (left_1 state z)
unfolding entered_1 waits_1 told_1 lacks_1 freed_1 left_1
leaves_it state z its one = leaves_as (freed_1 state z) (Some (CallState.released meeting (gone_then state))) live_at_1 (in_freed state z its one j1)

-- ---- frames come

pub takes_frame : (id : ℕ) (h : NodeState) (frame : Frame) → is_taken two id h.table frame ≡ true → acts two id h (Act.deliver frame) ≡ done_as Reply.taken (settled two id (receives two id h frame))
unfolding cause does
takes_frame id h frame taken = ap (λ b. over two id h (Ok (cond b (done_as Reply.taken (receives two id h frame)) (done_as Reply.ignored h)))) taken

all_members : list_all (is_member two) (participants_of meeting) ≡ true
all_members = ap (list_all (is_member two)) who_meets ∙ (λ i. j0_is_member i && (j1_is_member i && true))

one_at_0 : list_any (λ p. home_of two p == 0) (participants_of meeting) ≡ true
one_at_0 = ap (list_any (λ p. home_of two p == 0)) who_meets ∙ (λ i. (home_of_j0 i == 0) || ((home_of_j1 i == 0) || false))

one_at_1 : list_any (λ p. home_of two p == 1) (participants_of meeting) ≡ true
one_at_1 = ap (list_any (λ p. home_of two p == 1)) who_meets ∙ (λ i. (home_of_j0 i == 1) || ((home_of_j1 i == 1) || false))

-- the other one's header, where the fence is not old
pub its_header_taken : (t : Fences) → is_old t meeting ≡ false → is_taken two 0 t (frames.Header header_of_1) ≡ true
unfolding is_taken
its_header_taken t young = (λ i. (all_members i && one_at_0 i) && eq_by_cmp (slice_cmp proc_cmp) (j1 ∷ []) (locals_at_1 i) && not (young i))

header_taken : (state : State) (t : Fences) → is_old t meeting ≡ false → is_taken two 1 t (frames.Header (header_of_0 state)) ≡ true
unfolding is_taken
header_taken state t young = (λ i. (all_members i && one_at_1 i) && eq_by_cmp (slice_cmp proc_cmp) (j0 ∷ []) (locals_at_0 i) && not (young i))

pub piece_taken : (t : Fences) (z : Sealed) → z.proc ≡ j0 → is_taken two 1 t (frames.Piece (its_piece z)) ≡ true
unfolding is_taken
piece_taken t z its = ap (λ p. is_known two p && not (home_of two p == 1)) its ∙ (λ i. (j0_is_member i || is_host j0) && not (home_of_j0 i == 1))

pub hears : acts two 0 ended_0 (Act.deliver (frames.Header header_of_1)) ≡ done_as Reply.taken heard_0
unfolding receives heard_0 ended_0
hears = takes_frame 0 ended_0 (frames.Header header_of_1) (its_header_taken ended_table (not_old_ended meeting))

pub is_told : (state : State) → acts two 1 waits_1 (Act.deliver (frames.Header (header_of_0 state))) ≡ done_as Reply.taken (told_1 state)
unfolding receives told_1 waits_1 entered_1
is_told state = takes_frame 1 waits_1 (frames.Header (header_of_0 state)) (header_taken state (entered_table j1 0) (entered_young j1 0))

pub is_freed : (state : State) (z : Sealed) → z.proc ≡ j0 → acts two 1 (lacks_1 state) (Act.deliver (frames.Piece (its_piece z))) ≡ done_as Reply.taken (freed_1 state z)
unfolding receives freed_1
is_freed state z its = takes_frame 1 (lacks_1 state) (frames.Piece (its_piece z)) (piece_taken (lacks_1 state).table z its)
