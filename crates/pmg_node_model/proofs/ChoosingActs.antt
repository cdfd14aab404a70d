-- What each act sends goes to other nodes, and may be sent.
use Rattle.std.proofs.Common.{◌≡◌, ℕ, ◌<◌, Bool, true, false, cond, List, [], Option, Some, None, inl, inr, refl, sym, ap, subst, ◌∙◌, arith}
use Rattle.std.specs.Prelude.{if◌then◌else◌, nat_lt}
use Rattle.std.specs.List.{flat_map}
use Rattle.std.proofs.lemmas.Bool.{false≢true, and_parts, or_parts, not-true, not-false, eqb-true}
use Rattle.pmg_value.specs.Lists.{In}
use Rattle.pmg_value.proofs.ListLemmas.{in_parts}
use Rattle.pmg_pset.specs.Refusing.{delete_cause}
use Rattle.pmg_value.specs.Signatures.{FenceName}
use Rattle.pmg_value.specs.declared.process.Proc.{Proc}
use Rattle.pmg_value.specs.declared.refusal.Refusal.{Refusal}
use Rattle.pmg_value.specs.declared.refusal.Refusal.TheVariants as refusals
use Rattle.pmg_commit.specs.Data.{level_at}
use Rattle.pmg_commit.specs.Sealed.{Sealed, sealed_with}
use Rattle.pmg_pset.specs.Sets.{host, set_changed}
use Rattle.pmg_frame.specs.Fences.{header}
use Rattle.pmg_frame.specs.declared.frame.Frame.{Frame}
use Rattle.pmg_frame.specs.declared.frame.Frame.TheVariants as frames
use Rattle.pmg_frame.specs.declared.local.Local.{Local}
use Rattle.pmg_jobinfo.specs.Jobs.{Jobs, AreJobs, home_of}
use Rattle.pmg_fence.specs.Changes.{news, present, fence_placed, forgotten, learned, next_name}
use Rattle.pmg_fence.specs.Tables.{Fences, is_old, series_at, fence_at, has_name, names_of}
use Rattle.pmg_fence.proofs.OldLemmas.{old-forgotten, present_alike, fence-with, name-with, ends-with}
use Rattle.pmg_fence.proofs.TableLemmas.{same_name, old_there}
use Rattle.pmg_dmodex.specs.Levels.{Levels}
use Rattle.pmg_node_model.specs.Acts.{Request, Act, Reply, Done, done_as, also, node_cause, list_cause, set_cause, name_cause, seal_cause, signature_of, members_of, cause, request_cause, is_peer, is_taken, serves, receives, does, acts}
use Rattle.pmg_node_model.specs.Choosing.{Out, announcing, telling_of, asking_again, asking_risen, due_by, due_by_request, due_by_frame, marked_by_act, sends, chosen}
use Rattle.pmg_node_model.specs.declared.due.ToSend.{ToSend}
use Rattle.pmg_node_model.specs.Holdings.{NodeState, sealer_of, call_of, sealing, settled}
use Rattle.pmg_node_model.specs.Kept.{Holds}
use Rattle.pmg_node_model.specs.Sending.{own_header_of, Allowed, is_quiet}
use Rattle.pmg_node_model.specs.SendingRules.{ChosenGoToPeers, ChosenIsAllowed}
use Rattle.pmg_node_model.specs.declared.sent.Sent.{Sent}
use Rattle.pmg_node_model.proofs.KeptBasics.{IsFree, act_cases, bad, unknown, foreign, caller_is, host_home}
use Rattle.pmg_node_model.proofs.KeptChanges.{sealer_there, settled_holds}
use Rattle.pmg_node_model.proofs.KeptActs.{own_by, do_holds, receive_holds}
use Rattle.pmg_node_model.proofs.ChoosingNews.{present_named}
use Rattle.pmg_value.proofs.MadeLists.{in_flat_from}
use Rattle.pmg_node_model.proofs.SendingLists.{each_from, sent_for}
use Rattle.pmg_node_model.proofs.ChoosingAllowed.{IsFine, fine_sent, news_own, telling_fine, announcing_fine, settling_fine, spreading_fine, answering_fine, replying_fine, asking_for_fine, asking_again_fine, nudging_fine}

-- ---- an own header stays where its name is learned

-- a fence that is not old is not old where its name is learned
learned_young : (t : Fences) (f : FenceName) → is_old t f ≡ false → is_old (learned t f) f ≡ false
learned_young t f young = by_old (is_old t f) young
  where
    by_old : (b : Bool) → b ≡ false → is_old (if b then t else forgotten (fence_placed t f (fence_at t f) (series_at t f.signature).counts) f.signature) f ≡ false
    by_old true e = absurd (false≢true (sym e))
    by_old false e = old-forgotten (fence_placed t f (fence_at t f) (series_at t f.signature).counts) f.signature f ∙ old_there t f (fence_at t f) (series_at t f.signature).counts young

same_cond : {A : Type 0} (b : Bool) (x : A) → cond b x x ≡ x
same_cond true x = refl
same_cond false x = refl

there_cond : (b c : Bool) → c ≡ true → cond b true c ≡ c
there_cond true c e = sym e
there_cond false c e = refl

pub present_learned : (jobs : Jobs) (id : ℕ) (t : Fences) (f : FenceName) (ls : List Local) → is_old t f ≡ false → present jobs id t f ≡ Some ls → present jobs id (learned t f) f ≡ Some ls
present_learned jobs id t f ls young e =
    let still = learned_young t f young in
    present_alike jobs id t (learned t f) f (fence-with t f (fence_at t f) f still ∙ same_cond (same_name f f) (fence_at t f)) (ends-with t f (fence_at t f))
    (name-with t f (fence_at t f) f still ∙ there_cond (same_name f f) (has_name t f) (present_named jobs id t f ls e))
    ∙ e

-- ---- what is due after an act

module _ (jobs : Jobs) (are : AreJobs jobs) (id : ℕ) (old : NodeState) (holds : Holds jobs id old) where
  -- the sets are set_changed at node 0
  host_at : (rest : Refusal → Bool) → (also (node_cause id) rest refusals.NotMine ≡ false) → home_of jobs host ≡ id
  host_at rest free = host_home jobs are ∙ sym (eqb-true id 0 (not-false _ (or_parts (node_cause id refusals.NotMine) (rest refusals.NotMine) free).0))

  sets_rise : (name bytes : List ℕ) (h : NodeState) → h ≡ settled jobs id (sealing old host (set_changed old.sets name bytes)) → 0 < (sealer_of h host).level
  sets_rise name bytes h is =
      subst (λ (x : NodeState). 0 < (sealer_of x host).level) (sym is)
      (subst (λ (z : Sealed). 0 < z.level) (sym (sealer_there old host (set_changed old.sets name bytes))) (omega arith))

  request_fine : (r : Request) → IsFree jobs id old (Act.request r) → (new : NodeState) → new ≡ settled jobs id (serves jobs id old r).left → Holds jobs id new
      → (d : ToSend) → In d (due_by_request jobs id old r new) → IsFine jobs id (Act.request r) new d
  unfolding due_by_request serves cause request_cause
  request_fine (Request.enter p list collect) free new is after d i =
      let found = in_flat_from (announcing jobs id) (news jobs id old.table new.table (next_name old.table (signature_of jobs p list collect) p)) d i in
      announcing_fine jobs id (Act.request (Request.enter p list collect)) new found.0 (news_own jobs id (Act.request (Request.enter p list collect)) new old.table _ found.0 found.1) d found.2
  request_fine (Request.leave p) free new is after d i = absurd i
  request_fine (Request.ask p get mode) free new is after d i = asking_for_fine jobs id (Act.request (Request.ask p get mode)) new are after p (call_of new p) refl d i
  request_fine (Request.take p) free new is after d i = absurd i
  request_fine (Request.terminate p) free new is after d i =
      let own = caller_is jobs id old p (free refusals.BadParam bad) (free refusals.UnknownNamespace unknown) (free refusals.NotMine foreign) in
      elim (in_parts _ (flat_map (announcing jobs id) (flat_map (news jobs id old.table new.table) (names_of old.table))) d i) [
        | inl j ↦ settling_fine jobs id (Act.request (Request.terminate p)) new old p holds after own.1 d j
        | inr j ↦
            let told = in_flat_from (announcing jobs id) (flat_map (news jobs id old.table new.table) (names_of old.table)) d j in
            let named = in_flat_from (news jobs id old.table new.table) (names_of old.table) told.0 told.1 in
            announcing_fine jobs id (Act.request (Request.terminate p)) new told.0 (news_own jobs id (Act.request (Request.terminate p)) new old.table named.0 told.0 named.2) d told.2
      ]
  request_fine (Request.define name list) free new is after d i =
      spreading_fine jobs id (Act.request (Request.define name list)) new old holds after (host_at (also (list_cause jobs list) (set_cause old.sets name list (members_of jobs list))) (free refusals.NotMine foreign)) (sets_rise _ _ new is) d i
  request_fine (Request.delete name) free new is after d i =
      spreading_fine jobs id (Act.request (Request.delete name)) new old holds after (host_at (also (name_cause name) (delete_cause old.sets name)) (free refusals.NotMine foreign)) (sets_rise _ _ new is) d i
  request_fine Request.nudge free new is after d i = nudging_fine jobs id (Act.request Request.nudge) new are after d i

  -- where more is known of a process, its home is asked again
  risen_fine : (a : Act) (new : NodeState) (q : Proc) (d : ToSend) → In d (asking_risen jobs id old new q) → IsFine jobs id a new d
  risen_fine a new q d i = by_level (nat_lt (level_at old.far q) (level_at new.far q)) i
    where
      by_level : (b : Bool) → In d (if b then asking_again jobs id new q else []) → IsFine jobs id a new d
      by_level true j = asking_again_fine jobs id a new are q d j
      by_level false j = absurd j

  frame_fine : (frame : Frame) → is_taken jobs id old.table frame ≡ true → (new : NodeState) → new ≡ settled jobs id (receives jobs id old frame) → Holds jobs id new
      → (d : ToSend) → In d (due_by_frame jobs id old frame new) → IsFine jobs id (Act.deliver frame) new d
  unfolding due_by_frame is_taken receives
  frame_fine (frames.Piece c) taken new is after d i = risen_fine (Act.deliver (frames.Piece c)) new c.proc d i
  frame_fine (frames.Header hd) taken new is after d i =
      let found = in_flat_from (announcing jobs id) (news jobs id old.table new.table hd.name) d i in
      announcing_fine jobs id (Act.deliver (frames.Header hd)) new found.0 (news_own jobs id (Act.deliver (frames.Header hd)) new old.table hd.name found.0 found.1) d found.2
  frame_fine (frames.FenceAsk a) taken new is after d i = by_header (own_header_of jobs id old a.name) refl i
    where
      by_header : (o : Option (List Local)) → own_header_of jobs id old a.name ≡ o
          → In d (telling_of jobs id a.node a.name o (flat_map (announcing jobs id) (news jobs id old.table new.table a.name))) → IsFine jobs id (Act.deliver (frames.FenceAsk a)) new d
      by_header (Some locals) e j =
          telling_fine jobs id (Act.deliver (frames.FenceAsk a)) new (header id a.name locals) a.node
          (refl, ap (λ (x : NodeState). own_header_of jobs id x a.name) is ∙ present_learned jobs id old.table a.name locals (not-true (is_old old.table a.name) (and_parts _ _ taken).1) e)
          (and_parts _ _ (and_parts _ _ taken).0).0 d j
      by_header None e j =
          let found = in_flat_from (announcing jobs id) (news jobs id old.table new.table a.name) d j in
          announcing_fine jobs id (Act.deliver (frames.FenceAsk a)) new found.0 (news_own jobs id (Act.deliver (frames.FenceAsk a)) new old.table a.name found.0 found.1) d found.2
  frame_fine (frames.RangeAsk a) taken new is after d i =
      answering_fine jobs id (Act.deliver (frames.RangeAsk a)) new a.node a.proc a.level after (eqb-true (home_of jobs a.proc) id (and_parts _ _ taken).1) (and_parts _ _ (and_parts _ _ taken).0).0 d i
  frame_fine (frames.DirectAsk a) taken new is after d i =
      answering_fine jobs id (Act.deliver (frames.DirectAsk a)) new a.node a.proc a.level after (eqb-true (home_of jobs a.proc) id (and_parts _ _ taken).1) (and_parts _ _ (and_parts _ _ taken).0).0 d i
  frame_fine (frames.RefreshAsk a) taken new is after d i =
      replying_fine jobs id (Act.deliver (frames.RefreshAsk a)) new a refl (eqb-true (home_of jobs a.ask.proc) id (and_parts _ _ taken).1) (and_parts _ _ (and_parts _ _ taken).0).0 d i
  frame_fine (frames.RefreshReply r) taken new is after d i = risen_fine (Act.deliver (frames.RefreshReply r)) new r.told.proc d i

  -- ---- what goes out

  -- what an act that was done so sends
  abbrev pub out_of : Levels → Act → Done → Out
  out_of marks a done = if is_quiet done.reply then record { frames = []; marks = marks } else sends (sealer_of done.left) (marked_by_act marks a) (due_by jobs id old a done.left)

  -- where that goes, and that it may be sent
  abbrev IsWell : Levels → Act → Done → Type 0
  IsWell marks a done = (s : Sent) → In s (out_of marks a done).frames → (is_peer jobs id s.to ≡ true) × Allowed jobs id a done.left s.frame

  well_by : (marks : Levels) (a : Act) (done : Done) → Holds jobs id done.left → ((d : ToSend) → In d (due_by jobs id old a done.left) → IsFine jobs id a done.left d) → IsWell marks a done
  well_by marks a done after fine s i = by_reply (is_quiet done.reply) i
    where
      by_reply : (b : Bool) → In s (if b then record { frames = []; marks = marks } else sends (sealer_of done.left) (marked_by_act marks a) (due_by jobs id old a done.left)).frames
          → (is_peer jobs id s.to ≡ true) × Allowed jobs id a done.left s.frame
      by_reply true j = absurd j
      by_reply false j =
          let found = sent_for done.left (marked_by_act marks a) (due_by jobs id old a done.left) s j in
          fine_sent jobs id a done.left after found.0 s (fine found.0 found.1) found.2

  done_well : (marks : Levels) (a : Act) → IsFree jobs id old a → IsWell marks a (done_as (does jobs id old a).reply (settled jobs id (does jobs id old a).left))
  unfolding due_by does cause
  done_well marks (Act.request r) free =
      let after = settled_holds jobs id (serves jobs id old r).left (do_holds jobs id old holds (Act.request r) free) in
      well_by marks (Act.request r) (done_as (serves jobs id old r).reply (settled jobs id (serves jobs id old r).left)) after (request_fine r free (settled jobs id (serves jobs id old r).left) refl after)
  done_well marks (Act.commit p b) free =
      let z = sealed_with (sealer_of old p) b in
      let after = settled_holds jobs id (sealing old p z) (do_holds jobs id old holds (Act.commit p b) free) in
      well_by marks (Act.commit p b) (done_as (Reply.committed z.level) (settled jobs id (sealing old p z))) after (settling_fine jobs id (Act.commit p b) (settled jobs id (sealing old p z)) old p holds after (own_by jobs id old p (seal_cause (sealer_of old p) b) free).1)
  done_well marks (Act.deliver frame) free = by_taken (is_taken jobs id old.table frame) refl
    where
      by_taken : (b : Bool) → is_taken jobs id old.table frame ≡ b
          → IsWell marks (Act.deliver frame) (done_as (if b then done_as Reply.taken (receives jobs id old frame) else done_as Reply.ignored old).reply (settled jobs id (if b then done_as Reply.taken (receives jobs id old frame) else done_as Reply.ignored old).left))
      by_taken true taken =
          let after = settled_holds jobs id (receives jobs id old frame) (receive_holds jobs id old holds frame taken) in
          well_by marks (Act.deliver frame) (done_as Reply.taken (settled jobs id (receives jobs id old frame))) after (frame_fine frame taken (settled jobs id (receives jobs id old frame)) refl after)
      by_taken false ignored = λ s i. absurd i

  pub chosen_well : (marks : Levels) (a : Act) (s : Sent) → In s (chosen jobs id old marks a).frames → (is_peer jobs id s.to ≡ true) × Allowed jobs id a (acts jobs id old a).left s.frame
  unfolding chosen
  chosen_well marks a = act_cases jobs id old a (IsWell marks a) (done_well marks a) (λ e s i. absurd i)

pub chosen_go_to_peers : ChosenGoToPeers
chosen_go_to_peers jobs are id old server marks a = each_from (λ s. is_peer jobs id s.to ≡ true) (chosen jobs id old marks a).frames (λ s i. (chosen_well jobs are id old server.holds marks a s i).0)

pub chosen_is_allowed : ChosenIsAllowed
chosen_is_allowed jobs are id old server marks a =
    each_from (λ s. Allowed jobs id a (acts jobs id old a).left s.frame) (chosen jobs id old marks a).frames (λ s i. (chosen_well jobs are id old server.holds marks a s i).1)
