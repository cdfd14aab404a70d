-- What a node's content keeps is kept by each act.
use Rattle.std.proofs.Common.{◌≡◌, ℕ, suc, Bool, true, false, cond, ◌&&◌, ◌||◌, not, List, [], ◌∷◌, map, Option, Some, None, is_some, inl, inr, refl, sym, ap, subst, ◌∙◌, ◌≤◌, arith}
use Rattle.std.specs.Prelude.{if◌then◌else◌, nat_lt, ◌==◌}
use Rattle.std.specs.FinMap as finite
use Rattle.std.specs.FinSet as set
use Rattle.std.specs.List.{list_all, list_any}
use Rattle.std.specs.Option.{option_map, unwrap_or}
use Rattle.std.specs.Ordering.{nat_cmp}
use Rattle.std.specs.Cmp.{Equal-is}
use Rattle.std.specs.BTreeMap.{is_at}
use Rattle.std.proofs.lemmas.Bool.{false≢true, and_parts, and_from, or_parts, not-false, ltb-false, eqb-true, eq-eqb}
use Rattle.pmg_value.specs.CheckOrder.{check_order}
use Rattle.pmg_value.specs.Lists.{In}
use Rattle.pmg_value.specs.Names.{is_reserved}
use Rattle.pmg_value.specs.Spelling.{spelling}
use Rattle.pmg_value.specs.Process.{proc_cmp, is_host}
use Rattle.pmg_value.specs.Signatures.{Signature, FenceName}
use Rattle.pmg_value.specs.declared.process.Proc.{Proc}
use Rattle.pmg_value.specs.declared.refusal.Refusal.{Refusal}
use Rattle.pmg_value.specs.declared.refusal.Refusal.TheVariants as refusals
use Rattle.pmg_value.proofs.ListLemmas.{in_from_list_any, list_any_in}
use Rattle.pmg_value.proofs.ProcessOrder.{procs_total, exact_procs}
use Rattle.pmg_value.proofs.RowLemmas.{at_key, get-map_of}
use Rattle.pmg_value.proofs.SetOrder.{any_in_order}
use Rattle.pmg_scope.specs.Scripts.{term_key}
use Rattle.pmg_commit.specs.Data.{read_at}
use Rattle.pmg_commit.specs.Sealed.{fresh, sealed_with, ended_with}
use Rattle.pmg_pset.specs.Sets.{host, set_changed}
use Rattle.pmg_frame.specs.Fences.{participants_of}
use Rattle.pmg_frame.specs.Refreshing.{told_by}
use Rattle.pmg_frame.specs.declared.frame.Frame.{Frame}
use Rattle.pmg_frame.specs.declared.frame.Frame.TheVariants as frames
use Rattle.pmg_fence.specs.Changes.{learned, next_name, fence_told, with_header, ended_by, entered_by}
use Rattle.pmg_fence.specs.Entering.{same_proc}
use Rattle.pmg_fence.specs.Tables.{fence_at, has_name, is_old}
use Rattle.pmg_fence.proofs.EntryLemmas.{proc_itself}
use Rattle.pmg_fence.proofs.StepLemmas.{no_names}
use Rattle.pmg_get.specs.Gets.{Outcome, Seen, resolve, found_or}
use Rattle.pmg_get.specs.declared.view.Mode.{Mode}
use Rattle.pmg_get.specs.declared.view.Mode.TheVariants as modes
use Rattle.pmg_dmodex.specs.Levels.{NodeLevels, node_level as held_at}
use Rattle.pmg_jobinfo.specs.Procs.{procs_at}
use Rattle.pmg_jobinfo.specs.Jobs.{Jobs, is_member, home_of}
use Rattle.pmg_jobinfo.specs.Refusing.{expand_cause}
use Rattle.pmg_jobinfo.specs.Reserved.{is_general, reserved_value}
use Rattle.pmg_jobinfo.proofs.RuleLemmas.{each_is_member}
use Rattle.pmg_node_model.specs.Acts.{also, caller_cause, busy_cause, Request, Act, Reply, done_as, cause, request_cause, list_of, list_cause, signature_of, signature_cause, free_cause, target_cause, number_cause, is_misnamed, is_peer, is_concerned, is_taken, serves, does, acts, leaves, takes, waits_as, requests_after, asks, enters_fence, receives, holds_unless}
use Rattle.pmg_node_model.specs.Holdings.{settled_by, sealer_in, Get, CallState, NodeState, new_holding, sealer_of, call_of, answer_in, seen_of, with_far, with_table, with_requests, uncalled, joined, settled, sealing}
use Rattle.pmg_node_model.specs.Kept.{IsOwn, IsSettled, Holds, IsServer, ServerStays, NewIsServer}
use Rattle.pmg_node_model.proofs.Forgetting.{ended_names, known_names, entry_names, entry_named}
use Rattle.pmg_node_model.proofs.KeptBasics.{host_is, IsFree, act_cases, bad, unknown, foreign, outside, caller_is, is_member_by}
use Rattle.pmg_node_model.proofs.KeptChanges.{settled_some, settle_fence, settle_parked, settled_holds, called_holds, uncalled_holds, requests_holds, reply_holds, far_holds, names_hold, sealing_holds, asked_holds}
use Rattle.pmg_node_model.proofs.Lasting.{act_counts, released_lasts, new_counts}
use Rattle.pmg_node_model.proofs.Reading.{answered_have}

-- ---- participants

all_from_each : {A : Type 0} (p : A → Bool) (xs : List A) → ((x : A) → In x xs → p x ≡ true) → list_all p xs ≡ true
all_from_each p [] each = refl
all_from_each p (x ∷ xs) each = and_from _ _ (each x (inl refl)) (all_from_each p xs (λ y i. each y (inr i)))

-- a participant in the list is one in the set, and the other way round
pub listed_part : (f : FenceName) (q : Proc) → In q (participants_of f) → set.contains f.signature.participants q ≡ true
listed_part f q i = sym (any_in_order procs_total f.signature.participants q) ∙ list_any_in (same_proc q) (participants_of f) q i (proc_itself q)

pub part_listed : (f : FenceName) (q : Proc) → set.contains f.signature.participants q ≡ true → In q (participants_of f)
part_listed f q e =
    let found = in_from_list_any (same_proc q) (participants_of f) (any_in_order procs_total f.signature.participants q ∙ e) in
    subst (λ x. In x (participants_of f)) (sym (exact_procs q found.0 ((Equal-is _).0 found.2))) found.1

-- ---- the causes of an accepted call

-- whom a call that is accepted is of
pub own_by : (jobs : Jobs) (id : ℕ) (h : NodeState) (p : Proc) (rest : Refusal → Bool) → ((e : Refusal) → In e check_order → also (free_cause jobs id h p) rest e ≡ false) → IsOwn jobs id p
own_by jobs id h p rest free = caller_is jobs id h p (first refusals.BadParam bad) (first refusals.UnknownNamespace unknown) (first refusals.NotMine foreign)
  where
    first : (e : Refusal) → In e check_order → caller_cause jobs id h p e ≡ false
    first e i = (or_parts (caller_cause jobs id h p e) (busy_cause h p e) (or_parts (free_cause jobs id h p e) (rest e) (free e i)).0).0

no_expand : (jobs : Jobs) (list : List Proc) → list_cause jobs list refusals.BadParam ≡ false → list_cause jobs list refusals.UnknownNamespace ≡ false → (e : Refusal) → expand_cause jobs list e ≡ false
no_expand jobs list b u refusals.BadParam = (or_parts (list_any (λ q. is_reserved q.nspace) list) _ b).1
no_expand jobs list b u refusals.UnknownNamespace = u
no_expand jobs list b u _ = refl

-- each of the signature of an accepted entry is of the group
pub record IsEntry (jobs : Jobs) (id : ℕ) (p : Proc) (g : Signature) : Type 0 where
  pub own : IsOwn jobs id p
  pub members : (q : Proc) → set.contains g.participants q ≡ true → is_member jobs q ≡ true
  pub part : set.contains g.participants p ≡ true

pub entry_is : (jobs : Jobs) (id : ℕ) (h : NodeState) (p : Proc) (list : List Proc) (collect : Bool) → IsFree jobs id h (Act.request (Request.enter p list collect))
    → IsEntry jobs id p (signature_of jobs p list collect)
unfolding cause request_cause
entry_is jobs id h p list collect free =
    let g = signature_of jobs p list collect in
    record {
      own = own_by jobs id h p (also (list_cause jobs (list_of p list)) (signature_cause h g p)) free;
      members = each_is_member jobs (list_of p list)
          (no_expand jobs (list_of p list)
          (or_parts (list_cause jobs (list_of p list) refusals.BadParam) _ (or_parts (free_cause jobs id h p refusals.BadParam) _ (free refusals.BadParam bad)).1).0
          (or_parts (list_cause jobs (list_of p list) refusals.UnknownNamespace) _ (or_parts (free_cause jobs id h p refusals.UnknownNamespace) _ (free refusals.UnknownNamespace unknown)).1).0);
      part = not-false (set.contains g.participants p) (free refusals.NotAParticipant outside);
    }

-- a fence of such a signature is of the group and of the node
pub entry_concerned : (jobs : Jobs) (id : ℕ) (p : Proc) (f : FenceName) → IsEntry jobs id p f.signature → is_concerned jobs id f ≡ true
entry_concerned jobs id p f entry =
    and_from _ _ (all_from_each (is_member jobs) (participants_of f) (λ q i. entry.members q (listed_part f q i)))
    (list_any_in (λ q. home_of jobs q == id) (participants_of f) p (part_listed f p entry.part) (eq-eqb (home_of jobs p) id entry.own.1))

-- ---- gets that park

reserved_parks : (o : Option (List ℕ)) → found_or o Outcome.absent ≡ Outcome.parks → ⊥
reserved_parks None e = cc
reserved_parks (Some value) e = cc

-- a get that parks is of no reserved key
pub parked_key : (jobs : Jobs) (id : ℕ) (h : NodeState) (get : Get) (mode : Mode) → answer_in jobs id h get mode ≡ Outcome.parks → is_reserved get.key ≡ false
unfolding seen_of resolve
parked_key jobs id h get mode e =
    elim (is_reserved get.key) as (λ b. resolve (if b then Seen.reserved (option_map spelling (reserved_value jobs id get.target get.key)) else
    (if home_of jobs get.target == id then Seen.local (read_at h.near get.target get.key) (read_at h.far get.target get.key) (is_some (read_at h.near get.target term_key))
    else Seen.remote (read_at h.far get.target get.key) (is_some (read_at h.far get.target term_key)))) mode ≡ Outcome.parks → b ≡ false) [
      | true ↦ λ parks. absurd (reserved_parks (option_map spelling (reserved_value jobs id get.target get.key)) parks)
      | false ↦ λ parks. refl
    ] e

pub target_member : (jobs : Jobs) (p : Proc) (get : Get) → is_reserved get.key ≡ false → target_cause jobs p get refusals.BadParam ≡ false → target_cause jobs p get refusals.UnknownNamespace ≡ false
    → is_member jobs get.target ≡ true
target_member jobs p get key bad_target strange =
    is_member_by jobs get.target
    (or_parts (is_general get.target || same_proc p get.target) (is_misnamed jobs get.target)
    (ap (λ c. if c then not (is_general get.target) && is_misnamed jobs get.target else (is_general get.target || same_proc p get.target || is_misnamed jobs get.target)) (sym key)
    ∙ (or_parts (is_reserved get.target.nspace) _ bad_target).1)).1
    strange

-- how a get waits, by its mode
more_requests : (n : ℕ) (mode : Mode) → n ≤ requests_after n mode
more_requests n modes.Wait = omega arith
more_requests n modes.Now = omega arith
more_requests n modes.Refresh = omega arith

waits_parked : (n : ℕ) (get : Get) (mode : Mode) (other : Get) → waits_as n get mode ≡ CallState.parked other → get ≡ other
waits_parked n get modes.Wait other is = cc
waits_parked n get modes.Now other is = cc
waits_parked n get modes.Refresh other is = absurd cc

waits_anew : (n : ℕ) (get : Get) (mode : Mode) (other : Get) (number : ℕ) → waits_as n get mode ≡ CallState.refreshing other number → (get ≡ other) × (number ≤ requests_after n mode)
waits_anew n get modes.Wait other number is = absurd cc
waits_anew n get modes.Now other number is = absurd cc
waits_anew n get modes.Refresh other number is = let same : suc n ≡ number = cc in (cc, omega (arith, same))

waits_no_fence : (n : ℕ) (get : Get) (mode : Mode) (f : FenceName) → waits_as n get mode ≡ CallState.in_fence f → ⊥
waits_no_fence n get modes.Wait f is = cc
waits_no_fence n get modes.Now f is = cc
waits_no_fence n get modes.Refresh f is = cc

-- ---- requests

module _ (jobs : Jobs) (id : ℕ) (h : NodeState) (holds : Holds jobs id h) where
  enter_holds : (p : Proc) (g : Signature) → IsEntry jobs id p g → Holds jobs id (enters_fence h p g).left
  enter_holds p g entry =
      let f = next_name h.table g p in
      let t = entered_by h.table g p (sealer_of h p).level in
      called_holds jobs id (with_table h t)
      (names_hold jobs id h holds t (entry_names (λ x. is_concerned jobs id x ≡ true) h.table g p (sealer_of h p).level (entry_concerned jobs id p f entry)))
      p (CallState.in_fence f) entry.own (λ get is. absurd (not_get f get is)) (λ get number is. absurd (not_anew f get number is))
      (λ x is. let same = one_name f x is in (
        λ young. ap (has_name t) (sym same) ∙ entry_named h.table g p (sealer_of h p).level (ap (is_old t) same ∙ young),
        ap (λ (y : FenceName). set.contains y.signature.participants p) (sym same) ∙ entry.part,
      ))
    where
      not_get : (f : FenceName) (get : Get) → CallState.in_fence f ≡ CallState.parked get → ⊥
      not_get f get is = cc

      not_anew : (f : FenceName) (get : Get) (number : ℕ) → CallState.in_fence f ≡ CallState.refreshing get number → ⊥
      not_anew f get number is = cc

      one_name : (f x : FenceName) → CallState.in_fence f ≡ CallState.in_fence x → f ≡ x
      one_name f x is = cc

  leave_holds : (p : Proc) (s : Option CallState) → Holds jobs id (leaves h p s).left
  leave_holds p None = holds
  leave_holds p (Some (CallState.in_fence f)) = holds
  leave_holds p (Some (CallState.released f gone)) = uncalled_holds jobs id h holds p
  leave_holds p (Some (CallState.parked get)) = holds
  leave_holds p (Some (CallState.answered get outcome)) = holds
  leave_holds p (Some (CallState.refreshing get number)) = holds
  leave_holds p (Some (CallState.refreshed get outcome)) = holds

  take_holds : (p : Proc) (s : Option CallState) → Holds jobs id (takes h p s).left
  take_holds p None = holds
  take_holds p (Some (CallState.in_fence f)) = holds
  take_holds p (Some (CallState.released f gone)) = holds
  take_holds p (Some (CallState.parked get)) = holds
  take_holds p (Some (CallState.answered get outcome)) = uncalled_holds jobs id h holds p
  take_holds p (Some (CallState.refreshing get number)) = holds
  take_holds p (Some (CallState.refreshed get outcome)) = uncalled_holds jobs id h holds p

  ask_holds : (p : Proc) (get : Get) (mode : Mode) (o : Outcome) → IsOwn jobs id p → (o ≡ Outcome.parks → is_member jobs get.target ≡ true) → Holds jobs id (asks h p get mode o).left
  ask_holds p get mode Outcome.parks own target =
      called_holds jobs id (with_requests h (requests_after h.requests mode)) (requests_holds jobs id h holds (requests_after h.requests mode) (more_requests h.requests mode))
      p (waits_as h.requests get mode) own
      (λ other is. ap (λ (x : Get). is_member jobs x.target) (sym (waits_parked h.requests get mode other is)) ∙ target refl)
      (λ other number is. (ap (λ (x : Get). is_member jobs x.target) (sym (waits_anew h.requests get mode other number is).0) ∙ target refl, (waits_anew h.requests get mode other number is).1))
      (λ f is. absurd (waits_no_fence h.requests get mode f is))
  ask_holds p get mode (Outcome.found value) own target = holds
  ask_holds p get mode Outcome.absent own target = holds
  ask_holds p get mode Outcome.outside own target = holds

  end_holds : (p : Proc) → Holds jobs id (uncalled (with_table (sealing h p (ended_with (sealer_of h p))) (ended_by h.table p (ended_with (sealer_of h p)).level)) p)
  end_holds p =
      let z = ended_with (sealer_of h p) in
      let t = ended_by h.table p z.level in
      uncalled_holds jobs id (with_table (sealing h p z) t)
      (names_hold jobs id (sealing h p z) (sealing_holds jobs id h holds p z (holds.sealers p)) t (ended_names (λ x. is_concerned jobs id x ≡ true) h.table p z.level)) p

  change_holds : (name bytes : List ℕ) → Holds jobs id (sealing h host (set_changed h.sets name bytes))
  unfolding sealer_in
  change_holds name bytes = sealing_holds jobs id h holds host (set_changed h.sets name bytes) (holds.sealers host)

  serve_holds : (r : Request) → IsFree jobs id h (Act.request r) → Holds jobs id (serves jobs id h r).left
  unfolding serves cause request_cause
  serve_holds (Request.enter p list collect) free = enter_holds p (signature_of jobs p list collect) (entry_is jobs id h p list collect free)
  serve_holds (Request.leave p) free = leave_holds p (call_of h p)
  serve_holds (Request.ask p get mode) free =
      ask_holds p get mode (answer_in jobs id h get mode) (own_by jobs id h p (also (target_cause jobs p get) (number_cause jobs id h get mode)) free)
      (λ parks. target_member jobs p get (parked_key jobs id h get mode parks)
      (or_parts (target_cause jobs p get refusals.BadParam) _ (or_parts (free_cause jobs id h p refusals.BadParam) _ (free refusals.BadParam bad)).1).0
      (or_parts (target_cause jobs p get refusals.UnknownNamespace) _ (or_parts (free_cause jobs id h p refusals.UnknownNamespace) _ (free refusals.UnknownNamespace unknown)).1).0)
  serve_holds (Request.take p) free = take_holds p (call_of h p)
  serve_holds (Request.terminate p) free = end_holds p
  serve_holds (Request.define name list) free = change_holds _ _
  serve_holds (Request.delete name) free = change_holds _ _
  serve_holds Request.nudge free = holds

  -- ---- frames

  unless_holds : (b : Bool) (node : ℕ) (p : Proc) (level : ℕ) → nat_lt level (sealer_of h p).level ≡ b → home_of jobs p ≡ id → is_peer jobs id node ≡ true → Holds jobs id (holds_unless b h node p level)
  unless_holds true node p level e home peer = holds
  unless_holds false node p level e home peer = asked_holds jobs id h holds node p level home peer (ltb-false level (sealer_of h p).level e)

  pub receive_holds : (frame : Frame) → is_taken jobs id h.table frame ≡ true → Holds jobs id (receives jobs id h frame)
  unfolding receives is_taken
  receive_holds (frames.Piece c) taken = far_holds jobs id h holds _
  receive_holds (frames.Header hd) taken =
      names_hold jobs id h holds (with_header h.table hd)
      (known_names (λ x. is_concerned jobs id x ≡ true) h.table hd.name (fence_told (fence_at h.table hd.name) hd.node hd.locals) (and_parts _ _ (and_parts _ _ (and_parts _ _ taken).0).0).1)
  receive_holds (frames.FenceAsk a) taken =
      names_hold jobs id h holds (learned h.table a.name) (known_names (λ x. is_concerned jobs id x ≡ true) h.table a.name (fence_at h.table a.name) (and_parts _ _ (and_parts _ _ taken).0).1)
  receive_holds (frames.RangeAsk a) taken = holds
  receive_holds (frames.DirectAsk a) taken =
      unless_holds (nat_lt a.level (sealer_of h a.proc).level) a.node a.proc a.level refl (eqb-true (home_of jobs a.proc) id (and_parts _ _ taken).1) (and_parts _ _ (and_parts _ _ taken).0).0
  receive_holds (frames.RefreshAsk a) taken = holds
  receive_holds (frames.RefreshReply r) taken =
      let told = joined h.far (told_by r) in
      reply_holds jobs id (with_far h told) (far_holds jobs id h holds told) r.request r.told.proc

  deliver_by : (frame : Frame) (b : Bool) → is_taken jobs id h.table frame ≡ b → Holds jobs id (if b then done_as Reply.taken (receives jobs id h frame) else done_as Reply.ignored h).left
  deliver_by frame true taken = receive_holds frame taken
  deliver_by frame false ignored = holds

  pub do_holds : (a : Act) → IsFree jobs id h a → Holds jobs id (does jobs id h a).left
  unfolding does
  do_holds (Act.request r) free = serve_holds r free
  do_holds (Act.commit p b) free = sealing_holds jobs id h holds p (sealed_with (sealer_of h p) b) (holds.sealers p)
  do_holds (Act.deliver frame) free = deliver_by frame (is_taken jobs id h.table frame) refl

-- ---- any act

parks_by : (get : Get) (o : Outcome) → settled_by get o ≡ CallState.parked get → o ≡ Outcome.parks
parks_by get Outcome.parks e = refl
parks_by get (Outcome.found value) e = absurd cc
parks_by get Outcome.absent e = absurd cc
parks_by get Outcome.outside e = absurd cc

-- what was settled is settled
pub settled_settled : (jobs : Jobs) (id : ℕ) (h : NodeState) → IsSettled jobs id (settled jobs id h)
settled_settled jobs id h = record {
  fences = λ p f e. let was = settled_some jobs id h p (CallState.in_fence f) e in (settle_fence jobs id h was.0 f was.2).1;
  gets = λ p get e. let was = settled_some jobs id h p (CallState.parked get) e in parks_by get (answer_in jobs id h get modes.Wait) (settle_parked jobs id h was.0 get was.2).1;
}

kept_stays : (jobs : Jobs) (id : ℕ) (h : NodeState) (a : Act) → IsServer jobs id h → IsSettled jobs id (acts jobs id h a).left × Holds jobs id (acts jobs id h a).left
kept_stays jobs id h a server =
    act_cases jobs id h a (λ d. IsSettled jobs id d.left × Holds jobs id d.left)
    (λ free. (settled_settled jobs id (does jobs id h a).left, settled_holds jobs id (does jobs id h a).left (do_holds jobs id h server.holds a free)))
    (λ e. (server.settled, server.holds))

pub server_stays : ServerStays
server_stays jobs id h a server =
    let kept = kept_stays jobs id h a server in
    record {
      settled = kept.0;
      holds = kept.1;
      counted = act_counts jobs id h server.counted a;
      released = released_lasts jobs id h server.counted a server.released;
      answered = answered_have jobs id h a server.answered;
    }

-- ---- a new node

fresh_at : (q : Proc) (ps : List Proc) → (unwrap_or (at_key proc_cmp q (map (λ p. (p, fresh p)) ps)) (fresh q)).proc ≡ q
fresh_at q [] = refl
fresh_at q (p ∷ ps) =
    elim (is_at (proc_cmp q) p) as (λ b. is_at (proc_cmp q) p ≡ b → (unwrap_or (cond b (Some (fresh p)) (at_key proc_cmp q (map (λ p. (p, fresh p)) ps))) (fresh q)).proc ≡ q) [
      | true ↦ λ t. sym (exact_procs q p ((Equal-is _).0 t))
      | false ↦ λ t. fresh_at q ps
    ] refl

fresh_by : (jobs : Jobs) (id : ℕ) (q : Proc) (b : Bool) → is_host q ≡ b → (if b then fresh host else unwrap_or (finite.get (new_holding jobs id).sealers q) (fresh q)).proc ≡ q
fresh_by jobs id q true e = sym (host_is q e)
fresh_by jobs id q false e = ap (λ o. (unwrap_or o (fresh q)).proc) (get-map_of procs_total (map (λ p. (p, fresh p)) (procs_at jobs id)) q) ∙ fresh_at q (procs_at jobs id)

no_call : (jobs : Jobs) (id : ℕ) (p : Proc) (s : CallState) → call_of (new_holding jobs id) p ≡ Some s → ⊥
no_call jobs id p s e = let none = sym (finite.get-empty proc_cmp p) ∙ e in cc

no_held : (jobs : Jobs) (id : ℕ) (p : Proc) (node level : ℕ) → held_at (new_holding jobs id).held p node ≡ Some level → ⊥
no_held jobs id p node level e =
    let none = sym (finite.get-empty nat_cmp node) ∙ ap (λ (o : Option NodeLevels). finite.get (unwrap_or o finite.empty) node) (sym (finite.get-empty proc_cmp p)) ∙ e in cc

pub new_is_server : NewIsServer
unfolding sealer_in
new_is_server jobs id = record {
  settled = record {
    fences = λ p f e. absurd (no_call jobs id p (CallState.in_fence f) e);
    gets = λ p get e. absurd (no_call jobs id p (CallState.parked get) e);
  };
  holds = record {
    sealers = λ p. fresh_by jobs id p (is_host p) refl;
    callers = λ p s e. absurd (no_call jobs id p s e);
    targets = λ p get e. absurd (no_call jobs id p (CallState.parked get) e);
    anew = λ p get number e. absurd (no_call jobs id p (CallState.refreshing get number) e);
    homes = λ p node level e. absurd (no_held jobs id p node level e);
    askers = λ p node level e. absurd (no_held jobs id p node level e);
    levels = λ p node level e. absurd (no_held jobs id p node level e);
    names = λ f e. absurd (false≢true (sym (no_names f) ∙ e));
    two = λ f e. absurd (false≢true (sym (no_names f) ∙ e));
    there = λ p f e young. absurd (no_call jobs id p (CallState.in_fence f) e);
    parts = λ p f e. absurd (no_call jobs id p (CallState.in_fence f) e);
  };
  counted = new_counts jobs id;
  released = record {
    released = λ p f gone e young. absurd (no_call jobs id p (CallState.released f gone) e);
    waits = λ p f e. absurd (no_call jobs id p (CallState.in_fence f) e);
  };
  answered = λ p get outcome e parks. no_call jobs id p (CallState.answered get outcome) e;
}
