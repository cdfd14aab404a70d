-- What is chosen goes to other nodes, and may be sent.
use Rattle.std.proofs.Common.{◌≡◌, ℕ, ◌<◌, ◌≤◌, Bool, true, false, ◌&&◌, not, List, [], ◌∷◌, ◌++◌, map, length, Option, Some, None, inl, inr, refl, sym, ap, subst, ◌∙◌, arith}
use Rattle.std.specs.Prelude.{if◌then◌else◌, nat_lt, nat_le, ◌==◌, filter, is_none}
use Rattle.std.specs.FinMap as finite
use Rattle.std.specs.FinSet as set
use Rattle.std.specs.List.{flat_map, list_any}
use Rattle.std.specs.Ordering.{eq_by_cmp, is_eq}
use Rattle.std.proofs.lemmas.Cmp.{tied_itself}
use Rattle.std.specs.Cmp.{nat_cmp_total}
use Rattle.std.proofs.lemmas.Bool.{and_parts, and_from, not-true, not_from_false, ltb-true, lt-ltb, leb-true, eqb-true, eqb-false, ne_eqb}
use Rattle.pmg_value.specs.Lists.{In}
use Rattle.pmg_value.specs.Signatures.{FenceName}
use Rattle.pmg_value.specs.declared.process.Proc.{Proc}
use Rattle.pmg_value.proofs.ListLemmas.{list_any_in, in_parts, in_map_from}
use Rattle.pmg_value.proofs.ProcessOrder.{procs_total}
use Rattle.pmg_value.proofs.SetLemmas.{in_from_list}
use Rattle.pmg_value.proofs.SetOrder.{any_in_order}
use Rattle.pmg_scope.specs.declared.scope.Reach.TheVariants as reach
use Rattle.pmg_commit.specs.Data.{level_at}
use Rattle.pmg_commit.specs.Sealed.{piece_at}
use Rattle.pmg_pset.specs.Sets.{host}
use Rattle.pmg_frame.specs.FenceOrder.{name_cmp, name_total}
use Rattle.pmg_frame.specs.Fences.{Header, header, fence_ask, commit_ask, participants_of}
use Rattle.pmg_frame.specs.Refreshing.{RefreshAsk}
use Rattle.pmg_frame.specs.declared.frame.Frame.TheVariants as frames
use Rattle.pmg_frame.specs.declared.local.Local.{Local}
use Rattle.pmg_frame.proofs.FenceOrderLemmas.{names_exact}
use Rattle.pmg_jobinfo.specs.Expansion.{ranks}
use Rattle.pmg_jobinfo.specs.Jobs.{Jobs, AreJobs, home_of}
use Rattle.pmg_fence.specs.Changes.{news, newly, present}
use Rattle.pmg_fence.specs.Entering.{locals_of}
use Rattle.pmg_fence.specs.Tables.{Fences, header_at, told_of}
use Rattle.pmg_fence.proofs.HeaderLemmas.{filter_in}
use Rattle.pmg_fence.proofs.IndexLemmas.{each_row}
use Rattle.pmg_dmodex.specs.Levels.{levels_of, below}
use Rattle.pmg_node_model.specs.Acts.{Act, is_peer}
use Rattle.pmg_node_model.specs.Choosing.{is_behind, peers, peers_in, telling, announcing, piece_due, settling, answering, replying, asking_home, asking_anew, asking_for, is_parked_on, asking_again, waited, waited_in, asking_headers, asking_ranges, asking_fence, asking_sets, nudging, spreading}
use Rattle.pmg_node_model.specs.declared.due.ToSend.{ToSend}
use Rattle.pmg_node_model.specs.declared.due.ToSend.TheVariants as sendings
use Rattle.pmg_node_model.specs.Holdings.{CallState, NodeState, sealer_of, call_of}
use Rattle.pmg_node_model.specs.Kept.{Holds}
use Rattle.pmg_node_model.specs.Sending.{sent, own_header_of, piece_from, reply_anew, ask_anew, Allowed}
use Rattle.pmg_node_model.specs.declared.sent.Sent.{Sent}
use Rattle.pmg_node_model.proofs.KeptBasics.{home_is_node}
use Rattle.pmg_value.proofs.MadeLists.{in_flat_from, in_range}
use Rattle.pmg_node_model.proofs.SendingLists.{IsFor}

-- what is due goes to another node, and may be sent
abbrev pub IsFine : Jobs → ℕ → Act → NodeState → ToSend → Type 0
IsFine jobs id a h (sendings.Whole s) = (is_peer jobs id s.to ≡ true) × Allowed jobs id a h s.frame
IsFine jobs id a h (sendings.Rest node p) = (is_peer jobs id node ≡ true) × (home_of jobs p ≡ id)

piece_allowed : (jobs : Jobs) (id : ℕ) (a : Act) (h : NodeState) (p : Proc) (from : ℕ) → (sealer_of h p).proc ≡ p → home_of jobs p ≡ id → from < (sealer_of h p).level → Allowed jobs id a h (piece_from h p from)
unfolding Allowed
piece_allowed jobs id a h p from its home less = (
  ap (home_of jobs) its ∙ home,
  subst (λ q. from < (sealer_of h q).level) (sym its) less,
  ap (λ q. piece_at (sealer_of h q) from reach.Far) (sym its),
)

-- and so does the frame that is sent for it
pub fine_sent : (jobs : Jobs) (id : ℕ) (a : Act) (h : NodeState) → Holds jobs id h → (d : ToSend) (s : Sent) → IsFine jobs id a h d → IsFor h d s → (is_peer jobs id s.to ≡ true) × Allowed jobs id a h s.frame
fine_sent jobs id a h holds (sendings.Whole t) s fine is = (ap (λ (x : Sent). is_peer jobs id x.to) is ∙ fine.0, subst (λ (x : Sent). Allowed jobs id a h x.frame) (sym is) fine.1)
fine_sent jobs id a h holds (sendings.Rest node p) s fine is = (
  ap (λ (x : Sent). is_peer jobs id x.to) is.2 ∙ fine.0,
  subst (λ (x : Sent). Allowed jobs id a h x.frame) (sym is.2) (piece_allowed jobs id a h p is.0 (holds.sealers p) fine.1 is.1),
)

-- ---- nodes

pub peer_is : (jobs : Jobs) (id node : ℕ) → In node (peers jobs id) → is_peer jobs id node ≡ true
peer_is jobs id node i =
    let found = filter_in (λ m. not (m == id)) (ranks (length jobs.nodes)) node i in
    and_from _ _ (lt-ltb node (length jobs.nodes) (omega (arith, (in_range 0 (length jobs.nodes) node found.0).1))) found.1

pub peer_in : (jobs : Jobs) (id : ℕ) (f : FenceName) (node : ℕ) → In node (peers_in jobs id f) → is_peer jobs id node ≡ true
peer_in jobs id f node i = peer_is jobs id node (filter_in (λ m. list_any (λ q. home_of jobs q == m) (participants_of f)) (peers jobs id) node i).0

pub home_peer : (jobs : Jobs) → AreJobs jobs → (id : ℕ) (q : Proc) → (home_of jobs q == id) ≡ false → is_peer jobs id (home_of jobs q) ≡ true
home_peer jobs are id q other = and_from _ _ (home_is_node jobs are q) (not_from_false (home_of jobs q == id) other)

-- ---- headers

newly_is : (id : ℕ) (f : FenceName) (before now : Option (List Local)) (hd : Header) → In hd (newly id f before now) → (locals : List Local) × (now ≡ Some locals) × (hd ≡ header id f locals) × (before ≡ None)
newly_is id f (Some ls) now hd i = absurd i
newly_is id f None None hd i = absurd i
newly_is id f None (Some locals) hd (inl e) = (locals, refl, e, refl)
newly_is id f None (Some locals) hd (inr i) = absurd i

module _ (jobs : Jobs) (id : ℕ) (a : Act) (h : NodeState) where
  -- an own header of the node
  abbrev pub IsOwnHeader : Header → Type 0
  IsOwnHeader hd = (hd.node ≡ id) × (own_header_of jobs id h hd.name ≡ Some hd.locals)

  pub news_own : (old : Fences) (f : FenceName) (hd : Header) → In hd (news jobs id old h.table f) → IsOwnHeader hd
  unfolding news
  news_own old f hd i =
      let found = newly_is id f (present jobs id old f) (present jobs id h.table f) hd i in
      (ap (λ (x : Header). x.node) found.2, ap (λ (x : Header). present jobs id h.table x.name) found.2 ∙ found.1 ∙ ap (λ (x : Header). Some x.locals) (sym found.2))

  pub telling_fine : (hd : Header) (node : ℕ) → IsOwnHeader hd → is_peer jobs id node ≡ true → (d : ToSend) → In d (telling jobs id hd node) → IsFine jobs id a h d
  unfolding Allowed locals_of
  telling_fine hd node own peer d (inl e) = subst (IsFine jobs id a h) (sym e) (peer, own)
  telling_fine hd node own peer d (inr i) = by_collect hd.name.signature.collect i
    where
      rest_fine : (q : Proc) → In q (locals_of jobs hd.name id) → IsFine jobs id a h (sendings.Rest node q)
      rest_fine q j = (peer, eqb-true (home_of jobs q) id (filter_in (λ p. home_of jobs p == id) (participants_of hd.name) q j).1)

      by_collect : (b : Bool) → In d (if b then map (sendings.Rest node) (locals_of jobs hd.name id) else []) → IsFine jobs id a h d
      by_collect true j = let found = in_map_from (sendings.Rest node) (locals_of jobs hd.name id) d j in subst (IsFine jobs id a h) (sym found.2) (rest_fine found.0 found.1)
      by_collect false j = absurd j

  pub announcing_fine : (hd : Header) → IsOwnHeader hd → (d : ToSend) → In d (announcing jobs id hd) → IsFine jobs id a h d
  announcing_fine hd own d i =
      let found = in_flat_from (telling jobs id hd) (peers_in jobs id hd.name) d i in
      telling_fine hd found.0 own (peer_in jobs id hd.name found.0 found.1) d found.2

  -- ---- pieces

  pub piece_fine : (p : Proc) (node from : ℕ) → Holds jobs id h → home_of jobs p ≡ id → is_peer jobs id node ≡ true → from < (sealer_of h p).level → IsFine jobs id a h (piece_due h p node from)
  piece_fine p node from holds home peer less = (peer, piece_allowed jobs id a h p from (holds.sealers p) home less)

  pub settling_fine : (old : NodeState) (p : Proc) → Holds jobs id old → Holds jobs id h → home_of jobs p ≡ id → (d : ToSend) → In d (settling old h p) → IsFine jobs id a h d
  settling_fine old p before holds home d i =
      let found = in_map_from (λ (e : ℕ × ℕ). piece_due h p e.0 e.1) (below (sealer_of h p).level (levels_of old.held p)) d i in
      let row = filter_in (λ (e : ℕ × ℕ). nat_lt e.1 (sealer_of h p).level) (finite.entries (levels_of old.held p)) found.0 found.1 in
      subst (IsFine jobs id a h) (sym found.2)
      (piece_fine p found.0.0 found.0.1 holds home (before.askers p found.0.0 found.0.1 (each_row nat_cmp_total (levels_of old.held p) found.0 row.0)) (ltb-true found.0.1 (sealer_of h p).level row.1))

  pub spreading_fine : (old : NodeState) → Holds jobs id old → Holds jobs id h → home_of jobs host ≡ id → 0 < (sealer_of h host).level → (d : ToSend) → In d (spreading jobs id old h) → IsFine jobs id a h d
  spreading_fine old before holds home some d i =
      elim (in_parts (settling old h host) (map (λ m. piece_due h host m 0) (peers jobs id)) d i) [
        | inl j ↦ settling_fine old host before holds home d j
        | inr j ↦
            let found = in_map_from (λ m. piece_due h host m 0) (peers jobs id) d j in
            subst (IsFine jobs id a h) (sym found.2) (piece_fine host found.0 0 holds home (peer_is jobs id found.0 found.1) some)
      ]

  pub answering_fine : (node : ℕ) (p : Proc) (level : ℕ) → Holds jobs id h → home_of jobs p ≡ id → is_peer jobs id node ≡ true → (d : ToSend) → In d (answering h node p level) → IsFine jobs id a h d
  answering_fine node p level holds home peer d i = by_level (nat_lt level (sealer_of h p).level) refl i
    where
      by_level : (b : Bool) → nat_lt level (sealer_of h p).level ≡ b → In d (if b then piece_due h p node level ∷ [] else []) → IsFine jobs id a h d
      by_level true less (inl e) = subst (IsFine jobs id a h) (sym e) (piece_fine p node level holds home peer (ltb-true level (sealer_of h p).level less))
      by_level true less (inr j) = absurd j
      by_level false less j = absurd j

  -- the reply to a request
  pub replying_fine : (ask : RefreshAsk) → a ≡ Act.deliver (frames.RefreshAsk ask) → home_of jobs ask.ask.proc ≡ id → is_peer jobs id ask.ask.node ≡ true
      → (d : ToSend) → In d (replying h ask) → IsFine jobs id a h d
  unfolding Allowed
  replying_fine ask is home peer d i = by_level (nat_le ask.ask.level (sealer_of h ask.ask.proc).level) refl i
    where
      by_level : (b : Bool) → nat_le ask.ask.level (sealer_of h ask.ask.proc).level ≡ b
          → In d (if b then sendings.Whole (sent ask.ask.node (frames.RefreshReply (reply_anew h ask))) ∷ [] else []) → IsFine jobs id a h d
      by_level true within (inl e) =
          subst (IsFine jobs id a h) (sym e) (peer, (ask, is, home, leb-true ask.ask.level (sealer_of h ask.ask.proc).level within, refl))
      by_level true within (inr j) = absurd j
      by_level false within j = absurd j

  -- ---- requests

  module _ (are : AreJobs jobs) where
    pub asking_fine : (q : Proc) (d : ToSend) → In d (asking_home jobs id h q) → IsFine jobs id a h d
    unfolding Allowed
    asking_fine q d i = by_home (home_of jobs q == id) refl i
      where
        by_home : (b : Bool) → (home_of jobs q == id) ≡ b
            → In d (if b then [] else sendings.Whole (sent (home_of jobs q) (frames.DirectAsk (commit_ask id q (level_at h.far q)))) ∷ []) → IsFine jobs id a h d
        by_home true own j = absurd j
        by_home false other (inl e) = subst (IsFine jobs id a h) (sym e) (home_peer jobs are id q other, refl)
        by_home false other (inr j) = absurd j

    asking_anew_fine : (q : Proc) (number : ℕ) → number ≤ h.requests → (d : ToSend) → In d (asking_anew jobs id h q number) → IsFine jobs id a h d
    unfolding Allowed
    asking_anew_fine q number given d i = by_home (home_of jobs q == id) refl i
      where
        by_home : (b : Bool) → (home_of jobs q == id) ≡ b
            → In d (if b then [] else sendings.Whole (sent (home_of jobs q) (frames.RefreshAsk (ask_anew id h q number))) ∷ []) → IsFine jobs id a h d
        by_home true own j = absurd j
        by_home false other (inl e) = subst (IsFine jobs id a h) (sym e) (home_peer jobs are id q other, (refl, given, omega arith))
        by_home false other (inr j) = absurd j

    pub asking_for_fine : Holds jobs id h → (p : Proc) (s : Option CallState) → call_of h p ≡ s → (d : ToSend) → In d (asking_for jobs id h s) → IsFine jobs id a h d
    asking_for_fine holds p None is d i = absurd i
    asking_for_fine holds p (Some (CallState.in_fence f)) is d i = absurd i
    asking_for_fine holds p (Some (CallState.released f gone)) is d i = absurd i
    asking_for_fine holds p (Some (CallState.parked get)) is d i = asking_fine get.target d i
    asking_for_fine holds p (Some (CallState.answered get outcome)) is d i = absurd i
    asking_for_fine holds p (Some (CallState.refreshing get number)) is d i = asking_anew_fine get.target number (holds.anew p get number is).1 d i
    asking_for_fine holds p (Some (CallState.refreshed get outcome)) is d i = absurd i

    pub asking_again_fine : (q : Proc) (d : ToSend) → In d (asking_again jobs id h q) → IsFine jobs id a h d
    asking_again_fine q d i =
        let found = in_flat_from (λ (e : Proc × CallState). if is_parked_on q e.1 then asking_home jobs id h q else []) (finite.entries h.calls) d i in
        by_test (is_parked_on q found.0.1) found.2
      where
        by_test : (b : Bool) → In d (if b then asking_home jobs id h q else []) → IsFine jobs id a h d
        by_test true j = asking_fine q d j
        by_test false j = absurd j

  -- ---- a nudge

  -- in a fence that is waited for an own process waits
  pub waited_by : (f : FenceName) → In f (waited_in h) → (p : Proc) × (call_of h p ≡ Some (CallState.in_fence f))
  waited_by f i =
      let rows : List FenceName = flat_map (λ e. waited e.1) (finite.entries h.calls) in
      let listed = in_from_list name_total names_exact rows f
      (sym (any_in_order name_total (set.from_list {R = name_cmp} rows) f) ∙ list_any_in (eq_by_cmp name_cmp f) (waited_in h) f i (ap is_eq (tied_itself name_total f))) in
      let found = in_flat_from (λ (e : Proc × CallState). waited e.1) (finite.entries h.calls) f listed in
      (found.0.0, each_row procs_total h.calls found.0 found.1 ∙ ap Some (standing found.0.1 found.2))
    where
      standing : (s : CallState) → In f (waited s) → s ≡ CallState.in_fence f
      standing (CallState.in_fence g) (inl e) = ap CallState.in_fence (sym e)
      standing (CallState.in_fence g) (inr j) = absurd j
      standing (CallState.released g gone) j = absurd j
      standing (CallState.parked get) j = absurd j
      standing (CallState.answered get outcome) j = absurd j
      standing (CallState.refreshing get number) j = absurd j
      standing (CallState.refreshed get outcome) j = absurd j

  module _ (are : AreJobs jobs) (holds : Holds jobs id h) where
    asking_headers_fine : (f : FenceName) → In f (waited_in h) → (d : ToSend) → In d (asking_headers jobs id h f) → IsFine jobs id a h d
    unfolding Allowed
    asking_headers_fine f waits d i =
        let found = in_map_from (λ m. sendings.Whole (sent m (frames.FenceAsk (fence_ask id f)))) (filter (λ m. is_none (header_at jobs id h.table f m)) (peers_in jobs id f)) d i in
        let by = waited_by f waits in
        subst (IsFine jobs id a h) (sym found.2) (
          peer_in jobs id f found.0 (filter_in (λ m. is_none (header_at jobs id h.table f m)) (peers_in jobs id f) found.0 found.1).0,
          (refl, by.0, ((holds.callers by.0 (CallState.in_fence f) by.1).1, by.1)),
        )

    asking_ranges_fine : (f : FenceName) (d : ToSend) → In d (asking_ranges jobs id h f) → IsFine jobs id a h d
    unfolding Allowed
    asking_ranges_fine f d i =
        let missing : Proc → Bool = λ q. not (home_of jobs q == id) && is_behind (level_at h.far q) (told_of jobs id h.table f q) in
        let found = in_map_from (λ q. sendings.Whole (sent (home_of jobs q) (frames.RangeAsk (commit_ask id q (level_at h.far q))))) (filter missing (participants_of f)) d i in
        let other = (and_parts _ _ (filter_in missing (participants_of f) found.0 found.1).1).0 in
        subst (IsFine jobs id a h) (sym found.2) (home_peer jobs are id found.0 (not-true (home_of jobs found.0 == id) other), refl)

    asking_fence_fine : (f : FenceName) → In f (waited_in h) → (d : ToSend) → In d (asking_fence jobs id h f) → IsFine jobs id a h d
    asking_fence_fine f waits d i =
        elim (in_parts (asking_headers jobs id h f) (if f.signature.collect then asking_ranges jobs id h f else []) d i) [
          | inl j ↦ asking_headers_fine f waits d j
          | inr j ↦ by_collect f.signature.collect j
        ]
      where
        by_collect : (b : Bool) → In d (if b then asking_ranges jobs id h f else []) → IsFine jobs id a h d
        by_collect true j = asking_ranges_fine f d j
        by_collect false j = absurd j

    asking_sets_fine : (d : ToSend) → In d (asking_sets id h) → IsFine jobs id a h d
    unfolding Allowed
    asking_sets_fine d i = by_node (id == 0) refl i
      where
        by_node : (b : Bool) → (id == 0) ≡ b → In d (if b then [] else sendings.Whole (sent 0 (frames.RangeAsk (commit_ask id host (level_at h.far host)))) ∷ []) → IsFine jobs id a h d
        by_node true own j = absurd j
        by_node false other (inl e) =
            subst (IsFine jobs id a h) (sym e)
            (and_from _ _ (lt-ltb 0 (length jobs.nodes) are.some) (not_from_false (0 == id) (ne_eqb 0 id (λ same. eqb-false id 0 other (sym same)))), refl)
        by_node false other (inr j) = absurd j

    pub nudging_fine : (d : ToSend) → In d (nudging jobs id h) → IsFine jobs id a h d
    nudging_fine d i =
        elim (in_parts (flat_map (asking_fence jobs id h) (waited_in h)) (flat_map (λ e. asking_for jobs id h (Some e.1)) (finite.entries h.calls) ++ asking_sets id h) d i) [
          | inl j ↦ let found = in_flat_from (asking_fence jobs id h) (waited_in h) d j in asking_fence_fine found.0 found.1 d found.2
          | inr j ↦ elim (in_parts (flat_map (λ e. asking_for jobs id h (Some e.1)) (finite.entries h.calls)) (asking_sets id h) d j) [
            | inl k ↦ let found = in_flat_from (λ (e : Proc × CallState). asking_for jobs id h (Some e.1)) (finite.entries h.calls) d k in asking_for_fine are holds found.0.0 (Some found.0.1) (each_row procs_total h.calls found.0 found.1) d found.2
            | inr k ↦ asking_sets_fine d k
          ]
        ]
