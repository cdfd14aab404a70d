-- What a process sealed is in the far store of its node, and so a client sees its own commits.
use Rattle.std.specs.Prelude.{if◌then◌else◌, IfOk}
use Rattle.std.proofs.Common.{◌≡◌, ◌≤◌, inl, inr, ℕ, Bool, true, false, cond, List, [], ◌∷◌, ◌++◌, map, Option, Some, None, Result, Ok, Err, refl, sym, ap, subst, ◌∙◌, arith}
use Rattle.std.specs.BTreeMap.{is_at}
use Rattle.std.specs.Cmp.{Equal-is}
use Rattle.std.specs.FinMap as finite
use Rattle.std.specs.List.{flat_map}
use Rattle.std.specs.Option.{unwrap_or}
use Rattle.std.proofs.lemmas.Grind.{flat_map-append}
use Rattle.pmg_value.specs.Process.{is_host, proc_cmp}
use Rattle.pmg_value.specs.declared.process.Proc.{Proc}
use Rattle.pmg_value.specs.declared.refusal.Refusal.{Refusal}
use Rattle.pmg_value.proofs.ProcessOrder.{exact_procs, procs_total}
use Rattle.pmg_value.proofs.RowLemmas.{at_key, get-map_of}
use Rattle.pmg_scope.specs.Cached.{Unsealed}
use Rattle.pmg_scope.specs.declared.scope.Reach.TheVariants as reach
use Rattle.pmg_commit.specs.Data.{Data, absorbed, level_at, of_contribution}
use Rattle.pmg_commit.specs.Knowledge.{Contribution}
use Rattle.pmg_commit.specs.Sealed.{Sealed, ended_with, fresh, piece_at, sealed_with}
use Rattle.pmg_fence.specs.Entering.{same_proc}
use Rattle.pmg_frame.specs.Refreshing.{told_by}
use Rattle.pmg_frame.specs.declared.frame.Frame.{Frame}
use Rattle.pmg_frame.specs.declared.frame.Frame.TheVariants as frames
use Rattle.pmg_jobinfo.specs.Jobs.{Jobs, home_of}
use Rattle.pmg_jobinfo.specs.Procs.{procs_at}
use Rattle.pmg_pset.specs.Sets.{host}
use Rattle.pmg_store.specs.Pieces.{data_of}
use Rattle.pmg_store.proofs.Converging.{same_in_any_grouping}
use Rattle.pmg_store.proofs.HonestDataLaws.{levels_rise}
use Rattle.pmg_node_model.specs.Acts.{Act, Done, Reply, Request, acts, cause, does, done_as, free_cause, holds_unless, is_taken, over, receives, seal_cause, serves}
use Rattle.pmg_node_model.specs.Holdings.{NodeState, answer_in, call_of, joined, new_holding, sealer_in, sealer_of, sealing}
use Rattle.pmg_node_model.specs.Kept.{Holds, IsServer}
use Rattle.pmg_node_model.proofs.CallEnds.{ends_left, asks_left}
use Rattle.pmg_node_model.proofs.CauseFacts.{by_causes, free_is, neither_cause}
use Rattle.pmg_node_model.proofs.KeptActs.{new_is_server, server_stays}
use Rattle.pmg_node_model.proofs.Sealing.{level_raised, sealer_here, sealer_there}
use Rattle.pmg_node.specs.Opening.{new_server}
use Rattle.pmg_node.specs.Servers.{Server, after, reply_in}
use Rattle.pmg_publish.specs.Publications.{far_of}
use Rattle.pmg_publish.specs.declared.counting.Publication.{Publication}
use Rattle.pmg_journal.specs.Journals.{IsEvent}
use Rattle.pmg_journal.specs.Replays.{Happening, IsReplay, after_all, happening}
use Rattle.pmg_desk.specs.Publishing.{published_over}
use Rattle.pmg_desk.specs.Clients.{Client, Tells}
use Rattle.pmg_desk.specs.Telling.{IsKnown}
use Rattle.pmg_desk.proofs.TellLemmas.{knows_so, until}
use Rattle.pmg_desk.proofs.BoardLemmas.{publishes_what_is_held}

no_more : (a b c : ℕ) → a ≤ b → b ≤ c → a ≤ c
no_more a b c one two = omega (arith, one, two)

host_sets : (h : NodeState) → sealer_of h host ≡ h.sets
unfolding sealer_in
host_sets h = refl

module _ (jobs : Jobs) (id : ℕ) where
  -- what each process at home at the node sealed is in its far store
  abbrev IsIn : NodeState → Type 0
  IsIn h = (q : Proc) → home_of jobs q ≡ id → (sealer_of h q).level ≤ level_at h.far q

  module _ (h : NodeState) (held : IsIn h) where
    sealing_in : (p : Proc) (z : Sealed) → z.proc ≡ p → IsIn (sealing h p z)
    sealing_in p z same q home = by_same (same_proc q p) refl
      where
        piece : Contribution
        piece = piece_at z (sealer_of h p).level reach.Far

        by_same : (b : Bool) → same_proc q p ≡ b → (sealer_of (sealing h p z) q).level ≤ level_at (absorbed h.far piece) q
        by_same true is =
            let its : q ≡ p = exact_procs q p ((Equal-is _).0 is) in
            let known : (sealer_of h p).level ≤ level_at h.far q = subst (λ (x : Proc). (sealer_of h x).level ≤ level_at h.far q) its (held q home) in
            let raised : z.level ≤ level_at (absorbed h.far piece) q = level_raised h.far piece q (ap (same_proc q) same ∙ is) known in
            subst (λ (x : Sealed). x.level ≤ level_at (absorbed h.far piece) q) (sym (ap (sealer_of (sealing h p z)) its ∙ sealer_here h p z)) raised
        by_same false apart =
            subst (λ (x : Sealed). x.level ≤ level_at (absorbed h.far piece) q) (sym (sealer_there h p z q apart)) (no_more _ _ _ (held q home) (levels_rise h.far (of_contribution piece) q))

    unless_in : (b : Bool) (node : ℕ) (p : Proc) (level : ℕ) → IsIn (holds_unless b h node p level)
    unless_in true node p level = held
    unless_in false node p level = held

    -- what a reply tells is joined, where it tells something
    joined_in : (o : Option Contribution) (q : Proc) → home_of jobs q ≡ id → (sealer_of h q).level ≤ level_at (joined h.far o) q
    joined_in None q home = held q home
    joined_in (Some c) q home = no_more _ _ _ (held q home) (levels_rise h.far (of_contribution c) q)

    receives_in : (frame : Frame) → IsIn (receives jobs id h frame)
    unfolding receives
    receives_in (frames.Piece c) = λ q home. no_more _ _ _ (held q home) (levels_rise h.far (of_contribution c) q)
    receives_in (frames.Header hd) = held
    receives_in (frames.FenceAsk a) = held
    receives_in (frames.RangeAsk a) = held
    receives_in (frames.DirectAsk a) = unless_in _ a.node a.proc a.level
    receives_in (frames.RefreshAsk a) = held
    receives_in (frames.RefreshReply r) = joined_in (told_by r)

    delivers_in : (frame : Frame) (b : Bool) → IsIn (cond b (done_as Reply.taken (receives jobs id h frame)) (done_as Reply.ignored h)).left
    delivers_in frame true = receives_in frame
    delivers_in frame false = held

    module _ (holds : Holds jobs id h) where
      sets_in : (z : Sealed) → z.proc ≡ h.sets.proc → IsIn (sealing h host z)
      sets_in z same = sealing_in host z (same ∙ ap (λ (x : Sealed). x.proc) (sym (host_sets h)) ∙ holds.sealers host)

      serves_in : (r : Request) → IsIn (serves jobs id h r).left
      unfolding serves
      serves_in (Request.leave p) = (ends_left h p IsIn held held (call_of h p)).0
      serves_in (Request.ask p get mode) = asks_left h p get mode IsIn held held (answer_in jobs id h get mode)
      serves_in (Request.take p) = (ends_left h p IsIn held held (call_of h p)).1
      serves_in (Request.terminate p) = sealing_in p (ended_with (sealer_of h p)) (holds.sealers p)
      serves_in (Request.define name list) = sets_in _ refl
      serves_in (Request.delete name) = sets_in _ refl
      serves_in _ = held

      does_in : (a : Act) → IsIn (does jobs id h a).left
      unfolding does
      does_in (Act.request r) = serves_in r
      does_in (Act.commit p b) = sealing_in p (sealed_with (sealer_of h p) b) (holds.sealers p)
      does_in (Act.deliver frame) = delivers_in frame (is_taken jobs id h.table frame)

      acts_in : (a : Act) → IsIn (acts jobs id h a).left
      acts_in a = elim (by_causes (cause jobs id h a) (does jobs id h a)) [
        | inl refused ↦ subst (λ (x : Result Done Refusal). IsIn (over jobs id h x).left) (sym refused.2) held
        | inr free ↦ subst (λ (x : Result Done Refusal). IsIn (over jobs id h x).left) (sym free.0) (does_in a)
      ]

  -- who is told a commit's number is at home, and sealed up to it
  committed_by : (h : NodeState) (p : Proc) (b : Unsealed) (n : ℕ) → (acts jobs id h (Act.commit p b)).reply ≡ Reply.committed n
      → (home_of jobs p ≡ id) × ((sealer_of (acts jobs id h (Act.commit p b)).left p).level ≡ n)
  unfolding cause does
  committed_by h p b n is = elim (by_causes (cause jobs id h (Act.commit p b)) (does jobs id h (Act.commit p b))) [
    | inl refused ↦ absurd (not_refused refused.0 (ap (λ (x : Result Done Refusal). (over jobs id h x).reply) (sym refused.2) ∙ is))
    | inr free ↦ (
      (free_is jobs id h p (neither_cause (free_cause jobs id h p) (seal_cause (sealer_of h p) b) free.1).0).0.home,
      ap (λ (x : Result Done Refusal). (sealer_of (over jobs id h x).left p).level) free.0 ∙ ap (λ (z : Sealed). z.level) (sealer_here h p (sealed_with (sealer_of h p) b))
          ∙ number_is (ap (λ (x : Result Done Refusal). (over jobs id h x).reply) (sym free.0) ∙ is),
    )
  ]
    where
      not_refused : (e : Refusal) → Reply.refused e ≡ Reply.committed n → ⊥
      not_refused e same = cc

      number_in : Reply → ℕ
      number_in (Reply.committed m) = m
      number_in r = 0

      number_is : Reply.committed (sealed_with (sealer_of h p) b).level ≡ Reply.committed n → (sealed_with (sealer_of h p) b).level ≡ n
      number_is same = ap number_in same

abbrev IsInAt : Server → Type 0
IsInAt s = IsServer s.jobs s.id s.holding × IsIn s.jobs s.id s.holding

in_on : (s : Server) (a : Act) → IsInAt s → IsInAt (after s a)
in_on s a is = (server_stays s.jobs s.id s.holding a is.0, acts_in s.jobs s.id s.holding is.1 is.0.holds a)

in_over : (s : Server) (es : List Happening) → IsInAt s → IsInAt (after_all s es)
in_over s [] is = is
in_over s (e ∷ es) is = in_over (after s e.act) es (in_on s e.act is)

no_level : (q : Proc) (ps : List Proc) → (unwrap_or (at_key proc_cmp q (map (λ p. (p, fresh p)) ps)) (fresh q)).level ≡ 0
no_level q [] = refl
no_level q (p ∷ ps) = by_test (is_at (proc_cmp q) p) (no_level q ps)
  where
    by_test : (b : Bool) → (unwrap_or (at_key proc_cmp q (map (λ p. (p, fresh p)) ps)) (fresh q)).level ≡ 0
        → (unwrap_or (cond b (Some (fresh p)) (at_key proc_cmp q (map (λ p. (p, fresh p)) ps))) (fresh q)).level ≡ 0
    by_test true rest = refl
    by_test false rest = rest

-- at first nothing is sealed
none_sealed : (jobs : Jobs) (id : ℕ) (q : Proc) → (sealer_of (new_holding jobs id) q).level ≡ 0
unfolding sealer_in
none_sealed jobs id q = by_host (is_host q)
  where
    by_host : (b : Bool) → (if b then fresh host else unwrap_or (finite.get (new_holding jobs id).sealers q) (fresh q)).level ≡ 0
    by_host true = refl
    by_host false = ap (λ o. (unwrap_or o (fresh q)).level) (get-map_of procs_total (map (λ p. (p, fresh p)) (procs_at jobs id)) q) ∙ no_level q (procs_at jobs id)

zero_below : (n : ℕ) → 0 ≤ n
zero_below n = omega arith

in_new : (jobs : Jobs) (id : ℕ) → IsInAt (new_server jobs id)
in_new jobs id = (new_is_server jobs id, λ q home. subst (λ (n : ℕ). n ≤ level_at (new_holding jobs id).far q) (sym (none_sealed jobs id q)) (zero_below _))

pub far_longer : (xs ys : List Publication) (p : Proc) → level_at (far_of xs) p ≤ level_at (far_of (xs ++ ys)) p
unfolding far_of
far_longer xs ys p =
    subst (λ (d : Data). level_at (far_of xs) p ≤ level_at d p) (same_in_any_grouping (flat_map (λ (x : Publication). x.far) xs) (flat_map (λ (x : Publication). x.far) ys)
    ∙ ap data_of (sym (flat_map-append (λ (x : Publication). x.far) xs ys))) (levels_rise (far_of xs) (far_of ys) p)

committed_last : (s : Server) (es : List Happening) (p : Proc) (b : Unsealed) (n : ℕ) → IsInAt s → IsReplay s (es ++ happening (Act.commit p b) (Reply.committed n) ∷ [])
    → n ≤ level_at (after_all s (es ++ happening (Act.commit p b) (Reply.committed n) ∷ [])).holding.far p
committed_last s [] p b n is replay =
    let told = committed_by s.jobs s.id s.holding p b n replay.0 in
    subst (λ (m : ℕ). m ≤ level_at (after s (Act.commit p b)).holding.far p) told.1 ((in_on s (Act.commit p b) is).1 p told.0)
committed_last s (e ∷ es) p b n is replay = committed_last (after s e.act) es p b n (in_on s e.act is) replay.1

-- a client that was told its commit's number sees it
committed_is_seen : (jobs : Jobs) (id : ℕ) (p : Proc) (b : Unsealed) (n : ℕ) (es : List Happening) (known : List Publication)
    → IsKnown jobs id (es ++ happening (Act.commit p b) (Reply.committed n) ∷ []) known → n ≤ level_at (far_of known) p
committed_is_seen jobs id p b n es known told =
    let all : List Happening = es ++ happening (Act.commit p b) (Reply.committed n) ∷ [] in
    let shown : n ≤ level_at (far_of (published_over (new_server jobs id) all)) p =
    subst (λ (d : Data). n ≤ level_at d p) (sym (publishes_what_is_held jobs id all).1) (committed_last (new_server jobs id) es p b n (in_new jobs id) told.replay) in
    subst (λ (ps : List Publication). n ≤ level_at (far_of ps) p) told.is_known.1
    (no_more _ _ _ shown (far_longer (published_over (new_server jobs id) all) told.is_known.0 p))

pub commit_is_seen : (c d : Client) (p : Proc) (b : Unsealed) (r : Result ℕ Refusal) → (IsEvent r → Tells c d (Act.commit p b) (reply_in Reply.committed r))
    → IfOk r (λ n. n ≤ level_at (far_of d.viewer.log) p)
commit_is_seen c d p b (Ok n) told =
    let it : Tells c d (Act.commit p b) (Reply.committed n) = told tt in
    committed_is_seen d.jobs d.node p b n (until c d (Act.commit p b) (Reply.committed n) it) d.viewer.log (knows_so c d (Act.commit p b) (Reply.committed n) it)
commit_is_seen c d p b (Err e) told = tt
