-- What each act makes due covers what it changed.
use Rattle.std.proofs.Common.{◌≡◌, ℕ, ◌<◌, ◌≤◌, Bool, true, false, cond, List, [], ◌∷◌, ◌++◌, Option, Some, None, inl, refl, sym, ap, subst, ◌∙◌, arith}
use Rattle.std.specs.Prelude.{if◌then◌else◌, nat_lt}
use Rattle.std.specs.FinMap as finite
use Rattle.std.specs.FinMap.{nat_cmp-IsAntisymmetric}
use Rattle.std.specs.List.{flat_map}
use Rattle.std.specs.Option.{option_map}
use Rattle.std.proofs.lemmas.Bool.{false≢true, lt-ltb, le-leb}
use Rattle.pmg_value.specs.Lists.{In}
use Rattle.pmg_value.specs.Signatures.{Signature, FenceName}
use Rattle.pmg_value.specs.declared.process.Proc.{Proc}
use Rattle.pmg_value.proofs.ListLemmas.{in_append_left, in_append_right, in_map}
use Rattle.pmg_scope.specs.Cached.{Unsealed}
use Rattle.pmg_commit.specs.Sealed.{Sealed}
use Rattle.pmg_frame.specs.Fences.{FenceAsk, CommitAsk, header}
use Rattle.pmg_frame.specs.Refreshing.{RefreshAsk, told_by}
use Rattle.pmg_frame.specs.declared.frame.Frame.{Frame}
use Rattle.pmg_frame.specs.declared.frame.Frame.TheVariants as frames
use Rattle.pmg_frame.specs.declared.local.Local.{Local}
use Rattle.pmg_jobinfo.specs.Jobs.{Jobs}
use Rattle.pmg_fence.specs.Changes.{news, present, learned, with_header, ended_by, fence_told, next_name}
use Rattle.pmg_fence.specs.Entering.{same_proc}
use Rattle.pmg_fence.specs.Tables.{Fences, series_at, fence_at, has_name, gone_by, names_of}
use Rattle.pmg_fence.proofs.TableLemmas.{same_name}
use Rattle.pmg_fence.proofs.HeaderLemmas.{by_proc, in_filter}
use Rattle.pmg_dmodex.specs.Levels.{levels_of, node_level as held_at, below}
use Rattle.pmg_get.specs.declared.view.Mode.{Mode}
use Rattle.pmg_node_model.specs.Acts.{Request, Act, leaves, takes, waits_as, parks, asks, enters_fence, holds_unless, receives}
use Rattle.pmg_node_model.specs.Choosing.{announcing, piece_due, settling, answering, replying, asking_for, telling_of, nudging, due_by_frame}
use Rattle.pmg_node_model.specs.declared.due.ToSend.{ToSend}
use Rattle.pmg_node_model.specs.declared.due.ToSend.TheVariants as sendings
use Rattle.pmg_node_model.specs.Holdings.{Get, CallState, NodeState, sealer_of, call_of, is_ready_at, with_far, with_table, uncalled, joined, sealing, released_by, settle, settled, answer_reply, with_reply}
use Rattle.pmg_node_model.specs.Kept.{Holds}
use Rattle.pmg_node_model.specs.Sending.{sent, own_header_of, reply_anew, asked_by}
use Rattle.pmg_node_model.proofs.KeptBasics.{put_cases, entry_listed}
use Rattle.pmg_node_model.proofs.KeptChanges.{settled_call, settled_some, sealer_other}
use Rattle.pmg_node_model.proofs.CallEnds.{ends_left}
use Rattle.pmg_node_model.proofs.CallFacts.{get-mapped, call-uncalled}
use Rattle.pmg_value.proofs.MadeLists.{in_flat}
use Rattle.pmg_node_model.proofs.SendingOwed.{Covers}
use Rattle.pmg_node_model.proofs.ChoosingNews.{by_name, present_named, present_with, present_entered, news_has, name_listed}

-- a frame that asks for a header
abbrev is_header_ask : Frame → Bool
is_header_ask (frames.FenceAsk ask) = true
is_header_ask _ = false

-- a frame that asks anew
abbrev is_anew_ask : Frame → Bool
is_anew_ask (frames.RefreshAsk ask) = true
is_anew_ask _ = false

no_header_ask : (frame : Frame) → is_header_ask frame ≡ false → (ask : FenceAsk) → frame ≡ frames.FenceAsk ask → ⊥
no_header_ask frame none ask is = false≢true (sym none ∙ ap is_header_ask is)

no_anew_ask : (frame : Frame) → is_anew_ask frame ≡ false → (ask : RefreshAsk) → frame ≡ frames.RefreshAsk ask → ⊥
no_anew_ask frame none ask is = false≢true (sym none ∙ ap is_anew_ask is)

none_asked : (a : Act) → asked_by a ≡ None → (ask : CommitAsk) → asked_by a ≡ Some ask → ⊥
none_asked a none ask asked = cc

no_locals : (ls : List Local) → None ≡ Some ls → ⊥
no_locals ls e = cc

-- an act that asks for nothing
pub record IsPlain (a : Act) : Type 0 where
  pub frames : (frame : Frame) → a ≡ Act.deliver frame → ⊥
  pub nudges : a ≡ Act.request Request.nudge → ⊥

-- whether it is a nudge
abbrev pub is_nudge : Request → Bool
is_nudge Request.nudge = true
is_nudge _ = false

module _ (jobs : Jobs) (id : ℕ) (old : NodeState) (holds : Holds jobs id old) where
  -- what stays as it was
  pub record Stays (new : NodeState) : Type 0 where
    pub headers : (f : FenceName) → own_header_of jobs id new f ≡ own_header_of jobs id old f
    pub sealers : (p : Proc) → sealer_of new p ≡ sealer_of old p
    pub free : (p : Proc) → call_of old p ≡ None → call_of new p ≡ None

  pub no_header : (new : NodeState) (f : FenceName) (locals : List Local) → own_header_of jobs id new f ≡ own_header_of jobs id old f → own_header_of jobs id new f ≡ Some locals → own_header_of jobs id old f ≡ None → ⊥
  no_header new f locals same now before = cc

  pub no_piece : (new : NodeState) (p : Proc) (node level : ℕ) → sealer_of new p ≡ sealer_of old p → held_at old.held p node ≡ Some level → level < (sealer_of new p).level → ⊥
  no_piece new p node level same held less =
      let less_old : level < (sealer_of old p).level = subst (λ (z : Sealed). level < z.level) same less in
      let known : (sealer_of old p).level ≤ level = holds.levels p node level held in
      omega (arith, less_old, known)

  -- no get comes to wait where who was in no call is in none
  pub no_get : {A : Type 0} (new : NodeState) (p : Proc) (s : CallState) → call_of new p ≡ None → call_of new p ≡ Some s → A
  no_get new p s none now = absurd cc

  -- an act that leaves all that as it was owes nothing
  pub idle_covers : (a : Act) (new : NodeState) (dues : List ToSend) → Stays new → IsPlain a → Covers jobs id old a new dues
  idle_covers a new dues stays plain = record {
    headers = λ f locals now before d i. absurd (no_header new f locals (stays.headers f) now before);
    pieces = λ p node level held less. absurd (no_piece new p node level (stays.sealers p) held less);
    gets = λ p s before now d i. no_get new p s (stays.free p before) now;
    asked_header = λ ask locals is taken there. absurd (plain.frames (frames.FenceAsk ask) is);
    asked_piece = λ ask frame is asked taken less. absurd (plain.frames frame is);
    asked_anew = λ ask is taken within. absurd (plain.frames (frames.RefreshAsk ask) is);
    nudged = λ is d i. absurd (plain.nudges is);
  }

  -- once one fence has changed its news cover the own headers, where no other one came to exist
  pub changed_headers : (new : NodeState) (f : FenceName)
      → ((x : FenceName) (ls : List Local) → same_name x f ≡ false → own_header_of jobs id new x ≡ Some ls → own_header_of jobs id old x ≡ Some ls)
      → (g : FenceName) (locals : List Local) → own_header_of jobs id new g ≡ Some locals → own_header_of jobs id old g ≡ None
      → (d : ToSend) → In d (announcing jobs id (header id g locals)) → In d (flat_map (announcing jobs id) (news jobs id old.table new.table f))
  changed_headers new f others g locals now before d i =
      in_flat (announcing jobs id) (news jobs id old.table new.table f) (header id g locals) d
      (by_name g f
      (λ same. subst (λ x. In (header id g locals) (news jobs id old.table new.table x)) same (news_has jobs id old.table new.table g locals now before))
      (λ other. absurd (no_locals locals (sym before ∙ others g locals other now))))
      i

  -- after a commit the nodes that waited are sent it
  settling_covers : (p : Proc) (z : Sealed) (new : NodeState) → ((q : Proc) → sealer_of new q ≡ sealer_of (sealing old p z) q) → (q : Proc) (node level : ℕ) → held_at old.held q node ≡ Some level
      → level < (sealer_of new q).level → In (piece_due new q node level) (settling old new p)
  settling_covers p z new same q node level held less =
      by_proc q p
      (λ is. subst (λ x. held_at old.held x node ≡ Some level → level < (sealer_of new x).level → In (piece_due new x node level) (settling old new p)) (sym is) listed held less)
      (λ other. absurd (no_piece new q node level (same q ∙ sealer_other old p z q other) held less))
    where
      listed : held_at old.held p node ≡ Some level → level < (sealer_of new p).level → In (piece_due new p node level) (settling old new p)
      listed there below_it =
          in_map (λ (e : ℕ × ℕ). piece_due new p e.0 e.1) (below (sealer_of new p).level (levels_of old.held p)) (node, level)
          (in_filter (λ (e : ℕ × ℕ). nat_lt e.1 (sealer_of new p).level) (finite.entries (levels_of old.held p)) (node, level)
          (entry_listed nat_cmp-IsAntisymmetric (levels_of old.held p) node level there) (lt-ltb level (sealer_of new p).level below_it))

  -- ---- requests

  pub plain_request : (r : Request) → is_nudge r ≡ false → IsPlain (Act.request r)
  plain_request r other = record { frames = λ frame is. absurd (not_frame frame is); nudges = λ is. false≢true (sym other ∙ ap is_nudge (same_request r Request.nudge is)) }
    where
      not_frame : (frame : Frame) → Act.request r ≡ Act.deliver frame → ⊥
      not_frame frame is = cc

      same_request : (one two : Request) → Act.request one ≡ Act.request two → one ≡ two
      same_request one two is = cc

  pub plain_commit : (p : Proc) (b : Unsealed) → IsPlain (Act.commit p b)
  plain_commit p b = record { frames = λ frame is. absurd (not_frame frame is); nudges = λ is. absurd (not_request is) }
    where
      not_frame : (frame : Frame) → Act.commit p b ≡ Act.deliver frame → ⊥
      not_frame frame is = cc

      not_request : Act.commit p b ≡ Act.request Request.nudge → ⊥
      not_request is = cc

  -- who is in no call is in none once calls are settled
  pub free_settled : (h : NodeState) (p : Proc) → call_of h p ≡ None → call_of (settled jobs id h) p ≡ None
  free_settled h p none = settled_call jobs id h p ∙ ap (option_map (settle jobs id h)) none

  uncalled_free : (h : NodeState) (p q : Proc) → call_of h q ≡ None → call_of (uncalled h p) q ≡ None
  uncalled_free h p q none = call-uncalled h p q ∙ nothing (same_proc q p) (call_of h q) none
    where
      nothing : (b : Bool) (o : Option CallState) → o ≡ None → cond b None o ≡ None
      nothing true o e = refl
      nothing false o e = e

  -- nothing but calls changed, and nobody came to be in one
  pub calls_stay : (h : NodeState) → h.table ≡ old.table → ((p : Proc) → sealer_of h p ≡ sealer_of old p) → ((p : Proc) → call_of old p ≡ None → call_of h p ≡ None) → Stays (settled jobs id h)
  calls_stay h table sealers free = record {
    headers = λ f. ap (λ t. present jobs id t f) table;
    sealers = sealers;
    free = λ p none. free_settled h p (free p none);
  }

  pub old_stays : Stays old
  old_stays = record { headers = λ f. refl; sealers = λ p. refl; free = λ p none. none }

  pub same_stays : Stays (settled jobs id old)
  same_stays = calls_stay old refl (λ p. refl) (λ p e. e)

  left_stays : (p : Proc) → Stays (settled jobs id (uncalled old p))
  left_stays p = calls_stay (uncalled old p) refl (λ q. refl) (uncalled_free old p)

  pub ends_stay : (p : Proc) (s : Option CallState) → Stays (settled jobs id (leaves old p s).left) × Stays (settled jobs id (takes old p s).left)
  ends_stay p s = ends_left old p (λ h. Stays (settled jobs id h)) same_stays (left_stays p) s

  -- only this process comes to be in a call
  newly_called : (p : Proc) (t : CallState) (h : NodeState) → h.calls ≡ finite.insert old.calls p t → (q : Proc) (s : CallState) → call_of (settled jobs id h) q ≡ Some s → call_of old q ≡ None
      → (q ≡ p) × (s ≡ settle jobs id h t)
  newly_called p t h calls q s now none =
      let was = settled_some jobs id h q s now in
      put_cases old.calls p q t was.0 (ap (λ m. finite.get m q) (sym calls) ∙ was.1) (λ same is. (same, sym was.2 ∙ ap (settle jobs id h) (sym is)))
      (λ there. no_get old q was.0 none there)

  -- who is in a fence, or released from it, asks for nothing
  fence_asks_none : (h : NodeState) (b : Bool) (f : FenceName) (gone : List Proc) (s : CallState) (d : ToSend) → s ≡ released_by b f gone → In d (asking_for jobs id h (Some s)) → ⊥
  fence_asks_none h true f gone s d is i = subst (λ x. In d (asking_for jobs id h (Some x))) is i
  fence_asks_none h false f gone s d is i = subst (λ x. In d (asking_for jobs id h (Some x))) is i

  pub enter_covers : (a : Act) → IsPlain a → (p : Proc) (g : Signature)
      → let new = settled jobs id (enters_fence old p g).left in Covers jobs id old a new (flat_map (announcing jobs id) (news jobs id old.table new.table (next_name old.table g p)))
  enter_covers a plain p g =
      let h = (enters_fence old p g).left in
      let new = settled jobs id h in
      let f = next_name old.table g p in
      record {
        headers = changed_headers new f (present_entered jobs id old.table g p (sealer_of old p).level holds.two);
        pieces = λ q node level held less. absurd (no_piece new q node level refl held less);
        gets = λ q s before now d i.
            absurd (fence_asks_none new (is_ready_at jobs id h f) f (gone_by jobs id h.table f) s d (newly_called p (CallState.in_fence f) h refl q s now before).1 i);
        asked_header = λ ask locals is taken there. absurd (plain.frames (frames.FenceAsk ask) is);
        asked_piece = λ ask frame is asked taken less. absurd (plain.frames frame is);
        asked_anew = λ ask is taken within. absurd (plain.frames (frames.RefreshAsk ask) is);
        nudged = λ is d i. absurd (plain.nudges is);
      }

  pub park_covers : (a : Act) → IsPlain a → (p : Proc) (get : Get) (mode : Mode)
      → let new = settled jobs id (parks old p get mode) in Covers jobs id old a new (asking_for jobs id new (call_of new p))
  park_covers a plain p get mode =
      let h = parks old p get mode in
      let new = settled jobs id h in
      record {
        headers = λ f locals now before d i. absurd (no_header new f locals refl now before);
        pieces = λ q node level held less. absurd (no_piece new q node level refl held less);
        gets = λ q s before now d i.
            let same = (newly_called p (waits_as old.requests get mode) h refl q s now before).0 in
            subst (λ o. In d (asking_for jobs id new o)) (sym (ap (call_of new) (sym same) ∙ now)) i;
        asked_header = λ ask locals is taken there. absurd (plain.frames (frames.FenceAsk ask) is);
        asked_piece = λ ask frame is asked taken less. absurd (plain.frames frame is);
        asked_anew = λ ask is taken within. absurd (plain.frames (frames.RefreshAsk ask) is);
        nudged = λ is d i. absurd (plain.nudges is);
      }

  pub commit_covers : (a : Act) → IsPlain a → (p : Proc) (z : Sealed) → let new = settled jobs id (sealing old p z) in Covers jobs id old a new (settling old new p)
  commit_covers a plain p z =
      let new = settled jobs id (sealing old p z) in
      record {
        headers = λ f locals now before d i. absurd (no_header new f locals refl now before);
        pieces = settling_covers p z new (λ q. refl);
        gets = λ q s before now d i. no_get new q s (free_settled (sealing old p z) q before) now;
        asked_header = λ ask locals is taken there. absurd (plain.frames (frames.FenceAsk ask) is);
        asked_piece = λ ask frame is asked taken less. absurd (plain.frames frame is);
        asked_anew = λ ask is taken within. absurd (plain.frames (frames.RefreshAsk ask) is);
        nudged = λ is d i. absurd (plain.nudges is);
      }

  -- what is due first may be followed by more
  pub more_covers : (a : Act) → IsPlain a → (new : NodeState) (first rest : List ToSend) → Covers jobs id old a new first → Covers jobs id old a new (first ++ rest)
  more_covers a plain new first rest covers = record {
    headers = λ f locals now before d i. in_append_left first rest d (covers.headers f locals now before d i);
    pieces = λ p node level held less. in_append_left first rest _ (covers.pieces p node level held less);
    gets = λ p s before now d i. in_append_left first rest d (covers.gets p s before now d i);
    asked_header = λ ask locals is taken there. absurd (plain.frames (frames.FenceAsk ask) is);
    asked_piece = λ ask frame is asked taken less. absurd (plain.frames frame is);
    asked_anew = λ ask is taken within. absurd (plain.frames (frames.RefreshAsk ask) is);
    nudged = λ is d i. absurd (plain.nudges is);
  }

  pub end_covers : (a : Act) → IsPlain a → (p : Proc) (z : Sealed)
      → let new = settled jobs id (uncalled (with_table (sealing old p z) (ended_by old.table p z.level)) p) in
      Covers jobs id old a new (settling old new p ++ flat_map (announcing jobs id) (flat_map (news jobs id old.table new.table) (names_of old.table)))
  unfolding has_name series_at
  end_covers a plain p z =
      let h = uncalled (with_table (sealing old p z) (ended_by old.table p z.level)) p in
      let new = settled jobs id h in
      let told = flat_map (news jobs id old.table new.table) (names_of old.table) in
      record {
        headers = λ f locals now before d i.
            in_append_right (settling old new p) (flat_map (announcing jobs id) told) d
            (in_flat (announcing jobs id) told (header id f locals) d
            (in_flat (news jobs id old.table new.table) (names_of old.table) f (header id f locals) (name_listed old.table f (present_named jobs id new.table f locals now))
            (news_has jobs id old.table new.table f locals now before)) i);
        pieces = λ q node level held less.
            in_append_left (settling old new p) (flat_map (announcing jobs id) told) _ (settling_covers p z new (λ x. refl) q node level held less);
        gets = λ q s before now d i. no_get new q s (free_settled h q (uncalled_free (with_table (sealing old p z) (ended_by old.table p z.level)) p q before)) now;
        asked_header = λ ask locals is taken there. absurd (plain.frames (frames.FenceAsk ask) is);
        asked_piece = λ ask frame is asked taken less. absurd (plain.frames frame is);
        asked_anew = λ ask is taken within. absurd (plain.frames (frames.RefreshAsk ask) is);
        nudged = λ is d i. absurd (plain.nudges is);
      }

  pub nudge_covers : (a : Act) → ((frame : Frame) → a ≡ Act.deliver frame → ⊥) → Covers jobs id old a (settled jobs id old) (nudging jobs id (settled jobs id old))
  nudge_covers a plain =
      let new = settled jobs id old in
      record {
        headers = λ f locals now before d i. absurd (no_header new f locals refl now before);
        pieces = λ q node level held less. absurd (no_piece new q node level refl held less);
        gets = λ q s before now d i. no_get new q s (same_stays.free q before) now;
        asked_header = λ ask locals is taken there. absurd (plain (frames.FenceAsk ask) is);
        asked_piece = λ ask frame is asked taken less. absurd (plain frame is);
        asked_anew = λ ask is taken within. absurd (plain (frames.RefreshAsk ask) is);
        nudged = λ is d i. i;
      }

  -- ---- frames

  pub not_nudge : (frame : Frame) → Act.deliver frame ≡ Act.request Request.nudge → ⊥
  not_nudge frame is = cc

  pub one_frame : (x y : Frame) → Act.deliver x ≡ Act.deliver y → x ≡ y
  one_frame x y is = cc

  -- a frame that is no request
  idle_frame : (frame : Frame) (new : NodeState) (dues : List ToSend) → Stays new → is_header_ask frame ≡ false → is_anew_ask frame ≡ false → asked_by (Act.deliver frame) ≡ None
      → Covers jobs id old (Act.deliver frame) new dues
  idle_frame frame new dues stays no_ask no_anew none = record {
    headers = λ f locals now before d i. absurd (no_header new f locals (stays.headers f) now before);
    pieces = λ p node level held less. absurd (no_piece new p node level (stays.sealers p) held less);
    gets = λ p s before now d i. no_get new p s (stays.free p before) now;
    asked_header = λ ask locals is taken there. absurd (no_header_ask frame no_ask ask (one_frame frame (frames.FenceAsk ask) is));
    asked_piece = λ ask other is asked taken less. absurd (none_asked (Act.deliver frame) none ask asked);
    asked_anew = λ ask is taken within. absurd (no_anew_ask frame no_anew ask (one_frame frame (frames.RefreshAsk ask) is));
    nudged = λ is d i. absurd (not_nudge frame is);
  }

  -- a header, or a name
  table_covers : (frame : Frame) (t : Fences) → let new = settled jobs id (with_table old t) in (dues : List ToSend)
      → ((g : FenceName) (locals : List Local) → own_header_of jobs id new g ≡ Some locals → own_header_of jobs id old g ≡ None
      → (d : ToSend) → In d (announcing jobs id (header id g locals)) → In d dues)
      → ((ask : FenceAsk) (locals : List Local) → frame ≡ frames.FenceAsk ask → own_header_of jobs id old ask.name ≡ Some locals → In (sendings.Whole (sent ask.node (frames.Header (header id ask.name locals)))) dues)
      → is_anew_ask frame ≡ false → asked_by (Act.deliver frame) ≡ None → Covers jobs id old (Act.deliver frame) new dues
  table_covers frame t dues heads asks no_anew none =
      let h = with_table old t in
      let new = settled jobs id h in
      record {
        headers = heads;
        pieces = λ p node level held less. absurd (no_piece new p node level refl held less);
        gets = λ p s before now d i. no_get new p s (free_settled h p before) now;
        asked_header = λ ask locals is taken there. asks ask locals (one_frame frame (frames.FenceAsk ask) is) there;
        asked_piece = λ ask other is asked taken less. absurd (none_asked (Act.deliver frame) none ask asked);
        asked_anew = λ ask is taken within. absurd (no_anew_ask frame no_anew ask (one_frame frame (frames.RefreshAsk ask) is));
        nudged = λ is d i. absurd (not_nudge frame is);
      }

  fence_ask_covers : (a : FenceAsk) → let new = settled jobs id (with_table old (learned old.table a.name)) in
      Covers jobs id old (Act.deliver (frames.FenceAsk a)) new (telling_of jobs id a.node a.name (own_header_of jobs id old a.name) (flat_map (announcing jobs id) (news jobs id old.table new.table a.name)))
  fence_ask_covers a =
      let t = learned old.table a.name in
      let new = settled jobs id (with_table old t) in
      let others = flat_map (announcing jobs id) (news jobs id old.table t a.name) in
      let apart = present_with jobs id old.table a.name (fence_at old.table a.name) holds.two in
      table_covers (frames.FenceAsk a) t (telling_of jobs id a.node a.name (own_header_of jobs id old a.name) others)
      (λ g locals now before d i.
      by_name g a.name
      (λ same. subst (λ o. In d (telling_of jobs id a.node a.name o others)) (sym (ap (own_header_of jobs id old) (sym same) ∙ before)) (changed_headers new a.name apart g locals now before d i))
      (λ other. absurd (no_locals locals (sym before ∙ apart g locals other now))))
      (λ ask locals is there. there_told ask (one_ask ask is) locals there others)
      refl refl
    where
      one_ask : (ask : FenceAsk) → frames.FenceAsk a ≡ frames.FenceAsk ask → a ≡ ask
      one_ask ask is = cc

      there_told : (ask : FenceAsk) → a ≡ ask → (locals : List Local) → own_header_of jobs id old ask.name ≡ Some locals → (others : List ToSend)
          → In (sendings.Whole (sent ask.node (frames.Header (header id ask.name locals)))) (telling_of jobs id a.node a.name (own_header_of jobs id old a.name) others)
      there_told ask same locals there others =
          subst (λ (x : FenceAsk). In (sendings.Whole (sent ask.node (frames.Header (header id ask.name locals)))) (telling_of jobs id x.node x.name (own_header_of jobs id old x.name) others)) (sym same)
          (subst (λ o. In (sendings.Whole (sent ask.node (frames.Header (header id ask.name locals)))) (telling_of jobs id ask.node ask.name o others)) (sym there) (inl refl))

  commit_ask_covers : (frame : Frame) (a : CommitAsk) (new : NodeState) → Stays new → asked_by (Act.deliver frame) ≡ Some a → is_header_ask frame ≡ false → is_anew_ask frame ≡ false
      → Covers jobs id old (Act.deliver frame) new (answering new a.node a.proc a.level)
  commit_ask_covers frame a new stays is_ask no_ask no_anew = record {
    headers = λ f locals now before d i. absurd (no_header new f locals (stays.headers f) now before);
    pieces = λ p node level held less. absurd (no_piece new p node level (stays.sealers p) held less);
    gets = λ p s before now d i. no_get new p s (stays.free p before) now;
    asked_header = λ ask locals is taken there. absurd (no_header_ask frame no_ask ask (one_frame frame (frames.FenceAsk ask) is));
    asked_piece = λ ask other is asked taken less.
        subst (λ (x : CommitAsk). In (piece_due new ask.proc ask.node ask.level) (answering new x.node x.proc x.level)) (one_ask ask (sym asked ∙ is_ask))
        (subst (λ b. In (piece_due new ask.proc ask.node ask.level) (if b then piece_due new ask.proc ask.node ask.level ∷ [] else [])) (sym (lt-ltb ask.level (sealer_of new ask.proc).level less)) (inl refl));
    asked_anew = λ ask is taken within. absurd (no_anew_ask frame no_anew ask (one_frame frame (frames.RefreshAsk ask) is));
    nudged = λ is d i. absurd (not_nudge frame is);
  }
    where
      one_ask : (ask : CommitAsk) → Some ask ≡ Some a → ask ≡ a
      one_ask ask same = cc

  refresh_ask_covers : (a : RefreshAsk) → let new = settled jobs id old in Covers jobs id old (Act.deliver (frames.RefreshAsk a)) new (replying new a)
  refresh_ask_covers a =
      let new = settled jobs id old in
      let frame = frames.RefreshAsk a in
      record {
        headers = λ f locals now before d i. absurd (no_header new f locals refl now before);
        pieces = λ p node level held less. absurd (no_piece new p node level refl held less);
        gets = λ p s before now d i. no_get new p s (same_stays.free p before) now;
        asked_header = λ ask locals is taken there. absurd (no_header_ask frame refl ask (one_frame frame (frames.FenceAsk ask) is));
        asked_piece = λ ask other is asked taken less. absurd (none_asked (Act.deliver frame) refl ask asked);
        asked_anew = λ ask is taken within. listed ask (one_ask ask (one_frame frame (frames.RefreshAsk ask) is)) within;
        nudged = λ is d i. absurd (not_nudge frame is);
      }
    where
      one_ask : (ask : RefreshAsk) → frames.RefreshAsk a ≡ frames.RefreshAsk ask → a ≡ ask
      one_ask ask is = cc

      listed : (ask : RefreshAsk) → a ≡ ask → ask.ask.level ≤ (sealer_of (settled jobs id old) ask.ask.proc).level
          → In (sendings.Whole (sent ask.ask.node (frames.RefreshReply (reply_anew (settled jobs id old) ask)))) (replying (settled jobs id old) a)
      listed ask same within =
          let reply : ToSend = sendings.Whole (sent ask.ask.node (frames.RefreshReply (reply_anew (settled jobs id old) ask))) in
          subst (λ x. In reply (replying (settled jobs id old) x)) (sym same)
          (subst (λ b. In reply (if b then reply ∷ [] else [])) (sym (le-leb ask.ask.level (sealer_of (settled jobs id old) ask.ask.proc).level within)) (inl refl))

  unless_stays : (b : Bool) (node : ℕ) (p : Proc) (level : ℕ) → Stays (settled jobs id (holds_unless b old node p level))
  unless_stays true node p level = same_stays
  unless_stays false node p level = calls_stay (holds_unless false old node p level) refl (λ q. refl) (λ q e. e)

  pub frame_covers : (frame : Frame) → let new = settled jobs id (receives jobs id old frame) in Covers jobs id old (Act.deliver frame) new (due_by_frame jobs id old frame new)
  unfolding receives due_by_frame
  frame_covers (frames.Piece c) =
      idle_frame (frames.Piece c) _ _ (calls_stay (receives jobs id old (frames.Piece c)) refl (λ p. refl) (λ p e. e)) refl refl refl
  frame_covers (frames.Header hd) =
      let fence = fence_told (fence_at old.table hd.name) hd.node hd.locals in
      let t = with_header old.table hd in
      table_covers (frames.Header hd) t _ (changed_headers (settled jobs id (with_table old t)) hd.name (present_with jobs id old.table hd.name fence holds.two)) (λ ask locals is there. absurd (no_header_ask (frames.Header hd) refl ask is)) refl refl
  frame_covers (frames.FenceAsk a) = fence_ask_covers a
  frame_covers (frames.RangeAsk a) = commit_ask_covers (frames.RangeAsk a) a (settled jobs id old) same_stays refl refl refl
  frame_covers (frames.DirectAsk a) =
      commit_ask_covers (frames.DirectAsk a) a (settled jobs id (holds_unless (nat_lt a.level (sealer_of old a.proc).level) old a.node a.proc a.level))
      (unless_stays (nat_lt a.level (sealer_of old a.proc).level) a.node a.proc a.level) refl refl refl
  frame_covers (frames.RefreshAsk a) = refresh_ask_covers a
  frame_covers (frames.RefreshReply r) =
      let told = with_far old (joined old.far (told_by r)) in
      idle_frame (frames.RefreshReply r) _ _
      (calls_stay (with_reply jobs id told r.request r.told.proc) refl (λ p. refl)
      (λ p e. get-mapped (answer_reply jobs id told r.request r.told.proc) old.calls p ∙ ap (option_map (answer_reply jobs id told r.request r.told.proc)) e))
      refl refl refl
