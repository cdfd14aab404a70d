-- What the nodes of the examples may send, and what they owe.
use Rattle.std.proofs.Common.{◌≡◌, ◌<◌, ℕ, Bool, true, false, is_some, cond, List, [], ◌∷◌, Option, Some, None, inl, inr, refl, sym, ap, subst, ◌∙◌, arith}
use Rattle.std.proofs.lemmas.Bool.{false≢true}
use Rattle.std.specs.FinMap as finite
use Rattle.std.specs.Option.{option_map, unwrap_or}
use Rattle.std.specs.Ordering.{nat_cmp}
use Rattle.pmg_value.specs.Lists.{In, Each}
use Rattle.pmg_value.specs.Process.{proc_cmp}
use Rattle.pmg_value.specs.Signatures.{FenceName}
use Rattle.pmg_value.specs.declared.process.Proc.{Proc}
use Rattle.pmg_scope.specs.declared.scope.Reach.TheVariants as reach
use Rattle.pmg_commit.specs.Sealed.{piece_at}
use Rattle.pmg_frame.specs.Fences.{FenceAsk, header, participants_of}
use Rattle.pmg_frame.specs.Refreshing.{RefreshAsk}
use Rattle.pmg_frame.specs.declared.frame.Frame.{Frame}
use Rattle.pmg_frame.specs.declared.frame.Frame.TheVariants as frames
use Rattle.pmg_frame.specs.declared.local.Local.{Local}
use Rattle.pmg_jobinfo.specs.Jobs.{home_of}
use Rattle.pmg_fence.specs.Entering.{same_proc}
use Rattle.pmg_fence.specs.Tables.{gone_by}
use Rattle.pmg_dmodex.specs.Levels.{NodeLevels, levels_of, node_level as held_at, not_below, without_below}
use Rattle.pmg_node_model.specs.Acts.{Request, Act, Reply, Done, done_as, acts, is_peer}
use Rattle.pmg_node_model.specs.Holdings.{CallState, NodeState, new_holding, sealer_of, call_of, called, released_by, settle, settled, is_ready_at}
use Rattle.pmg_node_model.specs.Sending.{sent, own_header_of, Allowed, TakesPart, asked_by, Owes, is_quiet, NodeStep}
use Rattle.pmg_node_model.specs.declared.sent.Sent.{Sent}
use Rattle.pmg_node_model.proofs.CallFacts.{call-settled, call-called}
use Rattle.pmg_group_model.specs.Examples.{two, j0, j1, meeting}
use Rattle.pmg_group_model.proofs.ExampleGroup.{home_of_j0, home_of_j1, who_meets}
use Rattle.pmg_group_model.proofs.ExampleNodes.{AreIdle, IsInCall, its_piece}

-- ---- what is owed where no node asks and nobody waits for an answer

-- an act that asks for nothing
pub record AsksNothing (a : Act) : Type 0 where
  pub headers : (ask : FenceAsk) → a ≡ Act.deliver (frames.FenceAsk ask) → ⊥
  pub anew : (ask : RefreshAsk) → a ≡ Act.deliver (frames.RefreshAsk ask) → ⊥
  pub commits : asked_by a ≡ None
  pub nudges : a ≡ Act.request Request.nudge → ⊥

-- each new header is sent
abbrev pub SendsNews : ℕ → NodeState → NodeState → List Sent → Type 0
SendsNews id old new out =
    (f : FenceName) (locals : List Local) (node : ℕ) → own_header_of two id new f ≡ Some locals → own_header_of two id old f ≡ None → TakesPart two id f node
    → In (sent node (frames.Header (header id f locals))) out

-- no node waits for a commit
abbrev pub NoneWaits : NodeState → Type 0
NoneWaits h = (p : Proc) (node : ℕ) → held_at h.held p node ≡ None

-- a get that waits
abbrev pub waits_for : CallState → Bool
waits_for (CallState.parked get) = true
waits_for (CallState.refreshing get number) = true
waits_for _ = false

-- no get waits
abbrev pub NoneParks : NodeState → Type 0
NoneParks h = (p : Proc) (c : CallState) → call_of h p ≡ Some c → waits_for c ≡ false

module _ (id : ℕ) (old new : NodeState) (a : Act) (out : List Sent) (asks : AsksNothing a) (news : SendsNews id old new out) (waits : NoneWaits old) (parks : NoneParks new) where
  pub owed_by : (s : Sent) → Owes two id old a new s → In s out
  owed_by s (Owes.new_header f locals node now before part) = news f locals node now before part
  owed_by s (Owes.asked_header ask locals is taken there) = absurd (asks.headers ask is)
  owed_by s (Owes.asked_piece ask frame is asked taken less) = absurd (none_asked (sym asks.commits ∙ asked))
    where
      none_asked : None ≡ Some ask → ⊥
      none_asked e = cc
  owed_by s (Owes.held_piece p node level held less) = absurd (none_held (sym (waits p node) ∙ held))
    where
      none_held : None ≡ Some level → ⊥
      none_held e = cc
  owed_by s (Owes.asked_reply ask is taken made) = absurd (asks.anew ask is)
  owed_by s (Owes.parked_ask p get before now other) = absurd (false≢true (sym (parks p (CallState.parked get) now)))
  owed_by s (Owes.parked_anew p get number before now other) = absurd (false≢true (sym (parks p (CallState.refreshing get number) now)))
  owed_by s (Owes.nudged_header f p node is waiting part none) = absurd (asks.nudges is)
  owed_by s (Owes.nudged_range f p q e is waiting collects i other told less) = absurd (asks.nudges is)
  owed_by s (Owes.nudged_ask p get is now other) = absurd (asks.nudges is)
  owed_by s (Owes.nudged_anew p get number is now other) = absurd (asks.nudges is)
  owed_by s (Owes.nudged_sets is other) = absurd (asks.nudges is)

-- a request that is no nudge, and a delivery that is no request
pub request_asks : (r : Request) → (r ≡ Request.nudge → ⊥) → AsksNothing (Act.request r)
request_asks r other = record { headers = λ ask e. cc; anew = λ ask e. cc; commits = refl; nudges = λ e. other (same e) }
  where
    same : Act.request r ≡ Act.request Request.nudge → r ≡ Request.nudge
    same e = cc

pub frame_asks : (frame : Frame) → asked_by (Act.deliver frame) ≡ None → ((ask : FenceAsk) → frame ≡ frames.FenceAsk ask → ⊥) → ((ask : RefreshAsk) → frame ≡ frames.RefreshAsk ask → ⊥)
    → AsksNothing (Act.deliver frame)
frame_asks frame none other another =
    record { headers = λ ask e. other ask (same (frames.FenceAsk ask) e); anew = λ ask e. another ask (same (frames.RefreshAsk ask) e); commits = none; nudges = λ e. cc }
  where
    same : (asking : Frame) → Act.deliver frame ≡ Act.deliver asking → frame ≡ asking
    same asking e = cc

-- no header is new where the tables are the same
pub same_news : (id : ℕ) (old new : NodeState) → ((f : FenceName) → own_header_of two id new f ≡ own_header_of two id old f) → (out : List Sent) → SendsNews id old new out
same_news id old new same out f locals node now before part = absurd (none_new (sym before ∙ sym (same f) ∙ now))
  where
    none_new : None ≡ Some locals → ⊥
    none_new e = cc

-- nobody in a call, or one in a fence: no get waits
pub idle_parks : (h : NodeState) → AreIdle h → NoneParks h
idle_parks h idle p c e = absurd (none_there (sym (idle p) ∙ e))
  where
    none_there : None ≡ Some c → ⊥
    none_there z = cc

-- one call that waits for nothing
waits_so : (c d : CallState) → waits_for c ≡ false → Some c ≡ Some d → waits_for d ≡ false
waits_so c d other e = let same : c ≡ d = cc in ap waits_for (sym same) ∙ other

pub call_parks : (h : NodeState) (c : CallState) → IsInCall h (Some c) → waits_for c ≡ false → NoneParks h
call_parks h c calls other p d e = by_test (same_proc p j1) (sym (calls p) ∙ e)
  where
    by_test : (b : Bool) → cond b (Some c) None ≡ Some d → waits_for d ≡ false
    by_test true z = waits_so c d other z
    by_test false z = absurd cc

-- a call that is no get's makes none wait, nor does what comes to be answered
pub called_parks : (h : NodeState) (p : Proc) (c : CallState) → waits_for c ≡ false → NoneParks h → NoneParks (called h p c)
called_parks h p c other none q d e = by_test (same_proc q p) (sym (call-called h p c q) ∙ e)
  where
    by_test : (b : Bool) → cond b (Some c) (call_of h q) ≡ Some d → waits_for d ≡ false
    by_test true z = waits_so c d other z
    by_test false z = none q d z

pub settled_parks : (id : ℕ) (h : NodeState) → NoneParks h → NoneParks (settled two id h)
settled_parks id h none q d e = by_call (call_of h q) refl (sym (call-settled two id h q) ∙ e)
  where
    by_ready : (b : Bool) (f : FenceName) (gone : List Proc) → Some (released_by b f gone) ≡ Some d → waits_for d ≡ false
    by_ready true f gone z = waits_so (CallState.released f gone) d refl z
    by_ready false f gone z = waits_so (CallState.in_fence f) d refl z

    by_call : (o : Option CallState) → call_of h q ≡ o → option_map (settle two id h) o ≡ Some d → waits_for d ≡ false
    by_call None is z = absurd cc
    by_call (Some (CallState.in_fence f)) is z = by_ready (is_ready_at two id h f) f (gone_by two id h.table f) z
    by_call (Some (CallState.released f gone)) is z = waits_so (CallState.released f gone) d refl z
    by_call (Some (CallState.parked other)) is z = absurd (false≢true (sym (none q (CallState.parked other) is)))
    by_call (Some (CallState.answered other outcome)) is z = waits_so (CallState.answered other outcome) d refl z
    by_call (Some (CallState.refreshing other number)) is z = absurd (false≢true (sym (none q (CallState.refreshing other number) is)))
    by_call (Some (CallState.refreshed other outcome)) is z = waits_so (CallState.refreshed other outcome) d refl z

-- a new node has none that waits
pub none_held_new : (p : Proc) (node : ℕ) → held_at finite.empty p node ≡ None
none_held_new p node = ap (λ (o : Option NodeLevels). finite.get (unwrap_or o finite.empty) node) (finite.get-empty proc_cmp p) ∙ finite.get-empty nat_cmp node

pub new_waits : (id : ℕ) → NoneWaits (new_holding two id)
new_waits id = none_held_new

pub nothing_below : (level : ℕ) → without_below finite.empty j0 level ≡ finite.empty
nothing_below level =
    ap (λ (b : Bool). cond b (finite.insert finite.empty j0 (not_below level (levels_of finite.empty j0))) finite.empty)
    (ap (λ (o : Option NodeLevels). is_some o) (finite.get-empty proc_cmp j0))

-- ---- steps

-- one step, where the act is replied so and leads there
module _ (id : ℕ) (old new : NodeState) (a : Act) (r : Reply) (is : acts two id old a ≡ done_as r new) (loud : is_quiet r ≡ false) (asks : AsksNothing a) (waits : NoneWaits old) (parks : NoneParks new) where
  pub steps : (out : List Sent) → Each (λ s. is_peer two id s.to ≡ true) out → Each (λ s. Allowed two id a new s.frame) out → SendsNews id old new out → NodeStep two id old a r new out
  steps out peers allowed news = record {
    replied = sym (ap (λ (d : Done). d.reply) is);
    left = sym (ap (λ (d : Done). d.left) is);
    quiet = λ e. absurd (false≢true (sym loud ∙ e));
    peers = peers;
    allowed = allowed;
    owed = owed_by id old new a out asks news waits parks;
  }

-- ---- to whom headers go

-- the one other node of the fence
pub other_than_1 : (f : FenceName) (node : ℕ) → f ≡ meeting → TakesPart two 1 f node → node ≡ 0
other_than_1 f node is part = by_member (subst (In part.1) (ap participants_of is ∙ who_meets) part.2)
  where
    by_member : In part.1 (j0 ∷ j1 ∷ []) → node ≡ 0
    by_member (inl e) = sym part.3 ∙ ap (home_of two) e ∙ home_of_j0
    by_member (inr (inl e)) = absurd (part.0 (sym part.3 ∙ ap (home_of two) e ∙ home_of_j1))
    by_member (inr (inr e)) = absurd e

pub other_than_0 : (f : FenceName) (node : ℕ) → f ≡ meeting → TakesPart two 0 f node → node ≡ 1
other_than_0 f node is part = by_member (subst (In part.1) (ap participants_of is ∙ who_meets) part.2)
  where
    by_member : In part.1 (j0 ∷ j1 ∷ []) → node ≡ 1
    by_member (inl e) = absurd (part.0 (sym part.3 ∙ ap (home_of two) e ∙ home_of_j0))
    by_member (inr (inl e)) = sym part.3 ∙ ap (home_of two) e ∙ home_of_j1
    by_member (inr (inr e)) = absurd e

-- where a node tells of this one fence alone, its header goes to the other one
module _ (id other : ℕ) (new : NodeState) (lines : List Local) (others : (f : FenceName) (node : ℕ) → f ≡ meeting → TakesPart two id f node → node ≡ other)
    (only : (f : FenceName) (locals : List Local) → own_header_of two id new f ≡ Some locals → f ≡ meeting) (tells : own_header_of two id new meeting ≡ Some lines) where
  same_lines : (f : FenceName) (locals : List Local) → f ≡ meeting → own_header_of two id new f ≡ Some locals → lines ≡ locals
  same_lines f locals is now = let both : Some lines ≡ Some locals = sym tells ∙ ap (own_header_of two id new) (sym is) ∙ now in cc

  pub one_new : (old : NodeState) (more : List Sent) → SendsNews id old new (sent other (frames.Header (header id meeting lines)) ∷ more)
  one_new old more f locals node now before part =
      let is = only f locals now in
      let at = others f node is part in
      let says = same_lines f locals is now in
      inl (λ i. sent (at i) (frames.Header (header id (is i) (sym says i))))

  pub header_allowed : (a : Act) → Allowed two id a new (frames.Header (header id meeting lines))
  unfolding Allowed
  header_allowed a = (refl, tells)

-- the commits of node 0's process that are sent
pub piece_allowed : (a : Act) (h : NodeState) → (sealer_of h j0).proc ≡ j0 → (sealer_of h j0).level ≡ 1 → Allowed two 0 a h (frames.Piece (its_piece (sealer_of h j0)))
unfolding Allowed
piece_allowed a h its one = (
  ap (home_of two) its ∙ home_of_j0,
  subst (λ p. 0 < (sealer_of h p).level) (sym its) (subst (λ n. 0 < n) (sym one) (omega arith)),
  ap (λ p. piece_at (sealer_of h p) 0 reach.Far) (sym its),
)
