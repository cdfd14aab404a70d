-- What is owed is due, where what is due covers what an act changed.
use Rattle.std.proofs.Common.{◌≡◌, ℕ, ◌<◌, ◌≤◌, Bool, true, ◌&&◌, not, List, [], ◌∷◌, ◌++◌, length, Some, None, inl, refl, sym, ap, subst, ◌∙◌, arith}
use Rattle.std.specs.Prelude.{if◌then◌else◌, ◌==◌, filter, is_none}
use Rattle.std.specs.FinMap as finite
use Rattle.std.specs.FinMap.{IsAntisymmetric}
use Rattle.std.specs.FinSet as set
use Rattle.std.specs.List.{flat_map, list_any}
use Rattle.std.specs.Ordering.{eq_by_cmp}
use Rattle.std.specs.Cmp.{IsTotalOrder, Equal-is}
use Rattle.std.specs.declared.cmp.Ordering.{Ordering}
use Rattle.std.proofs.lemmas.Bool.{and_from, not_from_false, ltb-true, lt-ltb, eq-eqb, ne_eqb}
use Rattle.pmg_value.specs.InOrder.{in_order}
use Rattle.pmg_value.specs.Lists.{In}
use Rattle.pmg_value.specs.Signatures.{FenceName}
use Rattle.pmg_value.specs.declared.process.Proc.{Proc}
use Rattle.pmg_value.proofs.ListLemmas.{in_from_list_any, list_any_in, in_append_left, in_append_right, in_map}
use Rattle.pmg_value.proofs.ProcessOrder.{exact_procs}
use Rattle.pmg_value.proofs.SetLemmas.{from_list_in}
use Rattle.pmg_value.proofs.SetOrder.{any_in_order}
use Rattle.pmg_commit.specs.Data.{level_at}
use Rattle.pmg_pset.specs.Sets.{host}
use Rattle.pmg_frame.specs.FenceOrder.{name_cmp, name_total}
use Rattle.pmg_frame.specs.Fences.{FenceAsk, CommitAsk, header, fence_ask, commit_ask, participants_of}
use Rattle.pmg_frame.specs.Refreshing.{RefreshAsk}
use Rattle.pmg_frame.specs.declared.frame.Frame.{Frame}
use Rattle.pmg_frame.specs.declared.frame.Frame.TheVariants as frames
use Rattle.pmg_frame.specs.declared.local.Local.{Local}
use Rattle.pmg_frame.proofs.FenceOrderLemmas.{names_exact}
use Rattle.pmg_jobinfo.specs.Expansion.{ranks}
use Rattle.pmg_jobinfo.specs.Jobs.{Jobs, AreJobs, is_node, home_of}
use Rattle.pmg_fence.specs.Tables.{header_at, told_of}
use Rattle.pmg_fence.proofs.HeaderLemmas.{in_filter}
use Rattle.pmg_dmodex.specs.Levels.{node_level as held_at}
use Rattle.pmg_node_model.specs.Acts.{Request, Act, is_taken}
use Rattle.pmg_node_model.specs.Choosing.{peers, peers_in, telling, announcing, piece_due, asking_home, asking_anew, asking_for, is_behind, waited, waited_in, asking_headers, asking_ranges, asking_fence, asking_sets, nudging}
use Rattle.pmg_node_model.specs.declared.due.ToSend.{ToSend}
use Rattle.pmg_node_model.specs.declared.due.ToSend.TheVariants as sendings
use Rattle.pmg_node_model.specs.Holdings.{CallState, NodeState, sealer_of, call_of}
use Rattle.pmg_node_model.specs.Sending.{sent, own_header_of, reply_anew, ask_anew, TakesPart, asked_by, Owes}
use Rattle.pmg_node_model.specs.declared.sent.Sent.{Sent}
use Rattle.pmg_node_model.proofs.KeptBasics.{home_is_node, entry_listed}
use Rattle.pmg_value.proofs.MadeLists.{in_flat, range_in}

-- What is due covers what an act changed from old to new, and what it asks for.
pub record Covers (jobs : Jobs) (id : ℕ) (old : NodeState) (a : Act) (new : NodeState) (dues : List ToSend) : Type 0 where
  pub headers : (f : FenceName) (locals : List Local) → own_header_of jobs id new f ≡ Some locals → own_header_of jobs id old f ≡ None
      → (d : ToSend) → In d (announcing jobs id (header id f locals)) → In d dues
  pub pieces : (p : Proc) (node level : ℕ) → held_at old.held p node ≡ Some level → level < (sealer_of new p).level → In (piece_due new p node level) dues
  pub gets : (p : Proc) (s : CallState) → call_of old p ≡ None → call_of new p ≡ Some s → (d : ToSend) → In d (asking_for jobs id new (Some s)) → In d dues
  pub asked_header : (ask : FenceAsk) (locals : List Local) → a ≡ Act.deliver (frames.FenceAsk ask) → is_taken jobs id old.table (frames.FenceAsk ask) ≡ true
      → own_header_of jobs id old ask.name ≡ Some locals → In (sendings.Whole (sent ask.node (frames.Header (header id ask.name locals)))) dues
  pub asked_piece : (ask : CommitAsk) (frame : Frame) → a ≡ Act.deliver frame → asked_by a ≡ Some ask → is_taken jobs id old.table frame ≡ true
      → ask.level < (sealer_of new ask.proc).level → In (piece_due new ask.proc ask.node ask.level) dues
  pub asked_anew : (ask : RefreshAsk) → a ≡ Act.deliver (frames.RefreshAsk ask) → is_taken jobs id old.table (frames.RefreshAsk ask) ≡ true
      → ask.ask.level ≤ (sealer_of new ask.ask.proc).level → In (sendings.Whole (sent ask.ask.node (frames.RefreshReply (reply_anew new ask)))) dues
  pub nudged : a ≡ Act.request Request.nudge → (d : ToSend) → In d (nudging jobs id new) → In d dues

-- ---- nodes, names and calls that are listed

node_listed : (jobs : Jobs) → AreJobs jobs → (id : ℕ) (f : FenceName) (node : ℕ) → TakesPart jobs id f node → In node (peers_in jobs id f)
node_listed jobs are id f node part =
    let q = part.1 in
    let known : is_node jobs node ≡ true = ap (is_node jobs) (sym part.3) ∙ home_is_node jobs are q in
    in_filter (λ m. list_any (λ q. home_of jobs q == m) (participants_of f)) (peers jobs id) node
    (in_filter (λ m. not (m == id)) (ranks (length jobs.nodes)) node (range_in 0 (length jobs.nodes) node (omega arith) (omega (arith, ltb-true node (length jobs.nodes) known))) (not_from_false (node == id) (ne_eqb node id part.0)))
    (list_any_in (λ q. home_of jobs q == node) (participants_of f) q part.2 (eq-eqb (home_of jobs q) node part.3))

pub ordered_in : {K : Type 0} {R : K → K → Ordering} → IsTotalOrder R → IsAntisymmetric R → (s : set.FinSet R) (q : K) → set.contains s q ≡ true → In q (in_order s)
ordered_in {R = R} o exact s q e =
    let found = in_from_list_any (eq_by_cmp R q) (in_order s) (any_in_order o s q ∙ e) in
    subst (λ x. In x (in_order s)) (sym (exact q found.0 ((Equal-is _).0 found.2))) found.1

-- a fence that an own process is in is waited for
pub waited_listed : (h : NodeState) (p : Proc) (f : FenceName) → call_of h p ≡ Some (CallState.in_fence f) → In f (waited_in h)
waited_listed h p f e =
    let rows : List FenceName = flat_map (λ e. waited e.1) (finite.entries h.calls) in
    ordered_in name_total names_exact (set.from_list {R = name_cmp} rows) f
    (from_list_in name_total names_exact rows f
    (in_flat (λ (e : Proc × CallState). waited e.1) (finite.entries h.calls) (p, CallState.in_fence f) f (entry_listed exact_procs h.calls p (CallState.in_fence f) e) (inl refl)))

module _ (jobs : Jobs) (id : ℕ) (h : NodeState) where
  -- the home of a process of another node is asked
  pub asked_there : (q : Proc) → (home_of jobs q ≡ id → ⊥) → In (sendings.Whole (sent (home_of jobs q) (frames.DirectAsk (commit_ask id q (level_at h.far q))))) (asking_home jobs id h q)
  asked_there q other =
      let ask : ToSend = sendings.Whole (sent (home_of jobs q) (frames.DirectAsk (commit_ask id q (level_at h.far q)))) in
      subst (λ b. In ask (if b then [] else ask ∷ [])) (sym (ne_eqb (home_of jobs q) id other)) (inl refl)

  pub anew_there : (q : Proc) (number : ℕ) → (home_of jobs q ≡ id → ⊥)
      → In (sendings.Whole (sent (home_of jobs q) (frames.RefreshAsk (ask_anew id h q number)))) (asking_anew jobs id h q number)
  anew_there q number other =
      let ask : ToSend = sendings.Whole (sent (home_of jobs q) (frames.RefreshAsk (ask_anew id h q number))) in
      subst (λ b. In ask (if b then [] else ask ∷ [])) (sym (ne_eqb (home_of jobs q) id other)) (inl refl)

  fence_nudged : (f : FenceName) (p : Proc) → call_of h p ≡ Some (CallState.in_fence f) → (d : ToSend) → In d (asking_fence jobs id h f) → In d (nudging jobs id h)
  fence_nudged f p e d i =
      in_append_left (flat_map (asking_fence jobs id h) (waited_in h)) (flat_map (λ e. asking_for jobs id h (Some e.1)) (finite.entries h.calls) ++ asking_sets id h) d
      (in_flat (asking_fence jobs id h) (waited_in h) f d (waited_listed h p f e) i)

  header_nudged : AreJobs jobs → (f : FenceName) (node : ℕ) → TakesPart jobs id f node → header_at jobs id h.table f node ≡ None → In (sendings.Whole (sent node (frames.FenceAsk (fence_ask id f)))) (asking_fence jobs id h f)
  header_nudged are f node part none =
      in_append_left (asking_headers jobs id h f) (if f.signature.collect then asking_ranges jobs id h f else []) _
      (in_map (λ m. sendings.Whole (sent m (frames.FenceAsk (fence_ask id f)))) (filter (λ m. is_none (header_at jobs id h.table f m)) (peers_in jobs id f)) node
      (in_filter (λ m. is_none (header_at jobs id h.table f m)) (peers_in jobs id f) node (node_listed jobs are id f node part) (ap is_none none)))

  range_nudged : (f : FenceName) (q : Proc) (level : ℕ) → f.signature.collect ≡ true → In q (participants_of f) → (home_of jobs q ≡ id → ⊥) → is_behind (level_at h.far q) (told_of jobs id h.table f q) ≡ true
      → In (sendings.Whole (sent (home_of jobs q) (frames.RangeAsk (commit_ask id q (level_at h.far q))))) (asking_fence jobs id h f)
  range_nudged f q level collects i other behind =
      let missing : Proc → Bool = λ q. not (home_of jobs q == id) && is_behind (level_at h.far q) (told_of jobs id h.table f q) in
      let ask : Proc → ToSend = λ q. sendings.Whole (sent (home_of jobs q) (frames.RangeAsk (commit_ask id q (level_at h.far q)))) in
      in_append_right (asking_headers jobs id h f) (if f.signature.collect then asking_ranges jobs id h f else []) (ask q)
      (subst (λ b. In (ask q) (if b then asking_ranges jobs id h f else [])) (sym collects)
      (in_map ask (filter missing (participants_of f)) q
      (in_filter missing (participants_of f) q i (and_from _ _ (not_from_false (home_of jobs q == id) (ne_eqb (home_of jobs q) id other)) behind))))

  call_nudged : (p : Proc) (s : CallState) → call_of h p ≡ Some s → (d : ToSend) → In d (asking_for jobs id h (Some s)) → In d (nudging jobs id h)
  call_nudged p s e d i =
      let gets : List ToSend = flat_map (λ e. asking_for jobs id h (Some e.1)) (finite.entries h.calls) in
      in_append_right (flat_map (asking_fence jobs id h) (waited_in h)) (gets ++ asking_sets id h) d
      (in_append_left gets (asking_sets id h) d
      (in_flat (λ (e : Proc × CallState). asking_for jobs id h (Some e.1)) (finite.entries h.calls) (p, s) d (entry_listed exact_procs h.calls p s e) i))

  sets_nudged : (id ≡ 0 → ⊥) → In (sendings.Whole (sent 0 (frames.RangeAsk (commit_ask id host (level_at h.far host))))) (nudging jobs id h)
  sets_nudged other =
      let ask : ToSend = sendings.Whole (sent 0 (frames.RangeAsk (commit_ask id host (level_at h.far host)))) in
      let gets : List ToSend = flat_map (λ e. asking_for jobs id h (Some e.1)) (finite.entries h.calls) in
      in_append_right (flat_map (asking_fence jobs id h) (waited_in h)) (gets ++ asking_sets id h) ask
      (in_append_right gets (asking_sets id h) ask (subst (λ b. In ask (if b then [] else ask ∷ [])) (sym (ne_eqb id 0 other)) (inl refl)))

-- what is owed is due
pub owed_due : (jobs : Jobs) → AreJobs jobs → (id : ℕ) (old : NodeState) (a : Act) (new : NodeState) (dues : List ToSend) → Covers jobs id old a new dues → (s : Sent) → Owes jobs id old a new s → In (sendings.Whole s) dues
owed_due jobs are id old a new dues covers s (Owes.new_header f locals node now before part) =
    covers.headers f locals now before _ (in_flat (telling jobs id (header id f locals)) (peers_in jobs id f) node _ (node_listed jobs are id f node part) (inl refl))
owed_due jobs are id old a new dues covers s (Owes.asked_header ask locals is taken there) = covers.asked_header ask locals is taken there
owed_due jobs are id old a new dues covers s (Owes.asked_piece ask frame is asked taken less) = covers.asked_piece ask frame is asked taken less
owed_due jobs are id old a new dues covers s (Owes.held_piece p node level held less) = covers.pieces p node level held less
owed_due jobs are id old a new dues covers s (Owes.parked_ask p get before now other) = covers.gets p (CallState.parked get) before now _ (asked_there jobs id new get.target other)
owed_due jobs are id old a new dues covers s (Owes.nudged_header f p node is waits part none) = covers.nudged is _ (fence_nudged jobs id new f p waits.1 _ (header_nudged jobs id new are f node part none))
owed_due jobs are id old a new dues covers s (Owes.nudged_range f p q e is waits collects i other told less) =
    covers.nudged is _
    (fence_nudged jobs id new f p waits.1 _ (range_nudged jobs id new f q e.level collects i other (ap (is_behind (level_at new.far q)) told ∙ lt-ltb (level_at new.far q) e.level less)))
owed_due jobs are id old a new dues covers s (Owes.nudged_ask p get is now other) = covers.nudged is _ (call_nudged jobs id new p (CallState.parked get) now _ (asked_there jobs id new get.target other))
owed_due jobs are id old a new dues covers s (Owes.parked_anew p get number before now other) = covers.gets p (CallState.refreshing get number) before now _ (anew_there jobs id new get.target number other)
owed_due jobs are id old a new dues covers s (Owes.asked_reply ask is taken within) = covers.asked_anew ask is taken within
owed_due jobs are id old a new dues covers s (Owes.nudged_anew p get number is now other) =
    covers.nudged is _ (call_nudged jobs id new p (CallState.refreshing get number) now _ (anew_there jobs id new get.target number other))
owed_due jobs are id old a new dues covers s (Owes.nudged_sets is other) = covers.nudged is _ (sets_nudged jobs id new other)
