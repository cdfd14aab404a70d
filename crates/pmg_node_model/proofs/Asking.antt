-- The nodes that wait for a process's next commit are others of the group, and the process is at home.
use Rattle.std.proofs.Common.{◌≡◌, ℕ, Bool, true, false, ◌&&◌, ◌==◌, nat_lt, nat_le, cond, List, [], ◌∷◌, map, Option, Some, None, is_some, refl, sym, ap, subst, ◌∙◌, arith}
use Rattle.std.specs.FinMap as finite
use Rattle.std.specs.FinMap.Entries.{find}
use Rattle.std.specs.FinMap.{nat_cmp-IsAntisymmetric}
use Rattle.std.specs.List.{filter}
use Rattle.std.specs.Option.{unwrap_or}
use Rattle.std.specs.Ordering.{nat_cmp, eq_by_cmp}
use Rattle.std.specs.Cmp.{Equal-is, nat_cmp_total}
use Rattle.std.proofs.lemmas.Bool.{and_parts}
use Rattle.std.proofs.lemmas.Bool.Decides.{nat_tests}
use Rattle.pmg_value.specs.declared.process.Proc.{Proc}
use Rattle.pmg_value.proofs.ProcessOrder.{procs_total, exact_procs}
use Rattle.pmg_frame.specs.declared.frame.Frame.{Frame}
use Rattle.pmg_frame.specs.declared.frame.Frame.TheVariants as frames
use Rattle.pmg_jobinfo.specs.Jobs.{Jobs, home_of}
use Rattle.pmg_fence.specs.Entering.{same_proc}
use Rattle.pmg_dmodex.specs.Levels.{NodeLevels, Levels, levels_of, node_level, with_level, not_below, without_below}
use Rattle.pmg_node_model.specs.Acts.{Request, Act, Reply, is_peer, is_known, is_taken, done_as, holds_unless, receives, serves, does}
use Rattle.pmg_node_model.specs.Holdings.{NodeState, sealer_of, call_of, answer_in}
use Rattle.pmg_node_model.specs.NodeLaws.{HeldAreOwn, HeldStayOwn}
use Rattle.pmg_node_model.proofs.AfterActs.{after_act}
use Rattle.pmg_node_model.proofs.CallEnds.{ends_left, asks_left}

-- the levels are of processes at home at the node, at other nodes of the group
abbrev pub AreOwn : Jobs → ℕ → Levels → Type 0
AreOwn jobs id held = (p : Proc) (node level : ℕ) → node_level held p node ≡ Some level → (home_of jobs p ≡ id) × (is_peer jobs id node ≡ true)

-- ---- levels that are taken out

find_left : (keep : ℕ × ℕ → Bool) (q : ℕ) (es : List (ℕ × ℕ)) → is_some (find nat_cmp q (map (λ e. (e.0, e.1)) (filter keep es))) ≡ true → is_some (find nat_cmp q es) ≡ true
find_left keep q [] e = e
find_left keep q (x ∷ es) e = by_keep (keep x) (eq_by_cmp nat_cmp q x.0) (filter keep es) (find_left keep q es) refl e
  where
    by_keep : (b c : Bool) (rest : List (ℕ × ℕ)) → (is_some (find nat_cmp q (map (λ e. (e.0, e.1)) rest)) ≡ true → is_some (find nat_cmp q es) ≡ true) → eq_by_cmp nat_cmp q x.0 ≡ c
        → is_some (find nat_cmp q (map (λ e. (e.0, e.1)) (cond b (x ∷ rest) rest))) ≡ true → is_some (cond c (Some x.1) (find nat_cmp q es)) ≡ true
    by_keep b true rest less is e = refl
    by_keep true false rest less is e = less (subst (λ t. is_some (cond t (Some x.1) (find nat_cmp q (map (λ e. (e.0, e.1)) rest))) ≡ true) is e)
    by_keep false false rest less is e = less e

left_there : (level : ℕ) (m : NodeLevels) (q : ℕ) → is_some (finite.get (not_below level m) q) ≡ true → is_some (finite.get m q) ≡ true
left_there level m q e =
    ap is_some (finite.get-entries m q)
    ∙ find_left (λ e. nat_le level e.1) q (finite.entries m) (ap is_some (sym (finite.get-from_entries nat_cmp_total (map (λ e. (e.0, e.1)) (filter (λ e. nat_le level e.1) (finite.entries m))) q)) ∙ e)

some_level : (o : Option ℕ) → is_some o ≡ true → (n : ℕ) × (o ≡ Some n)
some_level None e = absurd cc
some_level (Some n) e = (n, refl)

module _ (jobs : Jobs) (id : ℕ) (held : Levels) (p : Proc) where
  levels_inserted : (m : NodeLevels) (q : Proc) → levels_of (finite.insert held p m) q ≡ unwrap_or (cond (same_proc q p) (Some m) (finite.get held q)) finite.empty
  levels_inserted m q = ap (λ (o : Option NodeLevels). unwrap_or o finite.empty) (finite.get-insert procs_total held p m q)

  -- where the levels of one process are replaced by these
  own_by : (m : NodeLevels) → AreOwn jobs id held → ((node level : ℕ) → finite.get m node ≡ Some level → (home_of jobs p ≡ id) × (is_peer jobs id node ≡ true))
      → AreOwn jobs id (finite.insert held p m)
  own_by m own those q node level e = by_test (same_proc q p) refl (sym (ap (λ (x : NodeLevels). finite.get x node) (levels_inserted m q)) ∙ e)
    where
      by_test : (b : Bool) → same_proc q p ≡ b → finite.get (unwrap_or (cond b (Some m) (finite.get held q)) finite.empty) node ≡ Some level → (home_of jobs q ≡ id) × (is_peer jobs id node ≡ true)
      by_test true is found = let its = those node level found in (ap (home_of jobs) (exact_procs q p ((Equal-is _).0 is)) ∙ its.0, its.1)
      by_test false is found = own q node level found

  own_without : (level : ℕ) → AreOwn jobs id held → AreOwn jobs id (without_below held p level)
  own_without level own = by_test (finite.contains_key held p)
    where
      by_test : (b : Bool) → AreOwn jobs id (cond b (finite.insert held p (not_below level (levels_of held p))) held)
      by_test true = own_by (not_below level (levels_of held p)) own (λ node n e.
          let was = some_level (node_level held p node) (left_there level (levels_of held p) node (ap is_some e)) in
          own p node was.0 was.1)
      by_test false = own

  own_with : (node level : ℕ) → home_of jobs p ≡ id → is_peer jobs id node ≡ true → AreOwn jobs id held → AreOwn jobs id (with_level held p node level)
  own_with node level home peer own =
      own_by (finite.insert (levels_of held p) node level) own (λ m n e. by_test m n (eq_by_cmp nat_cmp m node) refl (sym (finite.get-insert nat_cmp_total (levels_of held p) node level m) ∙ e))
    where
      by_test : (m n : ℕ) (b : Bool) → eq_by_cmp nat_cmp m node ≡ b → cond b (Some level) (node_level held p m) ≡ Some n → (home_of jobs p ≡ id) × (is_peer jobs id m ≡ true)
      by_test m n true is e = (home, ap (is_peer jobs id) (nat_cmp-IsAntisymmetric m node ((Equal-is _).0 is)) ∙ peer)
      by_test m n false is e = own p m n e

-- ---- each act

module _ (jobs : Jobs) (id : ℕ) (h : NodeState) (own : HeldAreOwn jobs id h) where
  is_home : (m : ℕ) → (m == id) ≡ true → m ≡ id
  is_home m e = grind (arith, nat_tests)

  -- a request of another node is held
  ask_held : (b : Bool) (from : ℕ) (p : Proc) (level : ℕ) → (is_peer jobs id from && is_known jobs p && (home_of jobs p == id)) ≡ true → HeldAreOwn jobs id (holds_unless b h from p level)
  ask_held true from p level taken = own
  ask_held false from p level taken =
      let parts = and_parts (is_peer jobs id from && is_known jobs p) (home_of jobs p == id) taken in
      own_with jobs id h.held p from _ (is_home (home_of jobs p) parts.1) (and_parts (is_peer jobs id from) (is_known jobs p) parts.0).0 own

  frame_own : (frame : Frame) → is_taken jobs id h.table frame ≡ true → HeldAreOwn jobs id (receives jobs id h frame)
  unfolding receives is_taken
  frame_own (frames.Piece c) taken = own
  frame_own (frames.Header hd) taken = own
  frame_own (frames.FenceAsk a) taken = own
  frame_own (frames.RangeAsk a) taken = own
  frame_own (frames.DirectAsk a) taken = ask_held (nat_lt a.level (sealer_of h a.proc).level) a.node a.proc a.level taken
  frame_own (frames.RefreshAsk a) taken = own
  frame_own (frames.RefreshReply r) taken = own

  deliver_own : (frame : Frame) (b : Bool) → is_taken jobs id h.table frame ≡ b → HeldAreOwn jobs id (cond b (done_as Reply.taken (receives jobs id h frame)) (done_as Reply.ignored h)).left
  deliver_own frame true taken = frame_own frame taken
  deliver_own frame false taken = own

  request_own : (r : Request) → HeldAreOwn jobs id (serves jobs id h r).left
  unfolding serves
  request_own (Request.enter by list collect) = own
  request_own (Request.leave by) = (ends_left h by (HeldAreOwn jobs id) own own (call_of h by)).0
  request_own (Request.ask by get mode) = asks_left h by get mode (HeldAreOwn jobs id) own own (answer_in jobs id h get mode)
  request_own (Request.take by) = (ends_left h by (HeldAreOwn jobs id) own own (call_of h by)).1
  request_own (Request.terminate by) = own_without jobs id h.held by _ own
  request_own (Request.define name list) = own_without jobs id h.held _ _ own
  request_own (Request.delete name) = own_without jobs id h.held _ _ own
  request_own Request.nudge = own

  does_own : (a : Act) → HeldAreOwn jobs id (does jobs id h a).left
  unfolding does
  does_own (Act.request r) = request_own r
  does_own (Act.commit by b) = own_without jobs id h.held by _ own
  does_own (Act.deliver frame) = deliver_own frame (is_taken jobs id h.table frame) refl

pub held_stay_own : HeldStayOwn
held_stay_own jobs id h a own = after_act jobs id h a (HeldAreOwn jobs id) own (λ none. does_own jobs id h own a)
