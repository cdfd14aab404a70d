-- A mark that is there stays, and a new node has those that it needs.
use Rattle.std.proofs.Common.{◌≡◌, ◌<◌, ℕ, ◌+◌, Bool, true, false, ◌==◌, not, nat_lt, cond, List, [], ◌∷◌, length, Option, Some, None, is_some, inl, inr, subst, arith}
use Rattle.std.proofs.lemmas.Bool.{and_parts}
use Rattle.std.proofs.lemmas.Bool.Decides.{nat_tests}
use Rattle.std.specs.FinMap as finite
use Rattle.pmg_value.specs.Lists.{In}
use Rattle.pmg_value.specs.declared.process.Proc.{Proc}
use Rattle.pmg_value.proofs.MadeLists.{range_in}
use Rattle.pmg_commit.specs.Sealed.{Sealed}
use Rattle.pmg_frame.specs.Fences.{CommitAsk}
use Rattle.pmg_frame.specs.declared.frame.Frame.{Frame}
use Rattle.pmg_frame.specs.declared.frame.Frame.TheVariants as frames
use Rattle.pmg_jobinfo.specs.Expansion.{ranks}
use Rattle.pmg_jobinfo.specs.Jobs.{Jobs, is_node}
use Rattle.pmg_fence.proofs.HeaderLemmas.{in_filter}
use Rattle.pmg_dmodex.specs.Levels.{Levels, node_level, with_level}
use Rattle.pmg_node_model.specs.Acts.{Act, acts, is_peer}
use Rattle.pmg_node_model.specs.Choosing.{Out, asked_marks, chosen, due_by, frame_for, marked_by, marked_by_act, marked_if, named_by, peers, sends, with_mark}
use Rattle.pmg_node_model.specs.Holdings.{NodeState, sealer_of}
use Rattle.pmg_node_model.specs.Sending.{is_quiet}
use Rattle.pmg_node_model.specs.declared.due.ToSend.{ToSend}
use Rattle.pmg_node_model.specs.declared.sent.Sent.{Sent}
use Rattle.pmg_node_parts.specs.Marking.{new_marks, node_zeros, senders, zeros}
use Rattle.pmg_node_parts.proofs.MarkLemmas.{set_stays, set_there}
use Rattle.pmg_node.specs.Servers.{HasMarks}

-- ---- a mark that is there stays

module _ (p : Proc) (node : ℕ) where
  abbrev IsThere : Levels → Type 0
  IsThere marks = is_some (node_level marks p node) ≡ true

  mark_with : (marks : Levels) (q : Proc) (to level : ℕ) → IsThere marks → IsThere (with_mark marks q to level)
  mark_with marks q to level there = by_test (is_some (node_level marks q to))
    where
      by_test : (b : Bool) → IsThere (cond b (with_level marks q to level) marks)
      by_test true = set_stays marks q to level p node there
      by_test false = there

  mark_by : (marks : Levels) (to : ℕ) (frame : Frame) → IsThere marks → IsThere (marked_by marks to frame)
  mark_by marks to (frames.Piece c) there = mark_with marks c.proc to c.to there
  mark_by marks to (frames.Header hd) there = there
  mark_by marks to (frames.FenceAsk a) there = there
  mark_by marks to (frames.RangeAsk a) there = there
  mark_by marks to (frames.DirectAsk a) there = there
  mark_by marks to (frames.RefreshAsk a) there = there
  mark_by marks to (frames.RefreshReply r) there = mark_with marks r.told.proc to r.told.to there

  mark_if : (marks : Levels) (o : Option Sent) → IsThere marks → IsThere (marked_if marks o)
  mark_if marks None there = there
  mark_if marks (Some s) there = mark_by marks s.to s.frame there

  mark_sent : (sealer : Proc → Sealed) (marks : Levels) (ds : List ToSend) → IsThere marks → IsThere (sends sealer marks ds).marks
  unfolding sends
  mark_sent sealer marks [] there = there
  mark_sent sealer marks (d ∷ ds) there = mark_sent sealer (marked_if marks (frame_for sealer marks d)) ds (mark_if marks (frame_for sealer marks d) there)

  mark_asked : (marks : Levels) (o : Option CommitAsk) → IsThere marks → IsThere (asked_marks marks o)
  mark_asked marks None there = there
  mark_asked marks (Some a) there = mark_with marks a.proc a.node a.level there

  pub mark_stays : (jobs : Jobs) (id : ℕ) (h : NodeState) (marks : Levels) (a : Act) → IsThere marks → IsThere (chosen jobs id h marks a).marks
  unfolding chosen marked_by_act
  mark_stays jobs id h marks a there = by_test (is_quiet (acts jobs id h a).reply)
    where
      out : Out
      out = sends (sealer_of (acts jobs id h a).left) (asked_marks marks (named_by a)) (due_by jobs id h a (acts jobs id h a).left)

      by_test : (b : Bool) → IsThere (cond b (record { frames = []; marks = marks }) out).marks
      by_test true = there
      by_test false =
          mark_sent (sealer_of (acts jobs id h a).left) (asked_marks marks (named_by a)) (due_by jobs id h a (acts jobs id h a).left) (mark_asked marks (named_by a) there)

  -- ---- marks of a new node

  node_zeros_keep : (marks : Levels) (q : Proc) (ns : List ℕ) → IsThere marks → IsThere (node_zeros marks q ns)
  node_zeros_keep marks q [] there = there
  node_zeros_keep marks q (n ∷ ns) there = node_zeros_keep (with_level marks q n 0) q ns (set_stays marks q n 0 p node there)

  zeros_keep : (marks : Levels) (ps : List Proc) (nodes : List ℕ) → IsThere marks → IsThere (zeros marks ps nodes)
  zeros_keep marks [] nodes there = there
  zeros_keep marks (q ∷ ps) nodes there = zeros_keep (node_zeros marks q nodes) ps nodes (node_zeros_keep marks q nodes there)

  node_zeros_have : (marks : Levels) (ns : List ℕ) → In node ns → IsThere (node_zeros marks p ns)
  node_zeros_have marks [] i = absurd i
  node_zeros_have marks (n ∷ ns) (inl is) =
      node_zeros_keep (with_level marks p n 0) p ns (subst (λ k. is_some (node_level (with_level marks p k 0) p node) ≡ true) is (set_there marks p node 0))
  node_zeros_have marks (n ∷ ns) (inr i) = node_zeros_have (with_level marks p n 0) ns i

  zeros_have : (marks : Levels) (ps : List Proc) (nodes : List ℕ) → In p ps → In node nodes → IsThere (zeros marks ps nodes)
  zeros_have marks [] nodes i j = absurd i
  zeros_have marks (q ∷ ps) nodes (inl is) j =
      zeros_keep (node_zeros marks q nodes) ps nodes (subst (λ x. IsThere (node_zeros marks x nodes)) is (node_zeros_have marks nodes j))
  zeros_have marks (q ∷ ps) nodes (inr i) j = zeros_have (node_zeros marks q nodes) ps nodes i j

below : (m n : ℕ) → nat_lt m n ≡ true → m < 0 + n
below m n e = let less : m < n = grind (arith, nat_tests) in omega (arith, less)

-- each other node is listed
peer_listed : (jobs : Jobs) (id node : ℕ) → is_peer jobs id node ≡ true → In node (peers jobs id)
peer_listed jobs id node peer =
    let parts = and_parts (is_node jobs node) (not (node == id)) peer in
    in_filter (λ m. not (m == id)) (ranks (length jobs.nodes)) node (range_in 0 (length jobs.nodes) node (omega arith) (below node (length jobs.nodes) parts.0)) parts.1

pub new_has_marks : (jobs : Jobs) (id : ℕ) → HasMarks jobs id (new_marks jobs id)
new_has_marks jobs id p node i peer = zeros_have p node finite.empty (senders jobs id) (peers jobs id) i (peer_listed jobs id node peer)
