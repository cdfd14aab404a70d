-- Marks: how they are set, and set back.
use Rattle.std.specs.Prelude.{◌≡◌, ℕ, ◌==◌, true, List, [], ◌∷◌, Option, Some, None, is_some, if◌then◌else◌}
use Rattle.std.specs.FinMap as finite
use Rattle.pmg_value.specs.Lists.{Each}
use Rattle.pmg_dmodex.specs.Levels.{Levels, node_level, with_level}
use Rattle.pmg_value.specs.declared.process.Proc.{Proc}
use Rattle.pmg_pset.specs.Sets.{host}
use Rattle.pmg_frame.specs.declared.frame.Frame.{Frame}
use Rattle.pmg_frame.specs.declared.frame.Frame.TheVariants as frames
use Rattle.pmg_jobinfo.specs.Jobs.{Jobs}
use Rattle.pmg_jobinfo.specs.Procs.{procs_at}
use Rattle.pmg_node_model.specs.Choosing.{peers}
use Rattle.pmg_node_parts.specs.declared.due.MarkUndo.{MarkUndo}

-- the process and the level of the mark that a frame sets, if it sets one
abbrev pub mark_by : Frame → Option (Proc × ℕ)
mark_by (frames.Piece c) = Some (c.proc, c.to)
mark_by (frames.Header hd) = None
mark_by (frames.FenceAsk a) = None
mark_by (frames.RangeAsk a) = None
mark_by (frames.DirectAsk a) = None
mark_by (frames.RefreshAsk a) = None
mark_by (frames.RefreshReply r) = Some (r.told.proc, r.told.to)

-- the marks set back to their earlier levels, the last one first
abbrev pub marks_back : Levels → List MarkUndo → Levels
marks_back marks [] = marks
marks_back marks (b ∷ bs) = with_level (marks_back marks bs) b.proc b.node b.level

-- each of the marks is set
abbrev pub AreSet : Levels → List MarkUndo → Type 0
AreSet marks bs = Each (λ b. is_some (node_level marks b.proc b.node) ≡ true) bs

-- the marks of a process at each of these nodes, at 0
abbrev pub node_zeros : Levels → Proc → List ℕ → Levels
node_zeros marks p [] = marks
node_zeros marks p (n ∷ ns) = node_zeros (with_level marks p n 0) p ns

-- the marks with 0 for each of these processes at each of these nodes
abbrev pub zeros : Levels → List Proc → List ℕ → Levels
zeros marks [] nodes = marks
zeros marks (p ∷ ps) nodes = zeros (node_zeros marks p nodes) ps nodes

-- the processes whose commits a node may send: its own processes, and at node 0 the process that represents the group's host
abbrev pub senders : Jobs → ℕ → List Proc
senders jobs id = if id == 0 then host ∷ procs_at jobs id else procs_at jobs id

-- a new node's marks: it sent nothing to any node
abbrev pub new_marks : Jobs → ℕ → Levels
new_marks jobs id = zeros finite.empty (senders jobs id) (peers jobs id)
