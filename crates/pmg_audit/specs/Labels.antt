-- The labels under which sent frames are found.
use Rattle.std.specs.Prelude.{ℕ, List, [], ◌∷◌}
use Rattle.std.specs.Ordering.{nat_cmp, ordering_then}
use Rattle.std.specs.declared.cmp.Ordering.{Ordering}
use Rattle.pmg_value.specs.Signatures.{FenceName}
use Rattle.pmg_value.specs.declared.process.Proc.{Proc}
use Rattle.pmg_frame.specs.Fences.{participants_of}
use Rattle.pmg_frame.specs.declared.frame.Frame.{Frame}
use Rattle.pmg_frame.specs.declared.frame.Frame.TheVariants as frames
use Rattle.pmg_audit.specs.declared.labels.Label.{Label}

-- the rank of the first of the processes
abbrev pub first_rank : List Proc → ℕ
first_rank [] = 0
first_rank (p ∷ ps) = p.rank

-- the label of a frame of that kind about the process's commits
abbrev pub about_commits : ℕ → ℕ → ℕ → Proc → ℕ → Label
about_commits to kind number p other = record { number = number; of = p.rank; other = other; to = to; kind = kind }

-- the label of a frame of that kind in which the node answers or asks about the fence
abbrev pub about_fence : ℕ → ℕ → ℕ → FenceName → Label
about_fence to kind node f = record { number = f.instance; of = node; other = first_rank (participants_of f); to = to; kind = kind }

-- The label of a frame that goes to that node: the node, the frame's kind, and three numbers in the frame.
abbrev pub label_of : ℕ → Frame → Label
label_of to (frames.Piece c) = about_commits to 1 c.to c.proc c.from
label_of to (frames.Header h) = about_fence to 2 h.node h.name
label_of to (frames.FenceAsk a) = about_fence to 3 a.node a.name
label_of to (frames.RangeAsk a) = about_commits to 4 a.level a.proc a.node
label_of to (frames.DirectAsk a) = about_commits to 5 a.level a.proc a.node
label_of to (frames.RefreshAsk a) = about_commits to 6 a.request a.ask.proc a.ask.node
label_of to (frames.RefreshReply r) = about_commits to 7 r.request r.told.proc r.told.to

-- the order of labels, field by field
abbrev pub label_cmp : Label → Label → Ordering
label_cmp a b =
    ordering_then (nat_cmp a.number b.number)
    (ordering_then (nat_cmp a.of b.of) (ordering_then (nat_cmp a.other b.other) (ordering_then (nat_cmp a.to b.to) (nat_cmp a.kind b.kind))))
