-- The frames for a node, by the lines of a header and the commits of processes.
use Rattle.std.specs.Prelude.{ℕ, nat_lt, List, [], ◌∷◌, map, if◌then◌else◌}
use Rattle.std.specs.List.{flat_map}
use Rattle.pmg_value.specs.declared.process.Proc.{Proc}
use Rattle.pmg_scope.specs.declared.scope.Reach.TheVariants as reach
use Rattle.pmg_commit.specs.Sealed.{Sealed, piece_at}
use Rattle.pmg_frame.specs.Fences.{Header}
use Rattle.pmg_frame.specs.declared.frame.Frame.TheVariants as frames
use Rattle.pmg_frame.specs.declared.local.Local.{Local}
use Rattle.pmg_jobinfo.specs.Jobs.{Jobs}
use Rattle.pmg_dmodex.specs.Levels.{Levels, levels_of, below}
use Rattle.pmg_node_model.specs.Choosing.{peers, peers_in}
use Rattle.pmg_node_model.specs.Sending.{sent}
use Rattle.pmg_node_model.specs.declared.due.ToSend.{ToSend}
use Rattle.pmg_node_model.specs.declared.due.ToSend.TheVariants as sendings

-- the commits of the processes that a header lists
abbrev pub pieces_by : ℕ → List Local → List ToSend
pieces_by node locals = map (λ l. sendings.Rest node l.proc) locals

-- the header, and, if the fence collects data, these commits
abbrev pub telling_by : Header → ℕ → List ToSend
telling_by hd node = sendings.Whole (sent node (frames.Header hd)) ∷ (if hd.name.signature.collect then pieces_by node hd.locals else [])

-- the header for each other node of the fence, and, if data is collected, the commits of the listed processes
abbrev pub announcing_by : Jobs → ℕ → Header → List ToSend
announcing_by jobs id hd = flat_map (telling_by hd) (peers_in jobs id hd.name)

-- a piece of the process's commits above a number, for the node
abbrev pub piece_by : (Proc → Sealed) → Proc → ℕ → ℕ → ToSend
piece_by sealer p node from = sendings.Whole (sent node (frames.Piece (piece_at (sealer p) from reach.Far)))

-- one piece of all the process's commits, for each other node
abbrev pub spread_by : Jobs → ℕ → (Proc → Sealed) → Proc → List ToSend
spread_by jobs id sealer p = map (λ m. piece_by sealer p m 0) (peers jobs id)

-- a piece of the commits above the level, if there are any
abbrev pub answering_by : (Proc → Sealed) → ℕ → Proc → ℕ → List ToSend
answering_by sealer node p level = if nat_lt level (sealer p).level then piece_by sealer p node level ∷ [] else []

-- the pieces after each node's known level, for the nodes that wait for the process's next commit
abbrev pub settling_by : (Proc → Sealed) → Levels → Proc → List ToSend
settling_by sealer held p = map (λ e. piece_by sealer p e.0 e.1) (below (sealer p).level (levels_of held p))
