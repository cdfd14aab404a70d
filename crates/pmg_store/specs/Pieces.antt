-- The sum of a list of pieces.
use Rattle.std.specs.Prelude.{Bool, List, [], ◌∷◌, map, if◌then◌else◌}
use Rattle.std.specs.Ordering.{eq_by_cmp}
use Rattle.std.specs.FinMap as finite
use Rattle.pmg_value.specs.declared.process.Proc.{Proc}
use Rattle.pmg_value.specs.Process.{proc_cmp}
use Rattle.pmg_join.specs.Joins.{join_all}
use Rattle.pmg_commit.specs.Knowledge.{Contribution, Knowledge, nothing, union, knowledge_of}
use Rattle.pmg_commit.specs.Data.{Data, join_data, of_contribution}

-- the data of the pieces, joined one after the other
abbrev pub data_of : List Contribution → Data
data_of pieces = join_all join_data finite.empty (map of_contribution pieces)

-- the piece is of the process
abbrev pub is_of : Proc → Contribution → Bool
is_of p c = eq_by_cmp proc_cmp p c.proc

-- the piece's knowledge of the process: nothing if the piece is of another process
abbrev pub piece_knowledge : Proc → Contribution → Knowledge
piece_knowledge p c = if is_of p c then knowledge_of c else nothing

-- the union of the pieces' knowledge of the process
abbrev pub pieces_told : Proc → List Contribution → Knowledge
pieces_told p [] = nothing
pieces_told p (c ∷ cs) = union (piece_knowledge p c) (pieces_told p cs)
