-- The stores of a node after a join of pieces.
use Rattle.std.specs.Option.{option_map}
use Rattle.pmg_commit.specs.Data.{Data}
use Rattle.pmg_node_model.specs.Holdings.{joined}
use Rattle.pmg_node_parts.specs.declared.ahead.BoardPreview.{BoardPreview}

-- for reads from the node itself
abbrev pub near_ahead : BoardPreview → Data
near_ahead a = joined a.board.now.near (option_map (λ c. c.now) a.near)

-- for reads from other nodes
abbrev pub far_ahead : BoardPreview → Data
far_ahead a = joined a.board.now.far (option_map (λ c. c.now) a.far)
