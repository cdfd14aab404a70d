-- The meaning of moves and sayings of the code.
use Rattle.std.specs.Prelude.{List, [], ◌∷◌, map, if◌then◌else◌}
use Rattle.pmg_value.specs.Spelling.{spelling}
use Rattle.pmg_value.specs.declared.process.Proc.{Proc}
use Rattle.pmg_fence.specs.Entering.{same_proc}
use Rattle.pmg_node.specs.Acting.{act_of, reply_as}
use Rattle.pmg_node.specs.Servers.{reply_in}
use Rattle.pmg_audit.specs.Dues.{Due, made_due, due_put}
use Rattle.pmg_audit.specs.Moves.{Move, Put}
use Rattle.pmg_audit.specs.declared.moves.Due.{Due as KeptDue}
use Rattle.pmg_audit.specs.declared.moves.Lane.{Lane}
use Rattle.pmg_audit.specs.declared.moves.Move.{Move as KeptMove}
use Rattle.pmg_audit.specs.declared.moves.Put.{Put as KeptPut}
use Rattle.pmg_audit.specs.declared.moves.Saying.{Saying}

-- the meaning of the code's put
abbrev pub audited_put : KeptPut → Put
audited_put x = due_put x.scope x.key (spelling x.value)

-- the meaning of the code's claimed event
abbrev pub audited_due : KeptDue → Due
audited_due d = made_due (map audited_put d.puts.items) (act_of d.act) (reply_in reply_as d.answer)

-- the meaning of the code's move
abbrev pub move_in : KeptMove → Move
move_in m = record { puts = map audited_put m.puts.items; act = act_of m.event.act; reply = reply_in reply_as m.event.answer; frames = m.frames.items }

-- the moves of a node
abbrev pub lane_of : Lane → List Move
lane_of l = map move_in l.moves.items

-- the moves of all nodes
abbrev pub all_of : List Lane → List (List Move)
all_of lanes = map lane_of lanes

-- the claimed events of the process that no journal has matched yet
abbrev pub rest_of : List Saying → Proc → List Due
rest_of [] p = []
rest_of (s ∷ ss) p = if same_proc p s.proc then map audited_due s.dues.items else rest_of ss p
