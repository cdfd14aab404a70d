-- The repeated requests of a node.
use Rattle.std.specs.Prelude.{ℕ, List, Option, Some, None}
use Rattle.pmg_value.specs.declared.process.Proc.{Proc}
use Rattle.pmg_jobinfo.specs.Jobs.{Jobs}
use Rattle.pmg_node_model.specs.Choosing.{asking_home, asking_anew}
use Rattle.pmg_node_model.specs.Holdings.{NodeState}
use Rattle.pmg_node_model.specs.declared.due.ToSend.{ToSend}

-- the request for a get that waits for a key of the process, to its home; anew, if the get's request has a number
abbrev pub asking_as : Jobs → ℕ → NodeState → Proc × Option ℕ → List ToSend
asking_as jobs id h (q, None) = asking_home jobs id h q
asking_as jobs id h (q, Some number) = asking_anew jobs id h q number
