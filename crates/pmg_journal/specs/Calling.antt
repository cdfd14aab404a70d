-- The caller of an act, and whether it may call.
use Rattle.std.specs.Prelude.{Bool, true, false, Option, Some, None, is_ok}
use Rattle.pmg_value.specs.CheckOrder.{first_of}
use Rattle.pmg_value.specs.declared.process.Proc.{Proc}
use Rattle.pmg_fence.specs.Entering.{same_proc}
use Rattle.pmg_node_model.specs.Acts.{Act, Request, free_cause}
use Rattle.pmg_node.specs.Servers.{Server}

-- the process that makes the request; nobody makes a change of sets or a nudge
abbrev pub caller_in : Request → Option Proc
caller_in (Request.enter p list collect) = Some p
caller_in (Request.leave p) = Some p
caller_in (Request.ask p get mode) = Some p
caller_in (Request.take p) = Some p
caller_in (Request.terminate p) = Some p
caller_in (Request.define name list) = None
caller_in (Request.delete name) = None
caller_in Request.nudge = None

-- the process that calls; nobody calls to deliver a frame, to change sets, or to ask others again
abbrev pub caller_of : Act → Option Proc
caller_of (Act.request r) = caller_in r
caller_of (Act.commit p b) = Some p
caller_of (Act.deliver frame) = None

-- whether the process may call at the server: it is in no call there, and has not ended
abbrev pub may_call : Server → Proc → Bool
may_call s p = is_ok (first_of (free_cause s.jobs s.id s.holding p) (tt {0}))

-- whether the caller may call, if there is one
abbrev pub free_at : Server → Option Proc → Bool
free_at s None = true
free_at s (Some p) = may_call s p

-- the process is the caller
abbrev pub is_caller : Proc → Option Proc → Bool
is_caller p None = false
is_caller p (Some q) = same_proc p q

-- whether the process calls
abbrev pub is_by : Proc → Act → Bool
is_by p a = is_caller p (caller_of a)
