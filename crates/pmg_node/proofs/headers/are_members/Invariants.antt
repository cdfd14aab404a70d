use Rattle.std.proofs.Common.{◌≡◌, drop}
use Rattle.std.specs.List.{list_all}
use Rattle.pmg_jobinfo.specs.Jobs.{is_member}
use Rattle.pmg_node.proofs.headers.are_members.Given as goal

abbrev pub invariant-loop-proc : goal.invariant-loop-proc
invariant-loop-proc l = list_all (is_member l.registry) l.proc-items ≡ list_all (is_member l.registry) (drop l.proc-index l.proc-items)
