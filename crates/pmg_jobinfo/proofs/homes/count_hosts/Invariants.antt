use Rattle.std.proofs.Common.{◌≡◌, ◌≤◌}
use Rattle.pmg_jobinfo.specs.Reserved.{count_hosts}
use Rattle.pmg_jobinfo.proofs.homes.count_hosts.Given as goal

-- the count so far is that of the nodes so far
abbrev pub invariant-loop-node : goal.invariant-loop-node
invariant-loop-node l = (l.count ≡ count_hosts l.node l.homes) × (l.count ≤ l.node)
