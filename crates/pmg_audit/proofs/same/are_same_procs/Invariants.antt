use Rattle.std.proofs.Common.{◌≡◌, drop}
use Rattle.pmg_audit.specs.Sameness.{are_same_procs}
use Rattle.pmg_audit.proofs.same.are_same_procs.Given as goal

-- all of them are the same where those that are left are
abbrev pub invariant-loop-i : goal.invariant-loop-i
invariant-loop-i l = are_same_procs (drop l.i l.procs) (drop l.i l.others) ≡ are_same_procs l.procs l.others
