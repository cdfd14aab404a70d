use Rattle.std.proofs.Common.{◌≡◌, ◌++◌, codes, take}
use Rattle.std.specs.List.{flat_map}
use Rattle.pmg_world.specs.ReplyLines.{proc_text}
use Rattle.pmg_world.proofs.reply_lines.push_others.Given as goal

-- the processes so far
abbrev pub invariant-loop-proc : goal.invariant-loop-proc
invariant-loop-proc l = l.text.items ≡ l.fn.text.items ++ flat_map (λ p. codes "," ++ proc_text p) (take l.proc-index l.procs)
