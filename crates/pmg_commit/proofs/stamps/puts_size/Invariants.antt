use Rattle.std.proofs.Common.{◌≡◌, ◌≤◌, ◌*◌, take}
use Rattle.pmg_commit.specs.Growth.{puts_size}
use Rattle.pmg_commit.proofs.stamps.puts_size.Given as goal

abbrev pub invariant-loop-key : goal.invariant-loop-key
invariant-loop-key l = record {
  so_far : l.size ≡ puts_size (take l.key-index l.puts);
  bound : l.size ≤ 1049097 * l.key-index;
}
