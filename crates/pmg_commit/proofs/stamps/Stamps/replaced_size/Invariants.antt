use Rattle.std.proofs.Common.{◌≡◌, ◌≤◌, ◌*◌, take}
use Rattle.pmg_commit.specs.Growth.{replaced_size}
use Rattle.pmg_commit.proofs.stamps.Stamps.replaced_size.Given as goal

abbrev pub invariant-loop-key : goal.invariant-loop-key
invariant-loop-key l = record {
  so_far : l.size ≡ replaced_size l.self (take l.key-index l.puts);
  bound : l.size ≤ 1049097 * l.key-index;
}
