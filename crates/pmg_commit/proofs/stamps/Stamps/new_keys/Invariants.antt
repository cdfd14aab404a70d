use Rattle.std.proofs.Common.{◌≡◌, ◌≤◌, take}
use Rattle.pmg_commit.specs.Growth.{new_keys}
use Rattle.pmg_commit.proofs.stamps.Stamps.new_keys.Given as goal

abbrev pub invariant-loop-key : goal.invariant-loop-key
invariant-loop-key l = record {
  so_far : l.keys ≡ new_keys l.self (take l.key-index l.puts);
  bound : l.keys ≤ l.key-index;
}
