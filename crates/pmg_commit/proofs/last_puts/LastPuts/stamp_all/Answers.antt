use Rattle.std.proofs.Common.{refl}
use Rattle.pmg_commit.proofs.StampLemmas.{stamped-rising}
use Rattle.pmg_commit.proofs.last_puts.LastPuts.stamp_all.Goals as goal

pub loop-key-init : goal.loop-key-init
loop-key-init c = record {
  so_far = stamped-rising c.args.number c.args.puts.now c.args.self.now c.requires;
  back = refl;
}
