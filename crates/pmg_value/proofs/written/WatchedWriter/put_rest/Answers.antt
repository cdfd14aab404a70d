use Rattle.std.proofs.Common.{arith, length-take, length-drop, refl}
use Rattle.pmg_value.proofs.WrittenLemmas.{appends_taken}
use Rattle.pmg_value.proofs.written.WatchedWriter.put_rest.Goals as goal

pub loop-preserved : goal.loop-preserved
loop-preserved g c = record {
  within = let taken = simp (length-take, length-drop) at c.in_ok-done.ensures.bound in omega arith;
  written = appends_taken _ _ _ _ _ _ _ refl c.in_ok-done.ensures.bytes c.loop.invariant.written;
  going = rw c.in_ok-done.ensures.ok c.loop.invariant.going;
}
