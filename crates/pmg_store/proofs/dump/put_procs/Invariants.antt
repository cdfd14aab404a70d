use Rattle.std.proofs.Common.{◌≡◌}
use Rattle.std.specs.Prelude.{Some}
use Rattle.std.specs.List.{flat_map, AllByRecursion}
use Rattle.std.specs.BTreeMap.{get}
use Rattle.pmg_value.specs.Process.{proc_cmp}
use Rattle.pmg_store.specs.Tables.{place_text}
use Rattle.pmg_value.proofs.WrittenParts.{WrittenSoFar}
use Rattle.pmg_store.proofs.dump.put_procs.Given as goal

-- the lines so far were written, and those of the places that are left make them all
abbrev pub invariant-loop-proc : goal.invariant-loop-proc
invariant-loop-proc g l = record {
  lines : WrittenSoFar (g.W.Write.contents l.fn.writer.writer) (g.W.Write.contents l.writer.writer) (flat_map place_text l.proc-iterator) (flat_map place_text l.places.entries);
  found : AllByRecursion (λ e. get proc_cmp l.places e.0 ≡ Some e.1) l.proc-iterator;
}
