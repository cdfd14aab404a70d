use Rattle.std.proofs.Common.{◌≡◌, ◌++◌, drop}
use Rattle.std.specs.List.{flat_map, list_all}
use Rattle.pmg_value.specs.Names.{is_nspace}
use Rattle.pmg_wire.specs.Spelling.{proc_spelling}
use Rattle.pmg_frame.proofs.writing.put_procs.Given as goal

-- those so far, and those that are left, are all of them
abbrev pub invariant-loop-process : goal.invariant-loop-process
invariant-loop-process l = record {
  bytes : l.out.items ++ flat_map proc_spelling (drop l.process-index l.procs) ≡ l.fn.out.items ++ flat_map proc_spelling l.procs;
  names : list_all (λ p. is_nspace p.nspace) (drop l.process-index l.procs) ≡ list_all (λ p. is_nspace p.nspace) l.procs;
}
