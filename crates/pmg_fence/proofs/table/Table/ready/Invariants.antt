use Rattle.std.proofs.Common.{◌≡◌, ◌≤◌, ℕ, take, length, true}
use Rattle.std.specs.Fn.{FnReturnsAt}
use Rattle.std.specs.List.{list_all}
use Rattle.std.specs.Option.{option_map}
use Rattle.pmg_value.specs.declared.process.Proc.{Proc}
use Rattle.pmg_fence.specs.Kept.{known_fence}
use Rattle.pmg_fence.proofs.ReadLemmas.{covers}
use Rattle.pmg_fence.proofs.table.Table.ready.Given as goal

abbrev pub invariant-loop-left : goal.invariant-loop-left
invariant-loop-left g l = record {
  all : (level : Proc → ℕ) → ((p : Proc) (n : ℕ) → FnReturnsAt g.L.Fn l.levels p n → n ≡ level p)
      → list_all (covers l.self (known_fence (option_map (λ f. f.now) l.fence)) l.name.signature.collect level true) l.procs
      ≡ list_all (covers l.self (known_fence (option_map (λ f. f.now) l.fence)) l.name.signature.collect level true) (take l.left l.procs);
  within : l.left ≤ length l.procs;
}

abbrev pub decreases-loop-left : goal.decreases-loop-left
decreases-loop-left g l = l.left
