use Rattle.std.proofs.Common.{◌≡◌, drop}
use Rattle.std.specs.List.{find}
use Rattle.std.specs.Str.{bytes_eq}
use Rattle.pmg_jobinfo.specs.Reserved.{key_name, all_keys}
use Rattle.pmg_jobinfo.proofs.reserved.ReservedKey.of.Given as goal

-- what is looked for is not among the keys so far
abbrev pub invariant-loop-candidate : goal.invariant-loop-candidate
invariant-loop-candidate l = (l.candidate-items ≡ all_keys) × (find (λ key. bytes_eq l.name (key_name key)) all_keys ≡ find (λ key. bytes_eq l.name (key_name key)) (drop l.candidate-index all_keys))
