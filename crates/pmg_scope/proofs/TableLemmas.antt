-- Tables in memory: puts taken back.
use Rattle.std.proofs.Common.{◌≡◌, List, ℕ, Option}
use Rattle.std.specs.FinMap as finite
use Rattle.std.specs.Option.{option_map}
use Rattle.std.specs.Cmp.Lexicographic.{nat_list_cmp_total}
use Rattle.std.proofs.lemmas.Map.Lookups.{exact_bytes}
use Rattle.pmg_value.specs.declared.value.Value.{Value}
use Rattle.pmg_value.specs.Spelling.{spelling}
use Rattle.pmg_value.proofs.RowLemmas.{inserted_back}
use Rattle.pmg_scope.specs.declared.table.Before.TheVariants as before
use Rattle.pmg_scope.specs.Cached.{Table}
use Rattle.pmg_scope.specs.Rows.{restored}

pub put_restored : (m : Table) (k v : List ℕ) (found : Option Value) → option_map spelling found ≡ finite.get m k → restored (finite.insert m k v) k (before.Seen found) ≡ m
put_restored m k v found e = inserted_back nat_list_cmp_total exact_bytes m k v (option_map spelling found) e
