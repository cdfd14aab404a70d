-- The growth of stamps when a commit seals puts.
use Rattle.std.specs.Prelude.{ℕ, not, List, length, count_by}
use Rattle.std.specs.FinMap as finite
use Rattle.std.specs.List.{sum_by}
use Rattle.pmg_value.specs.Spelling.{spelling}
use Rattle.pmg_value.specs.declared.value.Value.{Value}
use Rattle.pmg_scope.specs.Cached.{row_size}
use Rattle.pmg_scope.specs.Rows.{counted_by}
use Rattle.pmg_commit.specs.Sealed.{Stamps}

-- the size of the put that was sealed last under the key, 0 without one
abbrev pub sealed_counted_at : Stamps → List ℕ → ℕ
sealed_counted_at m key = counted_by (λ s. length s.bytes) key (finite.get m key)

-- the number of the puts whose key has no sealed put
abbrev pub new_keys : Stamps → List (List ℕ × Value) → ℕ
new_keys m puts = count_by (λ e. not (finite.contains_key m e.0)) puts

-- the size of the puts that were sealed last under the keys of these puts, which replace them
abbrev pub replaced_size : Stamps → List (List ℕ × Value) → ℕ
replaced_size m puts = sum_by (λ e. sealed_counted_at m e.0) puts

-- the size of the puts
abbrev pub puts_size : List (List ℕ × Value) → ℕ
puts_size puts = sum_by (λ e. row_size (e.0, spelling e.1)) puts
