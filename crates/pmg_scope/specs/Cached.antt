-- The content of a client's cache.
use Rattle.std.specs.Prelude.{◌≡◌, Bool, false, ◌&&◌, ◌||◌, not, ℕ, ◌+◌, nat_le, List, length, if◌then◌else◌, refl}
use Rattle.std.specs.Coded.{Coded, code_by, coded×, coded_list, coded_ℕ}
use Rattle.std.specs.FinMap as map
use Rattle.std.specs.List.{sum_by}
use Rattle.std.specs.Ordering.{nat_cmp}
use Rattle.std.specs.Cmp.Lexicographic.{slice_cmp}
use Rattle.pmg_value.specs.Names.{is_reserved}
use Rattle.pmg_value.specs.declared.refusal.Refusal.{Refusal}
use Rattle.pmg_value.specs.declared.refusal.Refusal.TheVariants as refusals
use Rattle.pmg_scope.specs.declared.scope.Scope.{Scope}
use Rattle.pmg_scope.specs.declared.scope.Scope.TheVariants as scopes
use Rattle.pmg_scope.specs.declared.scope.Reach.{Reach}
use Rattle.pmg_scope.specs.declared.scope.Reach.TheVariants as reach
use Rattle.pmg_scope.specs.Scopes.{reaches}
use Rattle.pmg_scope.specs.Scripts.{Script, last_put}
use Rattle.pmg_scope.specs.Sealing.{next_part}
use Rattle.pmg_scope.specs.declared.sizes.TheConstants.{MAX_CACHE_SIZE, MAX_KEYS}

-- values by their keys, in canonical bytes
abbrev pub Table : Type 0
Table = map.FinMap (slice_cmp nat_cmp) (List ℕ)

-- the code of a table
abbrev pub coded_table : Coded Table
coded_table = map.code (coded_list coded_ℕ) (coded_list coded_ℕ)

-- the size of a key and its value: their bytes, and ten more
abbrev pub row_size : List ℕ × List ℕ → ℕ
row_size e = 10 + length e.0 + length e.1

-- the size of a table
abbrev pub table_size : Table → ℕ
table_size m = sum_by row_size (map.entries m)

-- a table within the limits: at most 65,535 keys, and a size of at most 16,000,000 bytes
abbrev pub is_within : Table → Bool
is_within m = nat_le (map.len m) MAX_KEYS && nat_le (table_size m) MAX_CACHE_SIZE

-- under each key the last put that the process itself sees, and for each other reach the last put that no commit sealed
pub record Cached : Type 0 where
  pub own : Table
  pub near : Table
  pub far : Table

-- a cache as a tuple
abbrev pub coded_cached : Coded Cached
coded_cached =
    code_by (Table × (Table × Table)) (coded× coded_table (coded× coded_table coded_table)) (λ c. (c.own, (c.near, c.far))) (λ p. record { own = p.0; near = p.1.0; far = p.1.1 })
    (λ _. refl)

-- a cache within the limits, which hold for each reach by itself
abbrev pub is_cache : Cached → Bool
is_cache c = is_within c.own && is_within c.near && is_within c.far

-- the unsealed puts: under each key the last put for each reach except the process's own
pub record Unsealed : Type 0 where
  pub near : Table
  pub far : Table

-- the unsealed puts, as a pair
abbrev pub coded_unsealed : Coded Unsealed
coded_unsealed = code_by (Table × Table) (coded× coded_table coded_table) (λ c. (c.near, c.far)) (λ p. record { near = p.0; far = p.1 }) (λ _. refl)

-- the unsealed puts of a cache
abbrev pub unsealed_of : Cached → Unsealed
unsealed_of c = record { near = c.near; far = c.far }

-- an empty cache
abbrev pub no_puts : Cached
no_puts = record { own = map.empty; near = map.empty; far = map.empty }

-- the table with the value under the key, where the put is seen
abbrev pub put_if : Bool → Table → List ℕ → List ℕ → Table
put_if seen m key value = if seen then map.insert m key value else m

-- the cache after a put
abbrev pub with_put : Cached → Scope → List ℕ → List ℕ → Cached
with_put c scope key value = record {
  own = put_if (reaches scope reach.Own) c.own key value;
  near = put_if (reaches scope reach.Near) c.near key value;
  far = put_if (reaches scope reach.Far) c.far key value;
}

-- the batch of a process whose only unsealed put is this value, with PMIX_GLOBAL: the value for each other reach
abbrev pub global_put : List ℕ → List ℕ → Unsealed
global_put key value = unsealed_of (with_put no_puts scopes.Global key value)

-- the cache after a commit, which seals all of it
abbrev pub after_commit : Cached → Cached
after_commit c = record { own = c.own; near = map.empty; far = map.empty }

-- the causes to refuse a put: it has no scope, or its key is reserved; the cache would pass a limit
abbrev pub put_cause : Cached → Scope → List ℕ → List ℕ → Refusal → Bool
put_cause c scope key value refusals.BadParam = not (reaches scope reach.Own) || is_reserved key
put_cause c scope key value refusals.TooMany = not (is_cache (with_put c scope key value))
put_cause c scope key value _ = false

-- the cache's table for a reach
abbrev pub kept : Cached → Reach → Table
kept c reach.Own = c.own
kept c reach.Near = c.near
kept c reach.Far = c.far

-- the calls of a script whose puts the cache keeps for a reach
abbrev pub calls_for : Reach → Script → Script
calls_for reach.Own s = s
calls_for reach.Near s = next_part s
calls_for reach.Far s = next_part s

-- The cache fits the script: for each reach it has under each key the last put.
abbrev pub FitsCache : Cached → Script → Type 0
FitsCache c s = (r : Reach) (key : List ℕ) → map.get (kept c r) key ≡ last_put r key (calls_for r s)
