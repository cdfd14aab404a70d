-- What tables count for.
use Rattle.std.proofs.Common.{◌≡◌, ℕ, ◌+◌, true, ◌&&◌, nat_le, List}
use Rattle.std.specs.FinMap as finite
use Rattle.std.specs.Ordering.{nat_cmp}
use Rattle.std.specs.Cmp.Lexicographic.{slice_cmp}
use Rattle.std.proofs.lemmas.Bool.{and_parts}
use Rattle.std.proofs.Common.{length}
use Rattle.pmg_scope.specs.Cached.{Table, Cached, no_puts, after_commit, row_size, table_size, is_within, is_cache}
use Rattle.pmg_scope.specs.Rows.{counted_at}
use Rattle.pmg_scope.proofs.SumLemmas.{sum_put, sum_of_nothing}

pub size_of_nothing : table_size finite.empty ≡ 0
size_of_nothing = sum_of_nothing length

pub nothing_is_within : is_within finite.empty ≡ true
nothing_is_within = λ i. nat_le (finite.len-empty (slice_cmp nat_cmp) (List ℕ) i) 65535 && nat_le (size_of_nothing i) 16000000

pub size_with_put : (m : Table) (k v : List ℕ) → table_size (finite.insert m k v) + counted_at m k ≡ table_size m + row_size (k, v)
size_with_put m k v = sum_put length m k v

pub nothing_is_cache : is_cache no_puts ≡ true
nothing_is_cache = λ i. nothing_is_within i && nothing_is_within i && nothing_is_within i

pub marked_is_cache : (c : Cached) → is_cache c ≡ true → is_cache (after_commit c) ≡ true
marked_is_cache c h = λ i. (and_parts (is_within c.own) (is_within c.near) (and_parts (is_within c.own && is_within c.near) (is_within c.far) h).0).0 i && nothing_is_within i && nothing_is_within i
