-- Bytes in their storage.
use Rattle.std.specs.Prelude.{ℕ, List}
use Rattle.pmg_value.specs.declared.small_bytes.Place.{Place}
use Rattle.pmg_value.specs.declared.small_bytes.Place.TheVariants as places

-- the bytes, in place or shared
abbrev pub bytes_at : Place → List ℕ
bytes_at (places.Here bytes) = bytes
bytes_at (places.Shared shared) = shared.value.items
