-- The rules of strings and byte objects, as tests on bytes.
use Rattle.std.specs.Prelude.{ℕ, Bool, ◌&&◌, ◌==◌, nat_le, List, length, is_none}
use Rattle.std.specs.List.{position}
use Rattle.pmg_value.specs.declared.blobs.TheConstants.{MAX_BLOB_LEN}

-- the byte that a string cannot have
abbrev pub is_zero : ℕ → Bool
is_zero b = b == 0

-- bytes that fit into a value of 1,048,576 bytes, with their tag and their length
abbrev pub is_blob : List ℕ → Bool
is_blob bytes = nat_le (length bytes) MAX_BLOB_LEN

-- a string's bytes (PMIx Standard 5.0, PMIX_STRING): no zero, and not too long
abbrev pub is_text : List ℕ → Bool
is_text bytes = is_none (position is_zero bytes) && is_blob bytes
