-- The rules of names and keys, as tests on bytes.
use Rattle.std.specs.Prelude.{ℕ, Bool, ◌&&◌, nat_eq, nat_lt, nat_le, List, length, codes}
use Rattle.std.specs.List.{list_all, starts_with}
use Rattle.pmg_value.specs.declared.names.TheConstants.{MAX_KEY_LEN, MAX_NSPACE_LEN}

-- a graphic byte: 0x21 to 0x7E
abbrev pub is_graphic : ℕ → Bool
is_graphic b = nat_le 33 b && nat_le b 126

-- a graphic byte or a blank
abbrev pub is_printable : ℕ → Bool
is_printable b = nat_le 32 b && nat_le b 126

-- A name of a namespace is 1 to 255 graphic bytes (PMIx Standard 5.0, data types: pmix_nspace_t; the alphabet is this project's).
abbrev pub is_nspace : List ℕ → Bool
is_nspace name = nat_lt 0 (length name) && nat_le (length name) MAX_NSPACE_LEN && list_all is_graphic name

-- A key is 1 to 511 graphic bytes or blanks (PMIx Standard 5.0, data types: pmix_key_t; the alphabet is this project's).
abbrev pub is_key : List ℕ → Bool
is_key key = nat_lt 0 (length key) && nat_le (length key) MAX_KEY_LEN && list_all is_printable key

-- Names and keys that begin with `pmix` are reserved for the standard.
abbrev pub is_reserved : List ℕ → Bool
is_reserved name = starts_with nat_eq name (codes "pmix")
