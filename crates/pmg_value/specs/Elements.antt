-- Arrays: elements of one kind.
use Rattle.std.specs.Prelude.{ℕ, Bool, ◌&&◌, ◌==◌, nat_le, List, ◌∷◌, ◌++◌, ◌+◌, length, IsTrue}
use Rattle.std.specs.Int.{w32, to_be_bytes}
use Rattle.std.specs.List.{flat_map, list_all}
use Rattle.pmg_value.specs.Lists.{Each}
use Rattle.pmg_value.specs.Plain.{Plain, IsPlain, plain_tag, plain_body, is_plain_tag}
use Rattle.pmg_value.specs.declared.value.TheConstants.{MAX_VALUE_SIZE}

-- an array: the tag of its elements, and the elements (PMIx Standard 5.0, pmix_data_array_t)
pub record Elements : Type 0 where
  pub tag : ℕ
  pub plains : List Plain

-- the elements' bodies, one after another
abbrev pub bodies : List Plain → List ℕ
bodies plains = flat_map plain_body plains

-- an array's bytes after its tag: the tag of its elements, four bytes of their number, and their bodies
abbrev pub array_body : Elements → List ℕ
array_body a = a.tag ∷ (to_be_bytes w32 (length a.plains) ++ bodies a.plains)

-- each element is of that kind
abbrev pub are_of_kind : ℕ → List Plain → Bool
are_of_kind tag plains = list_all (λ p. plain_tag p == tag) plains

-- the array's tag is a tag of elements, each element is of that kind, and the value is at most as long as a value may be
abbrev pub is_array : Elements → Bool
is_array a = is_plain_tag a.tag && are_of_kind a.tag a.plains && nat_le (1 + length (array_body a)) MAX_VALUE_SIZE

-- an array that a value may be
pub record IsArray (a : Elements) : Type 0 where
  pub is : IsTrue (is_array a)
  pub each : Each IsPlain a.plains
