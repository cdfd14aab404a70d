-- The encodings of keys and processes; each has one.
use Rattle.std.specs.Prelude.{ℕ, List, ◌∷◌, ◌++◌, length}
use Rattle.std.specs.Int.{w16, w32, to_be_bytes}
use Rattle.pmg_value.specs.declared.process.Proc.{Proc}

-- two bytes of length, and the key
abbrev pub key_spelling : List ℕ → List ℕ
key_spelling key = to_be_bytes w16 (length key) ++ key

-- one byte of length, the namespace, and four bytes of rank
abbrev pub proc_spelling : Proc → List ℕ
proc_spelling p = (length p.nspace ∷ p.nspace) ++ to_be_bytes w32 p.rank

-- the part before the items of a body in parts
abbrev pub front_of : List ℕ → List ℕ → List ℕ → List ℕ
front_of head middle end = head ++ (middle ++ end)
