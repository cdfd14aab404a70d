-- Names and keys are printable.
use Rattle.std.proofs.Common.{ℕ, List, [], ◌∷◌, length, nat_lt, nat_le, ◌&&◌, IsTrue, arith}
use Rattle.std.specs.List.{list_all}
use Rattle.std.proofs.lemmas.Bool.{and_parts, and_from, le-leb, leb-true}
use Rattle.pmg_value.specs.Names.{is_graphic, is_printable, is_nspace, is_key}

graphic_are_printable : (bs : List ℕ) → IsTrue (list_all is_graphic bs) → IsTrue (list_all is_printable bs)
graphic_are_printable [] all = all
graphic_are_printable (b ∷ bs) all =
    let parts = and_parts (is_graphic b) (list_all is_graphic bs) all in
    let own = and_parts (nat_le 33 b) (nat_le b 126) parts.0 in
    let from = leb-true 33 b own.0 in
    and_from (is_printable b) (list_all is_printable bs) (and_from (nat_le 32 b) (nat_le b 126) (le-leb 32 b (omega (arith, from))) own.1)
    (graphic_are_printable bs parts.1)

pub name_is_printable : (name : List ℕ) → IsTrue (is_nspace name) → IsTrue (list_all is_printable name)
name_is_printable name is =
    graphic_are_printable name (and_parts (nat_lt 0 (length name) && nat_le (length name) 255) (list_all is_graphic name) is).1

pub key_is_printable : (key : List ℕ) → IsTrue (is_key key) → IsTrue (list_all is_printable key)
key_is_printable key is = (and_parts (nat_lt 0 (length key) && nat_le (length key) 511) (list_all is_printable key) is).1
