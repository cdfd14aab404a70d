-- A value's body in parts: its head; the bytes of a name, a string or a byte object; a rank; the items of an array.
use Rattle.std.specs.Prelude.{ℕ, Bool, ◌≡◌, ◌==◌, ◌||◌, List, ◌++◌, length, get_or, drop, IsTrue, if◌then◌else◌}
use Rattle.std.specs.Int.{w32, from_be_bytes}
use Rattle.std.specs.List.{list_all}
use Rattle.pmg_value.specs.declared.value.Value.{Value}
use Rattle.pmg_value.specs.Elements.{bodies}
use Rattle.pmg_value.specs.Spelling.{tag_of, are_plain, plains_of}

-- the body of these parts
abbrev pub in_parts : List ℕ → List ℕ → List ℕ → List Value → List ℕ
in_parts head middle end items = head ++ (middle ++ (end ++ bodies (plains_of items)))

-- the length of the head, by the tag
abbrev pub head_len : ℕ → ℕ
head_len tag =
    if tag == 6 || tag == 10 then 2
    else if tag == 4 || tag == 8 || tag == 12 then 8
    else if tag == 1 || tag == 2 || tag == 5 || tag == 9 || tag == 16 then 1
    else if tag == 19 then 5
    else 4

-- the length of the bytes after the head, by the tag and the head
abbrev pub middle_len : ℕ → List ℕ → ℕ
middle_len tag head =
    if tag == 3 || tag == 18 then from_be_bytes w32 head
    else if tag == 16 then get_or head 0 0
    else 0

-- the length of the bytes after these, by the tag
abbrev pub end_len : ℕ → ℕ
end_len tag = if tag == 16 then 4 else 0

-- the number of items, by the tag and the head
abbrev pub items_len : ℕ → List ℕ → ℕ
items_len tag head = if tag == 19 then from_be_bytes w32 (drop 1 head) else 0

-- each item is of the kind of that tag
abbrev pub have_tag : ℕ → List Value → Bool
have_tag tag items = list_all (λ v. tag_of v == tag) items

-- the items after a head: no arrays, of the kind in the head, and as many as it says
pub record AreItems (tag : ℕ) (head : List ℕ) (items : List Value) : Type 0 where
  pub plain : IsTrue (are_plain items)
  pub kind : IsTrue (have_tag (get_or head 0 0) items)
  pub count : length items ≡ items_len tag head

-- equally many items, all of one kind, and no arrays
pub record AreAlike (a b : List Value) : Type 0 where
  pub tag : ℕ
  pub plain_a : IsTrue (are_plain a)
  pub plain_b : IsTrue (are_plain b)
  pub kind_a : IsTrue (have_tag tag a)
  pub kind_b : IsTrue (have_tag tag b)
  pub count : length a ≡ length b
