-- The items of arrays, which are kept as values or as numbers.
use Rattle.std.specs.Prelude.{ℕ, ◌==◌, ◌||◌, ◌%◌, not, List, map, if◌then◌else◌}
use Rattle.std.specs.Int.{w8, w16, w32, w64, cast_signed}
use Rattle.pmg_value.specs.declared.value.Value.{Value}
use Rattle.pmg_value.specs.declared.value.Value.TheVariants as values
use Rattle.pmg_value.specs.declared.array.ItemList.{ItemList}
use Rattle.pmg_value.specs.declared.array.ItemList.TheVariants as lists
use Rattle.pmg_value.specs.declared.items.Item.{Item}
use Rattle.pmg_value.specs.declared.items.Item.TheVariants as item
use Rattle.pmg_value.specs.declared.items.Items.{Items}
use Rattle.pmg_value.specs.declared.items.Items.TheVariants as items

-- the number of bytes of a number of the kind of that tag; 0 if the kind is not a kind of numbers
abbrev pub number_width : ℕ → ℕ
number_width tag =
    if tag == 1 || tag == 2 || tag == 5 || tag == 9 then 1
    else if tag == 6 || tag == 10 then 2
    else if tag == 4 || tag == 8 || tag == 12 then 8
    else if tag == 7 || tag == 11 || tag == 13 || tag == 14 || tag == 15 || tag == 17 then 4
    else 0

-- the value of a number of the kind of that tag; if the number is too great, its last bytes count
abbrev pub number_value : ℕ → ℕ → Value
number_value tag n =
    if tag == 2 then values.Byte (n % 256)
    else if tag == 4 then values.Size (n % 18446744073709551616)
    else if tag == 5 then values.I8 (cast_signed w8 (n % 256))
    else if tag == 6 then values.I16 (cast_signed w16 (n % 65536))
    else if tag == 7 then values.I32 (cast_signed w32 (n % 4294967296))
    else if tag == 8 then values.I64 (cast_signed w64 (n % 18446744073709551616))
    else if tag == 9 then values.U8 (n % 256)
    else if tag == 10 then values.U16 (n % 65536)
    else if tag == 11 then values.U32 (n % 4294967296)
    else if tag == 12 then values.U64 (n % 18446744073709551616)
    else if tag == 13 then values.Int (cast_signed w32 (n % 4294967296))
    else if tag == 14 then values.Uint (n % 4294967296)
    else if tag == 15 then values.Rank (n % 4294967296)
    else if tag == 17 then values.Status (cast_signed w32 (n % 4294967296))
    else values.Bool (not (n == 0))

-- the items of a list, as values
abbrev pub listed_values : ℕ → ItemList → List Value
listed_values tag (lists.Values vs) = vs.items
listed_values tag (lists.Numbers ns) = map (number_value tag) ns.items

-- an item, as a value
abbrev pub item_value : Item → Value
item_value (item.Kept v) = v.now
item_value (item.Made v) = v

-- items, as values
abbrev pub items_in : Items → List Value
items_in (items.Values vs) = vs.now
items_in (items.Numbers tag ns) = map (number_value tag) ns.now
