-- The text of a server's content.
use Rattle.std.specs.Prelude.{ℕ, nat_lt, List, [], ◌∷◌, ◌++◌, codes, decimal, Option, Some, None, Ok, Err, if◌then◌else◌}
use Rattle.std.specs.List.{flat_map}
use Rattle.std.specs.Ordering.{nat_cmp}
use Rattle.std.specs.Cmp.Lexicographic.{slice_cmp}
use Rattle.std.specs.FinMap as finite
use Rattle.std.specs.FinSet as set
use Rattle.pmg_value.specs.declared.process.Proc.{Proc}
use Rattle.pmg_value.specs.declared.value.Value.{Value}
use Rattle.pmg_value.specs.Text.{text_of}
use Rattle.pmg_wire.specs.Reading.{Read}
use Rattle.pmg_wire.specs.Fields.{read_value}
use Rattle.pmg_commit.specs.Entries.{Entry}
use Rattle.pmg_commit.specs.Levels.{level}
use Rattle.pmg_commit.specs.Knowledge.{Knowledge, read}
use Rattle.pmg_commit.specs.Data.{Data, known}

-- the text of a value that was read
abbrev pub text_read : Read Value → List ℕ
text_read (Ok v) = text_of v.0
text_read (Err f) = []

-- the text of the value that these canonical bytes spell
unfoldable pub value_text : List ℕ → List ℕ
value_text bytes = text_read (read_value (record { offset = 0; rest = bytes }))

-- a key's line: its value's text, and the key
abbrev pub key_line : List ℕ × List ℕ → List ℕ
key_line (key, bytes) = codes "  " ++ (value_text bytes ++ (codes " " ++ (key ++ codes "\n")))

-- a process's line: its name and its level
abbrev pub proc_line : Proc → ℕ → List ℕ
proc_line p n = codes "proc " ++ (p.nspace ++ (codes " " ++ (decimal p.rank ++ (codes " level " ++ (decimal n ++ codes "\n")))))

-- a key with its read value, if there is one, before the others
abbrev pub with_reading : Option (List ℕ) → List ℕ → List (List ℕ × List ℕ) → List (List ℕ × List ℕ)
with_reading None key others = others
with_reading (Some bytes) key others = (key, bytes) ∷ others

-- the keys of the entries with their read values
abbrev pub readings : Knowledge → List Entry → List (List ℕ × List ℕ)
readings k [] = []
readings k (e ∷ es) = with_reading (read k e.key) e.key (readings k es)

-- The read value of each key, as canonical bytes.
unfoldable pub reads_of : Knowledge → finite.FinMap (slice_cmp nat_cmp) (List ℕ)
reads_of k = finite.from_entries (readings k (set.items k.entries))

-- A process's lines: its own line, and the line of each key with a value, in the order of the keys' bytes. A process of level 0 has no
-- lines.
unfoldable pub known_text : Proc → Knowledge → List ℕ
known_text p k =
    if nat_lt 0 (level k.numbers) then proc_line p (level k.numbers) ++ flat_map key_line (finite.entries (reads_of k)) else []

-- The dump: the lines of each process, in the processes' order.
unfoldable pub dump : Data → List ℕ
dump d = flat_map (λ p. known_text p (known d p)) (finite.keys d)
